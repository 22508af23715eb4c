-- No step is refused for what is open, where it leads to no more.
use Rattle.std.proofs.Common.{◌≡◌, ℕ, Bool, false, nat_le, List, sym, subst}
use Rattle.js_lex.specs.declared.token.Token.{Token}
use Rattle.js_tree.specs.declared.tree.Name.{Name}
use Rattle.js_parse_core.specs.declared.machine.At.{At}
use Rattle.js_parse_core.specs.declared.machine.At.TheVariants as at
use Rattle.js_parse_core.specs.declared.machine.Block.TheVariants as block
use Rattle.js_parse_core.specs.declared.machine.Frame.TheVariants as frame
use Rattle.js_parse_core.specs.declared.machine.Outer.{Outer}
use Rattle.js_parse_core.specs.declared.machine.Tail.TheVariants as tail
use Rattle.js_parse_core.specs.Begin.{begin}
use Rattle.js_parse_core.specs.Expressions.{arrow_value, on_arrow_body}
use Rattle.js_parse_core.specs.Outer.{Step, push, open_block, constructs}
use Rattle.js_parse_core.specs.Tokens.{is_open_brace}
use Rattle.js_parse_core.specs.Machine.{step_in_try, step_in_statement, step_in_head, step_in_function, step_in_object, step_in_arrow, step_in}
use Rattle.js_parse_core.proofs.Told.{Told, told_cond}
use Rattle.js_parse_core.proofs.ToldBegin.{told_begin}
use Rattle.js_parse_core.proofs.ToldStatements.{told_after_catch, told_after_export, told_after_then, told_after_try, told_on_catch, told_on_catch_body, told_on_catch_close, told_on_catch_name, told_on_declared_name, told_on_export_object, told_on_export_word, told_on_finally, told_on_for_head, told_on_for_test, told_on_for_update, told_on_jump, told_on_name_declared, told_on_opening, told_on_return, told_on_statement, told_on_throw, told_on_try}
use Rattle.js_parse_core.proofs.ToldObjects.{told_on_async_key, told_on_async_method, told_on_body_open, told_on_function_name, told_on_key, told_on_name_key, told_on_other_key, told_on_parameter_read, told_on_parameters, told_on_parameters_open, told_on_property_end}
use Rattle.js_parse_core.proofs.ToldValues.{told_after_value, told_after_whole}
use Rattle.js_parse_core.proofs.ToldExpressions.{told_after_async, told_after_operand, told_on_argument, told_on_arrow, told_on_cover_name, told_on_cover_open, told_on_covered, told_on_element, told_on_member, told_on_new, told_on_new_open}

told_on_arrow_body : (most : ℕ) (o : Outer) (a : Bool) (ns : List Name) (t : Token) → nat_le most (constructs o) ≡ false → Told (on_arrow_body most o a ns t)
told_on_arrow_body most o a ns t low =
    let made : Step = begin (push o 1 (frame.Tail (tail.Arrow a ns))) t in
    told_cond (is_open_brace t.kind) (open_block o 1 (block.Arrow a ns)) (arrow_value (nat_le most (constructs o)) made) tt
    (subst (λ (b : Bool). Told (arrow_value b made)) (sym low) (told_begin (push o 1 (frame.Tail (tail.Arrow a ns))) t))

told_step_in_try : (o : Outer) (a : At) (t : Token) → Told (step_in_try o a t)
told_step_in_try o at.TryOpen t = told_on_try o t.kind
told_step_in_try o (at.AfterTry ss) t = told_after_try o ss t.kind
told_step_in_try o (at.CatchOpen ss) t = told_on_catch o ss t.kind
told_step_in_try o (at.CatchName ss) t = told_on_catch_name o ss t.place t.kind
told_step_in_try o (at.CatchClose ss n) t = told_on_catch_close o ss n t.kind
told_step_in_try o (at.CatchBody ss n) t = told_on_catch_body o ss n t.kind
told_step_in_try o (at.AfterCatch ss c) t = told_after_catch o ss c t
told_step_in_try o (at.FinallyOpen ss c) t = told_on_finally o ss c t.kind
told_step_in_try o a t = tt

told_step_in_statement : (auto : Bool) (o : Outer) (a : At) (t : Token) → Told (step_in_statement auto o a t)
told_step_in_statement auto o (at.AfterThen test s) t = told_after_then o test s t
told_step_in_statement auto o (at.Jump s) t = told_on_jump auto o s t
told_step_in_statement auto o (at.Return q) t = told_on_return auto o q t
told_step_in_statement auto o at.Throw t = told_on_throw o t
told_step_in_statement auto o at.ExportDefault t = told_on_export_word o t.kind
told_step_in_statement auto o at.ExportObject t = told_on_export_object o t.kind
told_step_in_statement auto o at.AfterExport t = told_after_export o t
told_step_in_statement auto o a t = told_step_in_try o a t

told_step_in_head : (auto : Bool) (o : Outer) (a : At) (t : Token) → Told (step_in_head auto o a t)
told_step_in_head auto o (at.DeclaredName d) t = told_on_declared_name o d t.place t.kind
told_step_in_head auto o (at.NameDeclared d n) t = told_on_name_declared auto o d n t
told_step_in_head auto o (at.Opening x) t = told_on_opening o x t.kind
told_step_in_head auto o at.ForHead t = told_on_for_head o t
told_step_in_head auto o (at.ForTest b) t = told_on_for_test o b t
told_step_in_head auto o (at.ForUpdate b test) t = told_on_for_update o b test t
told_step_in_head auto o a t = told_step_in_statement auto o a t

told_step_in_function : (auto : Bool) (o : Outer) (a : At) (t : Token) → Told (step_in_function auto o a t)
told_step_in_function auto o (at.FunctionName d a) t = told_on_function_name o d a t.place t.kind
told_step_in_function auto o (at.ParametersOpen h) t = told_on_parameters_open o h t.kind
told_step_in_function auto o (at.Parameters h ns) t = told_on_parameters o h ns t.place t.kind
told_step_in_function auto o (at.ParameterRead h ns n) t = told_on_parameter_read o h ns n t.kind
told_step_in_function auto o (at.BodyOpen h ns) t = told_on_body_open o h ns t.kind
told_step_in_function auto o a t = told_step_in_head auto o a t

told_step_in_object : (auto : Bool) (o : Outer) (a : At) (t : Token) → Told (step_in_object auto o a t)
told_step_in_object auto o (at.Key xs) t = told_on_key o xs t.place t.kind
told_step_in_object auto o (at.NameKey xs n) t = told_on_name_key o xs n t.kind
told_step_in_object auto o (at.OtherKey xs k) t = told_on_other_key o xs k t.kind
told_step_in_object auto o (at.AsyncKey xs n) t = told_on_async_key o xs n t
told_step_in_object auto o (at.AsyncMethod xs k) t = told_on_async_method o xs k t.kind
told_step_in_object auto o (at.PropertyEnd xs) t = told_on_property_end o xs t.kind
told_step_in_object auto o a t = told_step_in_function auto o a t

told_step_in_arrow : (most : ℕ) (auto : Bool) (o : Outer) (a : At) (t : Token) → nat_le most (constructs o) ≡ false → Told (step_in_arrow most auto o a t)
told_step_in_arrow most auto o (at.Async n) t low = told_after_async auto o n t
told_step_in_arrow most auto o (at.CoverOpen c ns) t low = told_on_cover_open o c ns t
told_step_in_arrow most auto o (at.CoverName c ns n) t low = told_on_cover_name auto o c ns n t
told_step_in_arrow most auto o (at.Covered c ns b) t low = told_on_covered auto o c ns b t
told_step_in_arrow most auto o (at.Arrow a ns) t low = told_on_arrow o a ns t
told_step_in_arrow most auto o (at.ArrowBody a ns) t low = told_on_arrow_body most o a ns t low
told_step_in_arrow most auto o at.NewName t low = told_on_new o t.place t.kind
told_step_in_arrow most auto o (at.NewOpen n) t low = told_on_new_open o n t.kind
told_step_in_arrow most auto o a t low = told_step_in_object auto o a t

pub told_step_in : (most : ℕ) (auto : Bool) (o : Outer) (a : At) (t : Token) → nat_le most (constructs o) ≡ false → Told (step_in most auto o a t)
told_step_in most auto o at.Statement t low = told_on_statement o t
told_step_in most auto o at.Begin t low = told_begin o t
told_step_in most auto o (at.Operand x n) t low = told_after_operand auto o x n t
told_step_in most auto o (at.Updated x) t low = told_after_value auto o x t
told_step_in most auto o (at.Whole x) t low = told_after_whole auto o x t
told_step_in most auto o (at.MemberName x n) t low = told_on_member o x n t
told_step_in most auto o (at.NextArgument c xs) t low = told_on_argument o c xs t
told_step_in most auto o (at.NextElement xs) t low = told_on_element o xs t
told_step_in most auto o a t low = told_step_in_arrow most auto o a t low
