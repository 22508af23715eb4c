-- What each token does. At most `most` constructs may be open. Automatic ends are put in, or (`auto` is false) they stand among
-- the tokens, each an `End`.
use Rattle.std.specs.Prelude.{ℕ, Bool, false, cond, nat_le, [], Ok, Err}
use Rattle.js_lex.specs.declared.token.Token.{Token}
use Rattle.js_parse_core.specs.declared.machine.At.{At}
use Rattle.js_parse_core.specs.declared.machine.At.TheVariants as at
use Rattle.js_parse_core.specs.declared.machine.Callee.{Callee}
use Rattle.js_parse_core.specs.declared.machine.Callee.TheVariants as callee
use Rattle.js_parse_core.specs.declared.machine.Outer.{Outer}
use Rattle.js_parse_core.specs.declared.machine.Refusal.TheVariants as refusal
use Rattle.js_parse_core.specs.declared.machine.State.{State}
use Rattle.js_parse_core.specs.Begin.{begin}
use Rattle.js_parse_core.specs.Expressions.{after_operand, after_async, on_cover_open, on_cover_name, on_covered, on_arrow, on_arrow_body, on_new, on_new_open, on_member, on_argument, on_element}
use Rattle.js_parse_core.specs.Objects.{on_key, on_name_key, on_other_key, on_async_key, on_async_method, on_property_end, on_function_name, on_parameters_open, on_parameters, on_parameter_read, on_body_open, head_constructs}
use Rattle.js_parse_core.specs.Outer.{Step, refuse, plus, constructs}
use Rattle.js_parse_core.specs.Statements.{on_statement, on_declared_name, on_name_declared, on_opening, on_for_head, on_for_test, on_for_update, after_then, on_jump, on_return, on_throw, on_try, after_try, on_catch, on_catch_name, on_catch_close, on_catch_body, after_catch, on_finally, on_export_word, on_export_object, after_export}
use Rattle.js_parse_core.specs.Values.{after_value, after_whole}

-- a token between the parts of a `try` (ECMA-262, section 14.15); at a place not named so far it is refused
abbrev pub step_in_try : Outer → At → Token → Step
step_in_try o at.TryOpen t = on_try o t.kind
step_in_try o (at.AfterTry ss) t = after_try o ss t.kind
step_in_try o (at.CatchOpen ss) t = on_catch o ss t.kind
step_in_try o (at.CatchName ss) t = on_catch_name o ss t.place t.kind
step_in_try o (at.CatchClose ss n) t = on_catch_close o ss n t.kind
step_in_try o (at.CatchBody ss n) t = on_catch_body o ss n t.kind
step_in_try o (at.AfterCatch ss c) t = after_catch o ss c t
step_in_try o (at.FinallyOpen ss c) t = on_finally o ss c t.kind
step_in_try o a t = refuse

-- a token behind an `if`'s first body, a jump's word or `export`; at other places as `step_in_try`
abbrev pub step_in_statement : Bool → Outer → At → Token → Step
step_in_statement auto o (at.AfterThen test s) t = after_then o test s t
step_in_statement auto o (at.Jump s) t = on_jump auto o s t
step_in_statement auto o (at.Return q) t = on_return auto o q t
step_in_statement auto o at.Throw t = on_throw o t
step_in_statement auto o at.ExportDefault t = on_export_word o t.kind
step_in_statement auto o at.ExportObject t = on_export_object o t.kind
step_in_statement auto o at.AfterExport t = after_export o t
step_in_statement auto o a t = step_in_try o a t

-- a token within declarations or the head of a statement; at other places as `step_in_statement`
abbrev pub step_in_head : Bool → Outer → At → Token → Step
step_in_head auto o (at.DeclaredName d) t = on_declared_name o d t.place t.kind
step_in_head auto o (at.NameDeclared d n) t = on_name_declared auto o d n t
step_in_head auto o (at.Opening x) t = on_opening o x t.kind
step_in_head auto o at.ForHead t = on_for_head o t
step_in_head auto o (at.ForTest b) t = on_for_test o b t
step_in_head auto o (at.ForUpdate b test) t = on_for_update o b test t
step_in_head auto o a t = step_in_statement auto o a t

-- a token within the head of a function; at other places as `step_in_head`
abbrev pub step_in_function : Bool → Outer → At → Token → Step
step_in_function auto o (at.FunctionName d a) t = on_function_name o d a t.place t.kind
step_in_function auto o (at.ParametersOpen h) t = on_parameters_open o h t.kind
step_in_function auto o (at.Parameters h ns) t = on_parameters o h ns t.place t.kind
step_in_function auto o (at.ParameterRead h ns n) t = on_parameter_read o h ns n t.kind
step_in_function auto o (at.BodyOpen h ns) t = on_body_open o h ns t.kind
step_in_function auto o a t = step_in_head auto o a t

-- a token within an object; at other places as `step_in_function`
abbrev pub step_in_object : Bool → Outer → At → Token → Step
step_in_object auto o (at.Key xs) t = on_key o xs t.place t.kind
step_in_object auto o (at.NameKey xs n) t = on_name_key o xs n t.kind
step_in_object auto o (at.OtherKey xs k) t = on_other_key o xs k t.kind
step_in_object auto o (at.AsyncKey xs n) t = on_async_key o xs n t
step_in_object auto o (at.AsyncMethod xs k) t = on_async_method o xs k t.kind
step_in_object auto o (at.PropertyEnd xs) t = on_property_end o xs t.kind
step_in_object auto o a t = step_in_function auto o a t

-- a token behind `async` or `new`, within an arrow's parameters or before its body; else as `step_in_object`
abbrev pub step_in_arrow : ℕ → Bool → Outer → At → Token → Step
step_in_arrow most auto o (at.Async n) t = after_async auto o n t
step_in_arrow most auto o (at.CoverOpen c ns) t = on_cover_open o c ns t
step_in_arrow most auto o (at.CoverName c ns n) t = on_cover_name auto o c ns n t
step_in_arrow most auto o (at.Covered c ns b) t = on_covered auto o c ns b t
step_in_arrow most auto o (at.Arrow a ns) t = on_arrow o a ns t
step_in_arrow most auto o (at.ArrowBody a ns) t = on_arrow_body most o a ns t
step_in_arrow most auto o at.NewName t = on_new o t.place t.kind
step_in_arrow most auto o (at.NewOpen n) t = on_new_open o n t.kind
step_in_arrow most auto o a t = step_in_object auto o a t

-- what a token does at a place, while it is not asked how many constructs it opens
abbrev pub step_in : ℕ → Bool → Outer → At → Token → Step
step_in most auto o at.Statement t = on_statement o t
step_in most auto o at.Begin t = begin o t
step_in most auto o (at.Operand x n) t = after_operand auto o x n t
step_in most auto o (at.Updated x) t = after_value auto o x t
step_in most auto o (at.Whole x) t = after_whole auto o x t
step_in most auto o (at.MemberName x n) t = on_member o x n t
step_in most auto o (at.NextArgument c xs) t = on_argument o c xs t
step_in most auto o (at.NextElement xs) t = on_element o xs t
step_in most auto o a t = step_in_arrow most auto o a t

-- the constructs that arguments stand in: the calls and accesses before them, and their own
abbrev pub callee_constructs : Callee → ℕ
callee_constructs (callee.Value x n) = plus n 1
callee_constructs (callee.New n) = 1

-- how many constructs are open behind what was read, beside those of the innermost frame
abbrev pub more_constructs : At → ℕ
more_constructs (at.Operand x n) = n
more_constructs (at.MemberName x n) = plus n 1
more_constructs (at.NextArgument c xs) = callee_constructs c
more_constructs (at.Parameters h ns) = head_constructs h
more_constructs (at.ParameterRead h ns n) = head_constructs h
more_constructs (at.CoverOpen c ns) = 1
more_constructs (at.CoverName c ns n) = 1
more_constructs (at.NextElement xs) = 1
more_constructs (at.Key xs) = 1
more_constructs (at.NameKey xs n) = 1
more_constructs (at.OtherKey xs k) = 1
more_constructs (at.AsyncKey xs n) = 1
more_constructs (at.AsyncMethod xs k) = 1
more_constructs (at.PropertyEnd xs) = 1
more_constructs at.ForHead = 1
more_constructs (at.ForTest b) = 1
more_constructs (at.ForUpdate b test) = 1
more_constructs (at.CatchName ss) = 1
more_constructs (at.CatchClose ss n) = 1
more_constructs _ = 0

-- the state has no more than `most` constructs open
abbrev pub is_shallow : ℕ → State → Bool
is_shallow most s = nat_le (plus (constructs s.outer) (more_constructs s.at)) most

-- a step is refused for its nesting where it leaves more than `most` constructs open
abbrev pub if_shallow : ℕ → Step → Step
if_shallow most (Ok n) = cond (is_shallow most n) (Ok n) (Err refusal.Nesting)
if_shallow most (Err k) = Err k

-- what a token does in a state, where at most `most` constructs may be open
abbrev pub step : ℕ → Bool → State → Token → Step
step most auto s t = if_shallow most (step_in most auto s.outer s.at t)

-- before the first token: no items, nothing open, and a statement may begin
abbrev pub start : State
start = record { outer = record { items = []; exported = false; frames = [] }; at = at.Statement }
