-- Where a token leads, and when something is asked of the token before.
use Rattle.std.proofs.Common.{◌≡◌, ℕ, Bool, true, false, cond, List, ◌⊎◌, Option, Some, None, Ok, Err, refl, ap, inl, inr}
use Rattle.std.specs.Prelude.{nat_le, ◌&&◌}
use Rattle.js_lex.specs.declared.token.Token.{Token}
use Rattle.js_tree.specs.declared.tree.Expr.{Expr}
use Rattle.js_tree.specs.declared.tree.Expr.TheVariants as expr
use Rattle.js_tree.specs.declared.tree.Name.{Name}
use Rattle.js_words.specs.declared.word.Spot.{Spot}
use Rattle.js_parse_core.specs.declared.machine.At.{At}
use Rattle.js_parse_core.specs.declared.machine.At.TheVariants as at
use Rattle.js_parse_core.specs.declared.machine.Block.TheVariants as block
use Rattle.js_parse_core.specs.declared.machine.Frame.TheVariants as frame
use Rattle.js_parse_core.specs.declared.machine.Outer.{Outer}
use Rattle.js_parse_core.specs.declared.machine.State.{State}
use Rattle.js_parse_core.specs.declared.machine.Tail.TheVariants as tail
use Rattle.js_lex.specs.declared.token.TokenKind.{TokenKind}
use Rattle.js_parse_core.specs.Begin.{begin}
use Rattle.js_parse_core.specs.Expressions.{arrow_value, on_arrow_body}
use Rattle.js_parse_core.specs.Machine.{step_in_try, step_in_statement, step_in_head, step_in_function, step_in_object, step_in_arrow, step_in, start}
use Rattle.js_parse_core.specs.Outer.{Step, push, open_block, constructs, begins_statement}
use Rattle.js_parse_core.specs.Tokens.{is_open_brace}
use Rattle.js_parse_core.proofs.Came.{Loud, Quiet, Label, KeyAsked, Throws, label_of, Landed, Lands, Silent, came_cond}
use Rattle.js_parse_core.proofs.CameBegin.{came_begin}
use Rattle.js_parse_core.proofs.CameStatements.{came_after_catch, came_after_export, came_after_then, came_after_try, came_on_catch, came_on_catch_body, came_on_catch_close, came_on_catch_name, came_on_declared_name, came_on_export_object, came_on_export_word, came_on_finally, came_on_for_head, came_on_for_test, came_on_for_update, came_on_jump, came_on_name_declared, came_on_opening, came_on_return, came_on_statement, came_on_throw, came_on_try}
use Rattle.js_parse_core.proofs.CameObjects.{came_on_async_key, came_on_async_method, came_on_body_open, came_on_function_name, came_on_key, came_on_name_key, came_on_other_key, came_on_parameter_read, came_on_parameters, came_on_parameters_open, came_on_property_end}
use Rattle.js_parse_core.proofs.CameValues.{came_after_value, came_after_whole}
use Rattle.js_parse_core.proofs.CameExpressions.{came_after_async, came_after_operand, came_on_argument, came_on_arrow, came_on_cover_name, came_on_cover_open, came_on_covered, came_on_element, came_on_member, came_on_new, came_on_new_open}

abbrev pub is_key : At → Bool
is_key (at.Key xs) = true
is_key _ = false

abbrev pub is_some : Option Spot → Bool
is_some (Some s) = true
is_some None = false

-- something may be asked of the token before: it is a key, or a statement's first name
abbrev pub loud_at : Outer → At → Loud
loud_at o (at.NameKey xs n) = KeyAsked
loud_at o (at.OtherKey xs k) = KeyAsked
loud_at o (at.AsyncKey xs n) = KeyAsked
loud_at o (at.Operand x n) = cond (begins_statement o && is_some (label_of x)) Label Quiet
loud_at o (at.Async n) = cond (begins_statement o) Label Quiet
loud_at o at.Throw = Throws
loud_at o _ = Quiet

abbrev pub loud : State → Loud
loud s = loud_at s.outer s.at

-- what a state that is reached keeps
abbrev pub KeptAt : Outer → At → Type 0
KeptAt o (at.Whole x) = label_of x ≡ None
KeptAt o (at.Updated x) = label_of x ≡ None
KeptAt o at.Begin = begins_statement o ≡ false
KeptAt o _ = Unit {0}

abbrev pub Kept : State → Type 0
Kept s = KeptAt s.outer s.at

abbrev Ready : Loud → Outer → At → Type 0
Ready loud o (at.Operand x n) = Silent loud o.frames x
Ready loud o (at.Updated x) = label_of x ≡ None
Ready loud o (at.Whole x) = label_of x ≡ None
Ready loud o (at.Async n) = Silent loud o.frames (expr.Name n)
Ready loud o (at.NameKey xs n) = loud ≡ KeyAsked
Ready loud o (at.OtherKey xs k) = loud ≡ KeyAsked
Ready loud o (at.AsyncKey xs n) = loud ≡ KeyAsked
Ready loud o at.Throw = loud ≡ Throws
Ready loud o _ = Unit {0}

came_arrow_value : (keys : Bool) (loud : Loud) (k : TokenKind) (b : Bool) (made : Step) → Lands keys loud k made → Lands keys loud k (arrow_value b made)
came_arrow_value keys loud k true (Ok n) h = tt
came_arrow_value keys loud k true (Err e) h = h
came_arrow_value keys loud k false made h = h

came_on_arrow_body : (loud : Loud) (most : ℕ) (o : Outer) (a : Bool) (ns : List Name) (t : Token) → Lands false loud t.kind (on_arrow_body most o a ns t)
came_on_arrow_body loud most o a ns t =
    let made : Step = begin (push o 1 (frame.Tail (tail.Arrow a ns))) t in
    came_cond false loud t.kind (is_open_brace t.kind) (open_block o 1 (block.Arrow a ns)) (arrow_value (nat_le most (constructs o)) made) tt
    (came_arrow_value false loud t.kind (nat_le most (constructs o)) made (came_begin false loud (push o 1 (frame.Tail (tail.Arrow a ns))) t))

came_step_in_try : (loud : Loud) (o : Outer) (a : At) (t : Token) → Ready loud o a → Lands (is_key a) loud t.kind (step_in_try o a t)
came_step_in_try loud o at.TryOpen t hyp = came_on_try false loud t.kind o t.kind
came_step_in_try loud o (at.AfterTry ss) t hyp = came_after_try false loud t.kind o ss t.kind
came_step_in_try loud o (at.CatchOpen ss) t hyp = came_on_catch false loud t.kind o ss t.kind
came_step_in_try loud o (at.CatchName ss) t hyp = came_on_catch_name false loud t.kind o ss t.place t.kind
came_step_in_try loud o (at.CatchClose ss n) t hyp = came_on_catch_close false loud t.kind o ss n t.kind
came_step_in_try loud o (at.CatchBody ss n) t hyp = came_on_catch_body false loud t.kind o ss n t.kind
came_step_in_try loud o (at.AfterCatch ss c) t hyp = came_after_catch false loud o ss c t
came_step_in_try loud o (at.FinallyOpen ss c) t hyp = came_on_finally false loud t.kind o ss c t.kind
came_step_in_try loud o a t hyp = (tt, tt)

came_step_in_statement : (loud : Loud) (auto : Bool) (o : Outer) (a : At) (t : Token) → Ready loud o a → Lands (is_key a) loud t.kind (step_in_statement auto o a t)
came_step_in_statement loud auto o (at.AfterThen test s) t hyp = came_after_then false loud o test s t
came_step_in_statement loud auto o (at.Jump s) t hyp = came_on_jump false loud auto o s t
came_step_in_statement loud auto o (at.Return q) t hyp = came_on_return false loud auto o q t
came_step_in_statement loud auto o at.Throw t hyp = came_on_throw false loud o t hyp
came_step_in_statement loud auto o at.ExportDefault t hyp = came_on_export_word false loud t.kind o t.kind
came_step_in_statement loud auto o at.ExportObject t hyp = came_on_export_object false loud t.kind o t.kind
came_step_in_statement loud auto o at.AfterExport t hyp = came_after_export false loud o t
came_step_in_statement loud auto o a t hyp = came_step_in_try loud o a t hyp

came_step_in_head : (loud : Loud) (auto : Bool) (o : Outer) (a : At) (t : Token) → Ready loud o a → Lands (is_key a) loud t.kind (step_in_head auto o a t)
came_step_in_head loud auto o (at.DeclaredName d) t hyp = came_on_declared_name false loud t.kind o d t.place t.kind
came_step_in_head loud auto o (at.NameDeclared d n) t hyp = came_on_name_declared false loud auto o d n t
came_step_in_head loud auto o (at.Opening x) t hyp = came_on_opening false loud t.kind o x t.kind
came_step_in_head loud auto o at.ForHead t hyp = came_on_for_head false loud o t
came_step_in_head loud auto o (at.ForTest b) t hyp = came_on_for_test false loud o b t
came_step_in_head loud auto o (at.ForUpdate b test) t hyp = came_on_for_update false loud o b test t
came_step_in_head loud auto o a t hyp = came_step_in_statement loud auto o a t hyp

came_step_in_function : (loud : Loud) (auto : Bool) (o : Outer) (a : At) (t : Token) → Ready loud o a → Lands (is_key a) loud t.kind (step_in_function auto o a t)
came_step_in_function loud auto o (at.FunctionName d a) t hyp = came_on_function_name false loud t.kind o d a t.place t.kind
came_step_in_function loud auto o (at.ParametersOpen h) t hyp = came_on_parameters_open false loud t.kind o h t.kind
came_step_in_function loud auto o (at.Parameters h ns) t hyp = came_on_parameters false loud t.kind o h ns t.place t.kind
came_step_in_function loud auto o (at.ParameterRead h ns n) t hyp = came_on_parameter_read false loud t.kind o h ns n t.kind
came_step_in_function loud auto o (at.BodyOpen h ns) t hyp = came_on_body_open false loud t.kind o h ns t.kind
came_step_in_function loud auto o a t hyp = came_step_in_head loud auto o a t hyp

came_step_in_object : (loud : Loud) (auto : Bool) (o : Outer) (a : At) (t : Token) → Ready loud o a → Lands (is_key a) loud t.kind (step_in_object auto o a t)
came_step_in_object loud auto o (at.Key xs) t hyp = came_on_key true loud t.kind o xs t.place t.kind refl
came_step_in_object loud auto o (at.NameKey xs n) t hyp = came_on_name_key false loud t.kind o xs n t.kind hyp
came_step_in_object loud auto o (at.OtherKey xs k) t hyp = came_on_other_key false loud t.kind o xs k t.kind hyp
came_step_in_object loud auto o (at.AsyncKey xs n) t hyp = came_on_async_key false loud o xs n t hyp
came_step_in_object loud auto o (at.AsyncMethod xs k) t hyp = came_on_async_method false loud t.kind o xs k t.kind
came_step_in_object loud auto o (at.PropertyEnd xs) t hyp = came_on_property_end false loud t.kind o xs t.kind
came_step_in_object loud auto o a t hyp = came_step_in_function loud auto o a t hyp

came_step_in_arrow : (loud : Loud) (most : ℕ) (auto : Bool) (o : Outer) (a : At) (t : Token) → Ready loud o a → Lands (is_key a) loud t.kind (step_in_arrow most auto o a t)
came_step_in_arrow loud most auto o (at.Async n) t hyp = came_after_async false loud auto o n t hyp
came_step_in_arrow loud most auto o (at.CoverOpen c ns) t hyp = came_on_cover_open false loud o c ns t
came_step_in_arrow loud most auto o (at.CoverName c ns n) t hyp = came_on_cover_name false loud auto o c ns n t
came_step_in_arrow loud most auto o (at.Covered c ns b) t hyp = came_on_covered false loud auto o c ns b t
came_step_in_arrow loud most auto o (at.Arrow a ns) t hyp = came_on_arrow false loud o a ns t
came_step_in_arrow loud most auto o (at.ArrowBody a ns) t hyp = came_on_arrow_body loud most o a ns t
came_step_in_arrow loud most auto o at.NewName t hyp = came_on_new false loud t.kind o t.place t.kind
came_step_in_arrow loud most auto o (at.NewOpen n) t hyp = came_on_new_open false loud t.kind o n t.kind
came_step_in_arrow loud most auto o a t hyp = came_step_in_object loud auto o a t hyp

pub came_step_in : (loud : Loud) (most : ℕ) (auto : Bool) (o : Outer) (a : At) (t : Token) → Ready loud o a → Lands (is_key a) loud t.kind (step_in most auto o a t)
came_step_in loud most auto o at.Statement t hyp = came_on_statement false loud o t
came_step_in loud most auto o at.Begin t hyp = came_begin false loud o t
came_step_in loud most auto o (at.Operand x n) t hyp = came_after_operand false loud auto o x n t hyp
came_step_in loud most auto o (at.Updated x) t hyp = came_after_value false loud auto o x t (λ e. inl hyp)
came_step_in loud most auto o (at.Whole x) t hyp = came_after_whole false loud auto o x t (λ e. inl hyp)
came_step_in loud most auto o (at.MemberName x n) t hyp = came_on_member false loud o x n t
came_step_in loud most auto o (at.NextArgument c xs) t hyp = came_on_argument false loud o c xs t
came_step_in loud most auto o (at.NextElement xs) t hyp = came_on_element false loud o xs t
came_step_in loud most auto o a t hyp = came_step_in_arrow loud most auto o a t hyp

silent_by : (b c : Bool) (l : Option Spot) → b ≡ true → is_some l ≡ c → (l ≡ None) ⊎ (cond (b && c) Label Quiet ≡ Label)
silent_by b c None e i = inl refl
silent_by b true (Some s) e i = inr (ap (λ (z : Bool). cond (z && true) Label Quiet) e)
silent_by b false (Some s) e i = absurd cc

silent_loud : (o : Outer) (x : Expr) → Silent (cond (begins_statement o && is_some (label_of x)) Label Quiet) o.frames x
silent_loud o x e = silent_by (begins_statement o) (is_some (label_of x)) (label_of x) e refl

ready : (o : Outer) (a : At) → KeptAt o a → Ready (loud_at o a) o a
ready o (at.Operand x n) h = silent_loud o x
ready o (at.Updated x) h = h
ready o (at.Whole x) h = h
ready o (at.Async n) h = λ e. inr (ap (λ (z : Bool). cond z Label Quiet) e)
ready o at.Throw h = refl
ready o (at.NameKey xs n) h = refl
ready o (at.OtherKey xs k) h = refl
ready o (at.AsyncKey xs n) h = refl
ready o _ h = tt

-- Where a token leads from a state that is reached.
pub came : (most : ℕ) (auto : Bool) (s : State) (t : Token) → Kept s → Lands (is_key s.at) (loud s) t.kind (step_in most auto s.outer s.at t)
came most auto s t h = came_step_in (loud s) most auto s.outer s.at t (ready s.outer s.at h)

kept_at : (keys : Bool) (k : TokenKind) (o : Outer) (a : At) → Landed keys k o a → KeptAt o a
kept_at keys k o (at.Whole x) h = h.1
kept_at keys k o (at.Updated x) h = h
kept_at keys k o at.Begin h = h
kept_at keys k o _ h = tt

pub came_kept : (keys : Bool) (k : TokenKind) (n : State) → Landed keys k n.outer n.at → Kept n
came_kept keys k n h = kept_at keys k n.outer n.at h

pub start_kept : Kept start
start_kept = tt
