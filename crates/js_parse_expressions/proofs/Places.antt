-- Each token is taken at its own place: a place that a step does not name is left to the next one.
use Rattle.std.proofs.Common.{◌≡◌, ℕ, Bool, List, Option, refl}
use Rattle.js_lex.specs.declared.token.Token.{Token}
use Rattle.js_tree.specs.declared.tree.Catch.{Catch}
use Rattle.js_tree.specs.declared.tree.Expr.{Expr}
use Rattle.js_tree.specs.declared.tree.ForBegin.{ForBegin}
use Rattle.js_tree.specs.declared.tree.Key.{Key}
use Rattle.js_tree.specs.declared.tree.Name.{Name}
use Rattle.js_tree.specs.declared.tree.Property.{Property}
use Rattle.js_tree.specs.declared.tree.Stmt.{Stmt}
use Rattle.js_parse_core.specs.declared.machine.At.{At}
use Rattle.js_parse_core.specs.declared.machine.At.TheVariants as at
use Rattle.js_parse_core.specs.declared.machine.Callee.{Callee}
use Rattle.js_parse_core.specs.declared.machine.Cover.{Cover}
use Rattle.js_parse_core.specs.declared.machine.Declared.{Declared}
use Rattle.js_parse_core.specs.declared.machine.Head.{Head}
use Rattle.js_parse_core.specs.declared.machine.Opening.{Opening}
use Rattle.js_parse_core.specs.declared.machine.Outer.{Outer}
use Rattle.js_parse_core.specs.Machine.{step_in, step_in_arrow, step_in_object, step_in_function, step_in_head, step_in_statement, step_in_try}
use Rattle.js_parse_core.specs.Outer.{refuse}

pub leaves_step_in : (most : ℕ) (auto : Bool) (o : Outer) (a : At) (t : Token)
    → (a ≡ at.Statement → ⊥)
    → (a ≡ at.Begin → ⊥)
    → ((x0 : Expr) (x1 : ℕ) → a ≡ at.Operand x0 x1 → ⊥)
    → ((x0 : Expr) → a ≡ at.Updated x0 → ⊥)
    → ((x0 : Expr) → a ≡ at.Whole x0 → ⊥)
    → ((x0 : Expr) (x1 : ℕ) → a ≡ at.MemberName x0 x1 → ⊥)
    → ((x0 : Callee) (x1 : List Expr) → a ≡ at.NextArgument x0 x1 → ⊥)
    → ((x0 : List Expr) → a ≡ at.NextElement x0 → ⊥)
    → step_in most auto o a t ≡ step_in_arrow most auto o a t
leaves_step_in most auto o at.Statement t h _ _ _ _ _ _ _ = absurd (h refl)
leaves_step_in most auto o at.Begin t _ h _ _ _ _ _ _ = absurd (h refl)
leaves_step_in most auto o (at.Operand x0 x1) t _ _ h _ _ _ _ _ = absurd (h x0 x1 refl)
leaves_step_in most auto o (at.Updated x0) t _ _ _ h _ _ _ _ = absurd (h x0 refl)
leaves_step_in most auto o (at.Whole x0) t _ _ _ _ h _ _ _ = absurd (h x0 refl)
leaves_step_in most auto o (at.MemberName x0 x1) t _ _ _ _ _ h _ _ = absurd (h x0 x1 refl)
leaves_step_in most auto o (at.NextArgument x0 x1) t _ _ _ _ _ _ h _ = absurd (h x0 x1 refl)
leaves_step_in most auto o (at.NextElement x0) t _ _ _ _ _ _ _ h = absurd (h x0 refl)
leaves_step_in most auto o a t _ _ _ _ _ _ _ _ = refl

pub leaves_step_in_arrow : (most : ℕ) (auto : Bool) (o : Outer) (a : At) (t : Token)
    → ((x0 : Name) → a ≡ at.Async x0 → ⊥)
    → ((x0 : Cover) (x1 : List Name) → a ≡ at.CoverOpen x0 x1 → ⊥)
    → ((x0 : Cover) (x1 : List Name) (x2 : Name) → a ≡ at.CoverName x0 x1 x2 → ⊥)
    → ((x0 : Cover) (x1 : List Name) (x2 : Bool) → a ≡ at.Covered x0 x1 x2 → ⊥)
    → ((x0 : Bool) (x1 : List Name) → a ≡ at.Arrow x0 x1 → ⊥)
    → ((x0 : Bool) (x1 : List Name) → a ≡ at.ArrowBody x0 x1 → ⊥)
    → (a ≡ at.NewName → ⊥)
    → ((x0 : Name) → a ≡ at.NewOpen x0 → ⊥)
    → step_in_arrow most auto o a t ≡ step_in_object auto o a t
leaves_step_in_arrow most auto o (at.Async x0) t h _ _ _ _ _ _ _ = absurd (h x0 refl)
leaves_step_in_arrow most auto o (at.CoverOpen x0 x1) t _ h _ _ _ _ _ _ = absurd (h x0 x1 refl)
leaves_step_in_arrow most auto o (at.CoverName x0 x1 x2) t _ _ h _ _ _ _ _ = absurd (h x0 x1 x2 refl)
leaves_step_in_arrow most auto o (at.Covered x0 x1 x2) t _ _ _ h _ _ _ _ = absurd (h x0 x1 x2 refl)
leaves_step_in_arrow most auto o (at.Arrow x0 x1) t _ _ _ _ h _ _ _ = absurd (h x0 x1 refl)
leaves_step_in_arrow most auto o (at.ArrowBody x0 x1) t _ _ _ _ _ h _ _ = absurd (h x0 x1 refl)
leaves_step_in_arrow most auto o at.NewName t _ _ _ _ _ _ h _ = absurd (h refl)
leaves_step_in_arrow most auto o (at.NewOpen x0) t _ _ _ _ _ _ _ h = absurd (h x0 refl)
leaves_step_in_arrow most auto o a t _ _ _ _ _ _ _ _ = refl

pub leaves_step_in_object : (auto : Bool) (o : Outer) (a : At) (t : Token)
    → ((x0 : List Property) → a ≡ at.Key x0 → ⊥)
    → ((x0 : List Property) (x1 : Name) → a ≡ at.NameKey x0 x1 → ⊥)
    → ((x0 : List Property) (x1 : Key) → a ≡ at.OtherKey x0 x1 → ⊥)
    → ((x0 : List Property) (x1 : Name) → a ≡ at.AsyncKey x0 x1 → ⊥)
    → ((x0 : List Property) (x1 : Key) → a ≡ at.AsyncMethod x0 x1 → ⊥)
    → ((x0 : List Property) → a ≡ at.PropertyEnd x0 → ⊥)
    → step_in_object auto o a t ≡ step_in_function auto o a t
leaves_step_in_object auto o (at.Key x0) t h _ _ _ _ _ = absurd (h x0 refl)
leaves_step_in_object auto o (at.NameKey x0 x1) t _ h _ _ _ _ = absurd (h x0 x1 refl)
leaves_step_in_object auto o (at.OtherKey x0 x1) t _ _ h _ _ _ = absurd (h x0 x1 refl)
leaves_step_in_object auto o (at.AsyncKey x0 x1) t _ _ _ h _ _ = absurd (h x0 x1 refl)
leaves_step_in_object auto o (at.AsyncMethod x0 x1) t _ _ _ _ h _ = absurd (h x0 x1 refl)
leaves_step_in_object auto o (at.PropertyEnd x0) t _ _ _ _ _ h = absurd (h x0 refl)
leaves_step_in_object auto o a t _ _ _ _ _ _ = refl

pub leaves_step_in_function : (auto : Bool) (o : Outer) (a : At) (t : Token)
    → ((x0 : Bool) (x1 : Bool) → a ≡ at.FunctionName x0 x1 → ⊥)
    → ((x0 : Head) → a ≡ at.ParametersOpen x0 → ⊥)
    → ((x0 : Head) (x1 : List Name) → a ≡ at.Parameters x0 x1 → ⊥)
    → ((x0 : Head) (x1 : List Name) (x2 : Name) → a ≡ at.ParameterRead x0 x1 x2 → ⊥)
    → ((x0 : Head) (x1 : List Name) → a ≡ at.BodyOpen x0 x1 → ⊥)
    → step_in_function auto o a t ≡ step_in_head auto o a t
leaves_step_in_function auto o (at.FunctionName x0 x1) t h _ _ _ _ = absurd (h x0 x1 refl)
leaves_step_in_function auto o (at.ParametersOpen x0) t _ h _ _ _ = absurd (h x0 refl)
leaves_step_in_function auto o (at.Parameters x0 x1) t _ _ h _ _ = absurd (h x0 x1 refl)
leaves_step_in_function auto o (at.ParameterRead x0 x1 x2) t _ _ _ h _ = absurd (h x0 x1 x2 refl)
leaves_step_in_function auto o (at.BodyOpen x0 x1) t _ _ _ _ h = absurd (h x0 x1 refl)
leaves_step_in_function auto o a t _ _ _ _ _ = refl

pub leaves_step_in_head : (auto : Bool) (o : Outer) (a : At) (t : Token)
    → ((x0 : Declared) → a ≡ at.DeclaredName x0 → ⊥)
    → ((x0 : Declared) (x1 : Name) → a ≡ at.NameDeclared x0 x1 → ⊥)
    → ((x0 : Opening) → a ≡ at.Opening x0 → ⊥)
    → (a ≡ at.ForHead → ⊥)
    → ((x0 : ForBegin) → a ≡ at.ForTest x0 → ⊥)
    → ((x0 : ForBegin) (x1 : Option Expr) → a ≡ at.ForUpdate x0 x1 → ⊥)
    → step_in_head auto o a t ≡ step_in_statement auto o a t
leaves_step_in_head auto o (at.DeclaredName x0) t h _ _ _ _ _ = absurd (h x0 refl)
leaves_step_in_head auto o (at.NameDeclared x0 x1) t _ h _ _ _ _ = absurd (h x0 x1 refl)
leaves_step_in_head auto o (at.Opening x0) t _ _ h _ _ _ = absurd (h x0 refl)
leaves_step_in_head auto o at.ForHead t _ _ _ h _ _ = absurd (h refl)
leaves_step_in_head auto o (at.ForTest x0) t _ _ _ _ h _ = absurd (h x0 refl)
leaves_step_in_head auto o (at.ForUpdate x0 x1) t _ _ _ _ _ h = absurd (h x0 x1 refl)
leaves_step_in_head auto o a t _ _ _ _ _ _ = refl

pub leaves_step_in_statement : (auto : Bool) (o : Outer) (a : At) (t : Token)
    → ((x0 : Expr) (x1 : Stmt) → a ≡ at.AfterThen x0 x1 → ⊥)
    → ((x0 : Stmt) → a ≡ at.Jump x0 → ⊥)
    → ((x0 : ℕ) → a ≡ at.Return x0 → ⊥)
    → (a ≡ at.Throw → ⊥)
    → (a ≡ at.ExportDefault → ⊥)
    → (a ≡ at.ExportObject → ⊥)
    → (a ≡ at.AfterExport → ⊥)
    → step_in_statement auto o a t ≡ step_in_try o a t
leaves_step_in_statement auto o (at.AfterThen x0 x1) t h _ _ _ _ _ _ = absurd (h x0 x1 refl)
leaves_step_in_statement auto o (at.Jump x0) t _ h _ _ _ _ _ = absurd (h x0 refl)
leaves_step_in_statement auto o (at.Return x0) t _ _ h _ _ _ _ = absurd (h x0 refl)
leaves_step_in_statement auto o at.Throw t _ _ _ h _ _ _ = absurd (h refl)
leaves_step_in_statement auto o at.ExportDefault t _ _ _ _ h _ _ = absurd (h refl)
leaves_step_in_statement auto o at.ExportObject t _ _ _ _ _ h _ = absurd (h refl)
leaves_step_in_statement auto o at.AfterExport t _ _ _ _ _ _ h = absurd (h refl)
leaves_step_in_statement auto o a t _ _ _ _ _ _ _ = refl

pub leaves_step_in_try : (o : Outer) (a : At) (t : Token)
    → (a ≡ at.TryOpen → ⊥)
    → ((x0 : List Stmt) → a ≡ at.AfterTry x0 → ⊥)
    → ((x0 : List Stmt) → a ≡ at.CatchOpen x0 → ⊥)
    → ((x0 : List Stmt) → a ≡ at.CatchName x0 → ⊥)
    → ((x0 : List Stmt) (x1 : Name) → a ≡ at.CatchClose x0 x1 → ⊥)
    → ((x0 : List Stmt) (x1 : Name) → a ≡ at.CatchBody x0 x1 → ⊥)
    → ((x0 : List Stmt) (x1 : Catch) → a ≡ at.AfterCatch x0 x1 → ⊥)
    → ((x0 : List Stmt) (x1 : Option Catch) → a ≡ at.FinallyOpen x0 x1 → ⊥)
    → step_in_try o a t ≡ refuse
leaves_step_in_try o at.TryOpen t h _ _ _ _ _ _ _ = absurd (h refl)
leaves_step_in_try o (at.AfterTry x0) t _ h _ _ _ _ _ _ = absurd (h x0 refl)
leaves_step_in_try o (at.CatchOpen x0) t _ _ h _ _ _ _ _ = absurd (h x0 refl)
leaves_step_in_try o (at.CatchName x0) t _ _ _ h _ _ _ _ = absurd (h x0 refl)
leaves_step_in_try o (at.CatchClose x0 x1) t _ _ _ _ h _ _ _ = absurd (h x0 x1 refl)
leaves_step_in_try o (at.CatchBody x0 x1) t _ _ _ _ _ h _ _ = absurd (h x0 x1 refl)
leaves_step_in_try o (at.AfterCatch x0 x1) t _ _ _ _ _ _ h _ = absurd (h x0 x1 refl)
leaves_step_in_try o (at.FinallyOpen x0 x1) t _ _ _ _ _ _ _ h = absurd (h x0 x1 refl)
leaves_step_in_try o a t _ _ _ _ _ _ _ _ = refl
