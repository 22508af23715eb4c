-- `else` is taken behind the first branch of an `if`, and nowhere else.
use Rattle.std.proofs.Common.{◌≡◌, refl}
use Rattle.js_tree.specs.declared.tree.Expr.{Expr}
use Rattle.js_tree.specs.declared.tree.Stmt.{Stmt}
use Rattle.js_words.specs.declared.word.Spot.TheVariants as spot
use Rattle.js_parse_core.specs.declared.machine.At.{At}
use Rattle.js_parse_core.specs.declared.machine.At.TheVariants as at
use Rattle.js_parse_core.specs.declared.machine.Outer.{Outer}
use Rattle.js_parse_core.specs.Outer.{refuse_at}
use Rattle.js_parse_core.specs.Statements.{to_else}

pub refuses_else : (o : Outer) (a : At) → ((x : Expr) (s : Stmt) → a ≡ at.AfterThen x s → ⊥) → to_else o a ≡ refuse_at spot.StatementBegin
refuses_else o (at.AfterThen x s) other = absurd (other x s refl)
refuses_else o a other = refl
