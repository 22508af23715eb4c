-- Behind `async`, every sign but `(` stands behind a name.
use Rattle.std.proofs.Common.{◌≡◌, Bool, refl}
use Rattle.js_lex.specs.declared.token.Punctuator.{Punctuator}
use Rattle.js_lex.specs.declared.token.Punctuator.TheVariants as p
use Rattle.js_lex.specs.declared.token.Token.{Token}
use Rattle.js_lex.specs.declared.token.TokenKind.TheVariants as tok
use Rattle.js_tree.specs.declared.tree.Name.{Name}
use Rattle.js_tree.specs.declared.tree.Expr.TheVariants as expr
use Rattle.js_parse_core.specs.declared.machine.Outer.{Outer}
use Rattle.js_parse_core.specs.Expressions.{async_kind, after_operand}

pub other_sign : (auto : Bool) (o : Outer) (n : Name) (t : Token) (s : Punctuator) → (s ≡ p.OpenParen → ⊥) → async_kind auto o n t (tok.Punctuator s) ≡ after_operand auto o (expr.Name n) 0 t
other_sign auto o n t p.OpenParen other = absurd (other refl)
other_sign auto o n t s other = refl
