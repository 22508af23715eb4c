-- What is known of a place: which spot stands there, and that the machine asks for its word.
use Rattle.std.proofs.Common.{◌≡◌, ℕ, Bool, true, false, cond, List, [], ◌∷◌, Option, Some}
use Rattle.std.specs.Prelude.{not, ◌&&◌}
use Rattle.js_lex.specs.declared.token.TokenKind.TheVariants as tok
use Rattle.js_lex.specs.declared.token.Token.{Token}
use Rattle.js_tree.specs.declared.tree.Name.{Name}
use Rattle.js_words.specs.declared.word.Spot.{Spot}
use Rattle.js_words.specs.declared.word.Spot.TheVariants as spot
use Rattle.js_parse_core.specs.declared.machine.Outer.{Outer}
use Rattle.js_parse_core.specs.Outer.{Step}
use Rattle.js_parse_core.specs.Begin.{begin_name}
use Rattle.js_parse_core.proofs.Accepts.{takes, stands, pairs}
use Rattle.js_parse_core.proofs.Says.{tk, SaysAll, NameSafe, NameLaw}
use Rattle.js_grammar.specs.Spots.{an_expression}

abbrev pub is_spot : Spot → Option Spot → Bool
is_spot spot.StatementBegin (Some spot.StatementBegin) = true
is_spot spot.ExpressionBegin (Some spot.ExpressionBegin) = true
is_spot spot.OperandEnd (Some spot.OperandEnd) = true
is_spot spot.DeclaredName (Some spot.DeclaredName) = true
is_spot spot.Parameter (Some spot.Parameter) = true
is_spot spot.Key (Some spot.Key) = true
is_spot _ _ = false

-- `keyed`: a key stands next that `:` may follow
pub record Known (brace keyed thrown : Bool) (f : Token → Step) : Type 0 where
  pub here : Option Spot
  pub statement : stands brace spot.StatementBegin false f ≡ is_spot spot.StatementBegin here
  pub expression : stands brace spot.ExpressionBegin false f ≡ is_spot spot.ExpressionBegin here
  pub operand : stands brace spot.OperandEnd false f ≡ is_spot spot.OperandEnd here
  pub declared : stands brace spot.DeclaredName false f ≡ is_spot spot.DeclaredName here
  pub parameter : stands brace spot.Parameter false f ≡ is_spot spot.Parameter here
  pub key : stands brace spot.Key false f ≡ is_spot spot.Key here
  pub later : (stands brace spot.ExpressionBegin true f && not (is_spot spot.ExpressionBegin here)) ≡ false
  pub on_line : (q : ℕ) → SaysAll here (stands brace spot.StatementBegin true f) false (λ g. f (tk q false (tok.Punctuator g)))
  pub behind : (q : ℕ) → SaysAll here (stands brace spot.StatementBegin true f) true (λ g. f (tk q true (tok.Punctuator g)))
  pub names : (q : ℕ) (l : Bool) (u : List ℕ) → NameSafe (f (tk q l (tok.Name u)))
  pub pairs : pairs f ≡ keyed
  pub law : (q : ℕ) (l : Bool) (u : List ℕ) → NameLaw (stands brace spot.StatementBegin l f) (f (tk q l (tok.Name u)))
  pub throws : (stands brace spot.ExpressionBegin false f && not (takes f true (an_expression ∷ []))) ≡ thrown

pub begin_safe : (o : Outer) (n : Name) (b : Bool) → NameSafe (begin_name o n b)
begin_safe o n true = tt
begin_safe o n false = tt

pub safe_cond : (b : Bool) (x y : Step) → NameSafe x → NameSafe y → NameSafe (cond b x y)
safe_cond true x y h i = h
safe_cond false x y h i = i
