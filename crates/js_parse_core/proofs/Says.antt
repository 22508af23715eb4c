-- The word of a sign, by what the machine asks, and by the one spot that stands.
use Rattle.std.proofs.Common.{◌≡◌, ℕ, Bool, true, false, cond, Option, Some, None, Ok, Err, refl, ap, ◌∙◌}
use Rattle.std.specs.Prelude.{◌&&◌}
use Rattle.js_lex.specs.declared.token.Punctuator.{Punctuator}
use Rattle.js_lex.specs.declared.token.Punctuator.TheVariants as p
use Rattle.js_lex.specs.declared.token.TokenKind.{TokenKind}
use Rattle.js_lex.specs.declared.token.Token.{Token}
use Rattle.js_words.specs.declared.word.Spot.{Spot}
use Rattle.js_words.specs.declared.word.Spot.TheVariants as spot
use Rattle.js_words.specs.declared.word.Word.{Word}
use Rattle.js_words.specs.Words.{word_by}
use Rattle.js_parse_core.specs.declared.machine.Refusal.{Refusal}
use Rattle.js_parse_core.specs.declared.machine.Refusal.TheVariants as refusal
use Rattle.js_parse_core.specs.declared.machine.State.{State}
use Rattle.js_tree.specs.declared.tree.Expr.{Expr}
use Rattle.js_tree.specs.declared.tree.Expr.TheVariants as expr
use Rattle.js_tree.specs.declared.tree.Name.{Name}
use Rattle.js_parse_core.specs.declared.machine.Outer.{Outer}
use Rattle.js_parse_core.specs.Begin.{begin_name}
use Rattle.js_parse_core.specs.Outer.{Step, begins_statement}
use Rattle.js_parse_core.specs.Statements.{behind_end}
use Rattle.js_parse_core.specs.Told.{or_else, but_comma}
use Rattle.js_parse_core.specs.Told as told
use Rattle.js_parse_core.proofs.Came.{Loud, Quiet, Label, label_of, bare_label, bare_Member}
use Rattle.js_parse_core.proofs.CameSteps.{loud_at, is_some}

abbrev pub tk : ℕ → Bool → TokenKind → Token
tk q l k = record { place = q; after_line_end = l; kind = k }

abbrev pub sign_at : Option Spot → Punctuator → Option Word
sign_at (Some s) g = word_by s g
sign_at None g = None

abbrev pub sign_anywhere : Punctuator → Option Word
sign_anywhere g = but_comma (word_by spot.OperandEnd g)

-- by the spot that is asked, and whether an automatic end may stand before
abbrev pub sign_word : Option Spot → Bool → Punctuator → Option Word
sign_word here ended g = or_else (sign_at here g) (or_else (sign_at (told.behind_end ended) g) (sign_anywhere g))

-- The machine asks for the word that this spot has, where an end may stand behind a line end or not.
abbrev pub Says : Option Spot → Bool → Bool → Punctuator → Step → Type 0
Says sp ends line g (Ok n) = (let w : Option Word = None in w ≡ w)
Says sp ends line g (Err (refusal.Token a)) = sign_word a.here a.ended g ≡ sign_word sp (ends && line) g
Says sp ends line g (Err k) = (let w : Option Word = None in w ≡ w)

-- for the signs that have a word at some spots alone
abbrev pub SaysAll : Option Spot → Bool → Bool → (Punctuator → Step) → Type 0
SaysAll sp ends line f =
    Says sp ends line p.Plus (f p.Plus) × Says sp ends line p.Slash (f p.Slash) × Says sp ends line p.SlashEqual (f p.SlashEqual)
    × Says sp ends line p.Comma (f p.Comma) × Says sp ends line p.OpenBracket (f p.OpenBracket) × Says sp ends line p.OpenBrace (f p.OpenBrace) × Says sp ends line p.Equal (f p.Equal)

-- a spot at which a name has no word by what follows it
abbrev pub IsNameless : Option Spot → Type 0
IsNameless (Some spot.StatementBegin) = ⊥
IsNameless (Some spot.Key) = ⊥
IsNameless _ = Unit {0}

abbrev pub NameSafe : Step → Type 0
NameSafe (Err (refusal.Token a)) = (a.ended ≡ false) × IsNameless a.here
NameSafe _ = Unit {0}

abbrev pub Refused : Step → Type 0
Refused (Ok n) = ⊥
Refused (Err k) = Unit {0}

abbrev pub yes : State → Bool
yes s = true

-- ---- a name leads to where it may be a label exactly where a statement may begin

abbrev pub is_label : Loud → Bool
is_label Label = true
is_label _ = false

abbrev pub NameLaw : Bool → Step → Type 0
NameLaw st (Ok s) = is_label (loud_at s.outer s.at) ≡ st
NameLaw st (Err k) = Unit {0}

label_cond : (b : Bool) → is_label (cond b Label Quiet) ≡ b
label_cond true = refl
label_cond false = refl

label_and : (b : Bool) → is_label (cond (b && true) Label Quiet) ≡ b
label_and true = refl
label_and false = refl

no_label : (b : Bool) → is_label (cond (b && false) Label Quiet) ≡ false
no_label true = refl
no_label false = refl

pub law_begin : (st : Bool) (o : Outer) (n : Name) (b : Bool) → begins_statement o ≡ st → NameLaw st (begin_name o n b)
law_begin st o n true e = ap (λ (z : Bool). is_label (cond z Label Quiet)) e ∙ label_cond st
law_begin st o n false e =
    ap (λ (z : Bool). is_label (cond (z && is_some (label_of (expr.Name n))) Label Quiet)) e
    ∙ ap (λ (z : Option Spot). is_label (cond (st && is_some z) Label Quiet)) (bare_label n) ∙ label_and st

pub law_member : (o : Outer) (x : Expr) (n : Name) → is_label (cond (begins_statement o && is_some (label_of (expr.Member x n))) Label Quiet) ≡ false
law_member o x n = ap (λ (z : Option Spot). is_label (cond (begins_statement o && is_some z) Label Quiet)) (bare_Member x n) ∙ no_label (begins_statement o)

pub law_behind : (st : Bool) (o : Outer) (k : Refusal) (n : Name) (b : Bool) → begins_statement o ≡ st → NameLaw st (behind_end (begin_name o n b) k)
law_behind st o k n true e = law_begin st o n true e
law_behind st o k n false e = law_begin st o n false e

pub law_cond : (st b : Bool) (x y : Step) → NameLaw st x → NameLaw st y → NameLaw st (cond b x y)
law_cond st true x y h i = h
law_cond st false x y h i = i
