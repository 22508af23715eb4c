-- Which kinds of tokens a text can be made of, and where each of them ends up in it.
use Rattle.std.specs.Prelude.{◌≡◌, ◌≤◌, ℕ, ◌+◌, true, false, Bool, List, [], ◌∷◌, length}
use Rattle.js_lex.specs.declared.token.TokenKind.{TokenKind}
use Rattle.js_lex.specs.declared.token.TokenKind.TheVariants as tok
use Rattle.js_lex.specs.declared.token.TemplatePart.TheVariants as part
use Rattle.js_lex.specs.declared.token.Punctuator.TheVariants as p
use Rattle.js_lex.specs.declared.token.Token.{Token}
use Rattle.js_lex.specs.declared.scan.Brace.{Brace}
use Rattle.js_lex.specs.Units.{Text, is_digit}
use Rattle.js_lex.specs.Front.{name_kind}
use Rattle.js_lex.specs.Grammar.{IsAscii}
use Rattle.js_lex.specs.Places.{in_hole, braces, token}
use Rattle.js_lex.specs.Values.{max_safe}
use Rattle.js_print.specs.TokenText.{token_text}

-- a name of ASCII or a reserved word
abbrev pub IsWord : Text → Type 0
IsWord [] = ⊥
IsWord (u ∷ w) = (is_digit u ≡ false) × IsAscii (u ∷ w)

-- A text has such a token. The letters of a reserved word may stand as a name, as those of a property do.
abbrev pub IsPrintable : TokenKind → Type 0
IsPrintable (tok.Name w) = IsWord w
IsPrintable (tok.Number n) = n ≤ max_safe
IsPrintable (tok.Reserved x) = Unit {0}
IsPrintable (tok.Text w) = Unit {0}
IsPrintable (tok.Template x w) = Unit {0}
IsPrintable (tok.Punctuator x) = Unit {0}
IsPrintable tok.End = ⊥
IsPrintable (tok.Bad f) = ⊥

-- what the token's text is read as: a name of the letters of a reserved word is that word
abbrev pub read_as : TokenKind → TokenKind
read_as (tok.Name w) = name_kind w
read_as k = k

abbrev pub ArePrintable : List TokenKind → Type 0
ArePrintable [] = Unit {0}
ArePrintable (k ∷ ks) = IsPrintable k × ArePrintable ks

-- In the hole of a template or not: a template goes on there alone, and `}` is no token there.
abbrev pub MayStand : Bool → TokenKind → Type 0
MayStand h (tok.Punctuator p.CloseBrace) = h ≡ false
MayStand h (tok.Template part.Middle w) = h ≡ true
MayStand h (tok.Template part.Tail w) = h ≡ true
MayStand h _ = Unit {0}

-- within these braces, the innermost first
abbrev pub Nests : List Brace → List TokenKind → Type 0
Nests bs [] = Unit {0}
Nests bs (k ∷ ks) = MayStand (in_hole bs) k × Nests (braces k bs) ks

-- the braces that are open behind the tokens
abbrev pub open_behind : List Brace → List TokenKind → List Brace
open_behind bs [] = bs
open_behind bs (k ∷ ks) = open_behind (braces k bs) ks

-- the tokens of the texts, the first of which stands at place n
abbrev pub placed : ℕ → List TokenKind → List Token
placed n [] = []
placed n (k ∷ ks) = token n false (read_as k) ∷ placed (n + (length (token_text k) + 1)) ks
