-- The tokens with their places, and the braces that are open between them (ECMA-262, section 12).
use Rattle.std.specs.Prelude.{ℕ, Bool, true, false, List, [], ◌∷◌, drop, codes, Option, Some, slice_get}
use Rattle.js_lex.specs.declared.token.TokenKind.{TokenKind}
use Rattle.js_lex.specs.declared.token.TokenKind.TheVariants as tok
use Rattle.js_lex.specs.declared.token.Token.{Token}
use Rattle.js_lex.specs.declared.token.TemplatePart.TheVariants as part
use Rattle.js_lex.specs.declared.token.Punctuator.TheVariants as p
use Rattle.js_lex.specs.declared.token.ScriptKind.TheVariants as kind
use Rattle.js_lex.specs.declared.token.ScriptFault.{ScriptFault}
use Rattle.js_lex.specs.declared.scan.Brace.{Brace}
use Rattle.js_lex.specs.declared.scan.Brace.TheVariants as brace
use Rattle.js_lex.specs.declared.front.Unread.{Unread}
use Rattle.js_lex.specs.declared.front.Unread.TheVariants as bad

-- the innermost open brace is `${`
abbrev pub is_hole : Option Brace → Bool
is_hole (Some brace.Hole) = true
is_hole _ = false

-- the text goes on in the `${` of a template
abbrev pub in_hole : List Brace → Bool
in_hole bs = is_hole (slice_get bs 0)

-- the open braces behind a token, the innermost first
abbrev pub braces : TokenKind → List Brace → List Brace
braces (tok.Punctuator p.OpenBrace) bs = brace.Block ∷ bs
braces (tok.Punctuator p.CloseBrace) bs = drop 1 bs
braces (tok.Template part.Head w) bs = brace.Hole ∷ bs
braces (tok.Template part.Tail w) bs = drop 1 bs
braces _ bs = bs

-- the fault at a place: no syntax of ECMA-262, or a number or a name that is left out
abbrev pub fault : ℕ → Unread → ScriptFault
fault n bad.Syntax = record { kind = kind.Syntax; place = n; word = [] }
fault n bad.Number = record { kind = kind.LeftOut; place = n; word = codes "number" }
fault n bad.Identifier = record { kind = kind.LeftOut; place = n; word = codes "identifier" }

-- a token of this kind at a place, behind a line end or not
abbrev pub token : ℕ → Bool → TokenKind → Token
token n l k = record { place = n; after_line_end = l; kind = k }
