-- The text of one token, in UTF-16 units (ECMA-262, section 12).
use Rattle.std.specs.Prelude.{ℕ, Bool, cond, ◌&&◌, ◌||◌, ◌==◌, List, [], ◌∷◌, ◌++◌, codes, flat_map}
use Rattle.std.specs.Fmt.{decimal}
use Rattle.js_lex.specs.declared.token.TokenKind.{TokenKind}
use Rattle.js_lex.specs.declared.token.TokenKind.TheVariants as tok
use Rattle.js_lex.specs.declared.token.TemplatePart.{TemplatePart}
use Rattle.js_lex.specs.declared.token.TemplatePart.TheVariants as part
use Rattle.js_lex.specs.declared.token.Reserved.{Reserved}
use Rattle.js_lex.specs.declared.token.Reserved.TheVariants as r
use Rattle.js_lex.specs.declared.token.Punctuator.{Punctuator}
use Rattle.js_lex.specs.declared.token.Punctuator.TheVariants as p
use Rattle.js_lex.specs.Units.{Text}

-- section 12.7.2
abbrev pub word_text : Reserved → Text
word_text r.Await = codes "await"
word_text r.Break = codes "break"
word_text r.Case = codes "case"
word_text r.Catch = codes "catch"
word_text r.Class = codes "class"
word_text r.Const = codes "const"
word_text r.Continue = codes "continue"
word_text r.Debugger = codes "debugger"
word_text r.Default = codes "default"
word_text r.Delete = codes "delete"
word_text r.Do = codes "do"
word_text r.Else = codes "else"
word_text r.Enum = codes "enum"
word_text r.Export = codes "export"
word_text r.Extends = codes "extends"
word_text r.False = codes "false"
word_text r.Finally = codes "finally"
word_text r.For = codes "for"
word_text r.Function = codes "function"
word_text r.If = codes "if"
word_text r.Implements = codes "implements"
word_text r.Import = codes "import"
word_text r.In = codes "in"
word_text r.InstanceOf = codes "instanceof"
word_text r.Interface = codes "interface"
word_text r.Let = codes "let"
word_text r.New = codes "new"
word_text r.Null = codes "null"
word_text r.Package = codes "package"
word_text r.Private = codes "private"
word_text r.Protected = codes "protected"
word_text r.Public = codes "public"
word_text r.Return = codes "return"
word_text r.Static = codes "static"
word_text r.Super = codes "super"
word_text r.Switch = codes "switch"
word_text r.This = codes "this"
word_text r.Throw = codes "throw"
word_text r.True = codes "true"
word_text r.Try = codes "try"
word_text r.TypeOf = codes "typeof"
word_text r.Var = codes "var"
word_text r.Void = codes "void"
word_text r.While = codes "while"
word_text r.With = codes "with"
word_text r.Yield = codes "yield"

-- section 12.8
abbrev pub sign_text : Punctuator → Text
sign_text p.OpenBrace = codes "{"
sign_text p.CloseBrace = codes "}"
sign_text p.OpenParen = codes "("
sign_text p.CloseParen = codes ")"
sign_text p.OpenBracket = codes "["
sign_text p.CloseBracket = codes "]"
sign_text p.Dot = codes "."
sign_text p.Ellipsis = codes "..."
sign_text p.Semicolon = codes ";"
sign_text p.Comma = codes ","
sign_text p.Less = codes "<"
sign_text p.Greater = codes ">"
sign_text p.LessEqual = codes "<="
sign_text p.GreaterEqual = codes ">="
sign_text p.EqualEqual = codes "=="
sign_text p.NotEqual = codes "!="
sign_text p.Identical = codes "==="
sign_text p.NotIdentical = codes "!=="
sign_text p.Plus = codes "+"
sign_text p.Minus = codes "-"
sign_text p.Star = codes "*"
sign_text p.Slash = codes "/"
sign_text p.Percent = codes "%"
sign_text p.StarStar = codes "**"
sign_text p.PlusPlus = codes "++"
sign_text p.MinusMinus = codes "--"
sign_text p.ShiftLeft = codes "<<"
sign_text p.ShiftRight = codes ">>"
sign_text p.ShiftRightUnsigned = codes ">>>"
sign_text p.Ampersand = codes "&"
sign_text p.Bar = codes "|"
sign_text p.Caret = codes "^"
sign_text p.Not = codes "!"
sign_text p.Tilde = codes "~"
sign_text p.AndAnd = codes "&&"
sign_text p.OrOr = codes "||"
sign_text p.QuestionQuestion = codes "??"
sign_text p.Question = codes "?"
sign_text p.QuestionDot = codes "?."
sign_text p.Colon = codes ":"
sign_text p.Equal = codes "="
sign_text p.PlusEqual = codes "+="
sign_text p.MinusEqual = codes "-="
sign_text p.StarEqual = codes "*="
sign_text p.SlashEqual = codes "/="
sign_text p.PercentEqual = codes "%="
sign_text p.StarStarEqual = codes "**="
sign_text p.ShiftLeftEqual = codes "<<="
sign_text p.ShiftRightEqual = codes ">>="
sign_text p.ShiftRightUnsignedEqual = codes ">>>="
sign_text p.AmpersandEqual = codes "&="
sign_text p.BarEqual = codes "|="
sign_text p.CaretEqual = codes "^="
sign_text p.AndAndEqual = codes "&&="
sign_text p.OrOrEqual = codes "||="
sign_text p.QuestionQuestionEqual = codes "??="
sign_text p.Arrow = codes "=>"

-- What no literal between such quotes has as it is (sections 12.9.4 and 12.9.6): the quote, `\`, LF and CR, and the `$` of templates.
abbrev pub is_escaped : ℕ → ℕ → Bool
is_escaped quote u = (u == quote || u == 92) || ((u == 10 || u == 13) || (quote == 96 && u == 36))

-- behind `\` (SingleEscapeCharacter): `n` for LF, `r` for CR, and any other unit for itself
abbrev pub escape_letter : ℕ → ℕ
escape_letter u = cond (u == 10) 110 (cond (u == 13) 114 u)

-- a unit between two such quotes: as it is, or as an escape
abbrev pub unit_text : ℕ → ℕ → Text
unit_text quote u = cond (is_escaped quote u) (92 ∷ escape_letter u ∷ []) (u ∷ [])

-- the units between two quotes
abbrev pub units_text : ℕ → List ℕ → Text
units_text quote w = flat_map (unit_text quote) w

-- section 12.9.6: from a backtick, or from `}`, to a backtick, or to `${`
abbrev pub part_begin : TemplatePart → Text
part_begin part.Whole = codes "`"
part_begin part.Head = codes "`"
part_begin part.Middle = codes "}"
part_begin part.Tail = codes "}"

-- what a part of a template ends with: a backtick, or `${`
abbrev pub part_end : TemplatePart → Text
part_end part.Whole = codes "`"
part_end part.Head = codes "${"
part_end part.Middle = codes "${"
part_end part.Tail = codes "`"

-- The text of a token. `End` and `Bad` are none.
abbrev pub token_text : TokenKind → Text
token_text (tok.Name w) = w
token_text (tok.Reserved x) = word_text x
token_text (tok.Number n) = decimal n
token_text (tok.Text w) = 34 ∷ (units_text 34 w ++ 34 ∷ [])
token_text (tok.Template x w) = part_begin x ++ (units_text 96 w ++ part_end x)
token_text (tok.Punctuator x) = sign_text x
token_text _ = []

-- with a space behind it, so that no token touches the next one
abbrev pub spaced : TokenKind → Text
spaced k = token_text k ++ 32 ∷ []

-- the text of these tokens, one behind another
abbrev pub texts : List TokenKind → Text
texts ks = flat_map spaced ks
