-- The reserved words and the punctuators.
use Rattle.std.specs.Prelude.{ℕ, List, [], ◌∷◌, codes}
use Rattle.js_lex.specs.declared.token.Reserved.{Reserved}
use Rattle.js_lex.specs.declared.token.Reserved.TheVariants as r
use Rattle.js_lex.specs.declared.token.Punctuator.{Punctuator}
use Rattle.js_lex.specs.declared.token.Punctuator.TheVariants as p

-- ECMA-262, section 12.7.2: ReservedWord, and what strict mode code adds to it
abbrev pub reserved_words : List (List ℕ × Reserved)
reserved_words =
    (codes "await", r.Await) ∷ (codes "break", r.Break) ∷ (codes "case", r.Case) ∷ (codes "catch", r.Catch) ∷
    (codes "class", r.Class) ∷ (codes "const", r.Const) ∷ (codes "continue", r.Continue) ∷ (codes "debugger", r.Debugger) ∷
    (codes "default", r.Default) ∷ (codes "delete", r.Delete) ∷ (codes "do", r.Do) ∷ (codes "else", r.Else) ∷
    (codes "enum", r.Enum) ∷ (codes "export", r.Export) ∷ (codes "extends", r.Extends) ∷ (codes "false", r.False) ∷
    (codes "finally", r.Finally) ∷ (codes "for", r.For) ∷ (codes "function", r.Function) ∷ (codes "if", r.If) ∷
    (codes "implements", r.Implements) ∷ (codes "import", r.Import) ∷ (codes "in", r.In) ∷ (codes "instanceof", r.InstanceOf) ∷
    (codes "interface", r.Interface) ∷ (codes "let", r.Let) ∷ (codes "new", r.New) ∷ (codes "null", r.Null) ∷
    (codes "package", r.Package) ∷ (codes "private", r.Private) ∷ (codes "protected", r.Protected) ∷ (codes "public", r.Public) ∷
    (codes "return", r.Return) ∷ (codes "static", r.Static) ∷ (codes "super", r.Super) ∷ (codes "switch", r.Switch) ∷
    (codes "this", r.This) ∷ (codes "throw", r.Throw) ∷ (codes "true", r.True) ∷ (codes "try", r.Try) ∷
    (codes "typeof", r.TypeOf) ∷ (codes "var", r.Var) ∷ (codes "void", r.Void) ∷ (codes "while", r.While) ∷
    (codes "with", r.With) ∷ (codes "yield", r.Yield) ∷ []

-- section 12.8: Punctuator, DivPunctuator and RightBracePunctuator; a longer one stands before those that it begins with
abbrev pub punctuators : List (List ℕ × Punctuator)
punctuators =
    (codes ">>>=", p.ShiftRightUnsignedEqual) ∷ (codes "...", p.Ellipsis) ∷ (codes "===", p.Identical) ∷ (codes "!==", p.NotIdentical) ∷ (codes "**=", p.StarStarEqual) ∷
    (codes "<<=", p.ShiftLeftEqual) ∷ (codes ">>=", p.ShiftRightEqual) ∷ (codes ">>>", p.ShiftRightUnsigned) ∷ (codes "&&=", p.AndAndEqual) ∷ (codes "||=", p.OrOrEqual) ∷
    (codes "??=", p.QuestionQuestionEqual) ∷ (codes "<=", p.LessEqual) ∷ (codes ">=", p.GreaterEqual) ∷ (codes "==", p.EqualEqual) ∷ (codes "!=", p.NotEqual) ∷
    (codes "**", p.StarStar) ∷ (codes "++", p.PlusPlus) ∷ (codes "--", p.MinusMinus) ∷ (codes "<<", p.ShiftLeft) ∷ (codes ">>", p.ShiftRight) ∷
    (codes "&&", p.AndAnd) ∷ (codes "||", p.OrOr) ∷ (codes "??", p.QuestionQuestion) ∷ (codes "?.", p.QuestionDot) ∷ (codes "+=", p.PlusEqual) ∷
    (codes "-=", p.MinusEqual) ∷ (codes "*=", p.StarEqual) ∷ (codes "/=", p.SlashEqual) ∷ (codes "%=", p.PercentEqual) ∷ (codes "&=", p.AmpersandEqual) ∷
    (codes "|=", p.BarEqual) ∷ (codes "^=", p.CaretEqual) ∷ (codes "=>", p.Arrow) ∷ (codes "{", p.OpenBrace) ∷ (codes "}", p.CloseBrace) ∷
    (codes "(", p.OpenParen) ∷ (codes ")", p.CloseParen) ∷ (codes "[", p.OpenBracket) ∷ (codes "]", p.CloseBracket) ∷ (codes ".", p.Dot) ∷
    (codes ";", p.Semicolon) ∷ (codes ",", p.Comma) ∷ (codes "<", p.Less) ∷ (codes ">", p.Greater) ∷ (codes "+", p.Plus) ∷
    (codes "-", p.Minus) ∷ (codes "*", p.Star) ∷ (codes "/", p.Slash) ∷ (codes "%", p.Percent) ∷ (codes "&", p.Ampersand) ∷
    (codes "|", p.Bar) ∷ (codes "^", p.Caret) ∷ (codes "!", p.Not) ∷ (codes "~", p.Tilde) ∷ (codes "?", p.Question) ∷
    (codes ":", p.Colon) ∷ (codes "=", p.Equal) ∷ []
