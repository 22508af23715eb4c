-- What a token is.
use Rattle.std.specs.Prelude.{ℕ, Bool, true, false, ◌||◌, List, codes, Option, Some, None}
use Rattle.std.specs.Str.{bytes_eq}
use Rattle.js_lex.specs.declared.token.Punctuator.TheVariants as p
use Rattle.js_lex.specs.declared.token.Reserved.TheVariants as r
use Rattle.js_lex.specs.declared.token.TokenKind.{TokenKind}
use Rattle.js_lex.specs.declared.token.TokenKind.TheVariants as tok
use Rattle.js_lex.specs.declared.token.Token.{Token}
use Rattle.js_tree.specs.declared.tree.Name.{Name}
use Rattle.js_grammar.specs.Letters.{reserved_letters}

-- the token is `(`
abbrev pub is_open_paren : TokenKind → Bool
is_open_paren (tok.Punctuator p.OpenParen) = true
is_open_paren _ = false

-- the token is `)`
abbrev pub is_close_paren : TokenKind → Bool
is_close_paren (tok.Punctuator p.CloseParen) = true
is_close_paren _ = false

-- the token is `{`
abbrev pub is_open_brace : TokenKind → Bool
is_open_brace (tok.Punctuator p.OpenBrace) = true
is_open_brace _ = false

-- the token is `}`
abbrev pub is_close_brace : TokenKind → Bool
is_close_brace (tok.Punctuator p.CloseBrace) = true
is_close_brace _ = false

-- the token is `[`
abbrev pub is_open_bracket : TokenKind → Bool
is_open_bracket (tok.Punctuator p.OpenBracket) = true
is_open_bracket _ = false

-- the token is `]`
abbrev pub is_close_bracket : TokenKind → Bool
is_close_bracket (tok.Punctuator p.CloseBracket) = true
is_close_bracket _ = false

-- the token is `;`
abbrev pub is_semicolon : TokenKind → Bool
is_semicolon (tok.Punctuator p.Semicolon) = true
is_semicolon _ = false

-- the token is `,`
abbrev pub is_comma : TokenKind → Bool
is_comma (tok.Punctuator p.Comma) = true
is_comma _ = false

-- the token is `:`
abbrev pub is_colon : TokenKind → Bool
is_colon (tok.Punctuator p.Colon) = true
is_colon _ = false

-- the token is `=`
abbrev pub is_equal : TokenKind → Bool
is_equal (tok.Punctuator p.Equal) = true
is_equal _ = false

-- the token is `=>`
abbrev pub is_arrow : TokenKind → Bool
is_arrow (tok.Punctuator p.Arrow) = true
is_arrow _ = false

-- the token is the reserved word `else`
abbrev pub is_else : TokenKind → Bool
is_else (tok.Reserved r.Else) = true
is_else _ = false

-- the token is the reserved word `finally`
abbrev pub is_finally : TokenKind → Bool
is_finally (tok.Reserved r.Finally) = true
is_finally _ = false

-- the token is the reserved word `default`
abbrev pub is_default : TokenKind → Bool
is_default (tok.Reserved r.Default) = true
is_default _ = false

-- the token is the reserved word `function`
abbrev pub is_function : TokenKind → Bool
is_function (tok.Reserved r.Function) = true
is_function _ = false

-- the token is the one behind the last of the script
abbrev pub is_end : TokenKind → Bool
is_end tok.End = true
is_end _ = false

-- an automatic end may stand before it (ECMA-262, section 12.10)
abbrev pub may_end : Token → Bool
may_end t = is_end t.kind || (t.after_line_end || is_close_brace t.kind)

-- the letters of `async`, which is no reserved word
abbrev pub is_async : List ℕ → Bool
is_async u = bytes_eq u (codes "async")

-- the token is the name `of`, which is no reserved word
abbrev pub is_of : TokenKind → Bool
is_of (tok.Name u) = bytes_eq u (codes "of")
is_of _ = false

-- the name of these units at this place
abbrev pub name : ℕ → List ℕ → Name
name q u = record { place = q; units = u }

-- section 12.7, IdentifierName
abbrev pub any_name : ℕ → TokenKind → Option Name
any_name q (tok.Name u) = Some (name q u)
any_name q (tok.Reserved x) = Some (name q (reserved_letters x))
any_name q _ = None
