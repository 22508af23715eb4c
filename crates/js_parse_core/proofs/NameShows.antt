-- Names and keys that tokens are.
use Rattle.std.proofs.Common.{◌≡◌, false, [], map, Option, Some, None, refl, sym, ◌∙◌, inl, inr}
use Rattle.js_lex.specs.Front.{name_kind}
use Rattle.js_lex.specs.declared.token.Reserved.{Reserved}
use Rattle.js_lex.specs.declared.token.Reserved.TheVariants as r
use Rattle.js_lex.specs.declared.token.TokenKind.{TokenKind}
use Rattle.js_lex.specs.declared.token.TokenKind.TheVariants as tok
use Rattle.js_lex.specs.declared.token.Token.{Token}
use Rattle.js_tree.specs.declared.tree.Key.{Key}
use Rattle.js_tree.specs.declared.tree.Key.TheVariants as keys
use Rattle.js_tree.specs.declared.tree.Name.{Name}
use Rattle.js_grammar.specs.Marks.{Read, first_unbroken}
use Rattle.js_grammar.specs.Grammar.{any_name, key}
use Rattle.js_grammar.specs.Letters.{reserved_letters}
use Rattle.js_parse_core.specs.Tokens.{name as named}
use Rattle.js_parse_core.specs.Tokens.{any_name as any_named}
use Rattle.js_parse_core.specs.Objects.{key as key_of}
use Rattle.js_parse_core.proofs.Grows.{Shows, shows_read}

-- the letters of a reserved word are that word
pub letters_kind : (x : Reserved) → name_kind (reserved_letters x) ≡ tok.Reserved x
letters_kind r.Await = refl
letters_kind r.Break = refl
letters_kind r.Case = refl
letters_kind r.Catch = refl
letters_kind r.Class = refl
letters_kind r.Const = refl
letters_kind r.Continue = refl
letters_kind r.Debugger = refl
letters_kind r.Default = refl
letters_kind r.Delete = refl
letters_kind r.Do = refl
letters_kind r.Else = refl
letters_kind r.Enum = refl
letters_kind r.Export = refl
letters_kind r.Extends = refl
letters_kind r.False = refl
letters_kind r.Finally = refl
letters_kind r.For = refl
letters_kind r.Function = refl
letters_kind r.If = refl
letters_kind r.Implements = refl
letters_kind r.Import = refl
letters_kind r.In = refl
letters_kind r.InstanceOf = refl
letters_kind r.Interface = refl
letters_kind r.Let = refl
letters_kind r.New = refl
letters_kind r.Null = refl
letters_kind r.Package = refl
letters_kind r.Private = refl
letters_kind r.Protected = refl
letters_kind r.Public = refl
letters_kind r.Return = refl
letters_kind r.Static = refl
letters_kind r.Super = refl
letters_kind r.Switch = refl
letters_kind r.This = refl
letters_kind r.Throw = refl
letters_kind r.True = refl
letters_kind r.Try = refl
letters_kind r.TypeOf = refl
letters_kind r.Var = refl
letters_kind r.Void = refl
letters_kind r.While = refl
letters_kind r.With = refl
letters_kind r.Yield = refl

-- the name is written as the token
abbrev pub NameShows : Token → Option Name → Type 0
NameShows t (Some n) = Shows (any_name n) t
NameShows t None = Unit {0}

pub name_shows : (t : Token) (k : TokenKind) → t.kind ≡ k → NameShows t (any_named t.place k)
name_shows t (tok.Name u) e = shows_read (any_name (named t.place u)) t (tok.Name u) e refl (inl (Read t, [], refl, (e, refl, tt), refl))
name_shows t (tok.Reserved x) e = shows_read (any_name (named t.place (reserved_letters x))) t (tok.Reserved x) e refl (inr (inl (Read t, [], refl, (e ∙ sym (letters_kind x), refl, tt), refl)))
name_shows t _ e = tt

abbrev pub KeyShows : Token → Option Key → Type 0
KeyShows t (Some k) = Shows (key k) t
KeyShows t None = Unit {0}

pub key_shows : (t : Token) (k : TokenKind) → t.kind ≡ k → KeyShows t (key_of t.place k)
key_shows t (tok.Text u) e = shows_read (key (keys.Text u)) t (tok.Text u) e refl (inl (Read t, [], refl, (e, tt), refl))
key_shows t (tok.Number v) e = shows_read (key (keys.Number v)) t (tok.Number v) e refl (inl (Read t, [], refl, (e, tt), refl))
key_shows t (tok.Name u) e = name_shows t (tok.Name u) e
key_shows t (tok.Reserved x) e = name_shows t (tok.Reserved x) e
key_shows t _ e = tt

-- .. with no line end before it
abbrev pub LineKeyShows : Token → Option Key → Type 0
LineKeyShows t (Some k) = Shows (map first_unbroken (key k)) t
LineKeyShows t None = Unit {0}

pub line_key_shows : (t : Token) (k : TokenKind) → t.kind ≡ k → t.after_line_end ≡ false → LineKeyShows t (key_of t.place k)
line_key_shows t (tok.Text u) e l = shows_read (map first_unbroken (key (keys.Text u))) t (tok.Text u) e refl (inl (Read t, [], refl, (e, l), refl))
line_key_shows t (tok.Number v) e l = shows_read (map first_unbroken (key (keys.Number v))) t (tok.Number v) e refl (inl (Read t, [], refl, (e, l), refl))
line_key_shows t (tok.Name u) e l = shows_read (map first_unbroken (any_name (named t.place u))) t (tok.Name u) e refl (inl (Read t, [], refl, (e, refl, l), refl))
line_key_shows t (tok.Reserved x) e l = shows_read (map first_unbroken (any_name (named t.place (reserved_letters x)))) t (tok.Reserved x) e refl (inr (inl (Read t, [], refl, (e ∙ sym (letters_kind x), refl, l), refl)))
line_key_shows t _ e l = tt
