-- What forms are written as where one after another, deeper, on one line or in a list.
use Rattle.std.proofs.Common.{◌≡◌, ℕ, ◌+◌, Bool, true, false, List, [], ◌∷◌, ◌++◌, map, refl, sym, ap, ◌∙◌}
use Rattle.std.proofs.lemmas.List.{append_assoc}
use Rattle.js_lex.specs.declared.token.TokenKind.{TokenKind}
use Rattle.js_lex.specs.declared.token.TokenKind.TheVariants as tok
use Rattle.js_lex.specs.declared.token.Punctuator.{Punctuator}
use Rattle.js_lex.specs.declared.token.Punctuator.TheVariants as p
use Rattle.js_grammar.specs.Marks.{Mark, Form, just, maybe, sign, deeper, deeper_mark, on_one_line, first_unbroken, enclosed, more, listed, separated}
use Rattle.js_grammar.specs.Grammar.{WrittenStmt, body, statements, perhaps_async, async, parenthesized}
use Rattle.js_print.specs.Printed.{wanted, marked, first_of, plain}

abbrev pub Kinds : Type 0
Kinds = List TokenKind

pub plain_append : (fs gs : List Form) → plain (fs ++ gs) ≡ plain fs ++ plain gs
plain_append [] gs = refl
plain_append (f ∷ fs) gs = ap (λ (ks : Kinds). first_of f ++ ks) (plain_append fs gs) ∙ sym (append_assoc (first_of f) (plain fs) (plain gs))

-- .. before other tokens
pub plain_then : (fs gs : List Form) (ks : Kinds) → plain (fs ++ gs) ++ ks ≡ plain fs ++ (plain gs ++ ks)
plain_then fs gs ks = ap (λ (x : Kinds). x ++ ks) (plain_append fs gs) ∙ append_assoc (plain fs) (plain gs) ks

marked_deeper : (n : ℕ) (ms : List Mark) → marked (map (deeper_mark n) ms) ≡ marked ms
marked_deeper n [] = refl
marked_deeper n (m ∷ ms) = ap (λ (ks : Kinds). wanted m.want ++ ks) (marked_deeper n ms)

first_deeper : (n : ℕ) (f : Form) → first_of (map (map (deeper_mark n)) f) ≡ first_of f
first_deeper n [] = refl
first_deeper n (ms ∷ others) = marked_deeper n ms

pub plain_deeper : (n : ℕ) (fs : List Form) → plain (deeper n fs) ≡ plain fs
plain_deeper n [] = refl
plain_deeper n (f ∷ fs) = ap (λ (ks : Kinds). ks ++ plain (deeper n fs)) (first_deeper n f) ∙ ap (λ (ks : Kinds). first_of f ++ ks) (plain_deeper n fs)

first_on_line : (f : Form) → first_of (map first_unbroken f) ≡ first_of f
first_on_line [] = refl
first_on_line ([] ∷ others) = refl
first_on_line ((m ∷ ms) ∷ others) = refl

pub plain_line : (fs : List Form) → plain (on_one_line fs) ≡ plain fs
plain_line [] = refl
plain_line (f ∷ fs) = ap (λ (ks : Kinds). ks ++ plain fs) (first_on_line f)

pub plain_enclosed : (a : Punctuator) (fs : List Form) (b : Punctuator) (ks : Kinds) → plain (enclosed a fs b) ++ ks ≡ tok.Punctuator a ∷ (plain fs ++ tok.Punctuator b ∷ ks)
plain_enclosed a fs b ks = ap (λ (x : Kinds). x ++ ks) (plain_deeper 1 (just a ∷ (fs ++ just b ∷ []))) ∙ ap (λ (x : Kinds). tok.Punctuator a ∷ x) (plain_then fs (just b ∷ []) ks)

-- a list has a comma behind each
comma_behind : (rest : List (List Form)) → plain (more rest ++ maybe (sign p.Comma) ∷ []) ≡ tok.Punctuator p.Comma ∷ plain (listed rest)
comma_behind [] = refl
comma_behind (gs ∷ rest) = refl

pub plain_listed : (fs : List Form) (rest : List (List Form)) (ks : Kinds) → plain (listed (fs ∷ rest)) ++ ks ≡ plain fs ++ tok.Punctuator p.Comma ∷ (plain (listed rest) ++ ks)
plain_listed fs rest ks =
    ap (λ (x : Kinds). x ++ ks) (plain_append (fs ++ more rest) (maybe (sign p.Comma) ∷ []) ∙ ap (λ (x : Kinds). x ++ plain (maybe (sign p.Comma) ∷ [])) (plain_append fs (more rest)) ∙ append_assoc (plain fs) (plain (more rest)) (plain (maybe (sign p.Comma) ∷ []))
    ∙ ap (λ (x : Kinds). plain fs ++ x) (sym (plain_append (more rest) (maybe (sign p.Comma) ∷ [])) ∙ comma_behind rest))
    ∙ append_assoc (plain fs) (tok.Punctuator p.Comma ∷ plain (listed rest)) ks

pub plain_more : (fs : List Form) (rest : List (List Form)) (ks : Kinds) → plain (more (fs ∷ rest)) ++ ks ≡ tok.Punctuator p.Comma ∷ (plain fs ++ (plain (more rest) ++ ks))
plain_more fs rest ks = ap (λ (x : Kinds). tok.Punctuator p.Comma ∷ x) (plain_then fs (more rest) ks)

pub plain_async : (a : Bool) (fs : List Form) (ks : Kinds) → plain (perhaps_async a fs) ++ ks ≡ plain (perhaps_async a []) ++ (plain fs ++ ks)
plain_async true fs ks = ap (λ (x : Kinds). first_of async ++ (x ++ ks)) (plain_line fs)
plain_async false fs ks = refl

pub plain_body : (s : WrittenStmt) → plain (body s) ≡ plain s.forms
plain_body s = by_block s.is_block s.forms
  where
    by_block : (b : Bool) (fs : List Form) → plain (body (record { forms = fs; is_block = b })) ≡ plain fs
    by_block true fs = refl
    by_block false fs = plain_deeper 1 fs
