-- Names and words among the pieces.
use Rattle.std.proofs.Common.{◌≡◌, ℕ, Bool, true, false, cond, List, [], ◌∷◌, Some, None, bytes_eq, refl, sym, ap, ◌∙◌}
use Rattle.std.specs.Prelude.{Option, ◌&&◌}
use Rattle.std.proofs.lemmas.Slice.Eq.{bytes_eq-Decides}
use Rattle.js_lex.specs.declared.token.Reserved.{Reserved}
use Rattle.js_lex.specs.Front.{find_word, word_or_name, name_kind}
use Rattle.js_lex.specs.Tables.{reserved_words}
use Rattle.js_lex.specs.Units.{Text}
use Rattle.js_grammar.specs.Letters.{reserved_letters}
use Rattle.js_parse_core.specs.Tokens.{name, any_name}
use Rattle.js_parse_core.proofs.Pieces.{is_last}

-- each word of the table is told by its letters
abbrev are_letters : List (Text × Reserved) → Bool
are_letters [] = true
are_letters (x ∷ xs) = bytes_eq (reserved_letters x.1) x.0 && are_letters xs

all_letters : are_letters reserved_words ≡ true
all_letters = refl

pub both : (a b : Bool) → (a && b) ≡ true → (a ≡ true) × (b ≡ true)
both true b h = (refl, h)
both false b h = cc

found_letters : (xs : List (Text × Reserved)) (u : Text) → are_letters xs ≡ true → (r : Reserved) → find_word xs u ≡ Some r → reserved_letters r ≡ u
found_letters [] u h r e = cc
found_letters (x ∷ xs) u h r e =
    let d : (bytes_eq (reserved_letters x.1) x.0 ≡ true) × (are_letters xs ≡ true) = both (bytes_eq (reserved_letters x.1) x.0) (are_letters xs) h in
    by_test (bytes_eq u x.0) refl d.0 e (found_letters xs u d.1 r)
  where
    by_test : (b : Bool) → bytes_eq u x.0 ≡ b → bytes_eq (reserved_letters x.1) x.0 ≡ true → cond b (Some x.1) (find_word xs u) ≡ Some r → (find_word xs u ≡ Some r → reserved_letters r ≡ u) → reserved_letters r ≡ u
    by_test true a d e go = let i : x.1 ≡ r = cc in ap reserved_letters (sym i) ∙ (bytes_eq-Decides (reserved_letters x.1) x.0).0 d ∙ sym ((bytes_eq-Decides u x.0).0 a)
    by_test false a d e go = go e

-- the word of a name's letters is that name
pub any_name_is : (q : ℕ) (u : List ℕ) → any_name q (name_kind u) ≡ Some (name q u)
any_name_is q u = by_found (find_word reserved_words u) refl
  where
    by_found : (o : Option Reserved) → find_word reserved_words u ≡ o → any_name q (word_or_name u o) ≡ Some (name q u)
    by_found (Some r) e = ap (λ (z : List ℕ). Some (name q z)) (found_letters reserved_words u all_letters r e)
    by_found None e = refl

pub word_is_read : (u : List ℕ) → is_last (name_kind u) ≡ false
word_is_read u = by_found (find_word reserved_words u)
  where
    by_found : (o : Option Reserved) → is_last (word_or_name u o) ≡ false
    by_found (Some r) = refl
    by_found None = refl
