-- Where the tokens of a text of printable tokens stand.
use Rattle.std.proofs.Common.{◌≡◌, ℕ, ◌+◌, false, List, [], ◌∷◌, ◌++◌, map, length, refl, ◌∙◌, ap, arith}
use Rattle.std.proofs.lemmas.List.{length-append}
use Rattle.std.proofs.lemmas.List.Concat.{flat_map-append}
use Rattle.js_lex.specs.declared.token.TokenKind.{TokenKind}
use Rattle.js_lex.specs.declared.token.TokenKind.TheVariants as tok
use Rattle.js_lex.specs.declared.token.Token.{Token}
use Rattle.js_lex.specs.Places.{token}
use Rattle.js_grammar.specs.Fault.{Splits}
use Rattle.js_print.specs.TokenText.{token_text, spaced, texts}
use Rattle.js_print.proofs.Printable.{ArePrintable, Nests, read_as, placed}
use Rattle.js_print.proofs.Lexed.{kinds}
use Rattle.js_print.proofs.TokenLaws.{texts_are_tokens}

pub texts_append : (ks ls : List TokenKind) → texts (ks ++ ls) ≡ texts ks ++ texts ls
texts_append ks ls = flat_map-append spaced ks ls

pub printable_append : (ks ls : List TokenKind) → ArePrintable ks → ArePrintable ls → ArePrintable (ks ++ ls)
printable_append [] ls a b = b
printable_append (k ∷ ks) ls a b = (a.0, printable_append ks ls a.1 b)

further : (n : ℕ) (v z : List ℕ) → (n + (length v + 1)) + length z ≡ n + length ((v ++ 32 ∷ []) ++ z)
further n v z = omega (arith, length-append v (32 ∷ []), length-append (v ++ 32 ∷ []) z)

pub placed_append : (n : ℕ) (ks ls : List TokenKind) → placed n (ks ++ ls) ≡ placed n ks ++ placed (n + length (texts ks)) ls
placed_append n [] ls = ap (λ (m : ℕ). placed m ls) (omega arith)
placed_append n (k ∷ ks) ls =
    ap (λ (ts : List Token). token n false (read_as k) ∷ ts)
    (placed_append (n + (length (token_text k) + 1)) ks ls ∙ ap (λ (m : ℕ). placed (n + (length (token_text k) + 1)) ks ++ placed m ls) (further n (token_text k) (texts ks)))

pub placed_kinds : (n : ℕ) (ks : List TokenKind) → kinds (placed n ks) ≡ map read_as ks
placed_kinds n [] = refl
placed_kinds n (k ∷ ks) = ap (λ (ls : List TokenKind). read_as k ∷ ls) (placed_kinds (n + (length (token_text k) + 1)) ks)

-- no line end stands before any
abbrev pub AreUnbroken : List Token → Type 0
AreUnbroken [] = Unit {0}
AreUnbroken (t ∷ ts) = (t.after_line_end ≡ false) × AreUnbroken ts

pub placed_unbroken : (n : ℕ) (ks : List TokenKind) → AreUnbroken (placed n ks)
placed_unbroken n [] = tt
placed_unbroken n (k ∷ ks) = (refl, placed_unbroken (n + (length (token_text k) + 1)) ks)

-- the last one, behind the text
abbrev pub end_token : List TokenKind → Token
end_token ks = token (length (texts ks)) false tok.End

pub texts_split : (ks : List TokenKind) → ArePrintable ks → Nests [] ks → Splits (texts ks) (placed 0 ks) (end_token ks)
texts_split ks i s = record { tokens = texts_are_tokens ks i s }
