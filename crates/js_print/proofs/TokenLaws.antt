-- The text of printable tokens, with a space behind each, has these tokens.
use Rattle.std.proofs.Common.{◌≡◌, ℕ, suc, ◌+◌, ◌-◌, ◌≤◌, Bool, false, List, [], ◌∷◌, ◌++◌, length, Option, Some, None, refl, ◌∙◌, ap, subst, arith, append_assoc}
use Rattle.std.proofs.lemmas.List.{length-append}
use Rattle.js_lex.specs.declared.token.TokenKind.{TokenKind}
use Rattle.js_lex.specs.declared.token.TokenKind.TheVariants as tok
use Rattle.js_lex.specs.declared.token.TemplatePart.{TemplatePart}
use Rattle.js_lex.specs.declared.token.TemplatePart.TheVariants as part
use Rattle.js_lex.specs.declared.token.Reserved.{Reserved}
use Rattle.js_lex.specs.declared.token.Token.{Token as Placed}
use Rattle.js_lex.specs.declared.scan.Brace.{Brace}
use Rattle.js_lex.specs.declared.front.Front.{Front}
use Rattle.js_lex.specs.declared.front.Front.TheVariants as front
use Rattle.js_lex.specs.Tables.{reserved_words}
use Rattle.js_lex.specs.Units.{Text}
use Rattle.js_lex.specs.Places.{in_hole, braces, token}
use Rattle.js_lex.specs.Front.{word_or_name, find_word}
use Rattle.js_lex.specs.Grammar.{AreTokens}
use Rattle.js_lex.proofs.Whole.{put, tokens_from}
use Rattle.js_lex.proofs.ScanLemmas.{from_drop}
use Rattle.js_lex.proofs.Runs.{drop_here}
use Rattle.js_lex.proofs.Fronts.{front_at}
use Rattle.js_lex.proofs.LexLaws.{are_tokens}
use Rattle.js_print.specs.TokenText.{token_text, part_begin, part_end, units_text, spaced, texts}
use Rattle.js_print.proofs.Printable.{IsWord, IsPrintable, ArePrintable, MayStand, Nests, read_as, placed}
use Rattle.js_print.proofs.TokenSigns.{word_front, sign_front, word_some, sign_some}
use Rattle.js_print.proofs.TokenNames.{name_front}
use Rattle.js_print.proofs.TokenNumbers.{number_front, number_some}
use Rattle.js_print.proofs.TokenLiterals.{text_front, part_front}

-- the token is the front of its text, with a space behind it
token_front : (h : Bool) (k : TokenKind) (z : Text) → IsPrintable k → MayStand h k → front_at h (token_text k ++ 32 ∷ z) ≡ front.Token (read_as k) (length (token_text k) - 1)
token_front h (tok.Name w) z i s = name_front h w z i
token_front h (tok.Reserved x) z i s = word_front h x z
token_front h (tok.Number n) z i s = number_front h n z i
token_front h (tok.Text w) z i s = text_front h w z
token_front h (tok.Template x w) z i s = part_front h x w z s
token_front h (tok.Punctuator x) z i s = sign_front h x z s
token_front h tok.End z i s = absurd i
token_front h (tok.Bad f) z i s = absurd i

part_some : (x : TemplatePart) (w : Text) → 1 ≤ length (part_begin x ++ (units_text 96 w ++ part_end x))
part_some part.Whole w = omega arith
part_some part.Head w = omega arith
part_some part.Middle w = omega arith
part_some part.Tail w = omega arith

name_some : (w : Text) → IsWord w → 1 ≤ length w
name_some [] i = absurd i
name_some (u ∷ w) i = omega arith

token_some : (k : TokenKind) → IsPrintable k → 1 ≤ length (token_text k)
token_some (tok.Name w) i = name_some w i
token_some (tok.Reserved x) i = word_some x
token_some (tok.Number n) i = number_some n i
token_some (tok.Text w) i = omega arith
token_some (tok.Template x w) i = part_some x w
token_some (tok.Punctuator x) i = sign_some x
token_some tok.End i = absurd i
token_some (tok.Bad f) i = absurd i

-- ---- one token and its space

went : (bs : List Brace) (n u : ℕ) (w z : Text) → tokens_from (suc (length w) - 1) (n + (1 + (suc (length w) - 1))) false bs (w ++ 32 ∷ z) ≡ tokens_from 0 (n + (length (u ∷ w) + 1)) false bs z
went bs n u w z =
    let same : suc (length w) - 1 ≡ length w = omega arith in
    ap (λ (m : ℕ). tokens_from m (n + (1 + m)) false bs (w ++ 32 ∷ z)) same
    ∙ from_drop (length w) (n + (1 + length w)) false bs (w ++ 32 ∷ z)
    ∙ ap (tokens_from 0 (n + (1 + length w)) false bs) (drop_here w (32 ∷ z))
    ∙ ap (λ (m : ℕ). tokens_from 0 m false bs z) (omega arith)

one_token : (bs : List Brace) (n : ℕ) (k : TokenKind) (v z : Text) → 1 ≤ length v → front_at (in_hole bs) (v ++ 32 ∷ z) ≡ front.Token k (length v - 1) → tokens_from 0 n false bs (v ++ 32 ∷ z) ≡ token n false k ∷ tokens_from 0 (n + (length v + 1)) false (braces k bs) z
one_token bs n k [] z s e = absurd (omega (arith, s))
one_token bs n k (u ∷ w) z s e =
    ap (λ (f : Front). put n false bs f (λ more m ends cs. tokens_from more m ends cs (w ++ 32 ∷ z))) e
    ∙ ap (λ (ts : List Placed). token n false k ∷ ts) (went (braces k bs) n u w z)

-- ---- all of them

longer : (n : ℕ) (v z : Text) → (n + (length v + 1)) + length z ≡ n + length ((v ++ 32 ∷ []) ++ z)
longer n v z = omega (arith, length-append v (32 ∷ []), length-append (v ++ 32 ∷ []) z)

-- a word opens and closes no brace
word_braces : (w : Text) (o : Option Reserved) (bs : List Brace) → braces (word_or_name w o) bs ≡ bs
word_braces w None bs = refl
word_braces w (Some x) bs = refl

same_braces : (k : TokenKind) (bs : List Brace) → braces (read_as k) bs ≡ braces k bs
same_braces (tok.Name w) bs = word_braces w (find_word reserved_words w) bs
same_braces (tok.Reserved x) bs = refl
same_braces (tok.Number n) bs = refl
same_braces (tok.Text w) bs = refl
same_braces (tok.Template x w) bs = refl
same_braces (tok.Punctuator x) bs = refl
same_braces tok.End bs = refl
same_braces (tok.Bad f) bs = refl

one_text : (bs : List Brace) (n : ℕ) (k : TokenKind) (z : Text) → IsPrintable k → MayStand (in_hole bs) k → tokens_from 0 n false bs (spaced k ++ z) ≡ token n false (read_as k) ∷ tokens_from 0 (n + (length (token_text k) + 1)) false (braces k bs) z
one_text bs n k z i s =
    ap (tokens_from 0 n false bs) (append_assoc (token_text k) (32 ∷ []) z)
    ∙ one_token bs n (read_as k) (token_text k) z (token_some k i) (token_front (in_hole bs) k z i s)
    ∙ ap (λ (cs : List Brace). token n false (read_as k) ∷ tokens_from 0 (n + (length (token_text k) + 1)) false cs z) (same_braces k bs)

all_tokens : (bs : List Brace) (n : ℕ) (ks : List TokenKind) → ArePrintable ks → Nests bs ks → tokens_from 0 n false bs (texts ks) ≡ placed n ks ++ token (n + length (texts ks)) false tok.End ∷ []
all_tokens bs n [] i s = ap (λ (m : ℕ). token m false tok.End ∷ []) (omega arith)
all_tokens bs n (k ∷ ks) i s =
    let m = n + (length (token_text k) + 1) in
    one_text bs n k (texts ks) i.0 s.0
    ∙ ap (λ (ts : List Placed). token n false (read_as k) ∷ ts)
    (all_tokens (braces k bs) (n + (length (token_text k) + 1)) ks i.1 s.1 ∙ ap (λ (m : ℕ). placed (n + (length (token_text k) + 1)) ks ++ token m false tok.End ∷ []) (longer n (token_text k) (texts ks)))

-- The text of printable tokens has these tokens, and `End` behind them.
pub texts_are_tokens : (ks : List TokenKind) → ArePrintable ks → Nests [] ks → AreTokens (texts ks) (placed 0 ks ++ token (length (texts ks)) false tok.End ∷ [])
texts_are_tokens ks i s = subst (AreTokens (texts ks)) (all_tokens [] 0 ks i s ∙ ap (λ (m : ℕ). placed 0 ks ++ token m false tok.End ∷ []) (omega arith)) (are_tokens (texts ks))
