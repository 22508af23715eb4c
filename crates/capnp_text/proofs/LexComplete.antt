-- What is cut into pieces is scanned so.
use Rattle.std.proofs.Common.{◌≡◌, ℕ, ◌+◌, Bool, true, false, cond, List, [], ◌∷◌, ◌++◌, map, length, zero, suc, refl, sym, ◌∙◌, ap, append_assoc, arith, inl, inr}
use Rattle.std.specs.Prelude.{◌||◌, ◌==◌, flat_map}
use Rattle.std.proofs.lemmas.List.{append-nil, length-append, length-replicate}
use Rattle.std.proofs.lemmas.Bool.{eqb-true}
use Rattle.capnp_text.specs.declared.token.TokenKind.{TokenKind}
use Rattle.capnp_text.specs.declared.token.TokenKind.TheVariants as tok
use Rattle.capnp_text.specs.declared.token.Token.{Token}
use Rattle.capnp_text.specs.declared.scan.Open.{Open}
use Rattle.capnp_text.specs.declared.scan.Open.TheVariants as o
use Rattle.capnp_text.specs.declared.scan.Stop.TheVariants as stop
use Rattle.capnp_text.specs.declared.scan.Tokens.{Tokens}
use Rattle.capnp_text.specs.Chars.{is_blank, is_digit, is_letter, is_inner, is_hex, byte_of, is_escape, escaped}
use Rattle.capnp_text.specs.Lexed.{Letter, Raw, Escape, Code, letter_bytes, letter_value, is_raw, IsLetter, Pair, spaces, pair_bytes, pair_value, IsPair, Every, ArePairs, Piece, Blank, Comment, Name, Number, Hex, Text, Data, Sign, piece_bytes, IsLine, Passes, IsPiece, Apart, Ends, text_of, ArePieces, piece_tokens, tokens_of, LetterPart, PairPart, MaySpace, Tail, Nothing, OpenComment, OpenText, OpenHex, OpenData, tail_bytes, IsTail, is_open, IsCut}
use Rattle.capnp_text.specs.Run.{taken, run}
use Rattle.capnp_text.specs.Scan.{Scanned, to, with_token, gap, behind, in_text, in_escape, in_data, in_pair, in_space, step_at, Reading, on, next, told, scanned}
use Rattle.capnp_text.proofs.CharLemmas.{cond_yes, cond_no, or_first, or_second, apart, no_blank, not_yes, digit_no_letter, no_inner_no_digit, no_inner_no_hex, no_inner_apart, by_sign}
use Rattle.capnp_text.proofs.Runs.{run_step}

abbrev pub reading : ℕ → List Token → Open → Reading
reading p ts x = record { place = p; scan = record { tokens = ts; begun = x } }

-- what the bytes from place p on tell
abbrev pub tell : ℕ → List Token → Open → List ℕ → Tokens
tell p ts x bs = told (run next (reading p ts x) bs)

went : (p : ℕ) (ts us : List Token) (x y : Open) (b : ℕ) (bs : List ℕ) → step_at ts x p b ≡ to us y → tell p ts x (b ∷ bs) ≡ tell (p + 1) us y bs
went p ts us x y b bs e = ap told (run_step next (reading p ts x) (reading (p + 1) us y) b bs (ap (on p) e))

at_place : (p q : ℕ) (ts : List Token) (x : Open) (bs : List ℕ) → p ≡ q → tell p ts x bs ≡ tell q ts x bs
at_place p q ts x bs e = ap (λ (n : ℕ). tell n ts x bs) e

-- the same next byte does the same
alike : (p : ℕ) (ts us : List Token) (x y : Open) (b : ℕ) (bs : List ℕ) → step_at ts x p b ≡ step_at us y p b → tell p ts x (b ∷ bs) ≡ tell p us y (b ∷ bs)
alike p ts us x y b bs e = ap (λ (s : Scanned). told (taken (on p s) b bs (λ n. run next n bs))) e

-- ---- names and numbers

name_end : (p q : ℕ) (ts : List Token) (w rest : List ℕ) → Apart rest → tell p ts (o.Name q w) rest ≡ tell p (with_token ts q (tok.Name w)) o.Gap rest
name_end p q ts w [] h = refl
name_end p q ts w (b ∷ bs) h = alike p ts (with_token ts q (tok.Name w)) (o.Name q w) o.Gap b bs (cond_no (is_inner b) _ _ h)

name_run : (u : List ℕ) (p q : ℕ) (ts : List Token) (w rest : List ℕ) → Every (Passes is_inner) u → Apart rest → tell p ts (o.Name q w) (u ++ rest) ≡ tell (p + length u) (with_token ts q (tok.Name (w ++ u))) o.Gap rest
name_run [] p q ts w rest h a = name_end p q ts w rest a ∙ ap (λ (z : List ℕ). tell p (with_token ts q (tok.Name z)) o.Gap rest) (sym (append-nil w)) ∙ at_place _ _ _ o.Gap rest (omega arith)
name_run (b ∷ u) p q ts w rest h a =
    went p ts ts (o.Name q w) (o.Name q (w ++ b ∷ [])) b (u ++ rest) (cond_yes (is_inner b) _ _ h.0)
    ∙ name_run u (p + 1) q ts (w ++ b ∷ []) rest h.1 a
    ∙ ap (λ (z : List ℕ). tell (p + 1 + length u) (with_token ts q (tok.Name z)) o.Gap rest) (append_assoc w (b ∷ []) u) ∙ at_place _ _ _ o.Gap rest (omega arith)

behind_gap : (ts : List Token) (p b : ℕ) → is_inner b ≡ false → behind ts p b ≡ gap ts p b
behind_gap ts p b h = cond_no (is_inner b) _ _ h

number_end : (p q : ℕ) (ts : List Token) (w rest : List ℕ) → Apart rest → tell p ts (o.Number q w) rest ≡ tell p (with_token ts q (tok.Number w)) o.Gap rest
number_end p q ts w [] h = refl
number_end p q ts w (b ∷ bs) h = alike p ts (with_token ts q (tok.Number w)) (o.Number q w) o.Gap b bs (cond_no (is_digit b) _ _ (no_inner_no_digit b h) ∙ behind_gap (with_token ts q (tok.Number w)) p b h)

number_run : (u : List ℕ) (p q : ℕ) (ts : List Token) (w rest : List ℕ) → Every (Passes is_digit) u → Apart rest → tell p ts (o.Number q w) (u ++ rest) ≡ tell (p + length u) (with_token ts q (tok.Number (w ++ u))) o.Gap rest
number_run [] p q ts w rest h a = number_end p q ts w rest a ∙ ap (λ (z : List ℕ). tell p (with_token ts q (tok.Number z)) o.Gap rest) (sym (append-nil w)) ∙ at_place _ _ _ o.Gap rest (omega arith)
number_run (b ∷ u) p q ts w rest h a =
    went p ts ts (o.Number q w) (o.Number q (w ++ b ∷ [])) b (u ++ rest) (cond_yes (is_digit b) _ _ h.0)
    ∙ number_run u (p + 1) q ts (w ++ b ∷ []) rest h.1 a
    ∙ ap (λ (z : List ℕ). tell (p + 1 + length u) (with_token ts q (tok.Number z)) o.Gap rest) (append_assoc w (b ∷ []) u) ∙ at_place _ _ _ o.Gap rest (omega arith)

zero_run : (u : List ℕ) (p q : ℕ) (ts : List Token) (rest : List ℕ) → Every (Passes is_digit) u → Apart rest → tell p ts (o.Zero q) (u ++ rest) ≡ tell (p + length u) (with_token ts q (tok.Number (48 ∷ u))) o.Gap rest
zero_run [] p q ts [] h a = at_place _ _ _ o.Gap [] (omega arith)
zero_run [] p q ts (b ∷ rest) h a =
    alike p ts ts (o.Zero q) (o.Number q (48 ∷ [])) b rest (cond_no (b == 120) _ _ (no_inner_apart b 120 a refl))
    ∙ number_end p q ts (48 ∷ []) (b ∷ rest) a ∙ at_place _ _ _ o.Gap (b ∷ rest) (omega arith)
zero_run (b ∷ u) p q ts rest h a =
    alike p ts ts (o.Zero q) (o.Number q (48 ∷ [])) b (u ++ rest) (cond_no (b == 120) _ _ (apart is_digit b 120 h.0 refl))
    ∙ number_run (b ∷ u) p q ts (48 ∷ []) rest h a

hex_end : (p q : ℕ) (ts : List Token) (w rest : List ℕ) → Apart rest → tell p ts (o.Hex q w) rest ≡ tell p (with_token ts q (tok.Hex w)) o.Gap rest
hex_end p q ts w [] h = refl
hex_end p q ts w (b ∷ bs) h = alike p ts (with_token ts q (tok.Hex w)) (o.Hex q w) o.Gap b bs (cond_no (is_hex b) _ _ (no_inner_no_hex b h) ∙ behind_gap (with_token ts q (tok.Hex w)) p b h)

hex_run : (u : List ℕ) (p q : ℕ) (ts : List Token) (w rest : List ℕ) → Every (Passes is_hex) u → Apart rest → tell p ts (o.Hex q w) (u ++ rest) ≡ tell (p + length u) (with_token ts q (tok.Hex (w ++ u))) o.Gap rest
hex_run [] p q ts w rest h a = hex_end p q ts w rest a ∙ ap (λ (z : List ℕ). tell p (with_token ts q (tok.Hex z)) o.Gap rest) (sym (append-nil w)) ∙ at_place _ _ _ o.Gap rest (omega arith)
hex_run (b ∷ u) p q ts w rest h a =
    went p ts ts (o.Hex q w) (o.Hex q (w ++ b ∷ [])) b (u ++ rest) (cond_yes (is_hex b) _ _ h.0)
    ∙ hex_run u (p + 1) q ts (w ++ b ∷ []) rest h.1 a
    ∙ ap (λ (z : List ℕ). tell (p + 1 + length u) (with_token ts q (tok.Hex z)) o.Gap rest) (append_assoc w (b ∷ []) u) ∙ at_place _ _ _ o.Gap rest (omega arith)

-- ---- comments and texts

comment_run : (c : List ℕ) (p : ℕ) (ts : List Token) (rest : List ℕ) → Every IsLine c → tell p ts o.Comment (c ++ rest) ≡ tell (p + length c) ts o.Comment rest
comment_run [] p ts rest h = at_place _ _ ts o.Comment rest (omega arith)
comment_run (b ∷ c) p ts rest h = went p ts ts o.Comment o.Comment b (c ++ rest) (cond_no (b == 10) _ _ h.0) ∙ comment_run c (p + 1) ts rest h.1 ∙ at_place _ _ ts o.Comment rest (omega arith)

raw_step : (ts : List Token) (q : ℕ) (w : List ℕ) (b : ℕ) → is_raw b ≡ true → in_text ts q w b ≡ to ts (o.Text q (w ++ b ∷ []))
raw_step ts q w b h =
    let n = not_yes (b == 34 || (b == 92 || b == 10)) h in
    let m = or_second (b == 34) (b == 92 || b == 10) n in
    cond_no (b == 34) _ _ (or_first (b == 34) (b == 92 || b == 10) n) ∙ cond_no (b == 92) _ _ (or_first (b == 92) (b == 10) m) ∙ cond_no (b == 10) _ _ (or_second (b == 92) (b == 10) m)

escape_step : (ts : List Token) (q : ℕ) (w : List ℕ) (b : ℕ) → is_escape b ≡ true → in_escape ts q w b ≡ to ts (o.Text q (w ++ escaped b ∷ []))
escape_step ts q w b h = cond_no (b == 120) _ _ (apart is_escape b 120 h refl) ∙ cond_yes (is_escape b) _ _ h

one_letter : (l : Letter) (p q : ℕ) (ts : List Token) (w rest : List ℕ) → IsLetter l → tell p ts (o.Text q w) (letter_bytes l ++ rest) ≡ tell (p + length (letter_bytes l)) ts (o.Text q (w ++ letter_value l ∷ [])) rest
one_letter (Raw b) p q ts w rest h = went p ts ts (o.Text q w) (o.Text q (w ++ b ∷ [])) b rest (raw_step ts q w b h) ∙ at_place _ _ ts _ rest (omega arith)
one_letter (Escape b) p q ts w rest h =
    went p ts ts (o.Text q w) (o.Escape q w) 92 (b ∷ rest) refl
    ∙ went (p + 1) ts ts (o.Escape q w) (o.Text q (w ++ escaped b ∷ [])) b rest (escape_step ts q w b h) ∙ at_place _ _ ts _ rest (omega arith)
one_letter (Code a b) p q ts w rest h =
    went p ts ts (o.Text q w) (o.Escape q w) 92 (120 ∷ a ∷ b ∷ rest) refl
    ∙ went (p + 1) ts ts (o.Escape q w) (o.EscapeHex q w) 120 (a ∷ b ∷ rest) refl
    ∙ went (p + 1 + 1) ts ts (o.EscapeHex q w) (o.EscapeLow q w a) a (b ∷ rest) (cond_yes (is_hex a) _ _ h.0)
    ∙ went (p + 1 + 1 + 1) ts ts (o.EscapeLow q w a) (o.Text q (w ++ byte_of a b ∷ [])) b rest (cond_yes (is_hex b) _ _ h.1) ∙ at_place _ _ ts _ rest (omega arith)

text_run : (ls : List Letter) (p q : ℕ) (ts : List Token) (w rest : List ℕ) → Every IsLetter ls → tell p ts (o.Text q w) (flat_map letter_bytes ls ++ rest) ≡ tell (p + length (flat_map letter_bytes ls)) ts (o.Text q (w ++ map letter_value ls)) rest
text_run [] p q ts w rest h = ap (λ (z : List ℕ). tell p ts (o.Text q z) rest) (sym (append-nil w)) ∙ at_place _ _ ts _ rest (omega arith)
text_run (l ∷ ls) p q ts w rest h =
    let len : p + length (letter_bytes l) + length (flat_map letter_bytes ls) ≡ p + length (letter_bytes l ++ flat_map letter_bytes ls) = omega (arith, length-append (letter_bytes l) (flat_map letter_bytes ls)) in
    ap (λ (z : List ℕ). tell p ts (o.Text q w) z) (append_assoc (letter_bytes l) (flat_map letter_bytes ls) rest)
    ∙ one_letter l p q ts w (flat_map letter_bytes ls ++ rest) h.0
    ∙ text_run ls (p + length (letter_bytes l)) q ts (w ++ letter_value l ∷ []) rest h.1
    ∙ ap (λ (z : List ℕ). tell (p + length (letter_bytes l) + length (flat_map letter_bytes ls)) ts (o.Text q z) rest) (append_assoc w (letter_value l ∷ []) (map letter_value ls)) ∙ at_place _ _ ts _ rest len

-- ---- `0x` texts

space_run : (n p q : ℕ) (ts : List Token) (w rest : List ℕ) → tell p ts (o.DataSpace q w) (spaces n ++ rest) ≡ tell (p + n) ts (o.DataSpace q w) rest
space_run zero p q ts w rest = at_place _ _ ts _ rest (omega arith)
space_run (suc n) p q ts w rest = went p ts ts (o.DataSpace q w) (o.DataSpace q w) 32 (spaces n ++ rest) refl ∙ space_run n (p + 1) q ts w rest ∙ at_place _ _ ts _ rest (omega arith)

data_step : (ts : List Token) (q : ℕ) (w : List ℕ) (h : ℕ) → is_hex h ≡ true → in_data ts q w h ≡ to ts (o.DataLow q w h)
data_step ts q w h e = cond_no (h == 34) _ _ (apart is_hex h 34 e refl) ∙ cond_yes (is_hex h) _ _ e

pair_step : (ts : List Token) (q : ℕ) (w : List ℕ) (h : ℕ) → is_hex h ≡ true → in_pair ts q w h ≡ to ts (o.DataLow q w h)
pair_step ts q w h e = cond_no (h == 32) _ _ (apart is_hex h 32 e refl) ∙ data_step ts q w h e

space_step : (ts : List Token) (q : ℕ) (w : List ℕ) (h : ℕ) → is_hex h ≡ true → in_space ts q w h ≡ to ts (o.DataLow q w h)
space_step ts q w h e = cond_no (h == 32) _ _ (apart is_hex h 32 e refl) ∙ cond_yes (is_hex h) _ _ e

-- spaces and a first digit
low_run : (n h p q : ℕ) (ts : List Token) (w rest : List ℕ) → is_hex h ≡ true → tell p ts (o.DataPair q w) (spaces n ++ h ∷ rest) ≡ tell (p + n + 1) ts (o.DataLow q w h) rest
low_run zero h p q ts w rest e = went p ts ts (o.DataPair q w) (o.DataLow q w h) h rest (pair_step ts q w h e) ∙ at_place _ _ ts _ rest (omega arith)
low_run (suc n) h p q ts w rest e =
    went p ts ts (o.DataPair q w) (o.DataSpace q w) 32 (spaces n ++ h ∷ rest) refl ∙ space_run n (p + 1) q ts w (h ∷ rest)
    ∙ went (p + 1 + n) ts ts (o.DataSpace q w) (o.DataLow q w h) h rest (space_step ts q w h e) ∙ at_place _ _ ts _ rest (omega arith)

pair_length : (r : Pair) → length (pair_bytes r) ≡ r.spaces + 2
pair_length r = length-append (spaces r.spaces) (r.high ∷ r.low ∷ []) ∙ ap (λ (n : ℕ). n + 2) (length-replicate {A = ℕ} r.spaces 32)

one_pair : (r : Pair) (p q : ℕ) (ts : List Token) (w rest : List ℕ) → IsPair r → tell p ts (o.DataPair q w) (pair_bytes r ++ rest) ≡ tell (p + length (pair_bytes r)) ts (o.DataPair q (w ++ pair_value r ∷ [])) rest
one_pair r p q ts w rest h =
    let e = pair_length r in
    ap (λ (z : List ℕ). tell p ts (o.DataPair q w) z) (append_assoc (spaces r.spaces) (r.high ∷ r.low ∷ []) rest)
    ∙ low_run r.spaces r.high p q ts w (r.low ∷ rest) h.0
    ∙ went (p + r.spaces + 1) ts ts (o.DataLow q w r.high) (o.DataPair q (w ++ pair_value r ∷ [])) r.low rest (cond_yes (is_hex r.low) _ _ h.1) ∙ at_place _ _ ts _ rest (omega (arith, e))

pairs_run : (rs : List Pair) (p q : ℕ) (ts : List Token) (w rest : List ℕ) → Every IsPair rs → tell p ts (o.DataPair q w) (flat_map pair_bytes rs ++ rest) ≡ tell (p + length (flat_map pair_bytes rs)) ts (o.DataPair q (w ++ map pair_value rs)) rest
pairs_run [] p q ts w rest h = ap (λ (z : List ℕ). tell p ts (o.DataPair q z) rest) (sym (append-nil w)) ∙ at_place _ _ ts _ rest (omega arith)
pairs_run (r ∷ rs) p q ts w rest h =
    let len : p + length (pair_bytes r) + length (flat_map pair_bytes rs) ≡ p + length (pair_bytes r ++ flat_map pair_bytes rs) = omega (arith, length-append (pair_bytes r) (flat_map pair_bytes rs)) in
    ap (λ (z : List ℕ). tell p ts (o.DataPair q w) z) (append_assoc (pair_bytes r) (flat_map pair_bytes rs) rest)
    ∙ one_pair r p q ts w (flat_map pair_bytes rs ++ rest) h.0
    ∙ pairs_run rs (p + length (pair_bytes r)) q ts (w ++ pair_value r ∷ []) rest h.1
    ∙ ap (λ (z : List ℕ). tell (p + length (pair_bytes r) + length (flat_map pair_bytes rs)) ts (o.DataPair q z) rest) (append_assoc w (pair_value r ∷ []) (map pair_value rs)) ∙ at_place _ _ ts _ rest len

-- the first digit has no spaces before it
first_digit : (r : Pair) (p q : ℕ) (ts : List Token) (rest : List ℕ) → r.spaces ≡ 0 → IsPair r → tell p ts (o.DataBegin q) (pair_bytes r ++ rest) ≡ tell p ts (o.DataPair q []) (pair_bytes r ++ rest)
first_digit r p q ts rest z h =
    let bytes : pair_bytes r ++ rest ≡ r.high ∷ r.low ∷ rest = ap (λ (n : ℕ). (spaces n ++ r.high ∷ r.low ∷ []) ++ rest) z in
    ap (λ (b : List ℕ). tell p ts (o.DataBegin q) b) bytes
    ∙ alike p ts ts (o.DataBegin q) (o.DataPair q []) r.high (r.low ∷ rest) (sym (cond_no (r.high == 32) _ _ (apart is_hex r.high 32 h.0 refl)))
    ∙ ap (λ (b : List ℕ). tell p ts (o.DataPair q []) b) (sym bytes)

-- one pair or more
begin_run : (r : Pair) (rs : List Pair) (p q : ℕ) (ts : List Token) (rest : List ℕ) → ArePairs (r ∷ rs) → tell p ts (o.DataBegin q) (flat_map pair_bytes (r ∷ rs) ++ rest) ≡ tell (p + length (flat_map pair_bytes (r ∷ rs))) ts (o.DataPair q (map pair_value (r ∷ rs))) rest
begin_run r rs p q ts rest h =
    let bytes = append_assoc (pair_bytes r) (flat_map pair_bytes rs) rest in
    ap (λ (b : List ℕ). tell p ts (o.DataBegin q) b) bytes
    ∙ first_digit r p q ts (flat_map pair_bytes rs ++ rest) h.0 h.1
    ∙ ap (λ (b : List ℕ). tell p ts (o.DataPair q []) b) (sym bytes)
    ∙ pairs_run (r ∷ rs) p q ts [] rest (h.1, h.2)

-- ---- pieces

blank_step : (ts : List Token) (p b : ℕ) → is_blank b ≡ true → gap ts p b ≡ to ts o.Gap
blank_step ts p b h = cond_yes (is_blank b) _ _ h

letter_step : (ts : List Token) (p b : ℕ) → is_letter b ≡ true → gap ts p b ≡ to ts (o.Name p (b ∷ []))
letter_step ts p b h = cond_no (is_blank b) _ _ (no_blank is_letter b h refl refl refl refl) ∙ cond_yes (is_letter b) _ _ h

digit_front : (ts : List Token) (p b : ℕ) → is_digit b ≡ true → gap ts p b ≡ cond (b == 48) (to ts (o.Zero p)) (to ts (o.Number p (b ∷ [])))
digit_front ts p b h =
    cond_no (is_blank b) _ _ (no_blank is_digit b h refl refl refl refl) ∙ cond_no (is_letter b) _ _ (digit_no_letter b h)
    ∙ ap (λ (z : Scanned). cond (b == 48) (to ts (o.Zero p)) z) (cond_yes (is_digit b) _ _ h)

one_number : (b : ℕ) (u : List ℕ) (p : ℕ) (ts : List Token) (rest : List ℕ) (r : Bool) → (b == 48) ≡ r → gap ts p b ≡ cond r (to ts (o.Zero p)) (to ts (o.Number p (b ∷ []))) → Every (Passes is_digit) u → Apart rest → tell p ts o.Gap (b ∷ (u ++ rest)) ≡ tell (p + length (b ∷ u)) (with_token ts p (tok.Number (b ∷ u))) o.Gap rest
one_number b u p ts rest true e g h a =
    went p ts ts o.Gap (o.Zero p) b (u ++ rest) g ∙ zero_run u (p + 1) p ts rest h a
    ∙ ap (λ (z : ℕ). tell (p + 1 + length u) (with_token ts p (tok.Number (z ∷ u))) o.Gap rest) (sym (eqb-true b 48 e)) ∙ at_place _ _ _ o.Gap rest (omega arith)
one_number b u p ts rest false e g h a = went p ts ts o.Gap (o.Number p (b ∷ [])) b (u ++ rest) g ∙ number_run u (p + 1) p ts (b ∷ []) rest h a ∙ at_place _ _ _ o.Gap rest (omega arith)

no_token : (ts : List Token) (n : ℕ) (rest : List ℕ) → tell n ts o.Gap rest ≡ tell n (ts ++ []) o.Gap rest
no_token ts n rest = ap (λ (z : List Token). tell n z o.Gap rest) (sym (append-nil ts))

one_data : (rs : List Pair) (p : ℕ) (ts : List Token) (rest : List ℕ) → ArePairs rs → tell p ts o.Gap (48 ∷ 120 ∷ 34 ∷ (flat_map pair_bytes rs ++ 34 ∷ rest)) ≡ tell (p + 3 + length (flat_map pair_bytes rs) + 1) (with_token ts p (tok.Data (map pair_value rs))) o.Gap rest
one_data [] p ts rest h =
    went p ts ts o.Gap (o.Zero p) 48 (120 ∷ 34 ∷ 34 ∷ rest) refl ∙ went (p + 1) ts ts (o.Zero p) (o.HexMark p) 120 (34 ∷ 34 ∷ rest) refl ∙ went (p + 1 + 1) ts ts (o.HexMark p) (o.DataBegin p) 34 (34 ∷ rest) refl
    ∙ went (p + 1 + 1 + 1) ts (with_token ts p (tok.Data [])) (o.DataBegin p) o.Gap 34 rest refl ∙ at_place _ _ _ o.Gap rest (omega arith)
one_data (r ∷ rs) p ts rest h =
    let bytes = flat_map pair_bytes (r ∷ rs) ++ 34 ∷ rest in
    went p ts ts o.Gap (o.Zero p) 48 (120 ∷ 34 ∷ bytes) refl ∙ went (p + 1) ts ts (o.Zero p) (o.HexMark p) 120 (34 ∷ bytes) refl ∙ went (p + 1 + 1) ts ts (o.HexMark p) (o.DataBegin p) 34 bytes refl
    ∙ begin_run r rs (p + 1 + 1 + 1) p ts (34 ∷ rest) h
    ∙ went _ ts (with_token ts p (tok.Data (map pair_value (r ∷ rs)))) (o.DataPair p (map pair_value (r ∷ rs))) o.Gap 34 rest refl ∙ at_place _ _ _ o.Gap rest (omega arith)

one_piece : (c : Piece) (p : ℕ) (ts : List Token) (rest : List ℕ) → IsPiece c → Ends c rest → tell p ts o.Gap (piece_bytes c ++ rest) ≡ tell (p + length (piece_bytes c)) (ts ++ piece_tokens c p) o.Gap rest
one_piece (Blank b) p ts rest h a = went p ts ts o.Gap o.Gap b rest (blank_step ts p b h) ∙ no_token ts (p + 1) rest ∙ at_place _ _ _ o.Gap rest (omega arith)
one_piece (Comment c) p ts rest h a =
    let len : p + 1 + length c + 1 ≡ p + length (piece_bytes (Comment c)) = omega (arith, length-append c (10 ∷ [])) in
    went p ts ts o.Gap o.Comment 35 ((c ++ 10 ∷ []) ++ rest) refl ∙ ap (λ (z : List ℕ). tell (p + 1) ts o.Comment z) (append_assoc c (10 ∷ []) rest)
    ∙ comment_run c (p + 1) ts (10 ∷ rest) h ∙ went (p + 1 + length c) ts ts o.Comment o.Gap 10 rest refl ∙ no_token ts (p + 1 + length c + 1) rest ∙ at_place _ _ _ o.Gap rest len
one_piece (Name b w) p ts rest h a = went p ts ts o.Gap (o.Name p (b ∷ [])) b (w ++ rest) (letter_step ts p b h.0) ∙ name_run w (p + 1) p ts (b ∷ []) rest h.1 a ∙ at_place _ _ _ o.Gap rest (omega arith)
one_piece (Number b w) p ts rest h a = one_number b w p ts rest (b == 48) refl (digit_front ts p b h.0) h.1 a
one_piece (Hex b w) p ts rest h a =
    went p ts ts o.Gap (o.Zero p) 48 (120 ∷ b ∷ (w ++ rest)) refl ∙ went (p + 1) ts ts (o.Zero p) (o.HexMark p) 120 (b ∷ (w ++ rest)) refl
    ∙ went (p + 1 + 1) ts ts (o.HexMark p) (o.Hex p (b ∷ [])) b (w ++ rest) (cond_yes (is_hex b) _ _ h.0)
    ∙ hex_run w (p + 1 + 1 + 1) p ts (b ∷ []) rest h.1 a ∙ at_place _ _ _ o.Gap rest (omega arith)
one_piece (Text ls) p ts rest h a =
    let len : p + 1 + length (flat_map letter_bytes ls) + 1 ≡ p + length (piece_bytes (Text ls)) = omega (arith, length-append (flat_map letter_bytes ls) (34 ∷ [])) in
    went p ts ts o.Gap (o.Text p []) 34 ((flat_map letter_bytes ls ++ 34 ∷ []) ++ rest) refl ∙ ap (λ (z : List ℕ). tell (p + 1) ts (o.Text p []) z) (append_assoc (flat_map letter_bytes ls) (34 ∷ []) rest)
    ∙ text_run ls (p + 1) p ts [] (34 ∷ rest) h ∙ went _ ts (with_token ts p (tok.Text (map letter_value ls))) (o.Text p (map letter_value ls)) o.Gap 34 rest refl ∙ at_place _ _ _ o.Gap rest len
one_piece (Data rs) p ts rest h a =
    let len : p + 3 + length (flat_map pair_bytes rs) + 1 ≡ p + length (piece_bytes (Data rs)) = omega (arith, length-append (flat_map pair_bytes rs) (34 ∷ [])) in
    ap (λ (z : List ℕ). tell p ts o.Gap (48 ∷ 120 ∷ 34 ∷ z)) (append_assoc (flat_map pair_bytes rs) (34 ∷ []) rest) ∙ one_data rs p ts rest h ∙ at_place _ _ _ o.Gap rest len
one_piece (Sign b t) p ts rest h a =
    went p ts (with_token ts p t) o.Gap o.Gap b rest (by_sign (λ (c : ℕ) (u : TokenKind). gap ts p c ≡ to (with_token ts p u) o.Gap) refl refl refl refl refl refl refl refl refl refl b t h)
    ∙ at_place _ _ _ o.Gap rest (omega arith)

-- ---- tails

abbrev pub told_so : List Token → Bool → ℕ → Tokens
told_so ts open_ n = record { tokens = ts; stop = cond open_ stop.Open stop.End; place = n }

so_place : (ts : List Token) (open_ : Bool) (n m : ℕ) → n ≡ m → told_so ts open_ n ≡ told_so ts open_ m
so_place ts open_ n m e = ap (told_so ts open_) e

text_part : (part : List ℕ) (p q : ℕ) (ts : List Token) (w : List ℕ) → LetterPart part → tell p ts (o.Text q w) part ≡ told_so ts true (p + length part)
text_part part p q ts w (inl e) = ap (tell p ts (o.Text q w)) e ∙ so_place ts true _ _ (omega (arith, ap length e))
text_part part p q ts w (inr (inl e)) = ap (tell p ts (o.Text q w)) e ∙ so_place ts true _ _ (omega (arith, ap length e))
text_part part p q ts w (inr (inr (inl e))) = ap (tell p ts (o.Text q w)) e ∙ so_place ts true _ _ (omega (arith, ap length e))
text_part part p q ts w (inr (inr (inr x))) =
    ap (tell p ts (o.Text q w)) x.2
    ∙ went p ts ts (o.Text q w) (o.Escape q w) 92 (120 ∷ x.0 ∷ []) refl ∙ went (p + 1) ts ts (o.Escape q w) (o.EscapeHex q w) 120 (x.0 ∷ []) refl ∙ went (p + 1 + 1) ts ts (o.EscapeHex q w) (o.EscapeLow q w x.0) x.0 [] (cond_yes (is_hex x.0) _ _ x.1)
    ∙ so_place ts true _ _ (omega (arith, ap length x.2))

spaces_told : (n p q : ℕ) (ts : List Token) (w : List ℕ) → tell p ts (o.DataPair q w) (spaces n) ≡ told_so ts true (p + n)
spaces_told zero p q ts w = so_place ts true _ _ (omega arith)
spaces_told (suc n) p q ts w =
    went p ts ts (o.DataPair q w) (o.DataSpace q w) 32 (spaces n) refl ∙ ap (tell (p + 1) ts (o.DataSpace q w)) (sym (append-nil (spaces n)))
    ∙ space_run n (p + 1) q ts w [] ∙ so_place ts true _ _ (omega arith)

pair_part : (n : ℕ) (part : List ℕ) (p q : ℕ) (ts : List Token) (w : List ℕ) → PairPart n part → tell p ts (o.DataPair q w) part ≡ told_so ts true (p + length part)
pair_part n part p q ts w (inl e) =
    let len : p + n ≡ p + length part = omega (arith, ap length e, length-replicate {A = ℕ} n 32) in
    ap (tell p ts (o.DataPair q w)) e ∙ spaces_told n p q ts w ∙ so_place ts true _ _ len
pair_part n part p q ts w (inr x) =
    let len : p + n + 1 ≡ p + length part = omega (arith, ap length x.2, length-append (spaces n) (x.0 ∷ []), length-replicate {A = ℕ} n 32) in
    ap (tell p ts (o.DataPair q w)) x.2 ∙ low_run n x.0 p q ts w [] x.1 ∙ so_place ts true _ _ len

begin_part : (n : ℕ) (part : List ℕ) (p q : ℕ) (ts : List Token) → n ≡ 0 → PairPart n part → tell p ts (o.DataBegin q) part ≡ told_so ts true (p + length part)
begin_part n part p q ts z (inl e) =
    let none : part ≡ [] = e ∙ ap spaces z in
    ap (tell p ts (o.DataBegin q)) none ∙ so_place ts true _ _ (omega (arith, ap length none))
begin_part n part p q ts z (inr x) =
    let one : part ≡ x.0 ∷ [] = x.2 ∙ ap (λ (m : ℕ). spaces m ++ x.0 ∷ []) z in
    ap (tell p ts (o.DataBegin q)) one ∙ went p ts ts (o.DataBegin q) (o.DataLow q [] x.0) x.0 [] (data_step ts q [] x.0 x.1) ∙ so_place ts true _ _ (omega (arith, ap length one))

data_tail : (rs : List Pair) (n : ℕ) (part : List ℕ) (p q : ℕ) (ts : List Token) → ArePairs rs → MaySpace rs n → PairPart n part → tell p ts (o.DataBegin q) (flat_map pair_bytes rs ++ part) ≡ told_so ts true (p + length (flat_map pair_bytes rs ++ part))
data_tail [] n part p q ts h z k = begin_part n part p q ts z k
data_tail (r ∷ rs) n part p q ts h z k =
    let len = length-append (flat_map pair_bytes (r ∷ rs)) part in
    begin_run r rs p q ts part h ∙ pair_part n part (p + length (flat_map pair_bytes (r ∷ rs))) q ts (map pair_value (r ∷ rs)) k ∙ so_place ts true _ _ (omega (arith, len))

tail_told : (t : Tail) (p : ℕ) (ts : List Token) → IsTail t → tell p ts o.Gap (tail_bytes t) ≡ told_so ts (is_open t) (p + length (tail_bytes t))
tail_told Nothing p ts h = so_place ts false _ _ (omega arith)
tail_told (OpenComment c) p ts h =
    went p ts ts o.Gap o.Comment 35 c refl ∙ ap (tell (p + 1) ts o.Comment) (sym (append-nil c)) ∙ comment_run c (p + 1) ts [] h ∙ so_place ts false _ _ (omega arith)
tail_told (OpenText ls part) p ts h =
    let len = length-append (flat_map letter_bytes ls) part in
    went p ts ts o.Gap (o.Text p []) 34 (flat_map letter_bytes ls ++ part) refl ∙ text_run ls (p + 1) p ts [] part h.0
    ∙ text_part part (p + 1 + length (flat_map letter_bytes ls)) p ts (map letter_value ls) h.1 ∙ so_place ts true _ _ (omega (arith, len))
tail_told OpenHex p ts h = went p ts ts o.Gap (o.Zero p) 48 (120 ∷ []) refl ∙ went (p + 1) ts ts (o.Zero p) (o.HexMark p) 120 [] refl ∙ so_place ts true _ _ (omega arith)
tail_told (OpenData rs n part) p ts h =
    let bytes = flat_map pair_bytes rs ++ part in
    went p ts ts o.Gap (o.Zero p) 48 (120 ∷ 34 ∷ bytes) refl ∙ went (p + 1) ts ts (o.Zero p) (o.HexMark p) 120 (34 ∷ bytes) refl ∙ went (p + 1 + 1) ts ts (o.HexMark p) (o.DataBegin p) 34 bytes refl
    ∙ data_tail rs n part (p + 1 + 1 + 1) p ts h.0 h.1 h.2 ∙ so_place ts true _ _ (omega arith)

pieces_told : (cs : List Piece) (t : Tail) (p : ℕ) (ts : List Token) → ArePieces cs (tail_bytes t) → IsTail t → tell p ts o.Gap (text_of cs ++ tail_bytes t) ≡ told_so (ts ++ tokens_of p cs) (is_open t) (p + length (text_of cs ++ tail_bytes t))
pieces_told [] t p ts h k = tail_told t p ts k ∙ ap (λ (z : List Token). told_so z (is_open t) (p + length (tail_bytes t))) (sym (append-nil ts))
pieces_told (c ∷ cs) t p ts h k =
    let rest = text_of cs ++ tail_bytes t in
    let bytes = append_assoc (piece_bytes c) (text_of cs) (tail_bytes t) in
    let len : p + length (piece_bytes c) + length rest ≡ p + length (text_of (c ∷ cs) ++ tail_bytes t) = omega (arith, ap length bytes, length-append (piece_bytes c) rest) in
    ap (tell p ts o.Gap) bytes ∙ one_piece c p ts rest h.0 h.1 ∙ pieces_told cs t (p + length (piece_bytes c)) (ts ++ piece_tokens c p) h.2 k
    ∙ ap (λ (z : List Token). told_so z (is_open t) (p + length (piece_bytes c) + length rest)) (append_assoc ts (piece_tokens c p) (tokens_of (p + length (piece_bytes c)) cs))
    ∙ so_place _ (is_open t) _ _ len

-- What is cut into pieces is scanned so.
pub cut_complete : (bs : List ℕ) (ts : List Token) (open_ : Bool) → IsCut bs ts open_ → scanned bs ≡ told_so ts open_ (length bs)
cut_complete bs ts open_ c =
    ap (tell 0 [] o.Gap) c.text ∙ pieces_told c.pieces c.tail 0 [] c.are c.is_tail
    ∙ ap (λ (z : List Token). told_so z (is_open c.tail) (0 + length (text_of c.pieces ++ tail_bytes c.tail))) (sym c.found) ∙ ap (λ (r : Bool). told_so ts r (0 + length (text_of c.pieces ++ tail_bytes c.tail))) c.ended ∙ so_place ts open_ _ _ (omega (arith, ap length c.text))
