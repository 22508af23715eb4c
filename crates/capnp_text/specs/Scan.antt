-- What each byte does.
use Rattle.std.specs.Prelude.{◌≡◌, ℕ, ◌+◌, Bool, true, false, cond, ◌==◌, List, [], ◌∷◌, ◌++◌, Option, Some, None, Result, Ok, Err}
use Rattle.capnp_text.specs.declared.token.TokenKind.{TokenKind}
use Rattle.capnp_text.specs.declared.token.TokenKind.TheVariants as tok
use Rattle.capnp_text.specs.declared.token.Token.{Token}
use Rattle.capnp_text.specs.declared.scan.Open.{Open}
use Rattle.capnp_text.specs.declared.scan.Open.TheVariants as o
use Rattle.capnp_text.specs.declared.scan.Scan.{Scan}
use Rattle.capnp_text.specs.declared.scan.ScanEnd.{ScanEnd}
use Rattle.capnp_text.specs.declared.scan.ScanEnd.TheVariants.{Bad, NoMemory}
use Rattle.capnp_text.specs.declared.scan.Stop.TheVariants as stop
use Rattle.capnp_text.specs.declared.scan.Tokens.{Tokens}
use Rattle.capnp_text.specs.Chars.{is_blank, is_digit, is_letter, is_inner, is_hex, byte_of, is_escape, escaped, sign}
use Rattle.capnp_text.specs.Run.{Stuck, run}

-- the next scan, or the whole tokens before a bad byte
abbrev pub Scanned : Type 0
Scanned = Result Scan (List Token)

-- the byte is taken, with these whole tokens and this one begun
abbrev pub to : List Token → Open → Scanned
to ts x = Ok (record { tokens = ts; begun = x })

-- the byte belongs to no token; these are whole before it
abbrev pub refused : List Token → Scanned
refused ts = Err ts

-- one whole token more, at this offset
abbrev pub with_token : List Token → ℕ → TokenKind → List Token
with_token ts p t = ts ++ record { place = p; kind = t } ∷ []

-- a byte that is a token of its own, if it is one
abbrev pub signed : List Token → ℕ → Option TokenKind → Scanned
signed ts p (Some t) = to (with_token ts p t) o.Gap
signed ts p None = refused ts

-- where no token has begun, the byte b at place p
abbrev pub gap : List Token → ℕ → ℕ → Scanned
gap ts p b =
    cond (is_blank b) (to ts o.Gap)
    (cond (is_letter b) (to ts (o.Name p (b ∷ [])))
    (cond (b == 48) (to ts (o.Zero p))
    (cond (is_digit b) (to ts (o.Number p (b ∷ [])))
    (cond (b == 35) (to ts o.Comment) (cond (b == 34) (to ts (o.Text p [])) (signed ts p (sign b)))))))

-- behind a number
abbrev pub behind : List Token → ℕ → ℕ → Scanned
behind ts p b = cond (is_inner b) (refused ts) (gap ts p b)

-- within a name: a further byte of it, or what comes after it
abbrev pub in_name : List Token → ℕ → List ℕ → ℕ → ℕ → Scanned
in_name ts q w p b = cond (is_inner b) (to ts (o.Name q (w ++ b ∷ []))) (gap (with_token ts q (tok.Name w)) p b)

-- within a decimal number: a further digit, or what comes after it
abbrev pub in_number : List Token → ℕ → List ℕ → ℕ → ℕ → Scanned
in_number ts q w p b = cond (is_digit b) (to ts (o.Number q (w ++ b ∷ []))) (behind (with_token ts q (tok.Number w)) p b)

-- after a first digit `0`: `x` begins a hexadecimal form, and anything else is as in a number
abbrev pub in_zero : List Token → ℕ → ℕ → ℕ → Scanned
in_zero ts q p b = cond (b == 120) (to ts (o.HexMark q)) (in_number ts q (48 ∷ []) p b)

-- after `0x`: a hexadecimal digit, or the quote that begins a data literal
abbrev pub in_mark : List Token → ℕ → ℕ → Scanned
in_mark ts q b = cond (is_hex b) (to ts (o.Hex q (b ∷ []))) (cond (b == 34) (to ts (o.DataBegin q)) (refused ts))

-- within a hexadecimal number: a further digit, or what comes after it
abbrev pub in_hex : List Token → ℕ → List ℕ → ℕ → ℕ → Scanned
in_hex ts q w p b = cond (is_hex b) (to ts (o.Hex q (w ++ b ∷ []))) (behind (with_token ts q (tok.Hex w)) p b)

-- within a text: its closing quote, an escape, or a byte that stands for itself
abbrev pub in_text : List Token → ℕ → List ℕ → ℕ → Scanned
in_text ts q w b =
    cond (b == 34) (to (with_token ts q (tok.Text w)) o.Gap)
    (cond (b == 92) (to ts (o.Escape q w)) (cond (b == 10) (refused ts) (to ts (o.Text q (w ++ b ∷ [])))))

-- after a backslash: `x`, or one of the known escapes
abbrev pub in_escape : List Token → ℕ → List ℕ → ℕ → Scanned
in_escape ts q w b = cond (b == 120) (to ts (o.EscapeHex q w)) (cond (is_escape b) (to ts (o.Text q (w ++ escaped b ∷ []))) (refused ts))

-- after a backslash and `x`: the first hexadecimal digit
abbrev pub in_escape_hex : List Token → ℕ → List ℕ → ℕ → Scanned
in_escape_hex ts q w b = cond (is_hex b) (to ts (o.EscapeLow q w b)) (refused ts)

-- the second hexadecimal digit of an escape
abbrev pub in_escape_low : List Token → ℕ → List ℕ → ℕ → ℕ → Scanned
in_escape_low ts q w h b = cond (is_hex b) (to ts (o.Text q (w ++ byte_of h b ∷ []))) (refused ts)

-- in a data literal, between bytes: its closing quote, or a first digit
abbrev pub in_data : List Token → ℕ → List ℕ → ℕ → Scanned
in_data ts q w b = cond (b == 34) (to (with_token ts q (tok.Data w)) o.Gap) (cond (is_hex b) (to ts (o.DataLow q w b)) (refused ts))

-- in a data literal: the second digit of a byte
abbrev pub in_data_low : List Token → ℕ → List ℕ → ℕ → ℕ → Scanned
in_data_low ts q w h b = cond (is_hex b) (to ts (o.DataPair q (w ++ byte_of h b ∷ []))) (refused ts)

-- in a data literal, after a whole byte: a blank, a further byte, or the closing quote
abbrev pub in_pair : List Token → ℕ → List ℕ → ℕ → Scanned
in_pair ts q w b = cond (b == 32) (to ts (o.DataSpace q w)) (in_data ts q w b)

-- in a data literal, after a blank: a further blank or byte; the literal may not end here
abbrev pub in_space : List Token → ℕ → List ℕ → ℕ → Scanned
in_space ts q w b = cond (b == 32) (to ts (o.DataSpace q w)) (cond (is_hex b) (to ts (o.DataLow q w b)) (refused ts))

-- within a comment, which LF ends
abbrev pub in_comment : List Token → ℕ → Scanned
in_comment ts b = cond (b == 10) (to ts o.Gap) (to ts o.Comment)

-- what the byte at this offset does, by the token that is begun
abbrev pub step_at : List Token → Open → ℕ → ℕ → Scanned
step_at ts o.Gap p b = gap ts p b
step_at ts o.Comment p b = in_comment ts b
step_at ts (o.Name q w) p b = in_name ts q w p b
step_at ts (o.Zero q) p b = in_zero ts q p b
step_at ts (o.Number q w) p b = in_number ts q w p b
step_at ts (o.HexMark q) p b = in_mark ts q b
step_at ts (o.Hex q w) p b = in_hex ts q w p b
step_at ts (o.Text q w) p b = in_text ts q w b
step_at ts (o.Escape q w) p b = in_escape ts q w b
step_at ts (o.EscapeHex q w) p b = in_escape_hex ts q w b
step_at ts (o.EscapeLow q w h) p b = in_escape_low ts q w h b
step_at ts (o.DataBegin q) p b = in_data ts q [] b
step_at ts (o.DataLow q w h) p b = in_data_low ts q w h b
step_at ts (o.DataPair q w) p b = in_pair ts q w b
step_at ts (o.DataSpace q w) p b = in_space ts q w b

-- what the byte at this offset does to a scan
abbrev pub step : Scan → ℕ → ℕ → Scanned
step s p b = step_at s.tokens s.begun p b

-- ---- the end

-- the whole tokens, where the text ends here
abbrev pub whole : List Token → Open → List Token
whole ts (o.Name q w) = with_token ts q (tok.Name w)
whole ts (o.Zero q) = with_token ts q (tok.Number (48 ∷ []))
whole ts (o.Number q w) = with_token ts q (tok.Number w)
whole ts (o.Hex q w) = with_token ts q (tok.Hex w)
whole ts _ = ts

-- a token would stay open
abbrev pub stays_open : Open → Bool
stays_open o.Gap = false
stays_open o.Comment = false
stays_open (o.Name q w) = false
stays_open (o.Zero q) = false
stays_open (o.Number q w) = false
stays_open (o.Hex q w) = false
stays_open _ = true

-- the tokens of a text of this length that ends here, and whether it ends within one
abbrev pub tokens_at : Scan → ℕ → Tokens
tokens_at s n = record { tokens = whole s.tokens s.begun; stop = cond (stays_open s.begun) stop.Open stop.End; place = n }

-- ---- runs

-- what was read, and how many bytes
pub record Reading : Type 0 where
  pub place : ℕ
  pub scan : Scan

-- the reading after a step: one byte further, or stopped at a bad byte
abbrev pub on : ℕ → Scanned → Result Reading Tokens
on p (Ok s) = Ok (record { place = p + 1; scan = s })
on p (Err ts) = Err (record { tokens = ts; stop = stop.BadByte; place = p })

-- a reading that takes one byte more
abbrev pub next : Reading → ℕ → Result Reading Tokens
next r b = on r.place (step r.scan r.place b)

-- the reading before the first byte: no token, and none begun
abbrev pub begin : Reading
begin = record { place = 0; scan = record { tokens = []; begun = o.Gap } }

-- the tokens that a finished reading gives
abbrev pub told : Result Reading (Stuck ℕ Tokens) → Tokens
told (Ok r) = tokens_at r.scan r.place
told (Err k) = k.why

-- the tokens of a text
abbrev pub scanned : List ℕ → Tokens
scanned bs = told (run next begin bs)

-- what a function that makes a step ensures
abbrev pub Scans : Scanned → Result Scan ScanEnd → Type 0
Scans made (Ok s) = made ≡ Ok s
Scans made (Err (Bad ts)) = made ≡ Err ts
Scans made (Err NoMemory) = Unit {0}
