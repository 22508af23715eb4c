-- The tokens of a text are those that are scanned, and no others.
use Rattle.std.proofs.Common.{◌≡◌, ℕ, ◌+◌, Bool, true, false, cond, List, [], ◌∷◌, ◌++◌, length, Result, Ok, Err, Option, Some, None, refl, sym, ◌∙◌, ap, subst, arith}
use Rattle.std.specs.Prelude.{◌==◌}
use Rattle.capnp_text.specs.declared.token.TokenKind.{TokenKind}
use Rattle.capnp_text.specs.declared.token.TokenKind.TheVariants as tok
use Rattle.capnp_text.specs.declared.token.Token.{Token}
use Rattle.capnp_text.specs.declared.scan.Open.{Open}
use Rattle.capnp_text.specs.declared.scan.Open.TheVariants as o
use Rattle.capnp_text.specs.declared.scan.Scan.{Scan}
use Rattle.capnp_text.specs.declared.scan.Stop.{Stop}
use Rattle.capnp_text.specs.declared.scan.Stop.TheVariants as stop
use Rattle.capnp_text.specs.declared.scan.Tokens.{Tokens}
use Rattle.capnp_text.specs.Chars.{byte_of, is_blank, is_digit, is_letter, is_inner, is_hex, is_escape, sign}
use Rattle.capnp_text.specs.Lexed.{IsCut, IsLexed, FirstBad, StopsSo, HasTokens}
use Rattle.capnp_text.specs.Run.{Stuck, taken, run}
use Rattle.capnp_text.specs.Scan.{Scanned, refused, with_token, signed, gap, behind, in_number, step_at, whole, Reading, on, next, begin, told, scanned}
use Rattle.capnp_text.proofs.LexComplete.{reading, told_so, cut_complete}
use Rattle.capnp_text.proofs.LexSound.{out, left, cut_sound}
use Rattle.capnp_text.proofs.Runs.{StopsAt, stops_at, run_stuck, run_append, run_step}

-- ---- places

place_taken : (p b : ℕ) (bs : List ℕ) (s : Reading) (made : Scanned) → ((n : Reading) → run next n bs ≡ Ok s → s.place ≡ n.place + length bs) → taken (on p made) b bs (λ n. run next n bs) ≡ Ok s → s.place ≡ p + length (b ∷ bs)
place_taken p b bs s (Ok n) i h = let e : s.place ≡ p + 1 + length bs = i (record { place = p + 1; scan = n }) h in omega arith
place_taken p b bs s (Err ts) i h = cc

pub place_run : (bs : List ℕ) (r s : Reading) → run next r bs ≡ Ok s → s.place ≡ r.place + length bs
place_run [] r s h = let same : r ≡ s = cc in sym (ap (λ (z : Reading). z.place) same) ∙ omega arith
place_run (b ∷ bs) r s h = place_taken r.place b bs s _ (λ n. place_run bs n s) h

-- ---- a bad byte tells the whole tokens before it

record Says (us : List Token) (made : Scanned) : Type 0 where
  said : (ts : List Token) → made ≡ Err ts → ts ≡ us

says_ok : (us : List Token) (s : Scan) → Says us (Ok s)
says_ok us s = record { said = λ ts h. cc }

says_refused : (us : List Token) → Says us (refused us)
says_refused us = record { said = λ ts h. (let e : us ≡ ts = cc in sym e) }

says_cond : (us : List Token) (r : Bool) (x y : Scanned) → Says us x → Says us y → Says us (cond r x y)
says_cond us true x y f g = f
says_cond us false x y f g = g

says_signed : (ts : List Token) (p : ℕ) (t : Option TokenKind) → Says ts (signed ts p t)
says_signed ts p (Some t) = says_ok ts _
says_signed ts p None = says_refused ts

says_gap : (ts : List Token) (p b : ℕ) → Says ts (gap ts p b)
says_gap ts p b =
    says_cond ts (is_blank b) _ _ (says_ok ts _) (says_cond ts (is_letter b) _ _ (says_ok ts _) (says_cond ts (b == 48) _ _ (says_ok ts _) (says_cond ts (is_digit b) _ _ (says_ok ts _)
    (says_cond ts (b == 35) _ _ (says_ok ts _) (says_cond ts (b == 34) _ _ (says_ok ts _) (says_signed ts p (sign b)))))))

says_behind : (ts : List Token) (p b : ℕ) → Says ts (behind ts p b)
says_behind ts p b = says_cond ts (is_inner b) _ _ (says_refused ts) (says_gap ts p b)

says_number : (ts : List Token) (q : ℕ) (w : List ℕ) (p b : ℕ) → Says (with_token ts q (tok.Number w)) (in_number ts q w p b)
says_number ts q w p b = says_cond _ (is_digit b) _ _ (says_ok _ _) (says_behind (with_token ts q (tok.Number w)) p b)

says_step : (x : Open) (ts : List Token) (p b : ℕ) → Says (whole ts x) (step_at ts x p b)
says_step o.Gap ts p b = says_gap ts p b
says_step o.Comment ts p b = says_cond ts (b == 10) _ _ (says_ok ts _) (says_ok ts _)
says_step (o.Name q w) ts p b = says_cond _ (is_inner b) _ _ (says_ok _ _) (says_gap (with_token ts q (tok.Name w)) p b)
says_step (o.Zero q) ts p b = says_cond _ (b == 120) _ _ (says_ok _ _) (says_number ts q (48 ∷ []) p b)
says_step (o.Number q w) ts p b = says_number ts q w p b
says_step (o.HexMark q) ts p b = says_cond ts (is_hex b) _ _ (says_ok ts _) (says_cond ts (b == 34) _ _ (says_ok ts _) (says_refused ts))
says_step (o.Hex q w) ts p b = says_cond _ (is_hex b) _ _ (says_ok _ _) (says_behind (with_token ts q (tok.Hex w)) p b)
says_step (o.Text q w) ts p b = says_cond ts (b == 34) _ _ (says_ok ts _) (says_cond ts (b == 92) _ _ (says_ok ts _) (says_cond ts (b == 10) _ _ (says_refused ts) (says_ok ts _)))
says_step (o.Escape q w) ts p b = says_cond ts (b == 120) _ _ (says_ok ts _) (says_cond ts (is_escape b) _ _ (says_ok ts _) (says_refused ts))
says_step (o.EscapeHex q w) ts p b = says_cond ts (is_hex b) _ _ (says_ok ts _) (says_refused ts)
says_step (o.EscapeLow q w h) ts p b = says_cond ts (is_hex b) _ _ (says_ok ts _) (says_refused ts)
says_step (o.DataBegin q) ts p b = says_cond ts (b == 34) _ _ (says_ok ts _) (says_cond ts (is_hex b) _ _ (says_ok ts _) (says_refused ts))
says_step (o.DataLow q w h) ts p b = says_cond ts (is_hex b) _ _ (says_ok ts _) (says_refused ts)
says_step (o.DataPair q w) ts p b = says_cond ts (b == 32) _ _ (says_ok ts _) (says_cond ts (b == 34) _ _ (says_ok ts _) (says_cond ts (is_hex b) _ _ (says_ok ts _) (says_refused ts)))
says_step (o.DataSpace q w) ts p b = says_cond ts (b == 32) _ _ (says_ok ts _) (says_cond ts (is_hex b) _ _ (says_ok ts _) (says_refused ts))

bad_at : Reading → Tokens
bad_at r = record { tokens = out r; stop = stop.BadByte; place = r.place }

bad_made : (r : Reading) (made : Scanned) (k : Tokens) → Says (out r) made → on r.place made ≡ Err k → k ≡ record { tokens = out r; stop = stop.BadByte; place = r.place }
bad_made r (Ok n) k f h = cc
bad_made r (Err ts) k f h =
    let e : record { tokens = ts; stop = stop.BadByte; place = r.place } ≡ k = cc in
    sym e ∙ ap (λ (z : List Token). let t : Tokens = record { tokens = z; stop = stop.BadByte; place = r.place } in t) (f.said ts refl)

next_bad : (r : Reading) (b : ℕ) (k : Tokens) → next r b ≡ Err k → k ≡ record { tokens = out r; stop = stop.BadByte; place = r.place }
next_bad r b k h = bad_made r _ k (says_step r.scan.begun r.scan.tokens r.place b) h

-- ---- the laws

no_bad : (open_ : Bool) → stop.BadByte ≡ cond open_ stop.Open stop.End → ⊥
no_bad true e = cc
no_bad false e = cc

ends_so : (bs : List ℕ) (ts : List Token) (n : ℕ) (open_ : Bool) → IsCut bs ts open_ → n ≡ length bs → StopsSo bs ts n (cond open_ stop.Open stop.End)
ends_so bs ts n true c e = (c, e)
ends_so bs ts n false c e = (c, e)

-- what is not read
pub record Unread (bs : List ℕ) (k : Stuck ℕ Tokens) : Type 0 where
  pub before : List ℕ
  pub reached : Reading
  pub is : bs ≡ before ++ k.item ∷ k.rest
  pub ran : run next begin before ≡ Ok reached
  pub bad : next reached k.item ≡ Err k.why
  pub why : k.why ≡ record { tokens = out reached; stop = stop.BadByte; place = reached.place }

pub unread : (bs : List ℕ) (k : Stuck ℕ Tokens) → run next begin bs ≡ Err k → Unread bs k
unread bs k h =
    let a : StopsAt next begin bs k = stops_at next bs begin k h in
    record { before = a.before; reached = a.reached; is = a.is; ran = a.ran; bad = a.refused; why = next_bad a.reached k.item k.why a.refused }

-- a cut is read to its end
cut_told : (bs : List ℕ) (ts : List Token) (open_ : Bool) (read : Result Reading (Stuck ℕ Tokens)) → run next begin bs ≡ read → IsCut bs ts open_ → (r : Reading) × (read ≡ Ok r) × (out r ≡ ts)
cut_told bs ts open_ (Ok r) e c =
    let same : told (Ok r) ≡ told_so ts open_ (length bs) = ap told (sym e) ∙ cut_complete bs ts open_ c in
    (r, refl, ap (λ (t : Tokens). t.tokens) same)
cut_told bs ts open_ (Err k) e c =
    let same : k.why ≡ told_so ts open_ (length bs) = ap told (sym e) ∙ cut_complete bs ts open_ c in
    absurd (no_bad open_ (sym (ap (λ (t : Tokens). t.stop) (unread bs k e).why) ∙ ap (λ (t : Tokens). t.stop) same))

no_text : (before : List ℕ) (b : ℕ) (r : Reading) (k : Tokens) → run next begin before ≡ Ok r → next r b ≡ Err k → (more : List ℕ) (us : List Token) → IsLexed (before ++ b ∷ more) us → ⊥
no_text before b r k h e more us c =
    let stuck : run next begin (before ++ b ∷ more) ≡ Err (record { why = k; item = b; rest = more }) = run_append next before (b ∷ more) begin r h ∙ run_stuck next r b more k e in
    let t : (s : Reading) × (run next begin (before ++ b ∷ more) ≡ Ok s) × (out s ≡ us) = cut_told (before ++ b ∷ more) us false (run next begin (before ++ b ∷ more)) refl c in
    let both = t.1 in cc

first_bad : (bs : List ℕ) (k : Stuck ℕ Tokens) → Unread bs k → FirstBad bs k.why.tokens k.why.place
first_bad bs k u =
    let e : u.reached.place ≡ 0 + length u.before = place_run u.before begin u.reached u.ran in
    record {
      before = u.before;
      byte = k.item;
      rest = k.rest;
      is = u.is;
      at = ap (λ (t : Tokens). t.place) u.why ∙ e ∙ omega arith;
      open_ = left u.reached;
      cut = subst (λ (z : List Token). IsCut u.before z (left u.reached)) (sym (ap (λ (t : Tokens). t.tokens) u.why)) (cut_sound u.before u.reached u.ran);
      refused = no_text u.before k.item u.reached k.why u.ran u.bad;
    }

has_told : (bs : List ℕ) (read : Result Reading (Stuck ℕ Tokens)) → run next begin bs ≡ read → HasTokens bs (told read)
has_told bs (Ok r) h =
    let e : r.place ≡ 0 + length bs = place_run bs begin r h in
    record { stops = ends_so bs (out r) r.place (left r) (cut_sound bs r h) (omega arith) }
has_told bs (Err k) h =
    let u : Unread bs k = unread bs k h in
    record { stops = subst (StopsSo bs k.why.tokens k.why.place) (sym (ap (λ (t : Tokens). t.stop) u.why)) (first_bad bs k u) }

-- The tokens that are scanned are those of the text.
pub has_tokens : (bs : List ℕ) → HasTokens bs (scanned bs)
has_tokens bs = has_told bs (run next begin bs) refl

-- ---- and no others

-- each state has an end at which no token is open
record Closes (r : Reading) : Type 0 where
  more : List ℕ
  reached : Reading
  ran : run next r more ≡ Ok reached
  closed : left reached ≡ false

closes : (p : ℕ) (ts : List Token) (x : Open) → Closes (reading p ts x)
closes p ts o.Gap = record { more = []; reached = reading p ts o.Gap; ran = refl; closed = refl }
closes p ts o.Comment = record { more = []; reached = reading p ts o.Comment; ran = refl; closed = refl }
closes p ts (o.Name q w) = record { more = []; reached = reading p ts (o.Name q w); ran = refl; closed = refl }
closes p ts (o.Zero q) = record { more = []; reached = reading p ts (o.Zero q); ran = refl; closed = refl }
closes p ts (o.Number q w) = record { more = []; reached = reading p ts (o.Number q w); ran = refl; closed = refl }
closes p ts (o.HexMark q) = record { more = 48 ∷ []; reached = reading (p + 1) ts (o.Hex q (48 ∷ [])); ran = refl; closed = refl }
closes p ts (o.Hex q w) = record { more = []; reached = reading p ts (o.Hex q w); ran = refl; closed = refl }
closes p ts (o.Text q w) = record { more = 34 ∷ []; reached = reading (p + 1) (with_token ts q (tok.Text w)) o.Gap; ran = refl; closed = refl }
closes p ts (o.Escape q w) = record { more = 110 ∷ 34 ∷ []; reached = reading (p + 1 + 1) (with_token ts q (tok.Text (w ++ 10 ∷ []))) o.Gap; ran = refl; closed = refl }
closes p ts (o.EscapeHex q w) = record { more = 48 ∷ 48 ∷ 34 ∷ []; reached = reading (p + 1 + 1 + 1) (with_token ts q (tok.Text (w ++ byte_of 48 48 ∷ []))) o.Gap; ran = refl; closed = refl }
closes p ts (o.EscapeLow q w h) = record { more = 48 ∷ 34 ∷ []; reached = reading (p + 1 + 1) (with_token ts q (tok.Text (w ++ byte_of h 48 ∷ []))) o.Gap; ran = refl; closed = refl }
closes p ts (o.DataBegin q) = record { more = 34 ∷ []; reached = reading (p + 1) (with_token ts q (tok.Data [])) o.Gap; ran = refl; closed = refl }
closes p ts (o.DataLow q w h) = record { more = 48 ∷ 34 ∷ []; reached = reading (p + 1 + 1) (with_token ts q (tok.Data (w ++ byte_of h 48 ∷ []))) o.Gap; ran = refl; closed = refl }
closes p ts (o.DataPair q w) = record { more = 34 ∷ []; reached = reading (p + 1) (with_token ts q (tok.Data w)) o.Gap; ran = refl; closed = refl }
closes p ts (o.DataSpace q w) = record { more = 48 ∷ 48 ∷ 34 ∷ []; reached = reading (p + 1 + 1 + 1) (with_token ts q (tok.Data (w ++ byte_of 48 48 ∷ []))) o.Gap; ran = refl; closed = refl }

bad_step : (before : List ℕ) (b : ℕ) (r : Reading) (made : Result Reading Tokens) → run next begin before ≡ Ok r → next r b ≡ made → ((more : List ℕ) (us : List Token) → IsLexed (before ++ b ∷ more) us → ⊥) → (k : Tokens) × (made ≡ Err k)
bad_step before b r (Err k) h e f = (k, refl)
bad_step before b r (Ok n) h e f =
    let c : Closes n = closes n.place n.scan.tokens n.scan.begun in
    let ran : run next begin (before ++ b ∷ c.more) ≡ Ok c.reached = run_append next before (b ∷ c.more) begin r h ∙ run_step next r n b c.more e ∙ c.ran in
    absurd (f c.more (out c.reached) (subst (IsCut (before ++ b ∷ c.more) (out c.reached)) c.closed (cut_sound (before ++ b ∷ c.more) c.reached ran)))

bad_only : (bs : List ℕ) (ts : List Token) (n : ℕ) → FirstBad bs ts n → record { tokens = ts; stop = stop.BadByte; place = n } ≡ scanned bs
bad_only bs ts n f =
    let c : (r : Reading) × (run next begin f.before ≡ Ok r) × (out r ≡ ts) = cut_told f.before ts f.open_ (run next begin f.before) refl f.cut in
    let r = c.0 in
    let d : (k : Tokens) × (next r f.byte ≡ Err k) = bad_step f.before f.byte r (next r f.byte) c.1 refl f.refused in
    let place : r.place ≡ 0 + length f.before = place_run f.before begin r c.1 in
    let at : n ≡ r.place = f.at ∙ omega arith in
    let why : d.0 ≡ record { tokens = out r; stop = stop.BadByte; place = r.place } = next_bad r f.byte d.0 d.1 in
    let ran : run next begin (f.before ++ f.byte ∷ f.rest) ≡ Err (record { why = d.0; item = f.byte; rest = f.rest }) = run_append next f.before (f.byte ∷ f.rest) begin r c.1 ∙ run_stuck next r f.byte f.rest d.0 d.1 in
    ap (λ (z : ℕ). let t : Tokens = record { tokens = ts; stop = stop.BadByte; place = z } in t) at
    ∙ ap (λ (z : List Token). let t : Tokens = record { tokens = z; stop = stop.BadByte; place = r.place } in t) (sym c.2)
    ∙ sym why ∙ sym (ap told ran) ∙ ap scanned (sym f.is)

stops_only : (bs : List ℕ) (ts : List Token) (n : ℕ) (s : Stop) → StopsSo bs ts n s → record { tokens = ts; stop = s; place = n } ≡ scanned bs
stops_only bs ts n stop.End c = ap (λ (z : ℕ). let t : Tokens = record { tokens = ts; stop = stop.End; place = z } in t) c.1 ∙ sym (cut_complete bs ts false c.0)
stops_only bs ts n stop.Open c = ap (λ (z : ℕ). let t : Tokens = record { tokens = ts; stop = stop.Open; place = z } in t) c.1 ∙ sym (cut_complete bs ts true c.0)
stops_only bs ts n stop.BadByte f = bad_only bs ts n f

-- The tokens of a text are those that are scanned.
pub tokens_only : (bs : List ℕ) (t : Tokens) → HasTokens bs t → t ≡ scanned bs
tokens_only bs t h = stops_only bs t.tokens t.place t.stop h.stops
