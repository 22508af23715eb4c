-- What the parser of heads answers, in the words of the stream.
use Rattle.std.proofs.Common.{◌≡◌, ℕ, zero, suc, ◌+◌, ◌<◌, ◌≤◌, inl, inr, Bool, true, false, List, [], ◌∷◌, ◌++◌, length, take, drop, map, refl, sym, ap, ap₂, ◌∙◌, subst, arith, append-nil, length-append, nat_lt, Option, Some, None, Result, Ok, Err}
use Rattle.std.specs.Prelude.{All, codes}
use Rattle.std.specs.List.{flat_map}
use Rattle.std.proofs.lemmas.Bool.{lt-ltb, le-ltb}
use Rattle.std.proofs.lemmas.List.{take-append-drop, drop-append-le, take_all, length-map}
use Rattle.std.proofs.lemmas.List.Elements.{All-head, All-tail, All-cons, All-nil}
use Rattle.httparse.specs.Grammar.{lf, print_end, print_blank, print_version, print_field, print_section, RequestHead, print_request, ReadsRequest, HasNoRequest, NeverHasRequest, MayBecomeRequest, EndsInTarget}
use Rattle.httparse.specs.Spans.{header_bytes, name_and_value, span_bytes, IsHeaderWithin, IsRequestWithin, IsRequestAt, IsRequestOf, RequestExceeds}
use Rattle.httparse.specs.Outcome.{OnInvalid, OnTooManyHeaders}
use Rattle.httparse.specs.declared.Error.{Error}
use Rattle.httparse.specs.declared.Status.{Status}
use Rattle.httparse.specs.declared.spans.HeaderSpan.{HeaderSpan}
use Rattle.httparse.specs.declared.spans.RequestSpans.{RequestSpans}
use Rattle.httparse.proofs.GrammarLemmas.{ReadsRequest-append, print_request-append}
use Rattle.http_message.specs.declared.chunks.ChunkReader.{ChunkReader}
use Rattle.http_message.specs.declared.extent.Extent.{Extent}
use Rattle.http_message.specs.declared.extent.Refusal.{Refusal}
use Rattle.http_message.specs.declared.extent.Refusal.TheVariants as refusal
use Rattle.http_message.specs.Extents.{extent_of}
use Rattle.http_message.specs.Fields.{Pairs, values_of, closes}
use Rattle.http_message.specs.Limits.{max_head, max_fields}
use Rattle.http_message.specs.Steps.{IsReading}
use Rattle.http_message.proofs.ChunkSteps.{reading_nothing}
use Rattle.http_message.proofs.TrailerSteps.{fields_long}
use Rattle.wd_base.specs.declared.http.ReqData.{ReqData}
use Rattle.http_in.specs.declared.head.HeadSeen.TheVariants as head_seen
use Rattle.http_in.specs.Head.{ReadsHead, RefusesHead, window, pairs_of, url_by, url_of, asked_by, asked}
use Rattle.http_in.specs.Steps.{IsHeadPastRoom, BeginsWith, IsBegun}
use Rattle.http_in.specs.Stream.{RefusesAsked, small_names}
use Rattle.http_in.proofs.HeadLaws.{head_seen as seen_head}

-- where no head comes, and the bytes end in no target, they are refused
pub never_head : (bytes : List ℕ) → NeverHasRequest (window bytes) → (EndsInTarget (window bytes) → ⊥) → RefusesHead bytes refusal.Malformed
never_head bytes never out = (
  λ h rest x. never [] h rest (subst (λ t. ReadsRequest t h rest) (sym (append-nil (window bytes))) x),
  λ m. elim m [ inl c ↦ never c.0 c.1 [] c.2 | inr e ↦ out e ],
)

pub never_none : (bytes : List ℕ) → NeverHasRequest bytes → HasNoRequest bytes
never_none bytes never h rest x = never [] h rest (subst (λ t. ReadsRequest t h rest) (sym (append-nil bytes)) x)

pub head_later : (bytes : List ℕ) → length bytes < max_head → HasNoRequest (window bytes) → MayBecomeRequest (window bytes) → BeginsWith bytes head_seen.Later
head_later bytes short none may = (λ h rest x. seen_head bytes h rest x none, refused)
  where
    refused : (why : Refusal) → RefusesHead bytes why → ⊥
    refused refusal.Malformed (n, never) = never may
    refused refusal.TooLarge (full, n, m) = omega (arith, full, short)

pub head_cut : (bytes : List ℕ) → max_head ≤ length bytes → HasNoRequest (window bytes) → MayBecomeRequest (window bytes) → BeginsWith bytes (head_seen.Refused refusal.TooLarge)
head_cut bytes full none may = inl (full, none, may)

-- ---- the room for fields

pub no_excess : (bytes : List ℕ) → length bytes ≤ max_head → RequestExceeds 5461 bytes → ⊥
no_excess bytes small (front, rest, is, h, reads, over) =
    let long = fields_long h.fields reads.0.fields in
    let whole : length bytes ≡ length front + length rest = ap length is ∙ length-append front rest in
    let printed : length (front ++ print_end lf) ≡ length (print_blank h.blank ++ (h.method ++ 32 ∷ (h.target ++ 32 ∷ (print_version h.minor ++ (print_end h.line_end ++ (print_section h.fields h.last ++ [])))))) = ap length (reads.1 ∙ print_request-append h []) in
    let a = length-append front (print_end lf) in
    let b = length-append (print_blank h.blank) (h.method ++ 32 ∷ (h.target ++ 32 ∷ (print_version h.minor ++ (print_end h.line_end ++ (print_section h.fields h.last ++ []))))) in
    let c = length-append h.method (32 ∷ (h.target ++ 32 ∷ (print_version h.minor ++ (print_end h.line_end ++ (print_section h.fields h.last ++ []))))) in
    let d = length-append h.target (32 ∷ (print_version h.minor ++ (print_end h.line_end ++ (print_section h.fields h.last ++ [])))) in
    let e = length-append (print_version h.minor) (print_end h.line_end ++ (print_section h.fields h.last ++ [])) in
    let f = length-append (print_end h.line_end) (print_section h.fields h.last ++ []) in
    let g = length-append (print_section h.fields h.last) [] in
    let i = length-append (flat_map print_field h.fields) (print_end h.last) in
    omega (arith, small, long, whole, printed, a, b, c, d, e, f, g, i, over)

-- ---- from the window to all bytes

taken_first : (n : ℕ) (xs : List ℕ) → length (take n xs) ≤ n
taken_first zero xs = omega arith
taken_first (suc n) [] = omega arith
taken_first (suc n) (x ∷ xs) = let r = taken_first n xs in omega (arith, r)

taken_of : (n : ℕ) (xs : List ℕ) → length (take n xs) ≤ length xs
taken_of zero xs = omega arith
taken_of (suc n) [] = omega arith
taken_of (suc n) (x ∷ xs) = let r = taken_of n xs in omega (arith, r)

pub head_behind : (bytes : List ℕ) (h : RequestHead) (size : ℕ) → size ≤ length (window bytes) → ReadsRequest (window bytes) h (drop size (window bytes)) → ReadsHead bytes h (drop size bytes)
head_behind bytes h size within x =
    let all : window bytes ++ drop max_head bytes ≡ bytes = take-append-drop max_head bytes in
    let rest : drop size (window bytes) ++ drop max_head bytes ≡ drop size bytes = sym (drop-append-le size (window bytes) (drop max_head bytes) within) ∙ ap (drop size) all in
    let e : length (window bytes) ≡ length (print_request h ++ drop size (window bytes)) = ap length x.1 in
    let a = length-append (print_request h) (drop size (window bytes)) in
    let t = taken_first max_head bytes in
    record {
      reads = subst (λ z. ReadsRequest bytes h z) rest (subst (λ z. ReadsRequest z h (drop size (window bytes) ++ drop max_head bytes)) all (ReadsRequest-append (window bytes) h (drop size (window bytes)) (drop max_head bytes) x));
      fits = omega (arith, e, a, t);
    }

-- ---- what a head asks

pub asked_many : (h : RequestHead) → max_fields < length h.fields → asked h ≡ Err refusal.TooLarge
unfolding asked
asked_many h many = let e : nat_lt max_fields (length h.fields) ≡ true = lt-ltb max_fields (length h.fields) many in rw e refl

pub pairs_are : (bytes : List ℕ) (fields : List HeaderSpan) (r : RequestSpans) (h : RequestHead) → length fields ≡ r.headers → IsRequestAt bytes fields r h → map (header_bytes bytes) fields ≡ pairs_of h
pairs_are bytes fields r h whole at = ap (map (header_bytes bytes)) (sym (take_all r.headers fields (omega (arith, whole)))) ∙ at.fields

pub url_is : (bytes : List ℕ) (fields : List HeaderSpan) (r : RequestSpans) (h : RequestHead) → length fields ≡ r.headers → IsRequestAt bytes fields r h → url_by (values_of (codes "host") (map (header_bytes bytes) fields)) (span_bytes bytes r.path) ≡ url_of h
unfolding url_of
url_is bytes fields r h whole at = ap₂ (λ p t. url_by (values_of (codes "host") p) t) (pairs_are bytes fields r h whole at) at.path

few_fields : (bytes : List ℕ) (fields : List HeaderSpan) (r : RequestSpans) (h : RequestHead) → length fields ≡ r.headers → r.headers ≤ max_fields → IsRequestAt bytes fields r h → length h.fields ≤ max_fields
few_fields bytes fields r h whole few at =
    let e : length fields ≡ length h.fields = sym (length-map fields (header_bytes bytes)) ∙ ap length (pairs_are bytes fields r h whole at) ∙ length-map h.fields name_and_value in
    omega (arith, e, whole, few)

asked_few : (h : RequestHead) → length h.fields ≤ max_fields → asked h ≡ asked_by (url_of h) (extent_of (pairs_of h))
unfolding asked
asked_few h few = let e : nat_lt max_fields (length h.fields) ≡ false = le-ltb max_fields (length h.fields) few in rw e refl

-- the parser found a head in the window w, and all its fields
pub record IsFoundHead (bytes w : List ℕ) (fields : List HeaderSpan) (r : RequestSpans) : Type 0 where
  pub window_is : w ≡ window bytes
  pub within : IsRequestWithin w fields r
  pub whole : length fields ≡ r.headers
  pub few : r.headers ≤ max_fields
  pub head : RequestHead
  pub at : IsRequestAt w fields r head

pub found_head : (bytes w : List ℕ) (fields : List HeaderSpan) (r : RequestSpans) → w ≡ window bytes → IsRequestWithin (window bytes) fields r → length fields ≡ r.headers → r.headers ≤ max_fields → IsRequestOf (window bytes) fields r → IsFoundHead bytes w fields r
found_head bytes w fields r is within whole few (h, at) = record {
  window_is = is;
  within = subst (λ t. IsRequestWithin t fields r) (sym is) within;
  whole = whole;
  few = few;
  head = h;
  at = subst (λ t. IsRequestAt t fields r h) (sym is) at;
}

asked_is : (bytes w : List ℕ) (fields : List HeaderSpan) (r : RequestSpans) (f : IsFoundHead bytes w fields r) (url : Option (List ℕ)) (extent : Result Extent Refusal)
    → url ≡ url_by (values_of (codes "host") (map (header_bytes w) fields)) (span_bytes w r.path) → extent ≡ extent_of (map (header_bytes w) fields) → asked f.head ≡ asked_by url extent
asked_is bytes w fields r f url extent u e =
    asked_few f.head (few_fields w fields r f.head f.whole f.few f.at)
    ∙ ap₂ asked_by (sym (url_is w fields r f.head f.whole f.at) ∙ sym u) (ap extent_of (sym (pairs_are w fields r f.head f.whole f.at)) ∙ sym e)

found_reads : (bytes w : List ℕ) (fields : List HeaderSpan) (r : RequestSpans) (f : IsFoundHead bytes w fields r) → ReadsHead bytes f.head (drop r.len bytes)
found_reads bytes w fields r f =
    let fits = f.within.section.len_fits in
    let same : length w ≡ length (window bytes) = ap length f.window_is in
    head_behind bytes f.head r.len (omega (arith, fits, same)) (subst (λ t. ReadsRequest t f.head (drop r.len t)) f.window_is f.at.reads)

-- a head that asks for no URL, or for a body that is refused
pub found_without : (bytes w : List ℕ) (fields : List HeaderSpan) (r : RequestSpans) → IsFoundHead bytes w fields r → None ≡ url_by (values_of (codes "host") (map (header_bytes w) fields)) (span_bytes w r.path) → RefusesAsked bytes refusal.Malformed
found_without bytes w fields r f u = record { head = f.head; rest = drop r.len bytes; reads = found_reads bytes w fields r f; refuses = asked_is bytes w fields r f None (extent_of (map (header_bytes w) fields)) u refl }

pub found_refused : (bytes w : List ℕ) (fields : List HeaderSpan) (r : RequestSpans) (url : List ℕ) (why : Refusal) → IsFoundHead bytes w fields r
    → Some url ≡ url_by (values_of (codes "host") (map (header_bytes w) fields)) (span_bytes w r.path) → Err why ≡ extent_of (map (header_bytes w) fields) → RefusesAsked bytes why
found_refused bytes w fields r url why f u e = record { head = f.head; rest = drop r.len bytes; reads = found_reads bytes w fields r f; refuses = asked_is bytes w fields r f (Some url) (Err why) u e }

-- a head that asks for a request
pub found_begun : (bytes w : List ℕ) (fields : List HeaderSpan) (r : RequestSpans) (url : List ℕ) (extent : Extent) (request : ReqData) (close : Bool) (reader : ChunkReader) → IsFoundHead bytes w fields r
    → Some url ≡ url_by (values_of (codes "host") (map (header_bytes w) fields)) (span_bytes w r.path) → Ok extent ≡ extent_of (map (header_bytes w) fields)
    → request ≡ record { method = span_bytes w r.method; url = url; fields = small_names (map (header_bytes w) fields); body = None }
    → close ≡ closes r.version (map (header_bytes w) fields) → reader ≡ record { at = 0; body = [] }
    → IsBegun bytes (record { request = request; close = close; extent = extent; size = r.len; reader = reader })
found_begun bytes w fields r url extent request close reader f u e made last fresh =
    let pairs = pairs_are w fields r f.head f.whole f.at in
    let within = f.within.section.len_fits in
    let same : length w ≡ length (window bytes) = ap length f.window_is in
    let fewer = taken_of max_head bytes in
    record {
      head = f.head;
      url = url;
      within = omega (arith, within, same, fewer);
      asks = record { reads = found_reads bytes w fields r f; asks = asked_is bytes w fields r f (Some url) (Ok extent) u e };
      made = made ∙ ap₂ (λ (m : List ℕ) (p : Pairs). let q : ReqData = record { method = m; url = url; fields = small_names p; body = None } in q) f.at.method pairs;
      close = last ∙ ap₂ closes f.at.version pairs;
      reading = subst (IsReading (drop r.len bytes)) (sym fresh) (reading_nothing (drop r.len bytes));
    }

-- every span of the fields lies in the window
pub found_within : (bytes w : List ℕ) (fields : List HeaderSpan) (r : RequestSpans) → IsFoundHead bytes w fields r → All (IsHeaderWithin (length w)) fields
found_within bytes w fields r f =
    let whole = f.whole in
    subst (All (IsHeaderWithin (length w))) (take_all r.headers fields (omega (arith, whole))) (wider (take r.headers fields) f.within.section.headers_fit)
  where
    wider : (hs : List HeaderSpan) → All (IsHeaderWithin r.len) hs → All (IsHeaderWithin (length w)) hs
    wider [] all = All-nil (IsHeaderWithin (length w))
    wider (h ∷ hs) all =
        let here = All-head (IsHeaderWithin r.len) h hs all in
        let l = f.within.section.len_fits in
        let name = here.0.1 in
        let value = here.1.1 in
        All-cons (IsHeaderWithin (length w)) h hs ((here.0.0, omega (arith, l, name)), (here.1.0, omega (arith, l, value))) (wider hs (All-tail (IsHeaderWithin r.len) h hs all))

-- a whole head that is past the room
pub head_many : (bytes w : List ℕ) (room : List HeaderSpan) (r : RequestSpans) → w ≡ window bytes → IsHeadPastRoom (window bytes) → IsRequestWithin w room r → IsRequestOf w room r → RefusesAsked bytes refusal.TooLarge
head_many bytes w room r is past within (h, at) =
    let fits = within.section.len_fits in
    let same : length w ≡ length (window bytes) = ap length is in
    let reads : ReadsRequest (window bytes) h (drop r.len (window bytes)) = subst (λ t. ReadsRequest t h (drop r.len t)) is at.reads in
    record { head = h; rest = drop r.len bytes; reads = head_behind bytes h r.len (omega (arith, fits, same)) reads; refuses = asked_many h (past h (drop r.len (window bytes)) reads) }

window_small : (bytes w : List ℕ) → w ≡ window bytes → length w ≤ max_head
window_small bytes w is =
    let same : length w ≡ length (window bytes) = ap length is in
    let t = taken_first max_head bytes in
    omega (arith, same, t)

-- in room for as many fields as the window can have, an error says that no head comes
pub wide_never : (bytes w : List ℕ) (e : Error) (room : ℕ) → w ≡ window bytes → room ≡ 5461 → OnInvalid {A = Status RequestSpans} (Err e) (NeverHasRequest w) → OnTooManyHeaders {A = Status RequestSpans} (Err e) (RequestExceeds room w) → NeverHasRequest (window bytes)
wide_never bytes w e room is size invalid many = subst NeverHasRequest is (invalid (λ t. no_excess w (window_small bytes w is) (subst (λ n. RequestExceeds n w) size (many (ap (λ (x : Error). let z : Result (Status RequestSpans) Error = Err x in z) t)))))
