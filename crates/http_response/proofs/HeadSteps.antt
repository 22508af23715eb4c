-- What the parser of heads answers, in the words of a response.
use Rattle.std.proofs.Common.{◌≡◌, ℕ, zero, suc, ◌+◌, ◌-◌, ◌<◌, ◌≤◌, inl, inr, Bool, true, false, List, [], ◌∷◌, ◌++◌, length, take, drop, map, refl, sym, ap, ap₂, ◌∙◌, subst, arith, append-nil, length-append, nat_lt, Result, Ok, Err}
use Rattle.std.specs.Prelude.{All, codes}
use Rattle.std.specs.List.{flat_map}
use Rattle.std.proofs.lemmas.Bool.{lt-ltb, le-ltb}
use Rattle.std.proofs.lemmas.List.{take-append-drop, drop-append-le, take_all, length-map}
use Rattle.std.proofs.lemmas.List.Elements.{All-head, All-tail, All-cons, All-nil}
use Rattle.httparse.specs.Grammar.{lf, print_end, print_blank, print_version, print_reason, print_field, print_section, ResponseHead, print_response, status_code, ReadsResponse, HasNoResponse, NeverHasResponse, MayBecomeResponse}
use Rattle.httparse.specs.Spans.{header_bytes, name_and_value, IsHeaderWithin, IsResponseWithin, IsResponseAt, IsResponseOf, ResponseExceeds}
use Rattle.httparse.specs.Outcome.{OnInvalid, OnTooManyHeaders}
use Rattle.httparse.specs.declared.Error.{Error}
use Rattle.httparse.specs.declared.Status.{Status}
use Rattle.httparse.specs.declared.spans.HeaderSpan.{HeaderSpan}
use Rattle.httparse.specs.declared.spans.ResponseSpans.{ResponseSpans}
use Rattle.httparse.proofs.GrammarLemmas.{ReadsResponse-append, print_response-append}
use Rattle.http_message.specs.declared.extent.Refusal.{Refusal}
use Rattle.http_message.specs.declared.extent.Refusal.TheVariants as refusal
use Rattle.http_message.specs.Extents.{extent_of}
use Rattle.http_message.specs.Fields.{Pairs, values_of}
use Rattle.http_message.specs.Limits.{max_head, max_fields}
use Rattle.http_message.proofs.TrailerSteps.{fields_long, taken_first}
use Rattle.wd_base.specs.declared.http.Reply.{Reply}
use Rattle.wd_base.specs.declared.http.Why.TheVariants as why
use Rattle.http_response.specs.declared.reach.Reach.{Reach}
use Rattle.http_response.specs.declared.reach.Told.{Told}
use Rattle.http_response.specs.declared.reach.Told.TheVariants as told
use Rattle.http_response.specs.declared.find.Found.{Found}
use Rattle.http_response.specs.declared.find.Found.TheVariants as found
use Rattle.http_response.specs.declared.head.HeadSeen.TheVariants as head_seen
use Rattle.http_response.specs.Head.{ReadsHead, window, front, pairs_of, reach_of, field_reach, told_by, told_of}
use Rattle.http_response.specs.Response.{kept_fields}
use Rattle.http_response.specs.Steps.{HasManyFields, IsFoundIn, BeginsWith, Accepts, IsHead}
use Rattle.http_response.proofs.HeadLaws.{may_front, none_front}

-- ---- what bytes show that hold no whole head

pub head_cut : (to : Bool) (before : ℕ) (bytes : List ℕ) → before ≤ max_head → max_head - before ≤ length bytes → HasNoResponse (window before bytes) → MayBecomeResponse (window before bytes) → BeginsWith to before bytes (head_seen.Refused refusal.TooLarge)
head_cut to before bytes low full none may = inl (omega (arith, low, full), none, may_front before bytes may)

pub never_none : (bytes : List ℕ) → NeverHasResponse bytes → HasNoResponse bytes
never_none bytes never h rest x = never [] h rest (subst (λ t. ReadsResponse t h rest) (sym (append-nil bytes)) x)

-- where the window becomes no head, and what stands before its last place may not become one either
pub never_front : (w : List ℕ) (fields : List HeaderSpan) (x : Found) → HasNoResponse w → IsFoundIn w fields x → (x ≡ found.Later → ⊥) → MayBecomeResponse w → ⊥
never_front w fields (found.Whole r) none (within, (h, at)) later may = none h (drop r.len w) at.reads
never_front w fields found.Many none x later may = none x.head x.rest x.reads
never_front w fields found.Later none x later may = later refl
never_front w fields found.Never none never later (more, h, x) = never more h [] x

pub head_never : (to : Bool) (before : ℕ) (bytes w : List ℕ) (fields : List HeaderSpan) (x : Found) → w ≡ front before bytes → NeverHasResponse (window before bytes) → IsFoundIn w fields x → (x ≡ found.Later → ⊥) → BeginsWith to before bytes (head_seen.Refused refusal.Malformed)
head_never to before bytes w fields x is never found later =
    let none = none_front before bytes (never_none (window before bytes) never) in
    inl (none, never_front (front before bytes) fields x none (subst (λ t. IsFoundIn t fields x) is found) later)

pub head_last : (to : Bool) (before : ℕ) (bytes w : List ℕ) → before ≤ max_head → max_head - before ≤ length bytes → w ≡ front before bytes → NeverHasResponse (window before bytes) → MayBecomeResponse w → BeginsWith to before bytes (head_seen.Refused refusal.TooLarge)
head_last to before bytes w low full is never may = inl (omega (arith, low, full), never_none (window before bytes) never, subst MayBecomeResponse is may)

-- ---- the room for fields

pub no_excess : (bytes : List ℕ) → length bytes ≤ max_head → ResponseExceeds 5461 bytes → ⊥
no_excess bytes small (first, rest, is, h, reads, over) =
    let section = print_section h.fields h.last ++ [] in
    let line = print_end h.line_end ++ section in
    let long = fields_long h.fields reads.0.fields in
    let whole : length bytes ≡ length first + length rest = ap length is ∙ length-append first rest in
    let printed : length (first ++ print_end lf) ≡ length (print_blank h.blank ++ (print_version h.minor ++ 32 ∷ (h.digits ++ (print_reason h.reason ++ line)))) = ap length (reads.1 ∙ print_response-append h []) in
    let a = length-append first (print_end lf) in
    let b = length-append (print_blank h.blank) (print_version h.minor ++ 32 ∷ (h.digits ++ (print_reason h.reason ++ line))) in
    let c = length-append (print_version h.minor) (32 ∷ (h.digits ++ (print_reason h.reason ++ line))) in
    let d = length-append h.digits (print_reason h.reason ++ line) in
    let e = length-append (print_reason h.reason) line in
    let f = length-append (print_end h.line_end) section in
    let g = length-append (print_section h.fields h.last) [] in
    let i = length-append (flat_map print_field h.fields) (print_end h.last) in
    omega (arith, small, long, whole, printed, a, b, c, d, e, f, g, i, over)

-- with places for as many fields as the bytes can have, an error says that no head comes
pub wide_never : (bytes : List ℕ) (e : Error) (room : ℕ) → length bytes ≤ max_head → room ≡ 5461 → OnInvalid {A = Status ResponseSpans} (Err e) (NeverHasResponse bytes) → OnTooManyHeaders {A = Status ResponseSpans} (Err e) (ResponseExceeds room bytes) → NeverHasResponse bytes
wide_never bytes e room small size invalid many = invalid (λ t. no_excess bytes small (subst (λ n. ResponseExceeds n bytes) size (many (ap (λ (x : Error). let z : Result (Status ResponseSpans) Error = Err x in z) t))))

-- ---- from the window to all bytes

taken_of : (n : ℕ) (xs : List ℕ) → length (take n xs) ≤ length xs
taken_of zero xs = omega arith
taken_of (suc n) [] = omega arith
taken_of (suc n) (x ∷ xs) = let r = taken_of n xs in omega (arith, r)

pub head_behind : (before : ℕ) (bytes : List ℕ) (h : ResponseHead) (rest : List ℕ) → before ≤ max_head → ReadsResponse (window before bytes) h rest → ReadsHead before bytes h (rest ++ drop (max_head - before) bytes)
head_behind before bytes h rest low x =
    let all : window before bytes ++ drop (max_head - before) bytes ≡ bytes = take-append-drop (max_head - before) bytes in
    let e : length (window before bytes) ≡ length (print_response h ++ rest) = ap length x.1 in
    let a = length-append (print_response h) rest in
    let t = taken_first (max_head - before) bytes in
    record {
      reads = subst (λ z. ReadsResponse z h (rest ++ drop (max_head - before) bytes)) all (ReadsResponse-append (window before bytes) h rest (drop (max_head - before) bytes) x);
      fits = omega (arith, e, a, t, low);
    }

drop_behind : (before : ℕ) (bytes : List ℕ) (size : ℕ) → size ≤ length (window before bytes) → drop size (window before bytes) ++ drop (max_head - before) bytes ≡ drop size bytes
drop_behind before bytes size within = sym (drop-append-le size (window before bytes) (drop (max_head - before) bytes) within) ∙ ap (drop size) (take-append-drop (max_head - before) bytes)

told_many : (to : Bool) (h : ResponseHead) → max_fields < length h.fields → told_of to h ≡ Err refusal.TooLarge
unfolding told_of
told_many to h many = let e : nat_lt max_fields (length h.fields) ≡ true = lt-ltb max_fields (length h.fields) many in rw e refl

-- a whole head that has too many fields
pub head_many : (to : Bool) (before : ℕ) (bytes w : List ℕ) → before ≤ max_head → w ≡ window before bytes → HasManyFields w → BeginsWith to before bytes (head_seen.Refused refusal.TooLarge)
head_many to before bytes w low is x =
    inr (record { head = x.head; rest = x.rest ++ drop (max_head - before) bytes; reads = head_behind before bytes x.head x.rest low (subst (λ t. ReadsResponse t x.head x.rest) is x.reads); refuses = told_many to x.head x.many })

-- ---- what a head tells

-- the parser found a head in w, and all its fields
pub record IsFoundHead (w : List ℕ) (fields : List HeaderSpan) (r : ResponseSpans) : Type 0 where
  pub within : IsResponseWithin w fields r
  pub whole : length fields ≡ r.headers
  pub few : r.headers ≤ max_fields
  pub head : ResponseHead
  pub at : IsResponseAt w fields r head

pub found_head : (w : List ℕ) (fields : List HeaderSpan) (r : ResponseSpans) → IsResponseWithin w fields r → length fields ≡ r.headers → r.headers ≤ max_fields → IsResponseOf w fields r → IsFoundHead w fields r
found_head w fields r within whole few (h, at) = record { within = within; whole = whole; few = few; head = h; at = at }

-- every span of the fields lies in w
pub found_within : (w : List ℕ) (fields : List HeaderSpan) (r : ResponseSpans) → IsResponseWithin w fields r → length fields ≡ r.headers → All (IsHeaderWithin (length w)) fields
found_within w fields r within whole =
    subst (All (IsHeaderWithin (length w))) (take_all r.headers fields (omega (arith, whole))) (wider (take r.headers fields) within.section.headers_fit)
  where
    wider : (hs : List HeaderSpan) → All (IsHeaderWithin r.len) hs → All (IsHeaderWithin (length w)) hs
    wider [] all = All-nil (IsHeaderWithin (length w))
    wider (h ∷ hs) all =
        let here = All-head (IsHeaderWithin r.len) h hs all in
        let l = within.section.len_fits in
        let name = here.0.1 in
        let value = here.1.1 in
        All-cons (IsHeaderWithin (length w)) h hs ((here.0.0, omega (arith, l, name)), (here.1.0, omega (arith, l, value))) (wider hs (All-tail (IsHeaderWithin r.len) h hs all))

pairs_are : (w : List ℕ) (fields : List HeaderSpan) (r : ResponseSpans) (f : IsFoundHead w fields r) → map (header_bytes w) fields ≡ pairs_of f.head
pairs_are w fields r f = let whole = f.whole in ap (map (header_bytes w)) (sym (take_all r.headers fields (omega (arith, whole)))) ∙ f.at.fields

few_fields : (w : List ℕ) (fields : List HeaderSpan) (r : ResponseSpans) (f : IsFoundHead w fields r) → length f.head.fields ≤ max_fields
few_fields w fields r f =
    let e : length fields ≡ length f.head.fields = sym (length-map fields (header_bytes w)) ∙ ap length (pairs_are w fields r f) ∙ length-map f.head.fields name_and_value in
    let whole = f.whole in
    let few = f.few in
    omega (arith, e, whole, few)

told_few : (to : Bool) (h : ResponseHead) → length h.fields ≤ max_fields → told_of to h ≡ told_by to (status_code h) (pairs_of h)
unfolding told_of
told_few to h few = let e : nat_lt max_fields (length h.fields) ≡ false = le-ltb max_fields (length h.fields) few in rw e refl

told_is : (to : Bool) (w : List ℕ) (fields : List HeaderSpan) (r : ResponseSpans) (f : IsFoundHead w fields r) → told_of to f.head ≡ told_by to r.code (map (header_bytes w) fields)
told_is to w fields r f = told_few to f.head (few_fields w fields r f) ∙ ap₂ (told_by to) (sym f.at.code) (sym (pairs_are w fields r f))

found_reads : (before : ℕ) (bytes w : List ℕ) (fields : List HeaderSpan) (r : ResponseSpans) (f : IsFoundHead w fields r) → before ≤ max_head → w ≡ window before bytes → ReadsHead before bytes f.head (drop r.len bytes)
found_reads before bytes w fields r f low is =
    let fits = f.within.section.len_fits in
    let same : length w ≡ length (window before bytes) = ap length is in
    let reads : ReadsResponse (window before bytes) f.head (drop r.len (window before bytes)) = subst (λ t. ReadsResponse t f.head (drop r.len t)) is f.at.reads in
    subst (ReadsHead before bytes f.head) (drop_behind before bytes r.len (omega (arith, fits, same))) (head_behind before bytes f.head (drop r.len (window before bytes)) low reads)

pub found_refused : (to : Bool) (w : List ℕ) (fields : List HeaderSpan) (r : ResponseSpans) (why : Refusal) → IsFoundHead w fields r → Err why ≡ told_by to r.code (map (header_bytes w) fields) → Accepts to w (head_seen.Refused why)
found_refused to w fields r why f e = λ before bytes low is. inr (record { head = f.head; rest = drop r.len bytes; reads = found_reads before bytes w fields r f low is; refuses = told_is to w fields r f ∙ sym e })

found_tells : (to : Bool) (w : List ℕ) (fields : List HeaderSpan) (r : ResponseSpans) (what : Told) (f : IsFoundHead w fields r) → Ok what ≡ told_by to r.code (map (header_bytes w) fields) → (before : ℕ) (bytes : List ℕ) → before ≤ max_head → w ≡ window before bytes → IsHead to before bytes what r.len
found_tells to w fields r what f e before bytes low is =
    let fits = f.within.section.len_fits in
    let same : length w ≡ length (window before bytes) = ap length is in
    let fewer = taken_of (max_head - before) bytes in
    record {
      head = f.head;
      size_is = f.at.len;
      within = omega (arith, fits, same, fewer);
      tells = record { reads = found_reads before bytes w fields r f low is; tells = told_is to w fields r f ∙ sym e };
    }

pub tells_this : (r t : Result Told Refusal) (f what : Told) → r ≡ Ok f → f ≡ what → r ≡ t → Ok what ≡ t
tells_this r t f what is e told = cc

pub found_interim : (to : Bool) (w : List ℕ) (fields : List HeaderSpan) (r : ResponseSpans) → IsFoundHead w fields r → Ok told.Interim ≡ told_by to r.code (map (header_bytes w) fields) → Accepts to w (head_seen.Interim r.len)
found_interim to w fields r f e = found_tells to w fields r told.Interim f e

pub found_last : (to : Bool) (w : List ℕ) (fields : List HeaderSpan) (r : ResponseSpans) (reach : Reach) (reply : Reply) → IsFoundHead w fields r → Ok (told.Last reach) ≡ told_by to r.code (map (header_bytes w) fields)
    → reply ≡ record { status = r.code; fields = kept_fields (map (header_bytes w) fields); body = []; why = why.Service } → Accepts to w (head_seen.Last reply reach r.len)
unfolding found_tells
found_last to w fields r reach reply f e made = λ before bytes low is. (
  found_tells to w fields r (told.Last reach) f e before bytes low is,
  made ∙ ap₂ (λ (s : ℕ) (p : Pairs). let q : Reply = record { status = s; fields = kept_fields p; body = []; why = why.Service } in q) f.at.code (pairs_are w fields r f),
)

-- where no coding stands, the body goes as far as a length says
pub without_coding : (fields : Pairs) → values_of (codes "transfer-encoding") fields ≡ [] → reach_of (extent_of fields) ≡ field_reach fields
unfolding field_reach extent_of
without_coding fields e = rw e refl
