-- What the parser of fields answers, in the words of a trailer.
use Rattle.std.proofs.Common.{◌≡◌, ℕ, zero, suc, ◌+◌, ◌*◌, ◌-◌, ◌<◌, ◌≤◌, inl, inr, List, [], ◌∷◌, ◌++◌, length, take, drop, sym, ap, ◌∙◌, subst, arith, append-nil, length-append}
use Rattle.std.specs.Prelude.{All}
use Rattle.std.specs.List.{flat_map}
use Rattle.std.proofs.lemmas.List.{take-append-drop, drop-append-le, length-map}
use Rattle.std.proofs.lemmas.List.Elements.{All-head, All-tail}
use Rattle.httparse.specs.Grammar.{Field, IsField, LineEnd, crlf, lf, print_end, print_field, print_section, ReadsSection, HasNoSection, NeverHasSection}
use Rattle.httparse.specs.Spans.{header_bytes, name_and_value, IsSectionWithin, IsSectionAt, IsSectionOf, SectionOverflows, SectionExceeds}
use Rattle.httparse.specs.declared.spans.HeaderSpan.{HeaderSpan}
use Rattle.httparse.proofs.GrammarLemmas.{ReadsSection-append}
use Rattle.http_message.specs.declared.extent.Refusal.{Refusal}
use Rattle.http_message.specs.declared.extent.Refusal.TheVariants as refusal
use Rattle.http_message.specs.declared.trailer.Section.{Section}
use Rattle.http_message.specs.declared.trailer.Section.TheVariants as section
use Rattle.http_message.specs.declared.trailer.Trailer.TheVariants as trailer
use Rattle.http_message.specs.Chunks.{ReadsFields, RefusesTrailer}
use Rattle.http_message.specs.Limits.{max_head}
use Rattle.http_message.specs.Steps.{ShowsTrailer}
use Rattle.http_message.specs.Trailers.{HasSection, IsPastRoom, IsSectionIn}
use Rattle.http_message.proofs.TrailerLaws.{front_fits}

taken_of : {X : Type 0} (n : ℕ) (xs : List X) → length (take n xs) ≤ length xs
taken_of zero xs = omega arith
taken_of (suc n) [] = omega arith
taken_of (suc n) (x ∷ xs) = let r = taken_of n xs in omega (arith, r)

pub taken_first : {X : Type 0} (n : ℕ) (xs : List X) → length (take n xs) ≤ n
taken_first zero xs = omega arith
taken_first (suc n) [] = omega arith
taken_first (suc n) (x ∷ xs) = let r = taken_first n xs in omega (arith, r)

-- ---- what the parser answers

fields_count : (bytes : List ℕ) (headers : List HeaderSpan) (size count : ℕ) (fields : List Field) (last : LineEnd) → IsSectionAt bytes 0 headers size count fields last → length fields ≤ length headers
fields_count bytes headers size count fields last at =
    let e : length (take count headers) ≡ length fields = sym (length-map (take count headers) (header_bytes bytes)) ∙ ap length at.fields_are ∙ length-map fields name_and_value in
    let t = taken_of count headers in
    omega (arith, e, t)

pub section_whole : (bytes : List ℕ) (headers : List HeaderSpan) (size count : ℕ) → length headers ≡ 64 → IsSectionWithin bytes headers size count → IsSectionOf bytes 0 headers (size, count) → IsSectionIn bytes (section.Whole size)
section_whole bytes headers size count l w (fields, last, at) =
    let few = fields_count bytes headers size count fields last at in
    (w.len_fits, (fields, record { last = last; reads = at.reads }, omega (arith, few, l)))

pub section_many : (bytes : List ℕ) (headers : List HeaderSpan) (size count : ℕ) → IsPastRoom bytes → IsSectionOf bytes 0 headers (size, count) → IsSectionIn bytes section.Many
section_many bytes headers size count past (fields, last, at) =
    let has : HasSection bytes fields (drop size bytes) = record { last = last; reads = at.reads } in
    (fields, drop size bytes, has, past fields (drop size bytes) has)

pub past_room : (bytes : List ℕ) → SectionOverflows 64 bytes → IsPastRoom bytes
past_room bytes o fields rest x = o [] fields x.last rest (subst (λ t. ReadsSection t fields x.last rest) (sym (append-nil bytes)) x.reads)

pub section_never : (bytes : List ℕ) → NeverHasSection bytes → IsSectionIn bytes section.Never
section_never bytes n = (
  λ fields last rest x. n [] fields last rest (subst (λ t. ReadsSection t fields last rest) (sym (append-nil bytes)) x),
  λ m. n m.0 m.1 m.2 [] m.3,
)

field_size : (f : Field) → length (print_field f) ≡ length f.name + (1 + (length f.raw + length (print_end f.end)))
field_size f = simp length-append (omega arith)

-- each field has three bytes or more
pub fields_long : (fields : List Field) → All IsField fields → 3 * length fields ≤ length (flat_map print_field fields)
fields_long [] all = omega arith
fields_long (f ∷ fs) all =
    let here = All-head IsField f fs all in
    let some = here.name.0 in
    let rest = fields_long fs (All-tail IsField f fs all) in
    let ends = end_long f.end in
    let e : length (flat_map print_field (f ∷ fs)) ≡ length (print_field f) + length (flat_map print_field fs) = length-append (print_field f) (flat_map print_field fs) in
    let n = field_size f in
    omega (arith, some, rest, ends, e, n)
  where
    end_long : (e : LineEnd) → 1 ≤ length (print_end e)
    end_long crlf = omega arith
    end_long lf = omega arith

pub no_excess : (bytes : List ℕ) → length bytes ≤ max_head → SectionExceeds 5461 bytes → ⊥
no_excess bytes small (front, rest, is, fields, reads, over) =
    let long = fields_long fields reads.0 in
    let whole : length bytes ≡ length front + length rest = ap length is ∙ length-append front rest in
    let printed : length (front ++ print_end lf) ≡ length (print_section fields lf ++ []) = ap length reads.1 in
    let a = length-append front (print_end lf) in
    let b = length-append (print_section fields lf) [] in
    let c = length-append (flat_map print_field fields) (print_end lf) in
    omega (arith, small, long, whole, printed, a, b, c, over)

-- ---- from the first bytes to all

window_is : (bytes : List ℕ) → take max_head bytes ++ drop max_head bytes ≡ bytes
window_is bytes = take-append-drop max_head bytes

drop_behind : (bytes : List ℕ) (size : ℕ) → size ≤ length (take max_head bytes) → drop size (take max_head bytes) ++ drop max_head bytes ≡ drop size bytes
drop_behind bytes size h = sym (drop-append-le size (take max_head bytes) (drop max_head bytes) h) ∙ ap (drop size) (window_is bytes)

fields_behind : (bytes : List ℕ) (fields : List Field) (size : ℕ) → size ≤ length (take max_head bytes) → HasSection (take max_head bytes) fields (drop size (take max_head bytes)) → ReadsFields bytes fields (drop size bytes)
fields_behind bytes fields size h x =
    let more = ReadsSection-append (take max_head bytes) fields x.last (drop size (take max_head bytes)) (drop max_head bytes) x.reads in
    record {
      last = x.last;
      reads = subst (λ t. ReadsSection bytes fields x.last t) (drop_behind bytes size h) (subst (λ t. ReadsSection t fields x.last (drop size (take max_head bytes) ++ drop max_head bytes)) (window_is bytes) more);
      fits = fits_in x.last x.reads;
    }
  where
    fits_in : (last : LineEnd) → ReadsSection (take max_head bytes) fields last (drop size (take max_head bytes)) → length (print_section fields last) ≤ max_head
    fits_in last r =
        let e : length (take max_head bytes) ≡ length (print_section fields last ++ drop size (take max_head bytes)) = ap length r.1 in
        let a = length-append (print_section fields last) (drop size (take max_head bytes)) in
        let t = taken_first max_head bytes in
        omega (arith, e, a, t)

pub seen : (bytes first : List ℕ) (f g : Section) → first ≡ take max_head bytes → f ≡ g → IsSectionIn first f → IsSectionIn (take max_head bytes) g
seen bytes first f g e k x = subst (λ t. IsSectionIn t g) e (subst (IsSectionIn first) k x)

pub trailer_whole : (bytes : List ℕ) (size : ℕ) → IsSectionIn (take max_head bytes) (section.Whole size) → ShowsTrailer bytes (trailer.Whole size)
trailer_whole bytes size (within, (fields, has, few)) =
    let l = taken_of max_head bytes in
    (omega (arith, within, l), record { fields = fields; reads = fields_behind bytes fields size within has; few = few })

pub trailer_many : (bytes : List ℕ) → IsSectionIn (take max_head bytes) section.Many → ShowsTrailer bytes (trailer.Refused refusal.TooLarge)
trailer_many bytes (fields, rest, has, many) =
    let last = has.last in
    let x = ReadsSection-append (take max_head bytes) fields last rest (drop max_head bytes) has.reads in
    let reads : ReadsSection bytes fields last (rest ++ drop max_head bytes) = subst (λ t. ReadsSection t fields last (rest ++ drop max_head bytes)) (window_is bytes) x in
    let e : length (take max_head bytes) ≡ length (print_section fields last ++ rest) = ap length has.reads.1 in
    let a = length-append (print_section fields last) rest in
    let t = taken_first max_head bytes in
    inr (fields, rest ++ drop max_head bytes, record { last = last; reads = reads; fits = omega (arith, e, a, t) }, many)

pub trailer_never : (bytes : List ℕ) → IsSectionIn (take max_head bytes) section.Never → ShowsTrailer bytes (trailer.Refused refusal.Malformed)
trailer_never bytes x = x

pub trailer_cut : (bytes : List ℕ) → max_head ≤ length bytes → IsSectionIn (take max_head bytes) section.Later → ShowsTrailer bytes (trailer.Refused refusal.TooLarge)
trailer_cut bytes full (none, may) = inl (full, none, may)

no_fields : (bytes : List ℕ) (fields : List Field) (rest : List ℕ) → HasNoSection (take max_head bytes) → ReadsFields bytes fields rest → ⊥
no_fields bytes fields rest none x = none fields x.last (take (max_head - length (print_section fields x.last)) rest) (x.reads.0, front_fits max_head (print_section fields x.last) rest bytes x.reads.1 x.fits)

pub trailer_later : (bytes : List ℕ) → length bytes < max_head → IsSectionIn (take max_head bytes) section.Later → ShowsTrailer bytes trailer.Later
trailer_later bytes short (none, may) = (λ rest x. no_fields bytes x.fields rest none x.reads, refused)
  where
    refused : (why : Refusal) → RefusesTrailer bytes why → ⊥
    refused refusal.Malformed (n, never) = never may
    refused refusal.TooLarge (inl (full, n, m)) = omega (arith, full, short)
    refused refusal.TooLarge (inr (fields, rest, x, many)) = no_fields bytes fields rest none x
