-- A reader of chunks goes on, and what it finds is what the bytes show.
use Rattle.std.proofs.Common.{◌≡◌, ℕ, zero, suc, ◌+◌, ◌-◌, ◌<◌, ◌≤◌, ◌⊎◌, inl, inr, List, [], ◌∷◌, ◌++◌, length, take, drop, get_or, slice_range, refl, sym, ap, ap₂, ◌∙◌, subst, arith, append_assoc, append-nil, length-append, length-drop, drop-drop}
use Rattle.std.specs.List.{concat}
use Rattle.std.proofs.lemmas.List.{drop-append-le, length-take-le, take-append-drop, take_all}
use Rattle.httparse.specs.Ascii.{crlf_bytes}
use Rattle.http_message.specs.declared.extent.Refusal.{Refusal}
use Rattle.http_message.specs.declared.extent.Refusal.TheVariants as refusal
use Rattle.http_message.specs.declared.chunks.ChunkReader.{ChunkReader}
use Rattle.http_message.specs.declared.chunks.End.TheVariants as end_at
use Rattle.http_message.specs.declared.chunks.End.{End}
use Rattle.http_message.specs.declared.chunks.Next.{Next}
use Rattle.http_message.specs.declared.chunks.Next.TheVariants as next
use Rattle.http_message.specs.declared.trailer.Trailer.{Trailer}
use Rattle.http_message.specs.declared.trailer.Trailer.TheVariants as trailer
use Rattle.http_message.specs.Limits.{max_body}
use Rattle.http_message.specs.Chunks.{ReadsSize, ReadsChunk, ReadsChunks, ReadsParts, ReadsLast, ReadsChunked, RefusesNext, RefusesChunked, NeverEnds, IsUnfinished, HasBadTrailer, ReadsTrailer, RefusesTrailer}
use Rattle.http_message.specs.Steps.{IsReading, ShowsNothing, ShowsEnd, ShowsNext, ShowsTrailer}
use Rattle.http_message.proofs.ChunkLaws.{Stops, parts_unique, parts_more, size_unique, never_size, refused_stops}

chunks_push : (b : List ℕ) (ds : List (List ℕ)) (r d q : List ℕ) → ReadsChunks b ds r → ReadsChunk r d q → ReadsChunks b (ds ++ d ∷ []) q
chunks_push b [] r d q e x = (q, subst (λ t. ReadsChunk t d q) (sym e) x, refl)
chunks_push b (c ∷ ds) r d q (mid, y, ys) x = (mid, y, chunks_push mid ds r d q ys x)

concat_push : (ds : List (List ℕ)) (d : List ℕ) → concat (ds ++ d ∷ []) ≡ concat ds ++ d
concat_push [] d = append-nil d
concat_push (c ∷ ds) d = ap (λ t. c ++ t) (concat_push ds d) ∙ sym (append_assoc c (concat ds) d)

-- a chunk more
pub parts_push : (b body r d q : List ℕ) → ReadsParts b body r → ReadsChunk r d q → length body + length d ≤ max_body → ReadsParts b (body ++ d) q
parts_push b body r d q x c h = record {
  parts = x.parts ++ d ∷ [];
  reads = chunks_push b x.parts r d q x.reads c;
  body_is = ap (λ t. t ++ d) x.body_is ∙ sym (concat_push x.parts d);
  fits = let l = length-append body d in omega (arith, l, h);
}

pub reading_nothing : (b : List ℕ) → IsReading b (record { at = 0; body = [] })
reading_nothing b = (omega arith, record { parts = []; reads = refl; body_is = refl; fits = omega arith })

pub reading_more : (b more : List ℕ) (reader : ChunkReader) → IsReading b reader → IsReading (b ++ more) reader
reading_more b more reader (h, x) =
    let l = length-append b more in
    (omega (arith, h, l), subst (ReadsParts (b ++ more) reader.body) (sym (drop-append-le reader.at b more h)) (parts_more b reader.body (drop reader.at b) more x))

pub reading_chunk : (b : List ℕ) (at start end : ℕ) (body : List ℕ) → IsReading b (record { at = at; body = body })
    → end + 2 ≤ length (drop at b) → length body + (end - start) ≤ max_body → length (slice_range (drop at b) start end) ≡ end - start
    → ReadsChunk (drop at b) (slice_range (drop at b) start end) (drop (end + 2) (drop at b))
    → IsReading b (record { at = at + (end + 2); body = body ++ slice_range (drop at b) start end })
reading_chunk b at start end body (h, x) within fits size c =
    let l = length-drop at b in
    let d : drop (end + 2) (drop at b) ≡ drop (at + (end + 2)) b = drop-drop (end + 2) at b in
    (omega (arith, h, within, l), subst (ReadsParts b (body ++ slice_range (drop at b) start end)) d (parts_push b body (drop at b) (slice_range (drop at b) start end) (drop (end + 2) (drop at b)) x c (omega (arith, fits, size))))

-- where nothing stands behind whole chunks, the body is unfinished
nothing_stops : (n : ℕ) (b : List ℕ) → ShowsNothing n b → Stops n b
nothing_stops n b s d r x = elim (below (n + length d) max_body) [ inl h ↦ absurd (s.chunk d r x h) | inr h ↦ h ]
  where
    below : (a c : ℕ) → (a ≤ c) ⊎ (c < a)
    below zero c = inl (omega arith)
    below (suc a) zero = inr (omega arith)
    below (suc a) (suc c) = elim (below a c) [ inl h ↦ inl (omega (arith, h)) | inr h ↦ inr (omega (arith, h)) ]

last_stops : (n : ℕ) (b r : List ℕ) → ReadsLast b r → Stops n b
last_stops n b r x d q c =
    let u = size_unique b 0 (length d) x.behind _ x.zero c.reads in
    let some = c.some in
    absurd (omega (arith, u.0, some))

pub unfinished : (b : List ℕ) (reader : ChunkReader) → IsReading b reader → ShowsNothing (length reader.body) (drop reader.at b) → IsUnfinished b
unfinished b reader (h, x) s = (
  λ body rest y.
      let u = parts_unique b reader.body body (drop reader.at b) y.behind x y.parts (nothing_stops (length reader.body) (drop reader.at b) s) (last_stops (length body) y.behind rest y.last) in
      s.last rest (subst (λ t. ReadsLast t rest) (sym u.1) y.last),
  λ why y.
      let u = parts_unique b reader.body y.body (drop reader.at b) y.behind x y.parts (nothing_stops (length reader.body) (drop reader.at b) s) (refused_stops (length y.body) y.behind why y.refuses) in
      let l : length y.body ≡ length reader.body = ap length (sym u.0) in
      s.refusal why (subst (λ t. RefusesNext (length reader.body) t why) (sym u.1) (subst (λ n. RefusesNext n y.behind why) l y.refuses)),
)

pub refused : (b : List ℕ) (reader : ChunkReader) (why : Refusal) → IsReading b reader → RefusesNext (length reader.body) (drop reader.at b) why → RefusesChunked b why
refused b reader why (h, x) r = record { body = reader.body; behind = drop reader.at b; parts = x; refuses = r }

pub whole : (b : List ℕ) (reader : ChunkReader) (rest : List ℕ) → IsReading b reader → ReadsLast (drop reader.at b) rest → ReadsChunked b reader.body rest
whole b reader rest (h, x) l = record { behind = drop reader.at b; parts = x; last = l }

-- ---- what stands behind a place

abbrev pub behind : List ℕ → ℕ → List ℕ
behind b i = slice_range b i (length b)

behind_is : (b : List ℕ) (i : ℕ) → behind b i ≡ drop i b
behind_is b i = take_all (length b - i) (drop i b) (omega (arith, length-drop i b))

pub next_seen : (n m : ℕ) (b : List ℕ) (i : ℕ) (x y : Next) → n ≡ m → x ≡ y → ShowsNext n (behind b i) x → ShowsNext m (drop i b) y
next_seen n m b i x y e f s = subst (λ k. ShowsNext k (drop i b) y) e (subst (λ t. ShowsNext n t y) (behind_is b i) (subst (ShowsNext n (behind b i)) f s))

pub trailer_seen : (b : List ℕ) (i : ℕ) (x y : Trailer) → x ≡ y → ShowsTrailer (behind b i) x → ShowsTrailer (drop i b) y
trailer_seen b i x y e s = subst (λ t. ShowsTrailer t y) (behind_is b i) (subst (ShowsTrailer (behind b i)) e s)

pub end_seen : (b : List ℕ) (i k : ℕ) (x y : End) → x ≡ y → ShowsEnd (behind (behind b i) k) x → ShowsEnd (drop k (drop i b)) y
end_seen b i k x y e s =
    let t : ShowsEnd (drop k (behind b i)) y = subst (λ t. ShowsEnd t y) (behind_is (behind b i) k) (subst (ShowsEnd (behind (behind b i) k)) e s) in
    subst (λ t. ShowsEnd (drop k t) y) (behind_is b i) t

pub behind_short : (b : List ℕ) (i k : ℕ) → length (behind b i) < k → length (drop i b) < k
behind_short b i k h = subst (λ t. length t < k) (behind_is b i) h

pub behind_long : (b : List ℕ) (i k : ℕ) → k ≤ length (behind b i) → k ≤ length (drop i b)
behind_long b i k h = subst (λ t. k ≤ length t) (behind_is b i) h

-- a reader goes on behind a chunk
pub reading_on : (b : List ℕ) (at start end : ℕ) (body grown : List ℕ) → IsReading b (record { at = at; body = body }) → ShowsNext (length body) (drop at b) (next.Chunk start end)
    → grown ≡ body ++ slice_range b (at + start) (at + end) → IsReading b (record { at = at + (end + 2); body = grown })
reading_on b at start end body grown reading (ordered, within, fits, chunk) e =
    let rest = drop at b in
    let size : length (slice_range rest start end) ≡ end - start = length-take-le (end - start) (drop start rest) (omega (arith, ordered, within, length-drop start rest)) in
    let k : (at + end) - (at + start) ≡ end - start = omega arith in
    let d : drop (at + start) b ≡ drop start rest = sym (drop-drop start at b) in
    let w : grown ≡ body ++ slice_range rest start end = e ∙ ap (λ t. body ++ t) (ap₂ (λ m t. take m t) k d) in
    subst (λ t. IsReading b (record { at = at + (end + 2); body = t })) (sym w) (reading_chunk b at start end body reading within fits size chunk)

-- ---- the end of a chunk

pub later_empty : (b : List ℕ) → length b ≡ 0 → ShowsEnd b end_at.Later
later_empty [] e = (omega arith, record { more = crlf_bytes; rest = []; is = refl })
later_empty (x ∷ b) e = absurd (omega (arith, e))

pub later_one : (b : List ℕ) → length b ≡ 1 → get_or b 0 0 ≡ 13 → ShowsEnd b end_at.Later
later_one [] e h = absurd (omega (arith, e))
later_one (x ∷ []) e h = (omega arith, record { more = 10 ∷ []; rest = []; is = ap (λ y. y ∷ 10 ∷ []) h })
later_one (x ∷ y ∷ b) e h = absurd (omega (arith, e))

drop_part : (part tail : List ℕ) → drop (length part) (part ++ tail) ≡ tail
drop_part [] tail = refl
drop_part (x ∷ part) tail = drop_part part tail

-- a line with a size, and behind it less than the data and CR LF, and nothing that keeps them from coming
nothing_yet : (n : ℕ) (b : List ℕ) (size : ℕ) (rest : List ℕ) → 0 < size → n + size ≤ max_body → ReadsSize b size rest → length rest < size + 2
    → ((part tail : List ℕ) → rest ≡ part ++ tail → length part ≡ size → NeverEnds tail → ⊥) → ShowsNothing n b
nothing_yet n b size rest some fits x short ends = record {
  chunk = λ part r c h.
      let u = size_unique b size (length part) rest _ x c.reads in
      let l : length rest ≡ length part + length (crlf_bytes ++ r) = ap length u.1 ∙ length-append part (crlf_bytes ++ r) in
      let k : length (crlf_bytes ++ r) ≡ 2 + length r = length-append crlf_bytes r in
      omega (arith, u.0, l, k, short);
  last = λ r l. let u = size_unique b size 0 rest l.behind x l.zero in omega (arith, u.0, some);
  refusal = refused_yet;
}
  where
    refused_yet : (why : Refusal) → RefusesNext n b why → ⊥
    refused_yet refusal.Malformed (inl never) = never_size b size rest never x
    refused_yet refusal.Malformed (inr (inl h)) =
        let u = size_unique b size (length h.part) rest _ x h.reads in
        ends h.part h.tail u.1 (sym u.0) h.bad
    refused_yet refusal.Malformed (inr (inr h)) = let u = size_unique b size 0 rest h.rest x h.reads in omega (arith, u.0, some)
    refused_yet refusal.TooLarge (inl h) =
        let u = size_unique b size h.size rest h.rest x h.reads in
        let large = h.large in
        omega (arith, u.0, large, fits)
    refused_yet refusal.TooLarge (inr h) = let u = size_unique b size 0 rest h.rest x h.reads in omega (arith, u.0, some)

-- less than the data
pub nothing_short : (n : ℕ) (b : List ℕ) (size : ℕ) (rest : List ℕ) → 0 < size → n + size ≤ max_body → ReadsSize b size rest → length rest < size → ShowsNothing n b
nothing_short n b size rest some fits x short =
    nothing_yet n b size rest some fits x (omega (arith, short)) (λ part tail e l bad.
    let k : length rest ≡ length part + length tail = ap length e ∙ length-append part tail in
    omega (arith, k, l, short))

-- the data, and less than CR LF
pub nothing_late : (n : ℕ) (b : List ℕ) (size : ℕ) (rest : List ℕ) → 0 < size → n + size ≤ max_body → ReadsSize b size rest → size ≤ length rest
    → ShowsEnd (drop size rest) end_at.Later → ShowsNothing n b
nothing_late n b size rest some fits x there (low, may) =
    let d = length-drop size rest in
    nothing_yet n b size rest some fits x (omega (arith, there, low, d)) (λ part tail e l bad.
    let t : drop size rest ≡ tail = ap₂ (λ k r. drop k r) (sym l) e ∙ drop_part part tail in
    bad may.more may.rest (ap (λ r. r ++ may.more) (sym t) ∙ may.is))

-- the data and CR LF
pub chunk_stands : (n : ℕ) (b : List ℕ) (line size : ℕ) → 0 < size → n + size ≤ max_body → line ≤ length b → ReadsSize b size (drop line b) → size ≤ length (drop line b)
    → ShowsEnd (drop size (drop line b)) end_at.Stands → ShowsNext n b (next.Chunk line (line + size))
chunk_stands n b line size some fits within x there e =
    let rest = drop line b in
    let part = slice_range b line (line + size) in
    let k : (line + size) - line ≡ size = omega arith in
    let p : part ≡ take size rest = ap (λ m. take m rest) k in
    let l : length part ≡ size = ap length p ∙ length-take-le size rest there in
    let m : line + (size + 2) ≡ line + size + 2 = omega arith in
    let d : drop 2 (drop size rest) ≡ drop (line + size + 2) b = drop-drop 2 size rest ∙ drop-drop (size + 2) line b ∙ ap (λ z. drop z b) m in
    let w : rest ≡ part ++ (crlf_bytes ++ drop (line + size + 2) b) = sym (take-append-drop size rest) ∙ ap₂ (λ f t. f ++ t) (sym p) (e ∙ ap (λ t. crlf_bytes ++ t) d) in
    let y : ReadsSize b size (part ++ (crlf_bytes ++ drop (line + size + 2) b)) = subst (ReadsSize b size) w x in
    let long : length rest ≡ length part + length (crlf_bytes ++ drop (line + size + 2) b) = ap length w ∙ length-append part (crlf_bytes ++ drop (line + size + 2) b) in
    let two = length-append crlf_bytes (drop (line + size + 2) b) in
    let behind = length-drop line b in (
      omega (arith, some),
      omega (arith, long, two, behind, l, within),
      omega (arith, fits),
      record { reads = subst (λ z. ReadsSize b z (part ++ (crlf_bytes ++ drop (line + size + 2) b))) (sym l) y; some = subst (λ z. 0 < z) (sym l) some },
    )

-- the data, and no CR LF
pub chunk_never : (n : ℕ) (b : List ℕ) (size : ℕ) (rest : List ℕ) → 0 < size → n + size ≤ max_body → ReadsSize b size rest → size ≤ length rest
    → ShowsEnd (drop size rest) end_at.Never → RefusesNext n b refusal.Malformed
chunk_never n b size rest some fits x there never =
    let part = take size rest in
    let l : length part ≡ size = length-take-le size rest there in
    inr (inl (record {
      part = part;
      tail = drop size rest;
      reads = subst (λ m. ReadsSize b m (part ++ drop size rest)) (sym l) (subst (ReadsSize b size) (sym (take-append-drop size rest)) x);
      some = subst (λ m. 0 < m) (sym l) some;
      fits = subst (λ m. n + m ≤ max_body) (sym l) fits;
      bad = never;
    }))

-- ---- a trailer behind a last chunk line

pub last_later : (n : ℕ) (b rest : List ℕ) → n ≤ max_body → ReadsSize b 0 rest → ShowsTrailer rest trailer.Later → ShowsNothing n b
last_later n b rest fits x (none, unrefused) = record {
  chunk = λ part r c h.
      let u = size_unique b 0 (length part) rest _ x c.reads in
      let some = c.some in
      omega (arith, u.0, some);
  last = λ r l. let u = size_unique b 0 0 rest l.behind x l.zero in none r (subst (λ t. ReadsTrailer t r) (sym u.1) l.trailer);
  refusal = refused_yet;
}
  where
    bad_trailer : (why : Refusal) → HasBadTrailer b why → ⊥
    bad_trailer why h = let u = size_unique b 0 0 rest h.rest x h.reads in unrefused why (subst (λ t. RefusesTrailer t why) (sym u.1) h.refuses)

    refused_yet : (why : Refusal) → RefusesNext n b why → ⊥
    refused_yet refusal.Malformed (inl never) = never_size b 0 rest never x
    refused_yet refusal.Malformed (inr (inl h)) =
        let u = size_unique b 0 (length h.part) rest _ x h.reads in
        let some = h.some in
        omega (arith, u.0, some)
    refused_yet refusal.Malformed (inr (inr h)) = bad_trailer refusal.Malformed h
    refused_yet refusal.TooLarge (inl h) =
        let u = size_unique b 0 h.size rest h.rest x h.reads in
        let large = h.large in
        omega (arith, u.0, large, fits)
    refused_yet refusal.TooLarge (inr h) = bad_trailer refusal.TooLarge h

pub last_refused : (n : ℕ) (b rest : List ℕ) (why : Refusal) → ReadsSize b 0 rest → RefusesTrailer rest why → RefusesNext n b why
last_refused n b rest refusal.Malformed x r = inr (inr (record { rest = rest; reads = x; refuses = r }))
last_refused n b rest refusal.TooLarge x r = inr (record { rest = rest; reads = x; refuses = r })
