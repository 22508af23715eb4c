-- Bodies by chunks are read in one way alone, and what comes behind them changes nothing.
use Rattle.std.proofs.Common.{◌≡◌, ℕ, ◌+◌, ◌<◌, ◌≤◌, inl, inr, List, [], ◌∷◌, ◌++◌, length, refl, sym, ap, ap₂, ◌∙◌, subst, arith, append_assoc, append-nil, length-append}
use Rattle.std.specs.List.{concat}
use Rattle.std.proofs.lemmas.List.{append_cancel_left}
use Rattle.httparse.specs.Ascii.{crlf_bytes}
use Rattle.httparse.specs.Grammar.{chunk_size, ReadsChunkLine, NeverHasChunkLine}
use Rattle.httparse.proofs.ChunkLemmas.{chunk_line_unique, ReadsChunkLine-append}
use Rattle.http_message.specs.declared.extent.Refusal.{Refusal}
use Rattle.http_message.specs.declared.extent.Refusal.TheVariants as refusal
use Rattle.http_message.specs.Limits.{max_body}
use Rattle.http_message.specs.Chunks.{ReadsChunk, ReadsChunks, ReadsSize, ReadsParts, ReadsLast, ReadsChunked, RefusesChunked, RefusesNext, NeverEnds, HasBadEnd, HasLargeSize, HasBadTrailer, ReadsTrailer, RefusesTrailer}
use Rattle.http_message.proofs.TrailerLaws.{trailer_unique, trailer_more, trailer_refused, refused_trailer_more, refused_trailer_unique}

-- a chunk line

pub size_unique : (b : List ℕ) (n m : ℕ) (r q : List ℕ) → ReadsSize b n r → ReadsSize b m q → (n ≡ m) × (r ≡ q)
size_unique b n m r q x y =
    let u = chunk_line_unique b x.line y.line r q x.reads y.reads in
    (x.is ∙ ap chunk_size u.0 ∙ sym y.is, u.1)

pub size_more : (b : List ℕ) (n : ℕ) (r more : List ℕ) → ReadsSize b n r → ReadsSize (b ++ more) n (r ++ more)
size_more b n r more x = record { line = x.line; reads = ReadsChunkLine-append b x.line r more x.reads; is = x.is }

pub never_size : (b : List ℕ) (n : ℕ) (r : List ℕ) → NeverHasChunkLine b → ReadsSize b n r → ⊥
never_size b n r never x = never [] x.line r (subst (λ t. ReadsChunkLine t x.line r) (sym (append-nil b)) x.reads)

never_more : (b more : List ℕ) → NeverHasChunkLine b → NeverHasChunkLine (b ++ more)
never_more b more never y l r x = never (more ++ y) l r (subst (λ t. ReadsChunkLine t l r) (append_assoc b more y) x)

-- two splits of a list at one length are one
same_front : (d d' t t' : List ℕ) → length d ≡ length d' → d ++ t ≡ d' ++ t' → (d ≡ d') × (t ≡ t')
same_front [] [] t t' e x = (refl, x)
same_front [] (y ∷ d') t t' e x = absurd (omega (arith, e))
same_front (y ∷ d) [] t t' e x = absurd (omega (arith, e))
same_front (y ∷ d) (z ∷ d') t t' e x =
    let h : y ≡ z = cc in
    let r : d ++ t ≡ d' ++ t' = cc in
    let l : length d ≡ length d' = omega (arith, e) in
    let u = same_front d d' t t' l r in
    (ap₂ (λ a b. a ∷ b) h u.0, u.1)

-- chunks

pub chunk_unique : (b d d' r r' : List ℕ) → ReadsChunk b d r → ReadsChunk b d' r' → (d ≡ d') × (r ≡ r')
chunk_unique b d d' r r' x y =
    let u = size_unique b (length d) (length d') _ _ x.reads y.reads in
    let s = same_front d d' (crlf_bytes ++ r) (crlf_bytes ++ r') u.0 u.1 in
    (s.0, append_cancel_left crlf_bytes r r' s.1)

tail_more : (d r more : List ℕ) → (d ++ (crlf_bytes ++ r)) ++ more ≡ d ++ (crlf_bytes ++ (r ++ more))
tail_more d r more = append_assoc d (crlf_bytes ++ r) more ∙ ap (λ t. d ++ t) (append_assoc crlf_bytes r more)

pub chunk_more : (b d r more : List ℕ) → ReadsChunk b d r → ReadsChunk (b ++ more) d (r ++ more)
chunk_more b d r more x = record {
  reads = subst (ReadsSize (b ++ more) (length d)) (tail_more d r more) (size_more b (length d) (d ++ (crlf_bytes ++ r)) more x.reads);
  some = x.some;
}

chunks_more : (b : List ℕ) (ds : List (List ℕ)) (r more : List ℕ) → ReadsChunks b ds r → ReadsChunks (b ++ more) ds (r ++ more)
chunks_more b [] r more e = ap (λ t. t ++ more) e
chunks_more b (d ∷ ds) r more (mid, x, xs) = (mid ++ more, chunk_more b d mid more x, chunks_more mid ds r more xs)

-- no chunk begins the bytes that fits behind so many bytes
abbrev pub Stops : ℕ → List ℕ → Type 0
Stops n b = (d r : List ℕ) → ReadsChunk b d r → max_body < n + length d

no_more : (n : ℕ) (e : List ℕ) (es : List (List ℕ)) → n + length (e ++ concat es) ≤ max_body → max_body < n + length e → ⊥
no_more n e es fits large = omega (arith, fits, large, length-append e (concat es))

-- the chunks that fit, up to bytes behind which none fits, are these alone
chunks_unique : (n : ℕ) (b : List ℕ) (ds es : List (List ℕ)) (r q : List ℕ) → ReadsChunks b ds r → ReadsChunks b es q
    → n + length (concat ds) ≤ max_body → n + length (concat es) ≤ max_body → Stops (n + length (concat ds)) r → Stops (n + length (concat es)) q → (ds ≡ es) × (r ≡ q)
chunks_unique n b [] [] r q x y i j s t = (refl, sym x ∙ y)
chunks_unique n b [] (e ∷ es) r q x (mid, c, cs) i j s t =
    let large = s e mid (subst (λ z. ReadsChunk z e mid) x c) in
    let l : max_body < n + length e = omega (arith, large) in
    absurd (no_more n e es j l)
chunks_unique n b (d ∷ ds) [] r q (mid, c, cs) y i j s t =
    let large = t d mid (subst (λ z. ReadsChunk z d mid) y c) in
    let l : max_body < n + length d = omega (arith, large) in
    absurd (no_more n d ds i l)
chunks_unique n b (d ∷ ds) (e ∷ es) r q (mid, c, cs) (mid', c', cs') i j s t =
    let u = chunk_unique b d e mid mid' c c' in
    let a : n + length (d ++ concat ds) ≡ (n + length d) + length (concat ds) = omega (arith, length-append d (concat ds)) in
    let b' : n + length (e ++ concat es) ≡ (n + length e) + length (concat es) = omega (arith, length-append e (concat es)) in
    let l : n + length e ≡ n + length d = ap (λ z. n + length z) (sym u.0) in
    let k : n + length (e ++ concat es) ≡ (n + length d) + length (concat es) = omega (arith, b', l) in
    let v = chunks_unique (n + length d) mid ds es r q cs (subst (λ z. ReadsChunks z es q) (sym u.1) cs')
    (omega (arith, i, a)) (omega (arith, j, k)) (subst (λ z. Stops z r) a s) (subst (λ z. Stops z q) k t) in
    (ap₂ (λ z zs. z ∷ zs) u.0 v.0, v.1)

zero_add : (n : ℕ) → 0 + n ≡ n
zero_add n = omega arith

pub parts_more : (b body r more : List ℕ) → ReadsParts b body r → ReadsParts (b ++ more) body (r ++ more)
parts_more b body r more x = record { parts = x.parts; reads = chunks_more b x.parts r more x.reads; body_is = x.body_is; fits = x.fits }

pub parts_unique : (b body body' r q : List ℕ) → ReadsParts b body r → ReadsParts b body' q → Stops (length body) r → Stops (length body') q → (body ≡ body') × (r ≡ q)
parts_unique b body body' r q x y s t =
    let l : length (concat x.parts) ≡ length body = ap length (sym x.body_is) in
    let l' : length (concat y.parts) ≡ length body' = ap length (sym y.body_is) in
    let i = x.fits in
    let j = y.fits in
    let u = chunks_unique 0 b x.parts y.parts r q x.reads y.reads (omega (arith, i, l)) (omega (arith, j, l')) (subst (λ z. Stops z r) (sym l ∙ sym (zero_add (length (concat x.parts)))) s) (subst (λ z. Stops z q) (sym l' ∙ sym (zero_add (length (concat y.parts)))) t) in
    (x.body_is ∙ ap concat u.0 ∙ sym y.body_is, u.1)

-- what stands behind chunks in place of one

zero_stops : (n : ℕ) (b r : List ℕ) → ReadsSize b 0 r → Stops n b
zero_stops n b r z d q x =
    let u = size_unique b 0 (length d) r _ z x.reads in
    let some = x.some in
    absurd (omega (arith, u.0, some))

bad_end : (n : ℕ) (b d r : List ℕ) → HasBadEnd n b → ReadsChunk b d r → ⊥
bad_end n b d r h x =
    let u = size_unique b (length h.part) (length d) _ _ h.reads x.reads in
    let s = same_front h.part d h.tail (crlf_bytes ++ r) u.0 u.1 in
    h.bad [] r (append-nil h.tail ∙ s.1)

large_stops : (n : ℕ) (b : List ℕ) → HasLargeSize n b → Stops n b
large_stops n b h d r x =
    let u = size_unique b h.size (length d) h.rest _ h.reads x.reads in
    let large = h.large in
    omega (arith, large, u.0)

pub refused_stops : (n : ℕ) (b : List ℕ) (why : Refusal) → RefusesNext n b why → Stops n b
refused_stops n b refusal.Malformed (inl never) d r x = absurd (never_size b (length d) _ never x.reads)
refused_stops n b refusal.Malformed (inr (inl h)) d r x = absurd (bad_end n b d r h x)
refused_stops n b refusal.Malformed (inr (inr h)) d r x = zero_stops n b h.rest h.reads d r x
refused_stops n b refusal.TooLarge (inl h) d r x = large_stops n b h d r x
refused_stops n b refusal.TooLarge (inr h) d r x = zero_stops n b h.rest h.reads d r x

ends_more : (t more : List ℕ) → NeverEnds t → NeverEnds (t ++ more)
ends_more t more never y r e = never (more ++ y) r (sym (append_assoc t more y) ∙ e)

end_more : (n : ℕ) (b more : List ℕ) → HasBadEnd n b → HasBadEnd n (b ++ more)
end_more n b more h = record {
  part = h.part;
  tail = h.tail ++ more;
  reads = subst (ReadsSize (b ++ more) (length h.part)) (append_assoc h.part h.tail more) (size_more b (length h.part) (h.part ++ h.tail) more h.reads);
  some = h.some;
  fits = h.fits;
  bad = ends_more h.tail more h.bad;
}

trailer_bad_more : (b more : List ℕ) (why : Refusal) → HasBadTrailer b why → HasBadTrailer (b ++ more) why
trailer_bad_more b more why h = record { rest = h.rest ++ more; reads = size_more b 0 h.rest more h.reads; refuses = refused_trailer_more h.rest more why h.refuses }

next_more : (n : ℕ) (b more : List ℕ) (why : Refusal) → RefusesNext n b why → RefusesNext n (b ++ more) why
next_more n b more refusal.Malformed (inl never) = inl (never_more b more never)
next_more n b more refusal.Malformed (inr (inl h)) = inr (inl (end_more n b more h))
next_more n b more refusal.Malformed (inr (inr h)) = inr (inr (trailer_bad_more b more refusal.Malformed h))
next_more n b more refusal.TooLarge (inl h) = inl (record { size = h.size; rest = h.rest ++ more; reads = size_more b h.size h.rest more h.reads; large = h.large })
next_more n b more refusal.TooLarge (inr h) = inr (trailer_bad_more b more refusal.TooLarge h)

-- a last chunk line is not refused for its size, nor for what it is no chunk line
last_next : (n : ℕ) (b r : List ℕ) (why : Refusal) → n ≤ max_body → ReadsLast b r → RefusesNext n b why → ⊥
last_next n b r refusal.Malformed fits x (inl never) = never_size b 0 x.behind never x.zero
last_next n b r refusal.Malformed fits x (inr (inl h)) =
    let u = size_unique b 0 (length h.part) _ _ x.zero h.reads in
    let some = h.some in
    omega (arith, u.0, some)
last_next n b r refusal.Malformed fits x (inr (inr h)) =
    let u = size_unique b 0 0 x.behind h.rest x.zero h.reads in
    trailer_refused x.behind r refusal.Malformed x.trailer (subst (λ z. RefusesTrailer z refusal.Malformed) (sym u.1) h.refuses)
last_next n b r refusal.TooLarge fits x (inl h) =
    let u = size_unique b 0 h.size _ _ x.zero h.reads in
    let large = h.large in
    omega (arith, u.0, large, fits)
last_next n b r refusal.TooLarge fits x (inr h) =
    let u = size_unique b 0 0 x.behind h.rest x.zero h.reads in
    trailer_refused x.behind r refusal.TooLarge x.trailer (subst (λ z. RefusesTrailer z refusal.TooLarge) (sym u.1) h.refuses)

apart : (n : ℕ) (b : List ℕ) → n ≤ max_body → RefusesNext n b refusal.Malformed → RefusesNext n b refusal.TooLarge → ⊥
apart n b fits (inl never) (inl h) = never_size b h.size h.rest never h.reads
apart n b fits (inl never) (inr h) = never_size b 0 h.rest never h.reads
apart n b fits (inr (inl e)) (inl h) =
    let u = size_unique b (length e.part) h.size _ _ e.reads h.reads in
    let small = e.fits in
    let large = h.large in
    omega (arith, u.0, small, large)
apart n b fits (inr (inl e)) (inr h) =
    let u = size_unique b (length e.part) 0 _ _ e.reads h.reads in
    let some = e.some in
    omega (arith, u.0, some)
apart n b fits (inr (inr t)) (inl h) =
    let u = size_unique b 0 h.size _ _ t.reads h.reads in
    let large = h.large in
    omega (arith, u.0, large, fits)
apart n b fits (inr (inr t)) (inr h) =
    let u = size_unique b 0 0 t.rest h.rest t.reads h.reads in
    refused_trailer_unique t.rest t.refuses (subst (λ z. RefusesTrailer z refusal.TooLarge) (sym u.1) h.refuses)

-- two refusals behind the same chunks are one
next_unique : (n : ℕ) (b : List ℕ) (why why' : Refusal) → n ≤ max_body → RefusesNext n b why → RefusesNext n b why' → why ≡ why'
next_unique n b refusal.Malformed refusal.Malformed fits x y = refl
next_unique n b refusal.TooLarge refusal.TooLarge fits x y = refl
next_unique n b refusal.Malformed refusal.TooLarge fits x y = absurd (apart n b fits x y)
next_unique n b refusal.TooLarge refusal.Malformed fits x y = absurd (apart n b fits y x)

-- whole bodies

pub chunked_more : (b body r more : List ℕ) → ReadsChunked b body r → ReadsChunked (b ++ more) body (r ++ more)
chunked_more b body r more x = record {
  behind = x.behind ++ more;
  parts = parts_more b body x.behind more x.parts;
  last = record {
    behind = x.last.behind ++ more;
    zero = size_more x.behind 0 x.last.behind more x.last.zero;
    trailer = trailer_more x.last.behind r more x.last.trailer;
  };
}

pub chunked_unique : (b body body' r q : List ℕ) → ReadsChunked b body r → ReadsChunked b body' q → (body ≡ body') × (r ≡ q)
chunked_unique b body body' r q x y =
    let u = parts_unique b body body' x.behind y.behind x.parts y.parts (zero_stops (length body) x.behind x.last.behind x.last.zero) (zero_stops (length body') y.behind y.last.behind y.last.zero) in
    let z : ReadsLast x.behind q = subst (λ t. ReadsLast t q) (sym u.1) y.last in
    let v = size_unique x.behind 0 0 x.last.behind z.behind x.last.zero z.zero in
    (u.0, trailer_unique x.last.behind r q x.last.trailer (subst (λ t. ReadsTrailer t q) (sym v.1) z.trailer))

pub chunked_refused_more : (b more : List ℕ) (why : Refusal) → RefusesChunked b why → RefusesChunked (b ++ more) why
chunked_refused_more b more why x = record {
  body = x.body;
  behind = x.behind ++ more;
  parts = parts_more b x.body x.behind more x.parts;
  refuses = next_more (length x.body) x.behind more why x.refuses;
}

pub chunked_refused : (b body r : List ℕ) (why : Refusal) → ReadsChunked b body r → RefusesChunked b why → ⊥
chunked_refused b body r why x y =
    let u = parts_unique b body y.body x.behind y.behind x.parts y.parts (zero_stops (length body) x.behind x.last.behind x.last.zero) (refused_stops (length y.body) y.behind why y.refuses) in
    last_next (length y.body) y.behind r why y.parts.fits (subst (λ t. ReadsLast t r) u.1 x.last) y.refuses

pub chunked_refused_unique : (b : List ℕ) (why why' : Refusal) → RefusesChunked b why → RefusesChunked b why' → why ≡ why'
chunked_refused_unique b why why' x y =
    let u = parts_unique b x.body y.body x.behind y.behind x.parts y.parts (refused_stops (length x.body) x.behind why x.refuses) (refused_stops (length y.body) y.behind why' y.refuses) in
    let l : length y.body ≡ length x.body = ap length (sym u.0) in
    let z : RefusesNext (length x.body) x.behind why' = subst (λ t. RefusesNext (length x.body) t why') (sym u.1) (subst (λ n. RefusesNext n y.behind why') l y.refuses) in
    next_unique (length x.body) x.behind why why' x.parts.fits x.refuses z
