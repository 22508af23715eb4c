-- Trailers are read in one way alone, and what comes behind them changes nothing.
use Rattle.std.proofs.Common.{◌≡◌, ℕ, suc, zero, ◌+◌, ◌-◌, ◌≤◌, ◌⊎◌, inl, inr, List, [], ◌∷◌, ◌++◌, length, take, refl, sym, ap, ap₂, ◌∙◌, subst, arith, append_assoc, append-nil, length-append}
use Rattle.std.proofs.lemmas.List.{take-append-le}
use Rattle.std.proofs.Math.Seq.{take-append-add}
use Rattle.httparse.specs.Grammar.{Field, ReadsSection, print_section, HasNoSection, MayBecomeSection}
use Rattle.httparse.proofs.GrammarLemmas.{section_unique, ReadsSection-append}
use Rattle.http_message.specs.declared.extent.Refusal.{Refusal}
use Rattle.http_message.specs.declared.extent.Refusal.TheVariants as refusal
use Rattle.http_message.specs.Limits.{max_head}
use Rattle.http_message.specs.Chunks.{ReadsFields, ReadsTrailer, RefusesTrailer}

-- of a list that begins with two fronts, one front begins the other
pub record Longer (p q : List ℕ) : Type 0 where
  pub more : List ℕ
  pub is : q ≡ p ++ more

pub fronts : (p q s t : List ℕ) → p ++ s ≡ q ++ t → Longer p q ⊎ Longer q p
fronts [] q s t e = inl (record { more = q; is = refl })
fronts (x ∷ p) [] s t e = inr (record { more = x ∷ p; is = refl })
fronts (x ∷ p) (y ∷ q) s t e =
    let h : x ≡ y = cc in
    let r : p ++ s ≡ q ++ t = cc in
    elim (fronts p q s t r) [
      | inl l ↦ inl (record { more = l.more; is = ap₂ (λ a b. a ∷ b) (sym h) l.is })
      | inr l ↦ inr (record { more = l.more; is = ap₂ (λ a b. a ∷ b) h l.is })
    ]

-- the first bytes of a list that goes on
pub record Grown (n : ℕ) (b more : List ℕ) : Type 0 where
  pub behind : List ℕ
  pub is : take n (b ++ more) ≡ take n b ++ behind

long : (n : ℕ) (b more : List ℕ) → n ≤ length b → Grown n b more
long n b more h = record { behind = []; is = take-append-le n b more h ∙ sym (append-nil (take n b)) }

take_whole : (n : ℕ) (b : List ℕ) → length b ≤ n → take n b ≡ b
take_whole zero [] h = refl
take_whole (suc n) [] h = refl
take_whole zero (x ∷ b) h = absurd (omega (arith, h))
take_whole (suc n) (x ∷ b) h = ap (λ z. x ∷ z) (take_whole n b (omega (arith, h)))

short : (n : ℕ) (b more : List ℕ) → length b ≤ n → Grown n b more
short n b more h =
    let k : n ≡ length b + (n - length b) = omega (arith, h) in
    record { behind = take (n - length b) more; is = ap (λ z. take z (b ++ more)) k ∙ take-append-add b more (n - length b) ∙ ap (λ z. z ++ take (n - length b) more) (sym (take_whole n b h)) }

pub grown : (n : ℕ) (b more : List ℕ) → Grown n b more
grown n b more = elim (le_or (length b) n) [ inl h ↦ short n b more h | inr h ↦ long n b more h ]
  where
    le_or : (a c : ℕ) → (a ≤ c) ⊎ (c ≤ a)
    le_or zero c = inl (omega arith)
    le_or (suc a) zero = inr (omega arith)
    le_or (suc a) (suc c) = elim (le_or a c) [ inl h ↦ inl (omega (arith, h)) | inr h ↦ inr (omega (arith, h)) ]

-- a front that is short enough stands in the first bytes
pub front_fits : (n : ℕ) (p r b : List ℕ) → b ≡ p ++ r → length p ≤ n → take n b ≡ p ++ take (n - length p) r
front_fits n p r b e h =
    let k : n ≡ length p + (n - length p) = omega (arith, h) in
    ap (take n) e ∙ ap (λ z. take z (p ++ r)) k ∙ take-append-add p r (n - length p)

-- sections

none_more : (w y : List ℕ) → HasNoSection w → (MayBecomeSection w → ⊥) → HasNoSection (w ++ y)
none_more w y none may fs last r x =
    elim (fronts w (print_section fs last) y r x.1) [
      | inl l ↦ may (l.more, fs, last, (x.0, sym l.is ∙ sym (append-nil (print_section fs last))))
      | inr l ↦ none fs last l.more (x.0, l.is)
    ]

may_less : (w y : List ℕ) → MayBecomeSection (w ++ y) → MayBecomeSection w
may_less w y (more, fs, last, x) = (y ++ more, fs, last, subst (λ t. ReadsSection t fs last []) (append_assoc w y more) x)

pub fields_more : (b : List ℕ) (fs : List Field) (r more : List ℕ) → ReadsFields b fs r → ReadsFields (b ++ more) fs (r ++ more)
fields_more b fs r more x = record { last = x.last; reads = ReadsSection-append b fs x.last r more x.reads; fits = x.fits }

pub fields_unique : (b : List ℕ) (fs gs : List Field) (r q : List ℕ) → ReadsFields b fs r → ReadsFields b gs q → (fs ≡ gs) × (r ≡ q)
fields_unique b fs gs r q x y = let u = section_unique b fs gs x.last y.last r q x.reads y.reads in (u.0, u.2)

-- a section that fits stands in the first bytes
fields_seen : (b : List ℕ) (fs : List Field) (r : List ℕ) → ReadsFields b fs r → HasNoSection (take max_head b) → ⊥
fields_seen b fs r x none = none fs x.last (take (max_head - length (print_section fs x.last)) r) (x.reads.0, front_fits max_head (print_section fs x.last) r b x.reads.1 x.fits)

-- trailers

pub trailer_more : (b r more : List ℕ) → ReadsTrailer b r → ReadsTrailer (b ++ more) (r ++ more)
trailer_more b r more x = record { fields = x.fields; reads = fields_more b x.fields r more x.reads; few = x.few }

pub trailer_unique : (b r q : List ℕ) → ReadsTrailer b r → ReadsTrailer b q → r ≡ q
trailer_unique b r q x y = (fields_unique b x.fields y.fields r q x.reads y.reads).1

pub refused_trailer_more : (b more : List ℕ) (why : Refusal) → RefusesTrailer b why → RefusesTrailer (b ++ more) why
refused_trailer_more b more refusal.Malformed (none, may) =
    let g = grown max_head b more in (
      subst HasNoSection (sym g.is) (none_more (take max_head b) g.behind none may),
      λ m. may (may_less (take max_head b) g.behind (subst MayBecomeSection g.is m)),
    )
refused_trailer_more b more refusal.TooLarge (inl (full, none, may)) =
    let e : take max_head b ≡ take max_head (b ++ more) = sym (take-append-le max_head b more full) in
    let l : length (b ++ more) ≡ length b + length more = length-append b more in
    inl (omega (arith, full, l), subst HasNoSection e none, subst MayBecomeSection e may)
refused_trailer_more b more refusal.TooLarge (inr (fs, r, x, many)) = inr (fs, r ++ more, fields_more b fs r more x, many)

pub trailer_refused : (b r : List ℕ) (why : Refusal) → ReadsTrailer b r → RefusesTrailer b why → ⊥
trailer_refused b r refusal.Malformed x (none, may) = fields_seen b x.fields r x.reads none
trailer_refused b r refusal.TooLarge x (inl (full, none, may)) = fields_seen b x.fields r x.reads none
trailer_refused b r refusal.TooLarge x (inr (fs, q, y, many)) =
    let u = fields_unique b x.fields fs r q x.reads y in
    let few = x.few in
    let l : length x.fields ≡ length fs = ap length u.0 in
    omega (arith, few, many, l)

pub refused_trailer_unique : (b : List ℕ) → RefusesTrailer b refusal.Malformed → RefusesTrailer b refusal.TooLarge → ⊥
refused_trailer_unique b (none, may) (inl (full, none', may')) = may may'
refused_trailer_unique b (none, may) (inr (fs, r, x, many)) = fields_seen b fs r x none
