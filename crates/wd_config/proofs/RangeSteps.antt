-- Addresses and ranges.
use Rattle.std.proofs.Common.{◌≡◌, ℕ, ◌≤◌, refl, sym, ap, subst, ◌∙◌, arith, List, ◌∷◌, ◌++◌, Option, Some, None, inl, inr}
use Rattle.std.specs.Prelude.{◌↔◌, codes}
use Rattle.std.specs.Fmt.{decimal}
use Rattle.wd_base.specs.declared.ids.Ip4.{Ip4}
use Rattle.wd_base.specs.declared.config.Range.{Range}
use Rattle.wd_base.specs.declared.config.RangeClass.{RangeClass}
use Rattle.wd_base.specs.declared.config.RangeClass.TheVariants as range
use Rattle.wd_config.specs.Cut.{IsNot, Lacks, IsCut}
use Rattle.wd_config.specs.Ranges.{of_parts, IsIp4, IsBlock, IsBegun, IsNamed, IsRange}
use Rattle.wd_config.proofs.CutSteps.{same_cut, not_cut, lacks}
use Rattle.wd_config.proofs.Exact.{finds_one, none_found, one_value}
use Rattle.std.proofs.lemmas.List.Elements.{All-append, All-cons}
use Rattle.wd_config.proofs.NumberSteps.{number_lacks, same_number}

-- what a function that reads numbers tells
abbrev Reads : ℕ → List ℕ → Option ℕ → Type 0
Reads most text r = (n : ℕ) → (r ≡ Some n) ↔ ((text ≡ decimal n) × (n ≤ most))

part_lacks : (n : ℕ) → n ≤ 255 → Lacks 46 (decimal n)
part_lacks n small = number_lacks 46 n (omega arith) (omega arith)

pub no_part : (part rest text : List ℕ) (r : Option ℕ) → IsCut 46 part rest text → Reads 255 part r → r ≡ None → (n : ℕ) (more : List ℕ) → IsBegun text n more → ⊥
no_part part rest text r cut reads e n more b =
    let same : (part ≡ decimal n) × (rest ≡ more) = same_cut 46 part (decimal n) rest more cut.first (part_lacks n b.0) (sym cut.written ∙ b.1) in
    none_found (λ n. (part ≡ decimal n) × (n ≤ 255)) r reads e n (same.0, b.0)

pub no_dot : (text : List ℕ) → Lacks 46 text → (n : ℕ) (more : List ℕ) → IsBegun text n more → ⊥
no_dot text none n more b = not_cut 46 text (decimal n) more none b.1

pub is_part : (part rest text : List ℕ) (r : Option ℕ) (n : ℕ) → IsCut 46 part rest text → Reads 255 part r → r ≡ Some n → IsBegun text n rest
is_part part rest text r n cut reads e =
    let p = (reads n).0 e in
    (p.1, cut.written ∙ ap (λ t. t ++ 46 ∷ rest) p.0)

-- a text begins with one part
same_part : (n m : ℕ) (r s text : List ℕ) → IsBegun text n r → IsBegun text m s → (n ≡ m) × (r ≡ s)
same_part n m r s text a b =
    let low : n ≤ 255 = a.0 in
    let small : m ≤ 255 = b.0 in
    let cut : (decimal n ≡ decimal m) × (r ≡ s) = same_cut 46 (decimal n) (decimal m) r s (part_lacks n a.0) (part_lacks m b.0) (sym a.1 ∙ b.1) in
    (same_number n m (omega arith) (omega arith) cut.0, cut.1)

-- what is behind the first part of an address, and behind the second
abbrev after_first : {text : List ℕ} {ip : Ip4} → IsIp4 text ip → List ℕ
after_first p = decimal p.b ++ 46 ∷ (decimal p.c ++ 46 ∷ decimal p.d)

abbrev after_second : {text : List ℕ} {ip : Ip4} → IsIp4 text ip → List ℕ
after_second p = decimal p.c ++ 46 ∷ decimal p.d

first_part : (n : ℕ) (r text : List ℕ) (ip : Ip4) → IsBegun text n r → (p : IsIp4 text ip) → (n ≡ p.a) × (r ≡ after_first p)
first_part n r text ip b p = same_part n p.a r (after_first p) text b (p.a_small, p.written)

second_part : (n m : ℕ) (r s text : List ℕ) (ip : Ip4) → IsBegun text n r → IsBegun r m s → (p : IsIp4 text ip) → (m ≡ p.b) × (s ≡ after_second p)
second_part n m r s text ip a b p = same_part m p.b s (after_second p) r b (p.b_small, (first_part n r text ip a p).1)

third_part : (n m k : ℕ) (r s t text : List ℕ) (ip : Ip4) → IsBegun text n r → IsBegun r m s → IsBegun s k t → (p : IsIp4 text ip) → (k ≡ p.c) × (t ≡ decimal p.d)
third_part n m k r s t text ip a b c p = same_part k p.c t (decimal p.d) s c (p.c_small, (second_part n m r s text ip a b p).1)

-- no address without a first part, a second, a third, a fourth
abbrev NoneBegun : List ℕ → Type 0
NoneBegun text = (n : ℕ) (rest : List ℕ) → IsBegun text n rest → ⊥

pub no_first : (text : List ℕ) (ip : Ip4) → NoneBegun text → IsIp4 text ip → ⊥
no_first text ip none p = none p.a (after_first p) (p.a_small, p.written)

pub no_second : (n : ℕ) (r text : List ℕ) (ip : Ip4) → IsBegun text n r → NoneBegun r → IsIp4 text ip → ⊥
no_second n r text ip a none p = none p.b (after_second p) (p.b_small, (first_part n r text ip a p).1)

pub no_third : (n m : ℕ) (r s text : List ℕ) (ip : Ip4) → IsBegun text n r → IsBegun r m s → NoneBegun s → IsIp4 text ip → ⊥
no_third n m r s text ip a b none p = none p.c (decimal p.d) (p.c_small, (second_part n m r s text ip a b p).1)

pub no_fourth : (n m k : ℕ) (r s t text : List ℕ) (found : Option ℕ) (ip : Ip4) → IsBegun text n r → IsBegun r m s → IsBegun s k t → Reads 255 t found → found ≡ None → IsIp4 text ip → ⊥
no_fourth n m k r s t text found ip a b c reads e p = none_found (λ n. (t ≡ decimal n) × (n ≤ 255)) found reads e p.d ((third_part n m k r s t text ip a b c p).1, p.d_small)

of_number : ℕ → Ip4
of_number n = record { 0 = n }

same_ip : (x y : Ip4) → x.0 ≡ y.0 → x ≡ y
unfolding of_number
same_ip x y e = ap of_number e

four_parts : (n m k l : ℕ) (r s t text : List ℕ) → IsBegun text n r → IsBegun r m s → IsBegun s k t → (t ≡ decimal l) × (l ≤ 255) → text ≡ decimal n ++ 46 ∷ (decimal m ++ 46 ∷ (decimal k ++ 46 ∷ decimal l))
four_parts n m k l r s t text a b c d =
    a.1 ∙ ap (λ x. decimal n ++ 46 ∷ x) (b.1 ∙ ap (λ x. decimal m ++ 46 ∷ x) (c.1 ∙ ap (λ x. decimal k ++ 46 ∷ x) d.0))

pub ip4_is : (n m k l : ℕ) (r s t text : List ℕ) (found : Option ℕ) (ip : Ip4) → ip.0 ≡ of_parts n m k l → IsBegun text n r → IsBegun r m s → IsBegun s k t → Reads 255 t found → found ≡ Some l
    → (x : Ip4) → (Some ip ≡ Some x) ↔ IsIp4 text x
ip4_is n m k l r s t text found ip v a b c reads e =
    let d : (t ≡ decimal l) × (l ≤ 255) = (reads l).0 e in
    let is : IsIp4 text ip = record {
      a = n;
      b = m;
      c = k;
      d = l;
      a_small = a.0;
      b_small = b.0;
      c_small = c.0;
      d_small = d.1;
      written = four_parts n m k l r s t text a b c d;
      value = v;
    } in
    finds_one (IsIp4 text) (Some ip) ip refl is (λ x p.
    let h : n ≡ p.a = (first_part n r text x a p).0 in
    let i : m ≡ p.b = (second_part n m r s text x a b p).0 in
    let third = third_part n m k r s t text x a b c p in
    let j : k ≡ p.c = third.0 in
    let low : l ≤ 255 = d.1 in
    let small : p.d ≤ 255 = p.d_small in
    let q : l ≡ p.d = same_number l p.d (omega arith) (omega arith) (sym d.0 ∙ third.1) in
    let w : x.0 ≡ of_parts p.a p.b p.c p.d = p.value in
    same_ip ip x (v ∙ (let f : of_parts n m k l ≡ of_parts p.a p.b p.c p.d = cc in f) ∙ sym w))

-- ---- blocks

slash_lacks : (n : ℕ) → n ≤ 255 → Lacks 47 (decimal n)
slash_lacks n small = number_lacks 47 n (omega arith) (omega arith)

dot_apart : IsNot 47 46
dot_apart e = omega arith

join : (xs ys : List ℕ) → Lacks 47 xs → Lacks 47 ys → Lacks 47 (xs ++ 46 ∷ ys)
join xs ys a b = All-append (IsNot 47) xs (46 ∷ ys) a (All-cons (IsNot 47) 46 ys dot_apart b)

ip4_text : (text : List ℕ) (ip : Ip4) → IsIp4 text ip → Lacks 47 text
ip4_text text ip p =
    let la : Lacks 47 (decimal p.a) = slash_lacks p.a p.a_small in
    let lb : Lacks 47 (decimal p.b) = slash_lacks p.b p.b_small in
    let lc : Lacks 47 (decimal p.c) = slash_lacks p.c p.c_small in
    let ld : Lacks 47 (decimal p.d) = slash_lacks p.d p.d_small in
    subst (Lacks 47) (sym p.written) (join _ _ la (join _ _ lb (join _ _ lc ld)))

-- the address is before the `/`
base_is : (base bits text : List ℕ) (r : Range) → IsCut 47 base bits text → (p : IsBlock text r) → (base ≡ p.base) × (bits ≡ decimal r.bits)
base_is base bits text r cut p = same_cut 47 base p.base bits (decimal r.bits) cut.first (ip4_text p.base r.base p.address) (sym cut.written ∙ p.written)

pub no_slash : (text : List ℕ) (r : Range) → Lacks 47 text → IsBlock text r → ⊥
no_slash text r none p = not_cut 47 text p.base (decimal r.bits) none p.written

-- what a function that reads addresses tells
abbrev Tells : List ℕ → Option Ip4 → Type 0
Tells text found = (ip : Ip4) → (found ≡ Some ip) ↔ IsIp4 text ip

pub no_base : (base bits text : List ℕ) (found : Option Ip4) (r : Range) → IsCut 47 base bits text → Tells base found → found ≡ None → IsBlock text r → ⊥
no_base base bits text found r cut tells e p =
    none_found (IsIp4 base) found tells e r.base (subst (λ t. IsIp4 t r.base) (sym (base_is base bits text r cut p).0) p.address)

pub no_bits : (base bits text : List ℕ) (found : Option ℕ) (r : Range) → IsCut 47 base bits text → Reads 32 bits found → found ≡ None → IsBlock text r → ⊥
no_bits base bits text found r cut reads e p = none_found (λ n. (bits ≡ decimal n) × (n ≤ 32)) found reads e r.bits ((base_is base bits text r cut p).1, p.few)

range_of : RangeClass → Ip4 → ℕ → Range
range_of class base bits = record { class = class; base = base; bits = bits }

same_range : (x y : Range) → x.class ≡ y.class → x.base ≡ y.base → x.bits ≡ y.bits → x ≡ y
unfolding range_of
same_range x y a b c = let e : range_of x.class x.base x.bits ≡ range_of y.class y.base y.bits = cc in e

pub block_is : (base bits text : List ℕ) (ip : Ip4) (n : ℕ) (found : Option Ip4) (number : Option ℕ) (r : Range) → r.class ≡ range.Block → r.base ≡ ip → r.bits ≡ n
    → IsCut 47 base bits text → Tells base found → found ≡ Some ip → Reads 32 bits number → number ≡ Some n
    → (x : Range) → (Some r ≡ Some x) ↔ IsBlock text x
block_is base bits text ip n found number r rc rb rn cut tells e reads f =
    let d : (bits ≡ decimal n) × (n ≤ 32) = (reads n).0 f in
    let low : n ≤ 32 = d.1 in
    let is : IsBlock text r = record {
      base = base;
      address = subst (IsIp4 base) (sym rb) ((tells ip).0 e);
      few = omega arith;
      written = cut.written ∙ ap (λ t. base ++ 47 ∷ t) (d.0 ∙ ap decimal (sym rn));
      block = rc;
    } in
    finds_one (IsBlock text) (Some r) r refl is (λ x p.
    let b = base_is base bits text x cut p in
    let small : x.bits ≤ 32 = p.few in
    let same : ip ≡ x.base = one_value ip x.base (sym e ∙ (tells x.base).1 (subst (λ t. IsIp4 t x.base) (sym b.0) p.address)) in
    same_range r x (rc ∙ sym p.block) (rb ∙ same) (rn ∙ same_number n x.bits (omega arith) (omega arith) (sym d.0 ∙ b.1)))

-- ---- ranges

-- what a function that reads names of classes tells
abbrev Names : List ℕ → Option RangeClass → Type 0
Names text found = (class : RangeClass) → (found ≡ Some class) ↔ IsNamed text class

-- no name is a block
named_lacks : (text : List ℕ) (class : RangeClass) → IsNamed text class → Lacks 47 text
named_lacks text range.Public e = subst (Lacks 47) (sym e) (lacks 47 (codes "public") refl)
named_lacks text range.Private e = subst (Lacks 47) (sym e) (lacks 47 (codes "private") refl)
named_lacks text range.Local e = subst (Lacks 47) (sym e) (lacks 47 (codes "local") refl)
named_lacks text range.Block e = absurd e

one_range : (text : List ℕ) (class : RangeClass) (found : Option RangeClass) (r x : Range) → r.class ≡ class → r.base.0 ≡ 0 → r.bits ≡ 0 → Names text found → found ≡ Some class → IsNamed text class → IsRange text x → r ≡ x
one_range text class found r x rc rb rn names e named (inl p) =
    let same : class ≡ x.class = one_value class x.class (sym e ∙ (names x.class).1 p.name) in
    same_range r x (rc ∙ same) (same_ip r.base x.base (rb ∙ sym p.base)) (rn ∙ sym p.bits)
one_range text class found r x rc rb rn names e named (inr p) = absurd (no_slash text x (named_lacks text class named) p)

only_block : (text : List ℕ) (found : Option RangeClass) (x : Range) → Names text found → found ≡ None → IsRange text x → IsBlock text x
only_block text found x names e (inl p) = absurd (none_found (IsNamed text) found names e x.class p.name)
only_block text found x names e (inr p) = p

pub class_is : (text : List ℕ) (class : RangeClass) (found : Option RangeClass) (r : Range) → r.class ≡ class → r.base.0 ≡ 0 → r.bits ≡ 0 → Names text found → found ≡ Some class
    → (x : Range) → (Some r ≡ Some x) ↔ IsRange text x
class_is text class found r rc rb rn names e =
    let named : IsNamed text class = (names class).0 e in
    let is : IsRange text r = inl (record { name = subst (IsNamed text) (sym rc) named; base = rb; bits = rn }) in
    finds_one (IsRange text) (Some r) r refl is (λ x p. one_range text class found r x rc rb rn names e named p)

pub block_alone : (text : List ℕ) (found : Option RangeClass) (answer : Option Range) → Names text found → found ≡ None → ((x : Range) → (answer ≡ Some x) ↔ IsBlock text x)
    → (x : Range) → (answer ≡ Some x) ↔ IsRange text x
block_alone text found answer names e is x = ((λ f. inr ((is x).0 f)), (λ p. (is x).1 (only_block text found x names e p)))
