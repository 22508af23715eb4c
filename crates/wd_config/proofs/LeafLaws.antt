-- What texts are found to be is what they are.
use Rattle.std.proofs.Common.{◌≡◌, ℕ, suc, zero, ◌<◌, ◌≤◌, ◌^◌, Bool, true, false, cond, ◌&&◌, ◌||◌, refl, sym, ap, ◌∙◌, arith, List, [], ◌∷◌, ◌++◌, length, Option, Some, None, inl, inr}
use Rattle.std.specs.Prelude.{◌↔◌, codes, nat_le, ◌==◌, IsTrue}
use Rattle.std.specs.Bool.{Decides}
use Rattle.std.specs.Fmt.{decimal}
use Rattle.std.specs.List.{All, list_all}
use Rattle.std.specs.Str.{bytes_eq}
use Rattle.std.proofs.lemmas.Bool.Decides.{Decides-eqb, Decides-and, Decides-or, Decides-by_and, not_from_Decides, Decides-like}
use Rattle.std.proofs.lemmas.Bool.{leb-true, le-leb}
use Rattle.std.proofs.lemmas.Slice.Eq.{bytes_eq-Decides}
use Rattle.wd_base.specs.declared.ids.Ip4.{Ip4}
use Rattle.wd_base.specs.declared.config.Addr.{Addr}
use Rattle.wd_base.specs.declared.config.Range.{Range}
use Rattle.wd_base.specs.declared.config.RangeClass.{RangeClass}
use Rattle.wd_base.specs.declared.config.RangeClass.TheVariants as class
use Rattle.wd_config.specs.Addresses.{IsPort, IsDotted, IsSocketHost, IsSocketAddress, is_host_byte, IsHostName, IsExternalAddress}
use Rattle.wd_config.specs.Cut.{Lacks, IsCut, place_of}
use Rattle.wd_config.specs.Dates.{IsDigit, AreDigits, IsDate}
use Rattle.wd_config.specs.Leaves.{is_digit, are_digits, month_and_day, dated, is_date, cut_at, cut, number, part, ip4, class_of, block, range, port, is_socket_host, socket_address, is_host, external_address, ◌>>=◌, must, named, class_or_block, is_some_ip, addressed, external_parts}
use Rattle.wd_config.specs.Ranges.{of_parts, IsIp4, IsBlock, IsBegun, IsNamed, IsRange}
use Rattle.wd_config.proofs.CutSteps.{cut_at as place_cut, lacks}
use Rattle.wd_config.proofs.Exact.{finds_none, none_found, one_value}
use Rattle.wd_config.proofs.NumberSteps.{same_number}
use Rattle.wd_config.proofs.RangeSteps.{no_part, no_dot, is_part, no_first, no_second, no_third, no_fourth, ip4_is, no_slash, no_base, no_bits, block_is, class_is, block_alone}
use Rattle.wd_config.proofs.AddressSteps.{port_is, no_colon, no_port, no_host, to_socket, one_socket, no_external_port, no_external_host, no_name, one_external}
use Rattle.wd_config.proofs.DateSteps.{no_date, one_dash, date_is}

-- ---- two answers that tell the same are one

pub same_option : {A : Type 0} (P : A → Type 0) (a b : Option A) → ((x : A) → (a ≡ Some x) ↔ P x) → ((x : A) → (b ≡ Some x) ↔ P x) → a ≡ b
same_option P (Some x) b f g = sym ((g x).1 ((f x).0 refl))
same_option P None (Some y) f g = (f y).1 ((g y).0 refl)
same_option P None None f g = refl

-- ---- cuts

abbrev pub Cuts : ℕ → List ℕ → Option (List ℕ × List ℕ) → Type 0
Cuts mark text (Some c) = IsCut mark c.0 c.1 text
Cuts mark text None = Lacks mark text

cuts_at : (mark : ℕ) (text : List ℕ) (o : Option ℕ) → o ≡ place_of mark text → Cuts mark text (cut_at text o)
cuts_at mark text (Some at) e = (place_cut mark at text e).cut
cuts_at mark text None e = lacks mark text e

pub cut_is : (mark : ℕ) (text : List ℕ) → Cuts mark text (cut mark text)
unfolding cut
cut_is mark text = cuts_at mark text (place_of mark text) refl

-- ---- dates

digit_is : (b : ℕ) → Decides (is_digit b) (IsDigit b)
digit_is b = Decides-and (nat_le 48 b) (nat_le b 57) (leb-true 48 b, le-leb 48 b) (leb-true b 57, le-leb b 57)

digits_are : (n : ℕ) (text : List ℕ) → Decides (are_digits n text) (AreDigits n text)
digits_are n text = Decides-and (length text == n) (list_all is_digit text) (Decides-eqb (length text) n) (Decides-by_and is_digit IsDigit (list_all is_digit) digit_is refl (λ _ _. refl) text)

parts_are : (year month day : List ℕ) → Decides (are_digits 4 year && (are_digits 2 month && are_digits 2 day)) (AreDigits 4 year × AreDigits 2 month × AreDigits 2 day)
parts_are year month day =
    Decides-like (are_digits 4 year && (are_digits 2 month && are_digits 2 day)) (λ (p : AreDigits 4 year × (AreDigits 2 month × AreDigits 2 day)). (p.0, p.1.0, p.1.1)) (λ q. (q.0, (q.1, q.2)))
    (Decides-and (are_digits 4 year) (are_digits 2 month && are_digits 2 day) (digits_are 4 year) (Decides-and (are_digits 2 month) (are_digits 2 day) (digits_are 2 month) (digits_are 2 day)))

day_is : (year rest text : List ℕ) (o : Option (List ℕ × List ℕ)) → IsCut 45 year rest text → Cuts 45 rest o → Decides (month_and_day year o) (IsDate text)
day_is year rest text (Some c) first next = date_is year rest c.0 c.1 text (month_and_day year (Some c)) first next (parts_are year c.0 c.1)
day_is year rest text None first next = ((λ t. cc), (λ d. absurd (one_dash year rest text first next d)))

dated_is : (text : List ℕ) (o : Option (List ℕ × List ℕ)) → Cuts 45 text o → Decides (dated o) (IsDate text)
dated_is text (Some c) first = day_is c.0 c.1 text (cut 45 c.1) first (cut_is 45 c.1)
dated_is text None none = ((λ t. cc), (λ d. absurd (no_date text none d)))

pub date_law : (text : List ℕ) → Decides (is_date text) (IsDate text)
unfolding is_date
date_law text = dated_is text (cut 45 text) (cut_is 45 text)

-- ---- numbers

abbrev pub Reads : ℕ → List ℕ → Option ℕ → Type 0
Reads most text r = (n : ℕ) → (r ≡ Some n) ↔ ((text ≡ decimal n) × (n ≤ most))

-- one more number is tried
more_reads : (most : ℕ) (text : List ℕ) (b : Bool) (r : Option ℕ) → suc most < 2 ^ 32 → Decides b (text ≡ decimal (suc most)) → Reads most text r → Reads (suc most) text (cond b (Some (suc most)) r)
more_reads most text true r small is reads n = (
  (λ e. let same : suc most ≡ n = one_value (suc most) n e in (is.0 refl ∙ ap decimal same, omega arith)),
  (λ p. let low : n ≤ suc most = p.1 in ap Some (same_number (suc most) n small (omega arith) (sym (is.0 refl) ∙ p.0))),
)
more_reads most text false r small is reads n = (
  (λ e. let p : (text ≡ decimal n) × (n ≤ most) = (reads n).0 e in (p.0, omega arith)),
  (λ p. (reads n).1 (p.0, smaller p)),
)
  where
    smaller : (text ≡ decimal n) × (n ≤ suc most) → n ≤ most
    smaller p = let apart : n ≡ suc most → ⊥ = λ e. not_from_Decides false is refl (p.0 ∙ ap decimal e) in let low : n ≤ suc most = p.1 in omega arith

no_more_reads : (text : List ℕ) (b : Bool) → Decides b (text ≡ decimal 0) → Reads 0 text (cond b (Some 0) None)
no_more_reads text true is n = (
  (λ e. let same : 0 ≡ n = one_value 0 n e in (is.0 refl ∙ ap decimal same, omega arith)),
  (λ p. let low : n ≤ 0 = p.1 in let same : 0 ≡ n = omega arith in ap Some same),
)
no_more_reads text false is n = (
  (λ e. cc),
  (λ p. let low : n ≤ 0 = p.1 in let same : n ≡ 0 = omega arith in absurd (not_from_Decides false is refl (p.0 ∙ ap decimal same))),
)

pub number_law : (most : ℕ) (text : List ℕ) → most < 2 ^ 32 → Reads most text (number most text)
unfolding number
number_law zero text small = no_more_reads text (bytes_eq text (decimal 0)) (bytes_eq-Decides text (decimal 0))
number_law (suc most) text small = more_reads most text (bytes_eq text (decimal (suc most))) (number most text) small (bytes_eq-Decides text (decimal (suc most))) (number_law most text (omega arith))

-- ---- addresses of four parts

abbrev NoneBegun : List ℕ → Type 0
NoneBegun text = (n : ℕ) (rest : List ℕ) → IsBegun text n rest → ⊥

abbrev pub Begins : List ℕ → Option (ℕ × List ℕ) → Type 0
Begins text (Some p) = IsBegun text p.0 p.1
Begins text None = NoneBegun text

part_of : (front rest text : List ℕ) (r : Option ℕ) → IsCut 46 front rest text → Reads 255 front r → Begins text (r >>= λ n. Some (n, rest))
part_of front rest text (Some n) c reads = is_part front rest text (Some n) n c reads refl
part_of front rest text None c reads = no_part front rest text None c reads refl

parted : (text : List ℕ) (o : Option (List ℕ × List ℕ)) → Cuts 46 text o → Begins text (o >>= λ c. number 255 c.0 >>= λ n. Some (n, c.1))
parted text (Some c) cut_ = part_of c.0 c.1 text (number 255 c.0) cut_ (number_law 255 c.0 (omega arith))
parted text None none = no_dot text none

part_law : (text : List ℕ) → Begins text (part text)
unfolding part
part_law text = parted text (cut 46 text) (cut_is 46 text)

fourth : (n m k : ℕ) (r s t text : List ℕ) (o : Option ℕ) → IsBegun text n r → IsBegun r m s → IsBegun s k t → Reads 255 t o → (ip : Ip4) → ((o >>= λ d. Some (record { 0 = of_parts n m k d })) ≡ Some ip) ↔ IsIp4 text ip
fourth n m k r s t text (Some l) a b c reads = ip4_is n m k l r s t text (Some l) (record { 0 = of_parts n m k l }) refl a b c reads refl
fourth n m k r s t text None a b c reads = finds_none (IsIp4 text) None refl (λ ip. no_fourth n m k r s t text None ip a b c reads refl)

third : (n m : ℕ) (r s text : List ℕ) (o : Option (ℕ × List ℕ)) → IsBegun text n r → IsBegun r m s → Begins s o → (ip : Ip4) → ((o >>= λ c. number 255 c.1 >>= λ d. Some (record { 0 = of_parts n m c.0 d })) ≡ Some ip) ↔ IsIp4 text ip
third n m r s text (Some c) a b p = fourth n m c.0 r s c.1 text (number 255 c.1) a b p (number_law 255 c.1 (omega arith))
third n m r s text None a b p = finds_none (IsIp4 text) None refl (λ ip. no_third n m r s text ip a b p)

second : (n : ℕ) (r text : List ℕ) (o : Option (ℕ × List ℕ)) → IsBegun text n r → Begins r o → (ip : Ip4) → ((o >>= λ b. part b.1 >>= λ c. number 255 c.1 >>= λ d. Some (record { 0 = of_parts n b.0 c.0 d })) ≡ Some ip) ↔ IsIp4 text ip
second n r text (Some b) a p = third n b.0 r b.1 text (part b.1) a p (part_law b.1)
second n r text None a p = finds_none (IsIp4 text) None refl (λ ip. no_second n r text ip a p)

first : (text : List ℕ) (o : Option (ℕ × List ℕ)) → Begins text o → (ip : Ip4) → ((o >>= λ a. part a.1 >>= λ b. part b.1 >>= λ c. number 255 c.1 >>= λ d. Some (record { 0 = of_parts a.0 b.0 c.0 d })) ≡ Some ip) ↔ IsIp4 text ip
first text (Some a) p = second a.0 a.1 text (part a.1) p (part_law a.1)
first text None p = finds_none (IsIp4 text) None refl (λ ip. no_first text ip p)

pub ip4_law : (text : List ℕ) (ip : Ip4) → (ip4 text ≡ Some ip) ↔ IsIp4 text ip
unfolding ip4
ip4_law text = first text (part text) (part_law text)

-- ---- ranges

abbrev Named : List ℕ → Option RangeClass → Type 0
Named text found = (k : RangeClass) → (found ≡ Some k) ↔ IsNamed text k

class_cases : (text : List ℕ) (a b d : Bool) → Decides a (text ≡ codes "public") → Decides b (text ≡ codes "private") → Decides d (text ≡ codes "local")
    → Named text (cond a (Some class.Public) (cond b (Some class.Private) (cond d (Some class.Local) None)))
class_cases text true b d p q r class.Public = ((λ e. p.0 refl), (λ n. refl))
class_cases text true b d p q r class.Private = ((λ e. cc), (λ n. let g : codes "public" ≡ codes "private" = sym (p.0 refl) ∙ n in cc))
class_cases text true b d p q r class.Local = ((λ e. cc), (λ n. let g : codes "public" ≡ codes "local" = sym (p.0 refl) ∙ n in cc))
class_cases text true b d p q r class.Block = ((λ e. cc), (λ n. absurd n))
class_cases text false true d p q r class.Public = ((λ e. cc), (λ n. let g : codes "private" ≡ codes "public" = sym (q.0 refl) ∙ n in cc))
class_cases text false true d p q r class.Private = ((λ e. q.0 refl), (λ n. refl))
class_cases text false true d p q r class.Local = ((λ e. cc), (λ n. let g : codes "private" ≡ codes "local" = sym (q.0 refl) ∙ n in cc))
class_cases text false true d p q r class.Block = ((λ e. cc), (λ n. absurd n))
class_cases text false false true p q r class.Public = ((λ e. cc), (λ n. let g : codes "local" ≡ codes "public" = sym (r.0 refl) ∙ n in cc))
class_cases text false false true p q r class.Private = ((λ e. cc), (λ n. let g : codes "local" ≡ codes "private" = sym (r.0 refl) ∙ n in cc))
class_cases text false false true p q r class.Local = ((λ e. r.0 refl), (λ n. refl))
class_cases text false false true p q r class.Block = ((λ e. cc), (λ n. absurd n))
class_cases text false false false p q r class.Public = ((λ e. cc), (λ n. absurd (not_from_Decides false p refl n)))
class_cases text false false false p q r class.Private = ((λ e. cc), (λ n. absurd (not_from_Decides false q refl n)))
class_cases text false false false p q r class.Local = ((λ e. cc), (λ n. absurd (not_from_Decides false r refl n)))
class_cases text false false false p q r class.Block = ((λ e. cc), (λ n. absurd n))

class_law : (text : List ℕ) → Named text (class_of text)
unfolding class_of
class_law text = class_cases text (bytes_eq text (codes "public")) (bytes_eq text (codes "private")) (bytes_eq text (codes "local")) (bytes_eq-Decides text (codes "public")) (bytes_eq-Decides text (codes "private")) (bytes_eq-Decides text (codes "local"))

bits_of : (base bits text : List ℕ) (found : Option Ip4) (ip : Ip4) (o : Option ℕ) → IsCut 47 base bits text → ((x : Ip4) → (found ≡ Some x) ↔ IsIp4 base x) → found ≡ Some ip → Reads 32 bits o
    → (r : Range) → ((o >>= λ n. Some (record { class = class.Block; base = ip; bits = n })) ≡ Some r) ↔ IsBlock text r
bits_of base bits text found ip (Some n) c tells e reads = block_is base bits text ip n found (Some n) (record { class = class.Block; base = ip; bits = n }) refl refl refl c tells e reads refl
bits_of base bits text found ip None c tells e reads = finds_none (IsBlock text) None refl (λ r. no_bits base bits text None r c reads refl)

base_of : (base bits text : List ℕ) (o : Option Ip4) → IsCut 47 base bits text → ((x : Ip4) → (o ≡ Some x) ↔ IsIp4 base x)
    → (r : Range) → ((o >>= λ ip. number 32 bits >>= λ n. Some (record { class = class.Block; base = ip; bits = n })) ≡ Some r) ↔ IsBlock text r
base_of base bits text (Some ip) c tells = bits_of base bits text (Some ip) ip (number 32 bits) c tells refl (number_law 32 bits (omega arith))
base_of base bits text None c tells = finds_none (IsBlock text) None refl (λ r. no_base base bits text None r c tells refl)

blocked : (text : List ℕ) (o : Option (List ℕ × List ℕ)) → Cuts 47 text o
    → (r : Range) → ((o >>= λ c. ip4 c.0 >>= λ ip. number 32 c.1 >>= λ n. Some (record { class = class.Block; base = ip; bits = n })) ≡ Some r) ↔ IsBlock text r
blocked text (Some c) p = base_of c.0 c.1 text (ip4 c.0) p (ip4_law c.0)
blocked text None p = finds_none (IsBlock text) None refl (λ r. no_slash text r p)

block_law : (text : List ℕ) (r : Range) → (block text ≡ Some r) ↔ IsBlock text r
unfolding block
block_law text = blocked text (cut 47 text) (cut_is 47 text)

classed : (text : List ℕ) (o : Option RangeClass) (b : Option Range) → Named text o → ((r : Range) → (b ≡ Some r) ↔ IsBlock text r) → (r : Range) → (class_or_block o b ≡ Some r) ↔ IsRange text r
classed text (Some k) b names blocks = class_is text k (Some k) (named k) refl refl refl names refl
classed text None b names blocks = block_alone text None b names refl blocks

pub range_law : (text : List ℕ) (r : Range) → (range text ≡ Some r) ↔ IsRange text r
unfolding range
range_law text = classed text (class_of text) (block text) (class_law text) (block_law text)

-- ---- addresses

abbrev ReadsPort : List ℕ → Option ℕ → Type 0
ReadsPort text r = (n : ℕ) → (r ≡ Some n) ↔ ((text ≡ decimal n) × IsPort n)

port_cases : (text : List ℕ) (n : ℕ) (b : Bool) → Decides b (1 ≤ n) → Reads 65535 text (Some n) → ReadsPort text (cond b (Some n) None)
port_cases text n true is reads = let low : 1 ≤ n = is.0 refl in port_is text (Some n) n reads refl (λ e. omega arith)
port_cases text n false is reads = finds_none (λ p. (text ≡ decimal p) × IsPort p) None refl (λ p q.
    let same : n ≡ p = one_value n p ((reads p).1 (q.0, q.1.1)) in
    let low : 1 ≤ p = q.1.0 in
    not_from_Decides false is refl (omega arith))

ported : (text : List ℕ) (o : Option ℕ) → Reads 65535 text o → ReadsPort text (o >>= λ n. must (nat_le 1 n) n)
ported text (Some n) reads = port_cases text n (nat_le 1 n) (leb-true 1 n, le-leb 1 n) reads
ported text None reads = finds_none (λ p. (text ≡ decimal p) × IsPort p) None refl (λ p q. none_found (λ n. (text ≡ decimal n) × (n ≤ 65535)) None reads refl p (q.0, q.1.1))

port_law : (text : List ℕ) → ReadsPort text (port text)
unfolding port
port_law text = ported text (number 65535 text) (number_law 65535 text (omega arith))

some_ip : (host : List ℕ) (o : Option Ip4) → ((x : Ip4) → (o ≡ Some x) ↔ IsIp4 host x) → Decides (is_some_ip o) (IsDotted host)
some_ip host (Some ip) f = ((λ t. (ip, (f ip).0 refl)), (λ d. refl))
some_ip host None f = ((λ t. cc), (λ d. absurd (none_found (IsIp4 host) None f refl d.0 d.1)))

host_is : (host : List ℕ) → Decides (is_socket_host host) (IsSocketHost host)
host_is host =
    Decides-or (bytes_eq host (codes "*") || bytes_eq host (codes "localhost")) (is_some_ip (ip4 host))
    (Decides-or (bytes_eq host (codes "*")) (bytes_eq host (codes "localhost")) (bytes_eq-Decides host (codes "*")) (bytes_eq-Decides host (codes "localhost")))
    (some_ip host (ip4 host) (ip4_law host))

socket_cases : (host rest text : List ℕ) (n : ℕ) (b : Bool) → IsCut 58 host rest text → ReadsPort rest (Some n) → Decides b (IsSocketHost host) → (a : Addr) → (cond b (Some (addressed host n)) None ≡ Some a) ↔ IsSocketAddress text a
socket_cases host rest text n true c reads is = one_socket text (addressed host n) (addressed host n) refl (to_socket host rest text (Some n) n c reads refl (is.0 refl))
socket_cases host rest text n false c reads is = finds_none (IsSocketAddress text) None refl (no_host host rest text c (not_from_Decides false is refl))

socket_port : (host rest text : List ℕ) (o : Option ℕ) → IsCut 58 host rest text → ReadsPort rest o → (a : Addr) → ((o >>= λ n. must (is_socket_host host) (addressed host n)) ≡ Some a) ↔ IsSocketAddress text a
socket_port host rest text (Some n) c reads = socket_cases host rest text n (is_socket_host host) c reads (host_is host)
socket_port host rest text None c reads = finds_none (IsSocketAddress text) None refl (no_port host rest text None c reads refl)

socket_cut : (text : List ℕ) (o : Option (List ℕ × List ℕ)) → Cuts 58 text o → (a : Addr) → ((o >>= λ c. port c.1 >>= λ n. must (is_socket_host c.0) (addressed c.0 n)) ≡ Some a) ↔ IsSocketAddress text a
socket_cut text (Some c) p = socket_port c.0 c.1 text (port c.1) p (port_law c.1)
socket_cut text None p = finds_none (IsSocketAddress text) None refl (no_colon text p)

pub socket_law : (text : List ℕ) (a : Addr) → (socket_address text ≡ Some a) ↔ IsSocketAddress text a
unfolding socket_address
socket_law text = socket_cut text (cut 58 text) (cut_is 58 text)

name_bytes : (text : List ℕ) → Decides (list_all is_host_byte text) (All (λ b. IsTrue (is_host_byte b)) text)
name_bytes text = Decides-by_and is_host_byte (λ b. IsTrue (is_host_byte b)) (list_all is_host_byte) (λ b. ((λ t. t), (λ t. t))) refl (λ _ _. refl) text

name_is : (text : List ℕ) → Decides (is_host text) (IsHostName text)
name_is [] = ((λ t. cc), (λ h. let low : 0 < 0 = h.0 in absurd (omega arith)))
name_is (b ∷ bs) = ((λ t. (omega arith, (name_bytes (b ∷ bs)).0 t)), (λ h. (name_bytes (b ∷ bs)).1 h.1))

external_cases : (host rest text : List ℕ) (n : ℕ) (b : Bool) → IsCut 58 host rest text → ReadsPort rest (Some n) → Decides b (IsHostName host) → (a : Addr) → (cond b (Some (addressed host n)) None ≡ Some a) ↔ IsExternalAddress text a
external_cases host rest text n true c reads is =
    let d : (rest ≡ decimal n) × IsPort n = (reads n).0 refl in
    one_external text (addressed host n) (addressed host n) refl (record { host = is.0 refl; written = inr (c.written ∙ ap (λ t. host ++ 58 ∷ t) d.0, d.1) })
external_cases host rest text n false c reads is = finds_none (IsExternalAddress text) None refl (no_external_host host rest text c (not_from_Decides false is refl))

external_port : (host rest text : List ℕ) (o : Option ℕ) → IsCut 58 host rest text → ReadsPort rest o → (a : Addr) → ((o >>= λ n. must (is_host host) (addressed host n)) ≡ Some a) ↔ IsExternalAddress text a
external_port host rest text (Some n) c reads = external_cases host rest text n (is_host host) c reads (name_is host)
external_port host rest text None c reads = finds_none (IsExternalAddress text) None refl (no_external_port host rest text None c reads refl)

external_name : (text : List ℕ) (b : Bool) → Lacks 58 text → Decides b (IsHostName text) → (a : Addr) → (cond b (Some (addressed text 80)) None ≡ Some a) ↔ IsExternalAddress text a
external_name text true none is = one_external text (addressed text 80) (addressed text 80) refl (record { host = is.0 refl; written = inl (refl, refl) })
external_name text false none is = finds_none (IsExternalAddress text) None refl (no_name text none (not_from_Decides false is refl))

external_cut : (text : List ℕ) (o : Option (List ℕ × List ℕ)) → Cuts 58 text o → (a : Addr) → (external_parts text o ≡ Some a) ↔ IsExternalAddress text a
external_cut text (Some c) p = external_port c.0 c.1 text (port c.1) p (port_law c.1)
external_cut text None p = external_name text (is_host text) p (name_is text)

pub external_law : (text : List ℕ) (a : Addr) → (external_address text ≡ Some a) ↔ IsExternalAddress text a
unfolding external_address
external_law text = external_cut text (cut 58 text) (cut_is 58 text)
