-- Addresses of sockets and external servers.
use Rattle.std.proofs.Common.{◌≡◌, ℕ, ◌<◌, ◌≤◌, ◌^◌, refl, sym, ap, subst, ◌∙◌, arith, List, ◌∷◌, ◌++◌, Option, Some, None, inl, inr}
use Rattle.std.specs.Prelude.{◌↔◌, codes, IsTrue}
use Rattle.std.specs.Fmt.{decimal}
use Rattle.std.proofs.lemmas.Bool.{false≢true}
use Rattle.std.proofs.lemmas.List.Elements.{All-append, All-cons, All-weaker}
use Rattle.wd_base.specs.declared.ids.Ip4.{Ip4}
use Rattle.wd_base.specs.declared.config.Addr.{Addr}
use Rattle.wd_config.specs.Cut.{IsNot, Lacks, IsCut}
use Rattle.wd_config.specs.Ranges.{IsIp4}
use Rattle.wd_config.specs.Addresses.{IsPort, IsSocketHost, IsSocketAddress, is_host_byte, IsHostName, IsNameAndPort, IsExternalAddress}
use Rattle.wd_config.proofs.CutSteps.{same_cut, not_cut, lacks}
use Rattle.wd_config.proofs.Exact.{finds_one, none_found, one_value}
use Rattle.wd_config.proofs.NumberSteps.{colon_lacks, same_number}

abbrev Reads : ℕ → List ℕ → Option ℕ → Type 0
Reads most text r = (n : ℕ) → (r ≡ Some n) ↔ ((text ≡ decimal n) × (n ≤ most))

abbrev ReadsPort : List ℕ → Option ℕ → Type 0
ReadsPort text r = (n : ℕ) → (r ≡ Some n) ↔ ((text ≡ decimal n) × IsPort n)

pub port_is : (text : List ℕ) (r : Option ℕ) (n : ℕ) → Reads 65535 text r → r ≡ Some n → (n ≡ 0 → ⊥) → (p : ℕ) → (Some n ≡ Some p) ↔ ((text ≡ decimal p) × IsPort p)
port_is text r n reads e some =
    let d : (text ≡ decimal n) × (n ≤ 65535) = (reads n).0 e in
    finds_one (λ p. (text ≡ decimal p) × IsPort p) (Some n) n refl (d.0, (omega arith, d.1)) (λ p q. one_value n p (sym e ∙ (reads p).1 (q.0, q.1.1)))

part_lacks : (n : ℕ) → n ≤ 255 → Lacks 58 (decimal n)
part_lacks n small = colon_lacks n (omega arith)

apart : IsNot 58 46
apart e = omega arith

join : (xs ys : List ℕ) → Lacks 58 xs → Lacks 58 ys → Lacks 58 (xs ++ 46 ∷ ys)
join xs ys a b = All-append (IsNot 58) xs (46 ∷ ys) a (All-cons (IsNot 58) 46 ys apart b)

dotted_lacks : (text : List ℕ) (ip : Ip4) → IsIp4 text ip → Lacks 58 text
dotted_lacks text ip p =
    let la : Lacks 58 (decimal p.a) = part_lacks p.a p.a_small in
    let lb : Lacks 58 (decimal p.b) = part_lacks p.b p.b_small in
    let lc : Lacks 58 (decimal p.c) = part_lacks p.c p.c_small in
    let ld : Lacks 58 (decimal p.d) = part_lacks p.d p.d_small in
    subst (Lacks 58) (sym p.written) (join _ _ la (join _ _ lb (join _ _ lc ld)))

host_lacks : (host : List ℕ) → IsSocketHost host → Lacks 58 host
host_lacks host (inl (inl e)) = subst (Lacks 58) (sym e) (lacks 58 (codes "*") refl)
host_lacks host (inl (inr e)) = subst (Lacks 58) (sym e) (lacks 58 (codes "localhost") refl)
host_lacks host (inr d) = dotted_lacks host d.0 d.1

addr : List ℕ → ℕ → Addr
addr h p = record { host = h; port = p }

same_addr : (x y : Addr) → x.host ≡ y.host → x.port ≡ y.port → x ≡ y
unfolding addr
same_addr x y h p = let e : addr x.host x.port ≡ addr y.host y.port = cc in e

small_port : (n : ℕ) → IsPort n → n < 2 ^ 32
small_port n p = let h : n ≤ 65535 = p.1 in omega arith

-- ---- sockets

socket_cut : (host port text : List ℕ) (a : Addr) → IsCut 58 host port text → (p : IsSocketAddress text a) → (host ≡ a.host) × (port ≡ decimal a.port)
socket_cut host port text a cut p = same_cut 58 host a.host port (decimal a.port) cut.first (host_lacks a.host p.host) (sym cut.written ∙ p.written)

pub no_colon : (text : List ℕ) → Lacks 58 text → (a : Addr) → IsSocketAddress text a → ⊥
no_colon text none a p = not_cut 58 text a.host (decimal a.port) none p.written

pub no_port : (host port text : List ℕ) (r : Option ℕ) → IsCut 58 host port text → ReadsPort port r → r ≡ None → (a : Addr) → IsSocketAddress text a → ⊥
no_port host port text r cut reads e a p = none_found (λ n. (port ≡ decimal n) × IsPort n) r reads e a.port ((socket_cut host port text a cut p).1, p.port)

pub no_host : (host port text : List ℕ) → IsCut 58 host port text → (IsSocketHost host → ⊥) → (a : Addr) → IsSocketAddress text a → ⊥
no_host host port text cut none a p = none (subst IsSocketHost (sym (socket_cut host port text a cut p).0) p.host)

pub to_socket : (host port text : List ℕ) (r : Option ℕ) (n : ℕ) → IsCut 58 host port text → ReadsPort port r → r ≡ Some n → IsSocketHost host → IsSocketAddress text (record { host = host; port = n })
to_socket host port text r n cut reads e h =
    let d = (reads n).0 e in
    record { host = h; port = d.1; written = cut.written ∙ ap (λ t. host ++ 58 ∷ t) d.0 }

same_socket : (text : List ℕ) (a b : Addr) → IsSocketAddress text a → IsSocketAddress text b → a ≡ b
same_socket text a b p q =
    let c = same_cut 58 a.host b.host (decimal a.port) (decimal b.port) (host_lacks a.host p.host) (host_lacks b.host q.host) (sym p.written ∙ q.written) in
    same_addr a b c.0 (same_number a.port b.port (small_port a.port p.port) (small_port b.port q.port) c.1)

pub one_socket : (text : List ℕ) (a b : Addr) → b ≡ a → IsSocketAddress text a → (x : Addr) → (Some b ≡ Some x) ↔ IsSocketAddress text x
one_socket text a b e p = finds_one (IsSocketAddress text) (Some b) b refl (subst (IsSocketAddress text) (sym e) p) (λ x q. same_socket text b x (subst (IsSocketAddress text) (sym e) p) q)

-- ---- external servers

no_name_byte : (b : ℕ) → IsTrue (is_host_byte b) → IsNot 58 b
no_name_byte b h = λ e. false≢true (subst (λ z. IsTrue (is_host_byte z)) e h)

name_lacks : (host : List ℕ) → IsHostName host → Lacks 58 host
name_lacks host h = All-weaker (λ b. IsTrue (is_host_byte b)) (IsNot 58) no_name_byte host h.1

-- a host name alone is not cut
alone : (host port text name : List ℕ) → text ≡ host ++ 58 ∷ port → IsHostName name → text ≡ name → ⊥
alone host port text name cut h e = not_cut 58 name host port (name_lacks name h) (sym e ∙ cut)

pub record Written (host port : List ℕ) (a : Addr) : Type 0 where
  pub name : host ≡ a.host
  pub number : port ≡ decimal a.port
  pub within : IsPort a.port

cut_cases : (host port text : List ℕ) (a : Addr) → IsCut 58 host port text → IsHostName a.host → IsNameAndPort text a → Written host port a
cut_cases host port text a cut h (inl w) = absurd (alone host port text a.host cut.written h w.0)
cut_cases host port text a cut h (inr w) =
    let c : (host ≡ a.host) × (port ≡ decimal a.port) = same_cut 58 host a.host port (decimal a.port) cut.first (name_lacks a.host h) (sym cut.written ∙ w.0) in
    record { name = c.0; number = c.1; within = w.1 }

pub no_external_port : (host port text : List ℕ) (r : Option ℕ) → IsCut 58 host port text → ReadsPort port r → r ≡ None → (a : Addr) → IsExternalAddress text a → ⊥
no_external_port host port text r cut reads e a p =
    let w = cut_cases host port text a cut p.host p.written in
    none_found (λ n. (port ≡ decimal n) × IsPort n) r reads e a.port (w.number, w.within)

pub no_external_host : (host port text : List ℕ) → IsCut 58 host port text → (IsHostName host → ⊥) → (a : Addr) → IsExternalAddress text a → ⊥
no_external_host host port text cut none a p = none (subst IsHostName (sym (cut_cases host port text a cut p.host p.written).name) p.host)

bare_cases : (text : List ℕ) (a : Addr) → Lacks 58 text → (IsHostName text → ⊥) → IsHostName a.host → IsNameAndPort text a → ⊥
bare_cases text a bare none h (inl w) = none (subst IsHostName (sym w.0) h)
bare_cases text a bare none h (inr w) = not_cut 58 text a.host (decimal a.port) bare w.0

pub no_name : (text : List ℕ) → Lacks 58 text → (IsHostName text → ⊥) → (a : Addr) → IsExternalAddress text a → ⊥
no_name text bare none a p = bare_cases text a bare none p.host p.written

same_cases : (text : List ℕ) (a b : Addr) → IsHostName a.host → IsHostName b.host → IsNameAndPort text a → IsNameAndPort text b → a ≡ b
same_cases text a b g h (inl v) (inl w) = same_addr a b (sym v.0 ∙ w.0) (v.1 ∙ sym w.1)
same_cases text a b g h (inl v) (inr w) = absurd (alone b.host (decimal b.port) text a.host w.0 g v.0)
same_cases text a b g h (inr v) (inl w) = absurd (alone a.host (decimal a.port) text b.host v.0 h w.0)
same_cases text a b g h (inr v) (inr w) =
    let c = same_cut 58 a.host b.host (decimal a.port) (decimal b.port) (name_lacks a.host g) (name_lacks b.host h) (sym v.0 ∙ w.0) in
    same_addr a b c.0 (same_number a.port b.port (small_port a.port v.1) (small_port b.port w.1) c.1)

pub one_external : (text : List ℕ) (a b : Addr) → b ≡ a → IsExternalAddress text a → (x : Addr) → (Some b ≡ Some x) ↔ IsExternalAddress text x
one_external text a b e p =
    let is : IsExternalAddress text b = subst (IsExternalAddress text) (sym e) p in
    finds_one (IsExternalAddress text) (Some b) b refl is (λ x q. same_cases text b x is.host q.host is.written q.written)
