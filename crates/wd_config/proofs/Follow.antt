-- A `.name` is followed, turn by turn.
use Rattle.std.proofs.Common.{◌≡◌, ℕ, ◌-◌, suc, zero, ◌<◌, ◌≤◌, List, length, take, Some, None, Ok, Err, refl, sym, ap, ◌∙◌, arith}
use Rattle.std.proofs.lemmas.List.{take-take}
use Rattle.capnp_text.specs.declared.tree.Decl.{Decl}
use Rattle.capnp_text.specs.declared.tree.Placed.{Placed}
use Rattle.capnp_text.specs.declared.tree.Value.{Value}
use Rattle.wd_config.specs.declared.faults.Refusal.{Refusal}
use Rattle.wd_config.specs.declared.faults.Stop.{Stop}
use Rattle.wd_config.specs.declared.faults.Stop.TheVariants.{Refused, Failed, NoMemory}
use Rattle.wd_config.specs.Given.{Given, StopsAt, ◌>>=◌}
use Rattle.wd_config.specs.Names.{Names}
use Rattle.wd_config.specs.Values.{InPlace, as_constant, opened, followed, follow}

pub follow_end : (n : ℕ) (file : List Decl) (cs : Names) (o : List ℕ) (v : Value) → as_constant v ≡ None → follow n file cs (o, v) ≡ Ok (o, v)
unfolding follow
follow_end zero file cs o v e = refl
follow_end (suc n) file cs o v e = ap (followed (follow n file cs) file cs o v) e

follow_step : (n : ℕ) (file : List Decl) (cs : Names) (o : List ℕ) (v : Value) (k : ℕ × Placed) (r : Given InPlace) → as_constant v ≡ Some k → opened file cs o k.0 k.1 ≡ r → follow (suc n) file cs (o, v) ≡ (r >>= follow n file cs)
unfolding follow
follow_step n file cs o v k r e f = ap (followed (follow n file cs) file cs o v) e ∙ ap (λ (x : Given InPlace). x >>= follow n file cs) f

pred : (n : ℕ) → 0 < n → n ≡ suc (n - 1)
pred n h = omega arith

pub follow_more : (n : ℕ) (file : List Decl) (cs : Names) (o p : List ℕ) (v w : Value) (k : ℕ × Placed) → 0 < n → as_constant v ≡ Some k → opened file cs o k.0 k.1 ≡ Ok (p, w) → follow n file cs (o, v) ≡ follow (n - 1) file cs (p, w)
follow_more n file cs o p v w k h e f = ap (λ (m : ℕ). follow m file cs (o, v)) (pred n h) ∙ follow_step (n - 1) file cs o v k (Ok (p, w)) e f

pub follow_fault : (n : ℕ) (file : List Decl) (cs : Names) (o : List ℕ) (v : Value) (k : ℕ × Placed) (g : Refusal) → 0 < n → as_constant v ≡ Some k → opened file cs o k.0 k.1 ≡ Err g → follow n file cs (o, v) ≡ Err g
follow_fault n file cs o v k g h e f = ap (λ (m : ℕ). follow m file cs (o, v)) (pred n h) ∙ follow_step (n - 1) file cs o v k (Err g) e f

pub follow_stops : (n : ℕ) (file : List Decl) (cs : Names) (o : List ℕ) (v : Value) (k : ℕ × Placed) (s : Stop) → 0 < n → as_constant v ≡ Some k
    → StopsAt (opened file cs o k.0 k.1) s → (whole : Given InPlace) → follow n file cs (o, v) ≡ whole → StopsAt whole s
follow_stops n file cs o v k (Refused g) h e f whole w = sym w ∙ follow_fault n file cs o v k g h e f
follow_stops n file cs o v k (Failed x) h e f whole w = absurd f
follow_stops n file cs o v k NoMemory h e f whole w = tt

-- no turn is left
pub follow_none : (n : ℕ) (file : List Decl) (cs : Names) (o : InPlace) → n ≤ 0 → follow n file cs o ≡ Ok o
unfolding follow
follow_none zero file cs o h = refl
follow_none (suc n) file cs o h = absurd (omega arith)

-- what was open before is still
pub kept : (a b c : List ℕ) → take (length a) b ≡ a → length a ≤ length b → take (length b) c ≡ b → take (length a) c ≡ a
kept a b c e h f = sym (take-take (length a) (length b) c h) ∙ ap (λ (x : List ℕ). take (length a) x) f ∙ e
