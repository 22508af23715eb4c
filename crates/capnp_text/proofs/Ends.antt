-- The end within a declaration.
use Rattle.std.proofs.Common.{◌≡◌, ℕ, List, Result, refl, subst, sym}
use Rattle.capnp_text.specs.declared.tree.Decl.{Decl}
use Rattle.capnp_text.specs.declared.machine.At.{At}
use Rattle.capnp_text.specs.declared.machine.At.TheVariants as at
use Rattle.capnp_text.specs.declared.reader.TextKind.TheVariants as kind
use Rattle.capnp_text.specs.declared.reader.ParseEnd.{ParseEnd}
use Rattle.capnp_text.specs.Answer.{fault, finished, Tells}

pub not_finished : (p : ℕ) (ds : List Decl) (a : At) → (a ≡ at.Decl → ⊥) → finished p ds a ≡ fault kind.Unclosed p
not_finished p ds at.Decl h = absurd (h refl)
not_finished p ds _ h = refl

pub unfinished_tells : (p : ℕ) (ds : List Decl) (a : At) (r : Result (List Decl) ParseEnd) → (a ≡ at.Decl → ⊥) → Tells (fault kind.Unclosed p) r → Tells (finished p ds a) r
unfinished_tells p ds a r h t = subst (λ o. Tells o r) (sym (not_finished p ds a h)) t
