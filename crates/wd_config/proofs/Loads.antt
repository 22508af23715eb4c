-- What is loaded, where the files tell it.
use Rattle.std.proofs.Common.{◌≡◌, ℕ, List, [], ◌∷◌, Option, Some, None, Result, Ok, Err, refl, sym, ap, subst, ◌∙◌, arith, inl, inr}
use Rattle.std.specs.Prelude.{IfSome}
use Rattle.std.specs.List.{Contains}
use Rattle.capnp_text.specs.declared.tree.Placed.{Placed}
use Rattle.wd_ports.specs.Told.{Stored, file_at}
use Rattle.wd_config.specs.declared.faults.RefusedKind.TheVariants as kind
use Rattle.wd_config.specs.declared.faults.Stop.{Stop}
use Rattle.wd_config.specs.declared.faults.Stop.TheVariants.{Refused as Refuse, Failed, NoMemory}
use Rattle.wd_config.specs.Given.{Gives, fault, config_fault}
use Rattle.wd_config.specs.Reading.{Refused, Comes, IsStopAt}
use Rattle.wd_config.specs.Values.{loaded, file_for}

placed : ℕ → List ℕ → Placed
placed p bytes = record { place = p; bytes = bytes }

pub loaded_found : (p : ℕ) (w : Placed) (files : Option Stored) (path : List ℕ) (found : Option (List ℕ)) (bytes : List ℕ) → IfSome files (λ s. found ≡ file_at s path) → found ≡ Some bytes
    → Comes (loaded p w (file_for files path)) (Ok (record { place = p; bytes = bytes }))
loaded_found p w None path found bytes h e = tt
loaded_found p w (Some s) path found bytes h e = subst (λ o. Comes (loaded p w (Some o)) (Ok (record { place = p; bytes = bytes }))) (sym e ∙ h) refl

missing : (p : ℕ) (w : Placed) (y : Result Placed Stop) → Gives (fault kind.EmbedMissing w.place w.bytes) y → Comes (loaded p w (Some None)) y
missing p w (Ok x) g = cc
missing p w (Err (Refuse f)) g = let e : record { kind = kind.EmbedMissing; place = w.place; name = w.bytes } ≡ f = cc in ap (λ r. Refused (config_fault r)) e
missing p w (Err (Failed v)) g = absurd g
missing p w (Err NoMemory) g = tt

untold : (p : ℕ) (w : Placed) (y : Result Placed Stop) → Comes (loaded p w None) y
untold p w (Ok x) = tt
untold p w (Err (Refuse f)) = tt
untold p w (Err (Failed v)) = inl refl
untold p w (Err NoMemory) = tt

pub loaded_missing : (p : ℕ) (w : Placed) (files : Option Stored) (path : List ℕ) (found : Option (List ℕ)) (y : Result Placed Stop) → IfSome files (λ s. found ≡ file_at s path) → found ≡ None
    → Gives (fault kind.EmbedMissing w.place w.bytes) y → Comes (loaded p w (file_for files path)) y
loaded_missing p w None path found y h e g = untold p w y
loaded_missing p w (Some s) path found y h e g = subst (λ o. Comes (loaded p w (Some o)) y) (sym e ∙ h) (missing p w y g)

holds : (w v : Placed) → v ≡ w → Contains (w ∷ []) v
holds w v e = (0, omega arith, sym e)

failed_at : (p : ℕ) (w : Placed) (o : Option (List ℕ)) (y : Result Placed Stop) → IsStopAt w y → Comes (loaded p w (Some o)) y
failed_at p w o (Ok x) g = absurd g
failed_at p w o (Err (Refuse f)) g = absurd g
failed_at p w None (Err (Failed v)) g = inr (holds w v g)
failed_at p w (Some b) (Err (Failed v)) g = inr (holds w v g)
failed_at p w None (Err NoMemory) g = tt
failed_at p w (Some b) (Err NoMemory) g = tt

pub loaded_failed : (p : ℕ) (w : Placed) (files : Option Stored) (path : List ℕ) (y : Result Placed Stop) → IsStopAt w y → Comes (loaded p w (file_for files path)) y
loaded_failed p w None path y g = untold p w y
loaded_failed p w (Some s) path y g = failed_at p w (file_at s path) y g
