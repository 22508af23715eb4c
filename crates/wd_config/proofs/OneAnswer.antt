-- The bytes have one reading.
use Rattle.std.proofs.Common.{◌≡◌, ℕ, List, [], Option, Result, Ok, Err, refl, sym, ap, ◌∙◌, inl, inr}
use Rattle.wd_base.specs.declared.config.Config.{Config}
use Rattle.wd_ports.specs.Told.{Stored}
use Rattle.capnp_text.specs.declared.tree.Decl.{Decl}
use Rattle.capnp_text.specs.declared.reader.TextFault.{TextFault}
use Rattle.capnp_text.specs.declared.reader.ParseEnd.TheVariants.{Fault}
use Rattle.capnp_text.specs.Answer.{answer}
use Rattle.capnp_text.specs.Scan.{scanned}
use Rattle.capnp_text.specs.Fault.{IsText, IsFirstFault}
use Rattle.capnp_text.proofs.Judged.{only_law, only_fault_law}
use Rattle.wd_config.specs.declared.faults.ConfigKind.TheVariants as kind
use Rattle.wd_config.specs.Reading.{Read, refuse}
use Rattle.wd_config.specs.Configured.{configured}
use Rattle.wd_config.specs.Answer.{Answers}

-- bytes are one file's text
files_at : (bs : List ℕ) (told : Result (List Decl) TextFault) → answer (scanned bs) ≡ told → (f g : List Decl) → IsText f bs → IsText g bs → f ≡ g
files_at bs (Ok ds) e f g p q = sym (only_law bs (Ok ds) e f p) ∙ only_law bs (Ok ds) e g q
files_at bs (Err k) e f g p q = absurd (only_law bs (Err (Fault k)) e f p)

faults_at : (bs : List ℕ) (told : Result (List Decl) TextFault) → answer (scanned bs) ≡ told → (f g : TextFault) → IsFirstFault f bs → IsFirstFault g bs → f ≡ g
faults_at bs (Ok ds) e f g p q = absurd (only_fault_law bs (Ok ds) e f p)
faults_at bs (Err k) e f g p q = sym (only_fault_law bs (Err (Fault k)) e f p) ∙ only_fault_law bs (Err (Fault k)) e g q

apart_at : (bs : List ℕ) (told : Result (List Decl) TextFault) → answer (scanned bs) ≡ told → (f : List Decl) (g : TextFault) → IsText f bs → IsFirstFault g bs → ⊥
apart_at bs (Ok ds) e f g p q = only_fault_law bs (Ok ds) e g q
apart_at bs (Err k) e f g p q = only_law bs (Err (Fault k)) e f p

pub one_answer : (bytes : List ℕ) (name : Option (List ℕ)) (folder : List ℕ) (files : Option Stored) (r s : Read Config) → Answers bytes name folder files r → Answers bytes name folder files s → r ≡ s
one_answer bytes name folder files r s (inl p) (inl q) = p.is ∙ ap (configured name folder files) (files_at bytes (answer (scanned bytes)) refl p.file q.file p.text q.text) ∙ sym q.is
one_answer bytes name folder files r s (inl p) (inr q) = absurd (apart_at bytes (answer (scanned bytes)) refl p.file q.fault p.text q.first)
one_answer bytes name folder files r s (inr p) (inl q) = absurd (apart_at bytes (answer (scanned bytes)) refl q.file p.fault q.text p.first)
one_answer bytes name folder files r s (inr p) (inr q) = p.is ∙ ap (λ (f : TextFault). refuse (kind.Text f.kind) f.place []) (faults_at bytes (answer (scanned bytes)) refl p.fault q.fault p.first q.first) ∙ sym q.is
