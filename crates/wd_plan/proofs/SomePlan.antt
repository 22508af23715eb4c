-- Whatever the words and the told files are, they ask for a plan.
use Rattle.std.specs.Prelude.{◌≡◌, ℕ, Bool, true, false, List, [], ◌∷◌, Option, Some, None, Result, Ok, Err, refl}
use Rattle.std.proofs.Common.{sym, subst, inl, inr}
use Rattle.capnp_text.specs.declared.reader.ParseEnd.TheVariants.{Fault}
use Rattle.capnp_text.specs.declared.reader.TextFault.{TextFault}
use Rattle.capnp_text.specs.declared.tree.Decl.{Decl}
use Rattle.capnp_text.specs.Answer.{answer}
use Rattle.capnp_text.specs.Scan.{scanned}
use Rattle.capnp_text.proofs.Judged.{found_law, first_law}
use Rattle.js_check.specs.declared.script.ScriptRefusal.{ScriptRefusal}
use Rattle.js_check.specs.Verdict.{Checked}
use Rattle.js_check.proofs.SomeVerdict.{some_verdict}
use Rattle.wd_base.specs.declared.config.Config.{Config}
use Rattle.wd_base.specs.declared.config.Service.{Service}
use Rattle.wd_base.specs.declared.config.WorkerDef.{WorkerDef}
use Rattle.wd_base.specs.Text.{utf16_of}
use Rattle.wd_command.specs.declared.command.Verb.{Verb}
use Rattle.wd_command.specs.Command.{Asked, Wish, runs, shows, wish}
use Rattle.wd_config.specs.declared.faults.ConfigKind.TheVariants as kind
use Rattle.wd_config.specs.Answer.{Answers}
use Rattle.wd_config.specs.Configured.{configured}
use Rattle.wd_config.specs.Reading.{Answer, Found, Refused, Untold, Read, Says, refuse}
use Rattle.wd_config.proofs.ToldLaws.{answer_told}
use Rattle.wd_graph.specs.declared.linking.GraphFault.{GraphFault}
use Rattle.wd_graph.specs.Links.{first_unknown, linked}
use Rattle.wd_graph.specs.Names.{worker_in}
use Rattle.wd_plan.specs.declared.reason.Reason.TheVariants.{Faulty, OtherForm}
use Rattle.wd_plan.specs.declared.reason.RefusedScript.{RefusedScript}
use Rattle.wd_plan.specs.declared.refusal.Refusal.TheVariants as refusal
use Rattle.wd_plan.specs.declared.script.Verdict.{Verdict}
use Rattle.wd_plan.specs.declared.script.Verdict.TheVariants as verdict
use Rattle.wd_plan.specs.Folder.{folder}
use Rattle.wd_plan.specs.Plan.{Plan, Refuses, Plans, AtAnswer, AtConfig, AtKinds, AtNames, AtScripts, AtWish}
use Rattle.wd_plan.specs.Plan.{at_script, may_go, other_kind}
use Rattle.wd_plan.specs.Script.{Comes, answer_for}
use Rattle.wd_plan.specs.Starts.{FirstRefused, IsPassed, IsRefusedFor, are_plain, refused}
use Rattle.wd_ports.specs.Told.{Stored, file_at}

-- ---- scripts

by_form : (def : WorkerDef) (text : Option (List ℕ)) → answer_for def ≡ text → Checked (utf16_of def.source) None
    → (v : Verdict) × Comes def v
by_form def None e passes = (verdict.Refused OtherForm, (passes, e))
by_form def (Some text) e passes = (verdict.Answers text, (passes, e))

by_check : (def : WorkerDef) (found : Option ScriptRefusal) → Checked (utf16_of def.source) found
    → (v : Verdict) × Comes def v
by_check def None passes = by_form def (answer_for def) refl passes
by_check def (Some why) fails = (verdict.Refused (Faulty why), fails)

some_comes : (def : WorkerDef) → (v : Verdict) × Comes def v
some_comes def = let found = some_verdict (utf16_of def.source) in by_check def found.0 found.1

by_verdict : (s : Service) (rest : List Service) (def : WorkerDef) (v : Verdict) (found : Option RefusedScript)
    → worker_in s.kind ≡ Some def → Comes def v → FirstRefused rest found
    → (first : Option RefusedScript) × FirstRefused (s ∷ rest) first
by_verdict s rest def (verdict.Answers text) found e comes first =
    (found, inl (subst IsPassed (sym e) (text, comes), first))
by_verdict s rest def (verdict.Refused reason) found e comes first =
    (Some (refused s reason), inr (reason, subst (λ w. IsRefusedFor w reason) (sym e) comes, refl))

by_worker : (s : Service) (rest : List Service) (w : Option WorkerDef) (found : Option RefusedScript)
    → worker_in s.kind ≡ w → FirstRefused rest found → (first : Option RefusedScript) × FirstRefused (s ∷ rest) first
by_worker s rest None found e first = (found, inl (subst IsPassed (sym e) tt, first))
by_worker s rest (Some def) found e first =
    let comes = some_comes def in by_verdict s rest def comes.0 found e comes.1 first

some_first : (services : List Service) → (first : Option RefusedScript) × FirstRefused services first
some_first [] = (None, refl)
some_first (s ∷ rest) = let first = some_first rest in by_worker s rest (worker_in s.kind) first.0 refl first.1

-- ---- a configuration

some_scripts : (v : Verb) (world : Config) → (plan : Plan) × AtScripts v world plan
some_scripts v world =
    let first = some_first world.services in (at_script v world first.0, (first.0, first.1, refl))

some_kinds : (v : Verb) (world : Config) (go : Bool) → (plan : Plan) × AtKinds v world go plan
some_kinds v world false = (Refuses (refusal.Config other_kind), refl)
some_kinds v world true = some_scripts v world

some_names : (v : Verb) (config : Config) (unknown : Option GraphFault) → (plan : Plan) × AtNames v config unknown plan
some_names v config (Some fault) = (Refuses (refusal.Link fault), refl)
some_names v config None = some_kinds v (linked config) (may_go v (are_plain config.services) (linked config))

some_answer : (v : Verb) (a : Answer Config) → (a ≡ Untold → ⊥) → (plan : Plan) × AtAnswer v a plan
some_answer v (Found config) told = some_names v config (first_unknown (linked config))
some_answer v (Refused fault) told = (Refuses (refusal.Config fault), refl)
some_answer v Untold told = absurd (told refl)

says_itself : (a : Answer Config) → Says a a
says_itself (Found config) = refl
says_itself (Refused fault) = refl
says_itself Untold = tt

-- ---- the bytes of a configuration's file

by_text : (bytes : List ℕ) (name : Option (List ℕ)) (place : List ℕ) (files : Option Stored)
    (x : Result (List Decl) TextFault) → answer (scanned bytes) ≡ x
    → (r : Read Config) × Answers bytes name place files r
by_text bytes name place files (Ok file) e =
    (configured name place files file, inl (record { file = file; text = found_law bytes (Ok file) e; is = refl }))
by_text bytes name place files (Err f) e = (
  refuse (kind.Text f.kind) f.place [],
  inr (record { fault = f; first = first_law bytes (Err (Fault f)) e; is = refl }),
)

some_reading : (bytes : List ℕ) (name : Option (List ℕ)) (place : List ℕ) (files : Option Stored)
    → (r : Read Config) × Answers bytes name place files r
some_reading bytes name place files = by_text bytes name place files (answer (scanned bytes)) refl

some_config : (s : Stored) (asked : Asked) (bytes : Option (List ℕ)) → file_at s asked.config ≡ bytes
    → (plan : Plan) × AtConfig (Some s) asked plan
some_config s asked None e = (Refuses (refusal.MissingFile asked.config), (None, e, refl))
some_config s asked (Some bytes) e =
    let reading = some_reading bytes asked.constant (folder asked.config) (Some s) in
    let r : Read Config = reading.0 in
    let told : (r.answer ≡ Untold → ⊥) =
    answer_told bytes asked.constant (folder asked.config) s r reading.1 in
    let at = some_answer asked.verb r.answer told in
    (at.0, (Some bytes, e, (r, reading.1, r.answer, says_itself r.answer, at.1)))

some_wish : (s : Stored) (asks : Wish) → (plan : Plan) × AtWish (Some s) asks plan
some_wish s (shows notice) = (Refuses (refusal.NoCommand notice), refl)
some_wish s (runs asked) = some_config s asked (file_at s asked.config) refl

pub some_plan : (words : List (List ℕ)) (s : Stored) → (plan : Plan) × Plans words (Some s) plan
unfolding Plans
some_plan words s = some_wish s (wish words)
