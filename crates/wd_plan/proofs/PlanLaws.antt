-- The words and the files ask for one plan alone, and the reading of the configuration gives it.
use Rattle.std.specs.Prelude.{◌≡◌, ℕ, Bool, true, false, not, ◌&&◌, ◌||◌, List, [], ◌∷◌, map, nat_eq, IsTrue, Option}
use Rattle.std.specs.Prelude.{Some, None, Ok, Err, IfSome, refl, suc}
use Rattle.std.specs.Cmp.Lexicographic.{pointwise}
use Rattle.std.specs.List.{All, list_any}
use Rattle.std.proofs.Common.{sym, ap, subst, ◌∙◌, inl, inr, arith}
use Rattle.std.proofs.lemmas.Bool.{false≢true}
use Rattle.wd_base.specs.declared.config.Config.{Config}
use Rattle.wd_base.specs.declared.config.Service.{Service}
use Rattle.wd_command.specs.declared.command.Verb.{Verb}
use Rattle.wd_command.specs.declared.command.Verb.TheVariants as verb
use Rattle.wd_command.specs.declared.notice.Notice.{Notice}
use Rattle.wd_command.specs.Command.{Asked, Wish, runs, shows, is_serve, is_serving, wish}
use Rattle.wd_config.specs.declared.faults.ConfigEnd.{ConfigEnd}
use Rattle.wd_config.specs.declared.faults.ConfigEnd.TheVariants as end
use Rattle.wd_config.specs.declared.faults.ConfigFault.{ConfigFault}
use Rattle.wd_config.specs.declared.faults.ConfigKind.{ConfigKind}
use Rattle.wd_config.specs.declared.faults.ConfigKind.TheVariants as kind
use Rattle.wd_config.specs.Answer.{Answered, Answers, Differ}
use Rattle.wd_config.specs.Reading.{Answer, Found, Refused, Untold, IsEmbedFault, Read, Says, Tells, TellsFault}
use Rattle.wd_config.proofs.OneAnswer.{one_answer}
use Rattle.wd_config.proofs.ToldLaws.{answer_told}
use Rattle.wd_graph.specs.declared.linking.GraphFault.{GraphFault}
use Rattle.wd_graph.specs.Links.{first_unknown, linked}
use Rattle.wd_graph.specs.Names.{names_differ as differ_test, has_name, same_name}
use Rattle.wd_graph.proofs.Numbers.{one_name}
use Rattle.wd_plan.specs.declared.ready.PlanEnd.{PlanEnd}
use Rattle.wd_plan.specs.declared.ready.PlanEnd.TheVariants as plan_end
use Rattle.wd_plan.specs.declared.reason.RefusedScript.{RefusedScript}
use Rattle.wd_plan.specs.declared.refusal.Refusal.TheVariants as refusal
use Rattle.wd_plan.specs.Folder.{folder}
use Rattle.wd_plan.specs.Plan.{Plan, Refuses, Starts, Plans, AtAnswer, AtWish, AtFile, AtKinds, AtNames, AtScripts}
use Rattle.wd_plan.specs.Plan.{AtConfig, MayHold, EmbedsPath, IsReading, at_script, may_go}
use Rattle.wd_plan.specs.Prepare.{Heeds, IsAskedBy, IsLateEnd, IsLateRefusal, OnEndFault, OnRefusedFault, end_of}
use Rattle.wd_plan.specs.Prepare.{IsRefused, fault_refusal, plan_of_end, plan_of_refusal}
use Rattle.wd_plan.specs.Starts.{FirstRefused, are_plain}
use Rattle.wd_plan.proofs.StartSteps.{first_one}
use Rattle.wd_ports.specs.Told.{Stored}

-- at the scripts of a world of which none is refused, or this one is the first that is
pub at_started : (v : Verb) (world : Config) → FirstRefused world.services None → AtScripts v world (Starts v world)
at_started v world h = (None, h, refl)

pub at_refused : (v : Verb) (world : Config) (script : RefusedScript) → FirstRefused world.services (Some script)
    → AtScripts v world (Refuses (refusal.Script script))
at_refused v world script h = (Some script, h, refl)

at_scripts : (v : Verb) (world : Config) (p p' : Plan) → AtScripts v world p → AtScripts v world p' → p ≡ p'
at_scripts v world p p' (found, first, is) (found', first', is') = is
    ∙ ap (at_script v world) (first_one world.services found found' first first') ∙ sym is'

at_kinds : (v : Verb) (world : Config) (go : Bool) (p p' : Plan) → AtKinds v world go p → AtKinds v world go p' → p ≡ p'
at_kinds v world false p p' h h' = h ∙ sym h'
at_kinds v world true p p' h h' = at_scripts v world p p' h h'

at_names : (v : Verb) (config : Config) (unknown : Option GraphFault) (p p' : Plan) → AtNames v config unknown p
    → AtNames v config unknown p' → p ≡ p'
at_names v config (Some fault) p p' h h' = h ∙ sym h'
at_names v config None p p' h h' = at_kinds v (linked config) (may_go v (are_plain config.services) (linked config)) p
    p' h h'

at_answer : (v : Verb) (a : Answer Config) (p p' : Plan) → AtAnswer v a p → AtAnswer v a p' → p ≡ p'
at_answer v (Found config) p p' h h' = at_names v config (first_unknown (linked config)) p p' h h'
at_answer v (Refused fault) p p' h h' = h ∙ sym h'
at_answer v Untold p p' h h' = absurd h

-- what is said of an answer is the answer, where the files are told
says_is : (bytes : List ℕ) (name : Option (List ℕ)) (place : List ℕ) (s : Stored) (r : Read Config)
    (x a : Answer Config) → Answers bytes name place (Some s) r → r.answer ≡ a → Says x a → a ≡ x
says_is bytes name place s r x (Found c) of e says = says
says_is bytes name place s r x (Refused f) of e says = says
says_is bytes name place s r x Untold of e says = absurd (answer_told bytes name place s r of e)

at_file : (s : Stored) (asked : Asked) (bytes : Option (List ℕ)) (p p' : Plan) → AtFile (Some s) asked bytes p
    → AtFile (Some s) asked bytes p' → p ≡ p'
at_file s asked None p p' h h' = h ∙ sym h'
at_file s asked (Some bytes) p p' (r, of, a, says, at) (r', of', a', says', at') =
    let same : r' ≡ r = one_answer bytes asked.constant (folder asked.config) (Some s) r' r of' of in
    let here : r.answer ≡ a = says_is bytes asked.constant (folder asked.config) s r a r.answer of refl says in
    let there : r'.answer ≡ a' = says_is bytes asked.constant (folder asked.config) s r' a' r'.answer of' refl says' in
    at_answer asked.verb a p p' at
    (subst (λ x. AtAnswer asked.verb x p') (sym there ∙ ap (λ x. x.answer) same ∙ here) at')

at_config : (s : Stored) (asked : Asked) (p p' : Plan) → AtConfig (Some s) asked p → AtConfig (Some s) asked p'
    → p ≡ p'
at_config s asked p p' (bytes, held, at) (bytes', held', at') =
    at_file s asked bytes p p' at (subst (λ b. AtFile (Some s) asked b p') (sym held' ∙ held) at')

at_wish : (s : Stored) (asks : Wish) (p p' : Plan) → AtWish (Some s) asks p → AtWish (Some s) asks p' → p ≡ p'
at_wish s (shows notice) p p' h h' = h ∙ sym h'
at_wish s (runs asked) p p' h h' = at_config s asked p p' h h'

pub plans_one : (words : List (List ℕ)) (s : Stored) (p p' : Plan) → Plans words (Some s) p → Plans words (Some s) p'
    → p ≡ p'
unfolding Plans
plans_one words s p p' h h' = at_wish s (wish words) p p' h h'

-- words that ask for a notice ask for it whatever the files are
pub no_command : (words : List (List ℕ)) (files : Option Stored) (notice : Notice) → wish words ≡ shows notice
    → Plans words files (Refuses (refusal.NoCommand notice))
unfolding Plans
no_command words files notice e =
    subst (λ w. AtWish files w (Refuses (refusal.NoCommand notice))) (sym e) refl

same_notice : (a b : Notice) → plan_end.Refused (refusal.NoCommand a) ≡ plan_end.Refused (refusal.NoCommand b) → a ≡ b
same_notice a b e = cc

no_notice : (a : Notice) → plan_end.NoMemory ≡ plan_end.Refused (refusal.NoCommand a) → ⊥
no_notice a e = cc

-- a notice that comes was asked for
pub notice_asked : (w : Wish) (e : PlanEnd) (notice : Notice) → Heeds w (Err e)
    → e ≡ plan_end.Refused (refusal.NoCommand notice) → w ≡ shows notice
notice_asked (shows other) e notice (inl is) at = ap shows (same_notice other notice (sym is ∙ at))
notice_asked (shows other) e notice (inr is) at = absurd (no_notice notice (sym is ∙ at))
notice_asked (runs asked) e notice late at = absurd (subst IsLateEnd at late)

-- what is to be served was asked to be
pub serve_asked : (asked : Option Asked) (v : Verb) → IsAskedBy asked v → v ≡ verb.Serve → is_serve asked ≡ true
serve_asked None v h e = absurd h
serve_asked (Some asked) v h e = ap is_serving (sym h ∙ e)

-- ---- what was read

-- there is no file of the configuration
pub missing_config : (files : Option Stored) (asked : Asked) (e : PlanEnd)
    → IsRefused (refusal.MissingFile asked.config) e → MayHold files asked.config None
    → IfSome (plan_of_end e) (AtConfig files asked)
missing_config files asked e (inl is) none =
    subst (λ x. IfSome (plan_of_end x) (AtConfig files asked)) (sym is) (None, none, refl)
missing_config files asked e (inr is) none = subst (λ x. IfSome (plan_of_end x) (AtConfig files asked)) (sym is) tt

-- the configuration's file has these bytes
pub found_config : (files : Option Stored) (asked : Asked) (bytes : List ℕ) (plan : Option Plan)
    → MayHold files asked.config (Some bytes) → IfSome plan (AtFile files asked (Some bytes))
    → IfSome plan (AtConfig files asked)
found_config files asked bytes None held at = tt
found_config files asked bytes (Some p) held at = (Some bytes, held, at)

pub at_found : (files : Option Stored) (asked : Asked) (bytes : List ℕ) (config : Config) (plan : Option Plan)
    → ((r : Read Config) × IsReading files asked bytes r × Tells r (Ok config))
    → IfSome plan (AtNames asked.verb config (first_unknown (linked config)))
    → IfSome plan (AtFile files asked (Some bytes))
at_found files asked bytes config None reads is = tt
at_found files asked bytes config (Some p) (r, of, says) is = (r, of, Found config, says, is)

at_refused_config : (files : Option Stored) (asked : Asked) (bytes : List ℕ) (r : Read Config) (f : ConfigFault)
    → IsReading files asked bytes r → Says (Refused f) r.answer
    → AtFile files asked (Some bytes) (Refuses (refusal.Config f))
at_refused_config files asked bytes r f of says = (r, of, Refused f, says, refl)

at_kind : (files : Option Stored) (asked : Asked) (bytes : List ℕ) (r : Read Config) (f : ConfigFault)
    (k : ConfigKind) → IsReading files asked bytes r → TellsFault r f k
    → IfSome (plan_of_refusal (fault_refusal k f)) (AtFile files asked (Some bytes))
at_kind files asked bytes r f (kind.Text k) of says = at_refused_config files asked bytes r f of says
at_kind files asked bytes r f kind.EmbedFault of says = tt
at_kind files asked bytes r f kind.NoSuchConst of says = at_refused_config files asked bytes r f of says
at_kind files asked bytes r f kind.SeveralConfigs of says = at_refused_config files asked bytes r f of says
at_kind files asked bytes r f kind.ConstLoop of says = at_refused_config files asked bytes r f of says
at_kind files asked bytes r f kind.UnknownField of says = at_refused_config files asked bytes r f of says
at_kind files asked bytes r f kind.WrongKind of says = at_refused_config files asked bytes r f of says
at_kind files asked bytes r f kind.LeftOut of says = at_refused_config files asked bytes r f of says
at_kind files asked bytes r f kind.DoubleName of says = at_refused_config files asked bytes r f of says
at_kind files asked bytes r f kind.EmbedMissing of says = at_refused_config files asked bytes r f of says
at_kind files asked bytes r f kind.BadJson of says = at_refused_config files asked bytes r f of says
at_kind files asked bytes r f kind.BadAddress of says = at_refused_config files asked bytes r f of says
at_kind files asked bytes r f kind.BadRange of says = at_refused_config files asked bytes r f of says
at_kind files asked bytes r f kind.NoScript of says = at_refused_config files asked bytes r f of says

pub at_end : (files : Option Stored) (asked : Asked) (bytes : List ℕ) (e : ConfigEnd)
    → Answered bytes asked.constant (folder asked.config) files (Err e)
    → IfSome (plan_of_end (end_of e)) (AtFile files asked (Some bytes))
at_end files asked bytes (end.Fault f) (r, of, says) = at_kind files asked bytes r f f.kind of says
at_end files asked bytes end.NoMemory reads = tt

path_kind : (files : Option Stored) (asked : Asked) (bytes : List ℕ) (r : Read Config) (f : ConfigFault)
    (k : ConfigKind) → IsReading files asked bytes r → TellsFault r f k
    → OnRefusedFault (fault_refusal k f) (EmbedsPath files asked bytes)
path_kind files asked bytes r f (kind.Text k) of says = tt
path_kind files asked bytes r f kind.EmbedFault of says = (r, of, (f.place, says))
path_kind files asked bytes r f kind.NoSuchConst of says = tt
path_kind files asked bytes r f kind.SeveralConfigs of says = tt
path_kind files asked bytes r f kind.ConstLoop of says = tt
path_kind files asked bytes r f kind.UnknownField of says = tt
path_kind files asked bytes r f kind.WrongKind of says = tt
path_kind files asked bytes r f kind.LeftOut of says = tt
path_kind files asked bytes r f kind.DoubleName of says = tt
path_kind files asked bytes r f kind.EmbedMissing of says = tt
path_kind files asked bytes r f kind.BadJson of says = tt
path_kind files asked bytes r f kind.BadAddress of says = tt
path_kind files asked bytes r f kind.BadRange of says = tt
path_kind files asked bytes r f kind.NoScript of says = tt

-- an embed that could not be read is one that the reading comes to
pub end_path : (files : Option Stored) (asked : Asked) (bytes : List ℕ) (e : ConfigEnd)
    → Answered bytes asked.constant (folder asked.config) files (Err e)
    → OnEndFault (end_of e) (EmbedsPath files asked bytes)
end_path files asked bytes (end.Fault f) (r, of, says) = path_kind files asked bytes r f f.kind of says
end_path files asked bytes end.NoMemory reads = tt

rose_kind : (f : ConfigFault) (k : ConfigKind) (rose : Type 0) → (k ≡ kind.EmbedFault → rose)
    → OnRefusedFault (fault_refusal k f) (λ path. rose)
rose_kind f (kind.Text k) rose h = tt
rose_kind f kind.EmbedFault rose h = h refl
rose_kind f kind.NoSuchConst rose h = tt
rose_kind f kind.SeveralConfigs rose h = tt
rose_kind f kind.ConstLoop rose h = tt
rose_kind f kind.UnknownField rose h = tt
rose_kind f kind.WrongKind rose h = tt
rose_kind f kind.LeftOut rose h = tt
rose_kind f kind.DoubleName rose h = tt
rose_kind f kind.EmbedMissing rose h = tt
rose_kind f kind.BadJson rose h = tt
rose_kind f kind.BadAddress rose h = tt
rose_kind f kind.BadRange rose h = tt
rose_kind f kind.NoScript rose h = tt

pub end_rose : (e : ConfigEnd) (rose : Type 0) → (IsEmbedFault {A = Config} (Err e) → rose)
    → OnEndFault (end_of e) (λ path. rose)
end_rose (end.Fault f) rose h = rose_kind f f.kind rose h
end_rose end.NoMemory rose h = tt

late_kind : (f : ConfigFault) (k : ConfigKind) → IsLateRefusal (fault_refusal k f)
late_kind f (kind.Text k) = tt
late_kind f kind.EmbedFault = tt
late_kind f kind.NoSuchConst = tt
late_kind f kind.SeveralConfigs = tt
late_kind f kind.ConstLoop = tt
late_kind f kind.UnknownField = tt
late_kind f kind.WrongKind = tt
late_kind f kind.LeftOut = tt
late_kind f kind.DoubleName = tt
late_kind f kind.EmbedMissing = tt
late_kind f kind.BadJson = tt
late_kind f kind.BadAddress = tt
late_kind f kind.BadRange = tt
late_kind f kind.NoScript = tt

pub end_late : (e : ConfigEnd) → IsLateEnd (end_of e)
end_late (end.Fault f) = late_kind f f.kind
end_late end.NoMemory = tt

-- ---- names

not_same : (a n : List ℕ) → (a ≡ n → ⊥) → (b : Bool) → same_name a n ≡ b → b ≡ false
not_same a n apart true e = absurd (apart (one_name a n e))
not_same a n apart false e = refl

or_false : (a b : Bool) → a ≡ false → b ≡ false → (a || b) ≡ false
or_false true b ea eb = ea
or_false false b ea eb = eb

not_and : (a b : Bool) → a ≡ false → b ≡ true → (not a && b) ≡ true
not_and true b ea eb = absurd (false≢true (sym ea))
not_and false b ea eb = eb

other_name : (n : List ℕ) (services : List Service) → All (λ m. m ≡ n → ⊥) (map (λ s. s.name) services)
    → has_name services n ≡ false
other_name n [] h = refl
other_name n (s ∷ rest) h =
    or_false (same_name s.name n) (has_name rest n) (not_same s.name n (h 0 [] (omega arith)) (same_name s.name n) refl)
    (other_name n rest (λ k d l. h (suc k) d (omega arith)))

pub names_differ : (services : List Service) → Differ (map (λ s. s.name) services) → IsTrue (differ_test services)
names_differ [] h = refl
names_differ (s ∷ rest) h = not_and (has_name rest s.name) (differ_test rest) (other_name s.name rest h.0)
    (names_differ rest h.1)
