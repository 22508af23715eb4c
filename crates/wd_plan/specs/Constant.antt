-- What an isolate means that answers one text, and that it keeps the laws of isolates.
use Rattle.std.specs.Prelude.{◌≡◌, ℕ, Bool, true, false, List, [], ◌∷◌, Option, Some, None, codes, refl, unwrap_or}
use Rattle.std.proofs.Common.{ap, sym}
use Rattle.std.proofs.lemmas.Bool.{false≢true}
use Rattle.std.specs.Option.{option_map}
use Rattle.wd_base.specs.declared.config.WorkerDef.{WorkerDef}
use Rattle.wd_base.specs.declared.http.Reply.{Reply}
use Rattle.wd_base.specs.declared.http.Why.TheVariants.{Plain}
use Rattle.wd_machine.specs.Meaning.{Meaning, IsLawful}
use Rattle.wd_machine.specs.Quiet.{Quiet, quiet_means, quiet_lawful}
use Rattle.wd_plan.specs.declared.constant.Constant.{Constant}
use Rattle.wd_plan.specs.Script.{answer_for}

-- the reply of a script: 200 with a text
abbrev pub text_reply : List ℕ → Reply
text_reply text = record {
  status = 200;
  fields = (codes "content-type", codes "text/plain;charset=UTF-8") ∷ [];
  body = text;
  why = Plain;
}

-- the first isolate of a Worker whose script answers the text
abbrev pub first_constant : WorkerDef → List (List ℕ) → List ℕ → Constant
first_constant def names text = record { worker = def; workers = names; text = text; generation = 0 }

-- it answers each start with its text, in four steps: the return, the `new`, its argument and the handler's promise
abbrev pub constant : Quiet Constant
constant = record {
  start = λ def names. option_map (first_constant def names) (answer_for def);
  worker = λ s. s.worker;
  workers = λ s. s.workers;
  generation = λ s. s.generation;
  renewed = λ s generation. record s { generation = generation };
  reply = λ s. text_reply s.text;
  steps = 4;
}

-- the meaning of an isolate whose Worker answers each request with one fixed text
abbrev pub constant_means : Meaning Constant
constant_means = quiet_means constant

-- an option holds a value
is_there : {X : Type 0} → Option X → Bool
is_there None = false
is_there (Some x) = true

-- law: an option without a value is not one with a value
none_some : {X : Type 0} {x : X} → None ≡ Some x → ⊥
unfolding is_there
none_some e = false≢true (ap is_there e)

-- where there is a first isolate, it is of some text
record HasText (def : WorkerDef) (names : List (List ℕ)) (s : Constant) : Type 0 where
  text : List ℕ
  is : first_constant def names text ≡ s

-- law: the first state of such an isolate has a text, if there is a first state
has_text : (def : WorkerDef) (names : List (List ℕ)) (s : Constant) (answer : Option (List ℕ))
    → option_map (first_constant def names) answer ≡ Some s → HasText def names s
has_text def names s None e = absurd (none_some e)
has_text def names s (Some text) e = record { text = text; is = ap (λ o. unwrap_or o s) e }

-- law: the first state of a Worker's isolate has a text
first_text : (def : WorkerDef) (names : List (List ℕ)) (s : Constant) → constant.start def names ≡ Some s
    → HasText def names s
first_text def names s e = has_text def names s (answer_for def) e

-- law: the meaning of a fixed reply keeps all laws that an isolate must keep
pub constant_lawful : IsLawful constant_means
constant_lawful = quiet_lawful constant (record {
  first_worker = λ def names s e. sym (ap (λ c. c.worker) (first_text def names s e).is);
  first_workers = λ def names s e. sym (ap (λ c. c.workers) (first_text def names s e).is);
  first_generation = λ def names s e. sym (ap (λ c. c.generation) (first_text def names s e).is);
  worker = λ s generation. refl;
  workers = λ s generation. refl;
  generation = λ s generation. refl;
})
