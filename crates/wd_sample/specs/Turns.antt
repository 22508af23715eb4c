-- What a sample isolate means, and that it keeps the laws of isolates.
use Rattle.std.specs.Prelude.{◌≡◌, ℕ, List, [], ◌∷◌, Option, Some, refl, unwrap_or}
use Rattle.std.proofs.Common.{ap, sym}
use Rattle.wd_base.specs.declared.http.Reply.{Reply}
use Rattle.wd_base.specs.declared.http.Why.TheVariants.{Plain}
use Rattle.wd_machine.specs.Meaning.{Meaning, IsLawful}
use Rattle.wd_machine.specs.Quiet.{Quiet, IsQuiet, quiet_means, quiet_lawful}
use Rattle.wd_sample.specs.declared.isolate.Sample.{Sample}

-- the reply to each request: 200 with the body `hi`
abbrev pub hi : Reply
hi = record { status = 200; fields = []; body = 104 ∷ 105 ∷ []; why = Plain }

-- a sample answers each start with `hi`
abbrev pub sample : Quiet Sample
sample = record {
  start = λ def names. Some (record { worker = def; workers = names; generation = 0 });
  worker = λ s. s.worker;
  workers = λ s. s.workers;
  generation = λ s. s.generation;
  renewed = λ s generation. record s { generation = generation };
  reply = λ s. hi;
  steps = 1;
}

-- the meaning of the sample isolate
abbrev pub sample_means : Meaning Sample
sample_means = quiet_means sample

-- law: the meaning of the sample isolate keeps all laws that an isolate must keep
pub sample_lawful : IsLawful sample_means
sample_lawful = quiet_lawful sample (record {
  first_worker = λ def names s e. sym (ap (λ o. (unwrap_or o s).worker) e);
  first_workers = λ def names s e. sym (ap (λ o. (unwrap_or o s).workers) e);
  first_generation = λ def names s e. sym (ap (λ o. (unwrap_or o s).generation) e);
  worker = λ s generation. refl;
  workers = λ s generation. refl;
  generation = λ s generation. refl;
})
