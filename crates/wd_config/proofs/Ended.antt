-- What is answered is what the bytes mean.
use Rattle.std.specs.Prelude.{IfOk}
use Rattle.std.proofs.Common.{◌≡◌, ℕ, List, [], Option, Result, Ok, Err, refl, sym, subst, inl, inr}
use Rattle.wd_base.specs.declared.config.Config.{Config}
use Rattle.wd_ports.specs.Told.{Stored}
use Rattle.capnp_text.specs.declared.tree.Decl.{Decl}
use Rattle.capnp_text.specs.declared.reader.TextFault.{TextFault}
use Rattle.capnp_text.specs.Fault.{IsText, IsFirstFault}
use Rattle.wd_config.specs.declared.faults.ConfigKind.{ConfigKind}
use Rattle.wd_config.specs.declared.faults.ConfigKind.TheVariants as kind
use Rattle.wd_config.specs.declared.faults.ConfigFault.{ConfigFault}
use Rattle.wd_config.specs.declared.faults.ConfigEnd.{ConfigEnd}
use Rattle.wd_config.specs.declared.faults.ConfigEnd.TheVariants.{Fault, NoMemory}
use Rattle.wd_config.specs.declared.faults.RefusedKind.{RefusedKind}
use Rattle.wd_config.specs.declared.faults.RefusedKind.TheVariants as refused
use Rattle.wd_config.specs.declared.faults.Stop.{Stop}
use Rattle.wd_config.specs.declared.faults.Stop.TheVariants as stop
use Rattle.wd_config.specs.Given.{config_kind, config_fault}
use Rattle.wd_config.specs.Reading.{Read, Refused, Says, TellsFault, Tells, Comes, IsFailed, IsEmbedFault, refuse}
use Rattle.wd_config.specs.Configured.{configured}
use Rattle.wd_config.specs.Answer.{Answers, Answered, ended}

-- what is refused is no fault of an embed
pub not_embed : (k : RefusedKind) → config_kind k ≡ kind.EmbedFault → ⊥
unfolding config_kind
not_embed refused.NoSuchConst e = cc
not_embed refused.SeveralConfigs e = cc
not_embed refused.ConstLoop e = cc
not_embed refused.UnknownField e = cc
not_embed refused.WrongKind e = cc
not_embed refused.LeftOut e = cc
not_embed refused.DoubleName e = cc
not_embed refused.EmbedMissing e = cc
not_embed refused.BadJson e = cc
not_embed refused.BadAddress e = cc
not_embed refused.BadRange e = cc
not_embed refused.NoScript e = cc

tells_fault : {A : Type 0} (r : Read A) (f : ConfigFault) (k : ConfigKind) → (k ≡ kind.EmbedFault → ⊥) → Says (Refused f) r.answer → TellsFault r f k
tells_fault r f kind.EmbedFault n s = absurd (n refl)
tells_fault r f _ n s = s

told : (r : Read Config) (y : Result Config Stop) → Comes r y → Tells r (ended y)
told r (Ok c) h = h
told r (Err (stop.Refused f)) h = tells_fault r (config_fault f) (config_kind f.kind) (not_embed f.kind) h
told r (Err (stop.Failed w)) h = h
told r (Err stop.NoMemory) h = tt

answered : (bytes : List ℕ) (name : Option (List ℕ)) (folder : List ℕ) (files : Option Stored) (r : Read Config) (z : Result Config ConfigEnd) → Answers bytes name folder files r → Tells r z → Answered bytes name folder files z
answered bytes name folder files r (Ok c) a t = (r, a, t)
answered bytes name folder files r (Err (Fault f)) a t = (r, a, t)
answered bytes name folder files r (Err NoMemory) a t = tt

pub answered_file : (bytes : List ℕ) (name : Option (List ℕ)) (folder : List ℕ) (files : Option Stored) (file : List Decl) (y : Result Config Stop) (z : Result Config ConfigEnd)
    → IsText file bytes → Comes (configured name folder files file) y → z ≡ ended y → Answered bytes name folder files z
answered_file bytes name folder files file y z t c e =
    let r : Read Config = configured name folder files file in
    answered bytes name folder files r z (inl (record { file = file; text = t; is = refl })) (subst (Tells r) (sym e) (told r y c))

pub answered_fault : (bytes : List ℕ) (name : Option (List ℕ)) (folder : List ℕ) (files : Option Stored) (f : TextFault) → IsFirstFault f bytes
    → Answered bytes name folder files (Err (Fault (record { kind = kind.Text f.kind; place = f.place; name = [] })))
answered_fault bytes name folder files f h = (refuse (kind.Text f.kind) f.place [], inr (record { fault = f; first = h; is = refl }), refl)

embed_at : (y : Result Config Stop) → IsEmbedFault (ended y) → IsFailed y
embed_at (Ok c) e = absurd e
embed_at (Err (stop.Refused f)) e = absurd (not_embed f.kind e)
embed_at (Err (stop.Failed w)) e = tt
embed_at (Err stop.NoMemory) e = absurd e

-- a fault of an embed is answered only where a read failed
pub embed_failed : (y : Result Config Stop) (z : Result Config ConfigEnd) → z ≡ ended y → IsEmbedFault z → IsFailed y
embed_failed y z e f = embed_at y (subst (λ (w : Result Config ConfigEnd). IsEmbedFault w) e f)

ok_at : (P : Config → Type 0) (y : Result Config Stop) → IfOk y P → IfOk (ended y) P
ok_at P (Ok c) h = h
ok_at P (Err (stop.Refused f)) h = tt
ok_at P (Err (stop.Failed w)) h = tt
ok_at P (Err stop.NoMemory) h = tt

-- what holds of the configuration that was read holds of the one that is answered
pub ended_ok : (P : Config → Type 0) (y : Result Config Stop) (z : Result Config ConfigEnd) → z ≡ ended y → IfOk y P → IfOk z P
ended_ok P y z e h = subst (λ (w : Result Config ConfigEnd). IfOk w P) (sym e) (ok_at P y h)
