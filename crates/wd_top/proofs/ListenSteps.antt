-- Listening at the sockets of a world.
use Rattle.std.specs.Prelude.{◌≡◌, ℕ, zero, suc, ◌+◌, ◌<◌, List, [], ◌∷◌, ◌++◌, length, take, IfSome, Err, refl}
use Rattle.std.proofs.Common.{sym, ap, subst, ◌∙◌, arith, get_or}
use Rattle.std.proofs.Math.Seq.{take-length}
use Rattle.wd_base.specs.declared.config.Addr.{Addr}
use Rattle.wd_base.specs.declared.config.Config.{Config}
use Rattle.wd_base.specs.declared.config.Socket.{Socket}
use Rattle.wd_base.specs.declared.ids.LinkNo.{LinkNo}
use Rattle.wd_base.specs.declared.ids.Seat.{Seat}
use Rattle.wd_machine.specs.declared.journal.Entry.{Entry}
use Rattle.wd_ports.specs.declared.told.Faults.{Faults}
use Rattle.wd_ports.specs.Told.{Told, IsNewPort}
use Rattle.wd_top.specs.declared.outcome.Outcome.{Outcome}
use Rattle.wd_top.specs.declared.outcome.Outcome.TheVariants as outcome
use Rattle.wd_top.specs.Ended.{IsFront, Listens, ListenEnd, OutcomeHolds, Holds}
use Rattle.wd_top.specs.Table.{addresses}
use Rattle.wd_top.proofs.TableSteps.{tended_first, tended_session}

addresses_next : (ss : List Socket) (i : ℕ) (s : Socket) → i < length ss → s ≡ get_or ss i s
    → addresses (take (i + 1) ss) ≡ addresses (take i ss) ++ s.address ∷ []
addresses_next [] i s h e = absurd (omega arith)
addresses_next (x ∷ ss) zero s h e = ap (λ t. t.address ∷ []) (sym e)
addresses_next (x ∷ ss) (suc i) s h e =
    let next : suc i + 1 ≡ suc (i + 1) = omega arith in
    ap (λ k. addresses (take k (x ∷ ss))) next ∙ ap (λ t. x.address ∷ t) (addresses_next ss i s (omega arith) e)

-- the port listens at one more of the sockets
pub listens_more : (first t new : Told) (ss : List Socket) (i : ℕ) (s : Socket) → i < length ss → s ≡ get_or ss i s
    → t ≡ record first { sockets = addresses (take i ss) } → new ≡ record t { sockets = t.sockets ++ s.address ∷ [] }
    → new ≡ record first { sockets = addresses (take (i + 1) ss) }
listens_more first t new ss i s h e so_far tells =
    tells ∙ ap (λ (x : Told). record x { sockets = x.sockets ++ s.address ∷ [] }) so_far
    ∙ ap (λ all. record first { sockets = all }) (sym (addresses_next ss i s h e))

failed_holds : (seat : Seat) (world : Config) (o : Outcome) (t : Told) (gone : LinkNo → Type 0) (f : Faults)
    (entries : List Entry)
    → ListenEnd (addresses world.sockets) t f o → OutcomeHolds seat world o t gone f entries
failed_holds seat world outcome.Done t gone f entries h = absurd h
failed_holds seat world (outcome.Checked services sockets) t gone f entries h = h
failed_holds seat world (outcome.Refused why) t gone f entries h = h
failed_holds seat world (outcome.NoPort other) t gone f entries h = h
failed_holds seat world (outcome.NoListen address) t gone f entries h = h
failed_holds seat world outcome.NoMemory t gone f entries h = h

-- the whole list is a front
pub front_all : (xs all : List Addr) → xs ≡ all → IsFront xs all
front_all xs all e = subst (λ ys. xs ≡ take (length xs) ys) e (sym (take-length xs))

-- the addresses of the first sockets are the first addresses
pub front_some : (ss : List Socket) (i : ℕ) → IsFront (addresses (take i ss)) (addresses ss)
front_some [] zero = refl
front_some [] (suc i) = refl
front_some (x ∷ ss) zero = refl
front_some (x ∷ ss) (suc i) = ap (λ t. x.address ∷ t) (front_some ss i)

-- a port listens at the first of the addresses where a call of it failed
pub front_told : (first t new : Told) (ss : List Socket) (i : ℕ) → t ≡ record first { sockets = addresses (take i ss) }
    → new ≡ t → IsFront new.sockets (addresses ss)
front_told first t new ss i so_far same = subst (λ (x : Told). IsFront x.sockets (addresses ss)) (sym (same ∙ so_far))
    (front_some ss i)

-- what holds of a port that could not listen
pub not_listening : (seat : Seat) (world : Config) (o : Outcome) (first t : Told) (gone : LinkNo → Type 0) (f : Faults)
    (entries : List Entry) → IsNewPort first → entries ≡ [] → IsFront t.sockets (addresses world.sockets)
    → Listens (addresses world.sockets) first t f (Err o) → Holds seat world o t gone f entries
not_listening seat world o first t gone f entries new empty front (same, why) =
    let links : IfSome t.links (λ links. links ≡ []) =
    subst (λ ls. IfSome ls (λ links. links ≡ [])) (sym (ap (λ x. x.links) same)) new.links in
    let given : t.given ≡ 0 = ap (λ x. x.given) same ∙ new.given in
    record {
      sockets = front;
      session = tended_session seat world.sockets t (λ n. ⊥) gone entries []
          (tended_first seat world.sockets t (λ n. ⊥) gone entries [] refl empty links given);
      outcome = failed_holds seat world o t gone f entries why;
    }
