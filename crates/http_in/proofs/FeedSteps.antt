-- What a link that is refused answers.
use Rattle.std.proofs.Common.{◌≡◌, ℕ, List, ◌++◌, sym, subst}
use Rattle.http_message.specs.declared.extent.Refusal.{Refusal}
use Rattle.http_in.specs.Conn.{Feeds, FeedsAt, Link}
use Rattle.http_in.specs.Stream.{Refuses, status_of}
use Rattle.http_in.specs.declared.conn.Fed.TheVariants as fed
use Rattle.http_in.specs.declared.conn.Phase.TheVariants as phase

-- the bytes of an open link are refused with the status of why they are
pub feeds_bad : (old new : Link) (piece : List ℕ) (code : ℕ) (why : Refusal) → old.phase ≡ phase.Open → new.phase ≡ phase.Bad code → new.queue ≡ old.queue ++ piece → code ≡ status_of why → Refuses (old.queue ++ piece) why → Feeds old piece (fed.Bad code) new
feeds_bad old new piece code why is_open bad queue status refuses = subst (λ p. FeedsAt p old piece (fed.Bad code) new) (sym is_open) (bad, queue, (why, status, refuses))
