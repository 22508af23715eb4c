-- A text goes to a sink piece by piece.
use Rattle.std.proofs.Common.{◌≡◌, ℕ, ◌+◌, ◌-◌, List, [], ◌++◌, length, take, drop, refl, ap, sym, ◌∙◌, Option, Some, None, append_assoc, append-nil}
use Rattle.std.proofs.Math.Seq.{take-add}
use Rattle.wd_ports.proofs.OneLink.{rest_of}
use Rattle.wd_ports.specs.Sink.{with_bytes}

pub printed_nothing : (held : Option (List ℕ)) → with_bytes [] held ≡ held
unfolding with_bytes
printed_nothing None = refl
printed_nothing (Some h) = ap Some (append-nil h)

pub printed_twice : (a b : List ℕ) (held : Option (List ℕ)) → with_bytes b (with_bytes a held) ≡ with_bytes (a ++ b) held
unfolding with_bytes
printed_twice a b None = refl
printed_twice a b (Some h) = ap Some (append_assoc h a b)

-- more bytes of a text were taken behind its first
pub printed_more : (text : List ℕ) (j k : ℕ) (held : Option (List ℕ)) → with_bytes (take k (take (length text - j) (drop j text))) (with_bytes (take j text) held) ≡ with_bytes (take (j + k) text) held
printed_more text j k held = ap (λ r. with_bytes (take k r) (with_bytes (take j text) held)) (rest_of j text) ∙ printed_twice (take j text) (take k (drop j text)) held ∙ ap (λ b. with_bytes b held) (sym (take-add j k text))
