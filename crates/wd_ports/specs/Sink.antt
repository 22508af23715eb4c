-- What a sink holds after a call, or a run of calls.
use Rattle.std.specs.Prelude.{◌≡◌, ℕ, ◌≤◌, List, ◌++◌, length, take, Option, Result, Ok, Err, OnOk}
use Rattle.std.specs.Option.{option_map}
use Rattle.wd_ports.specs.declared.told.Failed.{Failed}

-- what was held, with these bytes behind it
unfoldable pub with_bytes : List ℕ → Option (List ℕ) → Option (List ℕ)
with_bytes bytes held = option_map (λ h. h ++ bytes) held

-- the first bytes of the piece were taken
abbrev pub after_sink : Result ℕ Failed → List ℕ → Option (List ℕ) → Option (List ℕ)
after_sink (Ok k) bytes held = with_bytes (take k bytes) held
after_sink (Err e) bytes held = held

-- the first bytes of a text were taken; all of them at Ok
pub record Prints (result : Result (Unit {0}) Failed) (text : List ℕ) (old new : Option (List ℕ)) : Type 0 where
  pub count : ℕ
  pub within : count ≤ length text
  pub whole : OnOk result (count ≡ length text)
  pub tells : new ≡ with_bytes (take count text) old
