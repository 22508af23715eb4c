-- What a run of writes on one link does.
use Rattle.std.specs.Prelude.{◌≡◌, ◌≤◌, OnOk, ℕ, List, length, take, Result}
use Rattle.wd_base.specs.declared.ids.LinkNo.{LinkNo}
use Rattle.wd_ports.specs.declared.told.Failed.{Failed}
use Rattle.wd_ports.specs.Told.{Told, sent_on}

-- the first of these bytes were sent on the link; all of them at Ok
pub record Sends (n : LinkNo) (bytes : List ℕ) (result : Result (Unit {0}) Failed) (old new : Told) : Type 0 where
  pub count : ℕ
  pub within : count ≤ length bytes
  pub whole : OnOk result (count ≡ length bytes)
  pub tells : new ≡ sent_on n (take count bytes) old
