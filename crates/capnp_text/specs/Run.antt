-- Items that are taken one by one.
use Rattle.std.specs.Prelude.{List, [], ◌∷◌, Result, Ok, Err}

-- where they stop: why, the item that is not taken, and what follows
pub record Stuck (T K : Type 0) : Type 0 where
  pub why : K
  pub item : T
  pub rest : List T

-- the rest of a run, where its first item is taken; else the run stops at that item
abbrev pub taken : {S T K : Type 0} → Result S K → T → List T → (S → Result S (Stuck T K)) → Result S (Stuck T K)
taken (Err k) t ts f = Err (record { why = k; item = t; rest = ts })
taken (Ok n) t ts f = f n

-- a machine that takes the items of a list one by one, until one is refused
abbrev pub run : {S T K : Type 0} → (S → T → Result S K) → S → List T → Result S (Stuck T K)
run step s [] = Ok s
run step s (t ∷ ts) = taken (step s t) t ts (λ n. run step n ts)
