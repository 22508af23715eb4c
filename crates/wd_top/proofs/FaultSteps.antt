-- No part of the count of faults falls.
use Rattle.std.proofs.Common.{ℕ, ◌≤◌, sym, subst, arith, Result}
use Rattle.wd_ports.specs.declared.told.Faults.{Faults}
use Rattle.wd_ports.specs.declared.told.Failed.{Failed}
use Rattle.wd_ports.specs.declared.told.Side.{Side}
use Rattle.wd_ports.specs.declared.told.Side.TheVariants.{Accepted, Connected}
use Rattle.wd_ports.specs.Faults.{Part, ReadFile, ListFolder, WriteFile, Listen, Lookup, Connect, ReadLink, WriteLink}
use Rattle.wd_ports.specs.Faults.{part, with_part, OnlyPart, Blames}
use Rattle.wd_top.specs.Steps.{NoneFell}

pub none_fell_same : (f : Faults) → NoneFell f f
none_fell_same f = record { each = λ p. omega arith }

pub none_fell_then : (f g h : Faults) → NoneFell f g → NoneFell g h → NoneFell f h
none_fell_then f g h first next = record { each = λ p. omega (arith, first.each p, next.each p) }

-- a read of a link raises its own part
read_part : (side : Side) (q : Part) (f : Faults) (n : ℕ) → part (ReadLink side) f ≤ n
    → part q f ≤ part q (with_part (ReadLink side) f n)
read_part Accepted ReadFile f n h = omega arith
read_part Accepted ListFolder f n h = omega arith
read_part Accepted WriteFile f n h = omega arith
read_part Accepted Listen f n h = omega arith
read_part Accepted Lookup f n h = omega arith
read_part Accepted Connect f n h = omega arith
read_part Accepted (ReadLink Accepted) f n h = h
read_part Accepted (ReadLink Connected) f n h = omega arith
read_part Accepted (WriteLink Accepted) f n h = omega arith
read_part Accepted (WriteLink Connected) f n h = omega arith
read_part Connected ReadFile f n h = omega arith
read_part Connected ListFolder f n h = omega arith
read_part Connected WriteFile f n h = omega arith
read_part Connected Listen f n h = omega arith
read_part Connected Lookup f n h = omega arith
read_part Connected Connect f n h = omega arith
read_part Connected (ReadLink Accepted) f n h = omega arith
read_part Connected (ReadLink Connected) f n h = h
read_part Connected (WriteLink Accepted) f n h = omega arith
read_part Connected (WriteLink Connected) f n h = omega arith

-- a write of a link raises its own part
write_part : (side : Side) (q : Part) (f : Faults) (n : ℕ) → part (WriteLink side) f ≤ n
    → part q f ≤ part q (with_part (WriteLink side) f n)
write_part Accepted ReadFile f n h = omega arith
write_part Accepted ListFolder f n h = omega arith
write_part Accepted WriteFile f n h = omega arith
write_part Accepted Listen f n h = omega arith
write_part Accepted Lookup f n h = omega arith
write_part Accepted Connect f n h = omega arith
write_part Accepted (ReadLink Accepted) f n h = omega arith
write_part Accepted (ReadLink Connected) f n h = omega arith
write_part Accepted (WriteLink Accepted) f n h = h
write_part Accepted (WriteLink Connected) f n h = omega arith
write_part Connected ReadFile f n h = omega arith
write_part Connected ListFolder f n h = omega arith
write_part Connected WriteFile f n h = omega arith
write_part Connected Listen f n h = omega arith
write_part Connected Lookup f n h = omega arith
write_part Connected Connect f n h = omega arith
write_part Connected (ReadLink Accepted) f n h = omega arith
write_part Connected (ReadLink Connected) f n h = omega arith
write_part Connected (WriteLink Accepted) f n h = omega arith
write_part Connected (WriteLink Connected) f n h = h

-- after a read
pub read_blamed : {T : Type 0} (side : Side) (f g : Faults) (result : Result T Failed)
    → Blames (ReadLink side) f g result → NoneFell f g
read_blamed side f g result b =
    record {
      each = λ q. subst (λ x. part q f ≤ part q x) (sym b.own)
          (read_part side q f (part (ReadLink side) g) b.later);
    }

-- after writes
pub written : (side : Side) (f g : Faults) → OnlyPart (WriteLink side) f g → NoneFell f g
written side f g o = record
    { each = λ q. subst (λ x. part q f ≤ part q x) (sym o.own) (write_part side q f (part (WriteLink side) g) o.later) }
