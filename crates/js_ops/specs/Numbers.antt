-- Arithmetic of safe integers (ECMA-262, sections 6.1.6.1 and 21.1.2.6). No number here is minus zero.
use Rattle.std.specs.Prelude.{ℤ, pos, neg_ℤ, ◌+ℤ◌, ◌-ℤ◌, ◌*ℤ◌, int_le, int_div, int_rem, Bool, ◌&&◌, if◌then◌else◌}
use Rattle.std.specs.Prelude.{Result, Ok, Err}
use Rattle.std.specs.Ordering.{int_eq}
use Rattle.js_ops.specs.declared.kinds.Fault.{Fault}
use Rattle.js_ops.specs.declared.kinds.NumberOp.{NumberOp}
use Rattle.js_ops.specs.declared.kinds.NumberOp.TheVariants as op
use Rattle.js_ops.specs.declared.kinds.Fault.TheVariants.{NotSafe, DivisionByZero}

-- from -(2 ^ 53 - 1) to 2 ^ 53 - 1
abbrev pub is_safe : ℤ → Bool
is_safe n = int_le (neg_ℤ (pos 9007199254740991)) n && int_le n (pos 9007199254740991)

-- a number where it is safe
abbrev pub safe : ℤ → Result ℤ Fault
safe n = if is_safe n then Ok n else Err NotSafe

-- both added, where that is safe
abbrev pub sum : ℤ → ℤ → Result ℤ Fault
sum a b = safe (a +ℤ b)

-- the first less the second, where that is safe
abbrev pub difference : ℤ → ℤ → Result ℤ Fault
difference a b = safe (a -ℤ b)

-- both multiplied, where that is safe
abbrev pub product : ℤ → ℤ → Result ℤ Fault
product a b = safe (a *ℤ b)

-- the quotient where the division is exact
abbrev pub exact : ℤ → ℤ → Result ℤ Fault
exact a b = if int_eq (int_rem a b) (pos 0) then safe (int_div a b) else Err NotSafe

-- the first divided by the second, where that leaves nothing; there is a fault for a divisor of 0
abbrev pub quotient : ℤ → ℤ → Result ℤ Fault
quotient a b = if int_eq b (pos 0) then Err DivisionByZero else exact a b

-- what division toward zero leaves; it has the sign of a
abbrev pub remainder : ℤ → ℤ → Result ℤ Fault
remainder a b = if int_eq b (pos 0) then Err DivisionByZero else safe (int_rem a b)

-- what one of the five operations makes of two integers
abbrev pub result_of : NumberOp → ℤ → ℤ → Result ℤ Fault
result_of op.Sum a b = sum a b
result_of op.Difference a b = difference a b
result_of op.Product a b = product a b
result_of op.Quotient a b = quotient a b
result_of op.Remainder a b = remainder a b
