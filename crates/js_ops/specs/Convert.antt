-- Conversions of values (ECMA-262, sections 7.1.2, 7.1.4 and 7.1.17). Objects are not converted.
use Rattle.std.specs.Prelude.{ℕ, codes, ◌==◌, ◌&&◌, Bool, true, false, not, List, [], ◌∷◌, length, nat_le, nat_lt}
use Rattle.std.specs.Prelude.{Option, Some, None, is_some, Result, Ok, Err, ℤ, pos, if◌then◌else◌}
use Rattle.std.specs.List.{list_all}
use Rattle.std.specs.Ordering.{int_eq}
use Rattle.std.specs.Fmt.{signed_decimal}
use Rattle.js_arena.specs.declared.value.Value.{Value}
use Rattle.js_arena.specs.declared.value.Value.TheVariants.{Undefined, Null, Bool as BoolValue, Number}
use Rattle.js_arena.specs.Heap.{Heap, text_of}
use Rattle.js_arena.specs.Keys.{is_digit, spelled}
use Rattle.js_ops.specs.declared.kinds.Fault.{Fault}
use Rattle.js_ops.specs.declared.kinds.Fault.TheVariants.{NotConvertible, NotSafe}
use Rattle.js_ops.specs.Numbers.{difference}

-- the value is a string
abbrev pub is_text : Value → Heap → Bool
is_text v h = is_some (text_of v h)

-- the text of a value that is no string
abbrev pub plain_text : Value → Result (List ℕ) Fault
plain_text Undefined = Ok (codes "undefined")
plain_text Null = Ok (codes "null")
plain_text (BoolValue true) = Ok (codes "true")
plain_text (BoolValue false) = Ok (codes "false")
plain_text (Number n) = Ok (signed_decimal n)
plain_text _ = Err NotConvertible

-- a string as it is, and any other value converted
abbrev pub text_or : Option (List ℕ) → Value → Result (List ℕ) Fault
text_or (Some t) v = Ok t
text_or None v = plain_text v

-- ToString: the units that a value is written with, or why it is not written
abbrev pub to_text : Value → Heap → Result (List ℕ) Fault
to_text v h = text_or (text_of v h) v

-- the number that digits spell, where it is safe
abbrev pub spelled_number : List ℕ → Result ℤ Fault
spelled_number ds =
    if list_all is_digit ds && nat_le (spelled ds) 9007199254740991 then Ok (pos (spelled ds)) else Err NotSafe

-- one digit at least
abbrev pub digits_number : List ℕ → Result ℤ Fault
digits_number [] = Err NotSafe
digits_number (c ∷ cs) = spelled_number (c ∷ cs)

-- 0 less the number; a fault stays as it is
abbrev pub negated : Result ℤ Fault → Result ℤ Fault
negated (Ok n) = difference (pos 0) n
negated (Err fault) = Err fault

-- 0 of the empty text; else an optional `-` and digits
abbrev pub text_number : List ℕ → Result ℤ Fault
text_number [] = Ok (pos 0)
text_number (c ∷ cs) = if c == 45 then negated (digits_number cs) else digits_number (c ∷ cs)

-- the number of a value that is no string
abbrev pub plain_number : Value → Result ℤ Fault
plain_number Undefined = Err NotSafe
plain_number Null = Ok (pos 0)
plain_number (BoolValue true) = Ok (pos 1)
plain_number (BoolValue false) = Ok (pos 0)
plain_number (Number n) = Ok n
plain_number _ = Err NotConvertible

-- what a string spells, and any other value converted
abbrev pub number_or : Option (List ℕ) → Value → Result ℤ Fault
number_or (Some t) v = text_number t
number_or None v = plain_number v

-- ToNumber: the safe integer of a value, or why it has none
abbrev pub to_number : Value → Heap → Result ℤ Fault
to_number v h = number_or (text_of v h) v

-- the truth of a value that is no string
abbrev pub plain_truth : Value → Bool
plain_truth Undefined = false
plain_truth Null = false
plain_truth (BoolValue b) = b
plain_truth (Number n) = not (int_eq n (pos 0))
plain_truth _ = true

-- a string is true where it has a unit, and any other value by itself
abbrev pub truth_or : Option (List ℕ) → Value → Bool
truth_or (Some t) v = nat_lt 0 (length t)
truth_or None v = plain_truth v

-- a value is true but undefined, null, false, 0 and the empty string
abbrev pub truth : Value → Heap → Bool
truth v h = truth_or (text_of v h) v
