-- What an operation does to a script's heap.
use Rattle.std.specs.Prelude.{◌≡◌, ℕ, List, length, Result, Ok, Err, if◌then◌else◌}
use Rattle.js_arena.specs.declared.value.Cell.TheVariants.{Text as TextCell}
use Rattle.js_arena.specs.declared.value.ErrKind.TheVariants.{TypeError, RangeError}
use Rattle.js_arena.specs.declared.value.Msg.TheVariants as msg
use Rattle.js_arena.specs.declared.value.OpEnd.{OpEnd}
use Rattle.js_arena.specs.declared.value.OpEnd.TheVariants.{Throw, Full, NoMemory}
use Rattle.js_arena.specs.declared.value.Value.{Value}
use Rattle.js_arena.specs.declared.value.Value.TheVariants.{Text}
use Rattle.js_arena.specs.Heap.{Heap, fits, with_cell}
use Rattle.js_arena.specs.Units.{units}
use Rattle.js_ops.specs.declared.kinds.Fault.{Fault}
use Rattle.js_ops.specs.declared.kinds.Fault.TheVariants.{NotConvertible, NotSafe, DivisionByZero}
use Rattle.js_ops.specs.declared.kinds.Computed.{Computed}
use Rattle.js_ops.specs.declared.kinds.Computed.TheVariants.{Gives, GivesValue, Throws}
use Rattle.js_ops.specs.declared.kinds.Binary.{Binary}
use Rattle.js_ops.specs.declared.kinds.Unary.{Unary}
use Rattle.js_ops.specs.Operators.{binary_computed, unary_computed}

-- the Error that is thrown of a fault
abbrev pub thrown : Fault → OpEnd
thrown NotConvertible = Throw TypeError msg.NotConvertible
thrown NotSafe = Throw RangeError msg.NotSafe
thrown DivisionByZero = Throw RangeError msg.DivisionByZero

-- a new string behind the cells, where the heap has room for it
abbrev pub text_in : List ℕ → Heap → Heap × Result Value OpEnd
text_in t h =
    if fits h (units (TextCell t))
    then (with_cell (TextCell t) h, Ok (Text (record { 0 = length h.cells })))
    else (h, Err Full)

-- the heap with what was computed, and the value or why there is none
abbrev pub made_in : Computed → Heap → Heap × Result Value OpEnd
made_in (Gives t) h = text_in t h
made_in (GivesValue v) h = (h, Ok v)
made_in (Throws fault) h = (h, Err (thrown fault))

-- the heap after an operator between two operands, with its value or end
abbrev pub binary_of : Binary → Value → Value → Heap → Heap × Result Value OpEnd
binary_of op a b h = made_in (binary_computed op a b h) h

-- the heap after an operator before an operand, with its value or end
abbrev pub unary_of : Unary → Value → Heap → Heap × Result Value OpEnd
unary_of op v h = made_in (unary_computed op v h) h

-- an operation came to this end; after want of memory the heap is as it was
abbrev pub Ops : (Heap → Heap × Result Value OpEnd) → Heap → Heap → Result Value OpEnd → Type 0
Ops of old new (Err NoMemory) = new ≡ old
Ops of old new (Err Full) = of old ≡ (new, Err Full)
Ops of old new (Err (Throw kind msg)) = of old ≡ (new, Err (Throw kind msg))
Ops of old new (Ok v) = of old ≡ (new, Ok v)
