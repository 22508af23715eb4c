-- What the operators compute (ECMA-262, sections 13.5, 13.7, 13.8, 13.10 and 13.11).
use Rattle.std.specs.Prelude.{ℕ, codes, ◌||◌, Bool, not, List, ◌++◌, Option, Some, None, Result, Ok, Err, ℤ}
use Rattle.std.specs.Prelude.{if◌then◌else◌}
use Rattle.std.specs.declared.cmp.Ordering.{Ordering}
use Rattle.std.specs.Ordering.{is_lt, is_le, is_gt, is_ge}
use Rattle.js_arena.specs.declared.value.Cell.{Cell}
use Rattle.js_arena.specs.declared.value.Cell.TheVariants as cell
use Rattle.js_arena.specs.declared.value.NameSpace.TheVariants as space
use Rattle.js_arena.specs.declared.value.Native.{Native}
use Rattle.js_arena.specs.declared.value.Native.TheVariants as native
use Rattle.js_arena.specs.declared.value.Value.{Value}
use Rattle.js_arena.specs.declared.value.Value.TheVariants as value
use Rattle.js_arena.specs.Heap.{Heap, text_of, cell_at}
use Rattle.js_ops.specs.declared.kinds.Fault.{Fault}
use Rattle.js_ops.specs.declared.kinds.Computed.{Computed}
use Rattle.js_ops.specs.declared.kinds.Computed.TheVariants.{Gives, GivesValue, Throws}
use Rattle.js_ops.specs.declared.kinds.Binary.{Binary}
use Rattle.js_ops.specs.declared.kinds.Binary.TheVariants as binary
use Rattle.js_ops.specs.declared.kinds.Unary.{Unary}
use Rattle.js_ops.specs.declared.kinds.Unary.TheVariants as unary
use Rattle.js_ops.specs.declared.kinds.NumberOp.{NumberOp}
use Rattle.js_ops.specs.declared.kinds.NumberOp.TheVariants as op
use Rattle.js_ops.specs.declared.kinds.OrderTest.{OrderTest}
use Rattle.js_ops.specs.declared.kinds.OrderTest.TheVariants as test
use Rattle.js_ops.specs.Numbers.{result_of}
use Rattle.js_ops.specs.Convert.{is_text, to_text, to_number, truth, negated}
use Rattle.js_ops.specs.Compare.{identical, order, of_both}

-- a truth value, for which the heap gets nothing new
abbrev pub bool_made : Bool → Computed
bool_made b = GivesValue (value.Bool b)

-- an integer as a value, or its fault
abbrev pub number_made : Result ℤ Fault → Computed
number_made (Ok n) = GivesValue (value.Number n)
number_made (Err fault) = Throws fault

-- the units of a new string, or their fault
abbrev pub text_made : Result (List ℕ) Fault → Computed
text_made (Ok t) = Gives t
text_made (Err fault) = Throws fault

-- the first of the two stands as the test wants it to the second
abbrev pub passes : OrderTest → Ordering → Bool
passes test.Less o = is_lt o
passes test.LessEqual o = is_le o
passes test.Greater o = is_gt o
passes test.GreaterEqual o = is_ge o

-- whether an order passes the test
abbrev pub tested : OrderTest → Result Ordering Fault → Computed
tested t (Ok o) = bool_made (passes t o)
tested t (Err fault) = Throws fault

-- both sides converted to integers, and the operation on them
abbrev pub of_numbers : NumberOp → Value → Value → Heap → Computed
of_numbers op a b h = number_made (of_both (result_of op) (to_number a h) (to_number b h))

-- the units of the first string and then those of the second
abbrev pub join : List ℕ → List ℕ → Result (List ℕ) Fault
join s t = Ok (s ++ t)

-- both sides converted to strings, one behind the other
abbrev pub joined : Value → Value → Heap → Computed
joined a b h = text_made (of_both join (to_text a h) (to_text b h))

-- with a string on either side both become strings and are joined; else their sum
abbrev pub added : Value → Value → Heap → Computed
added a b h = if is_text a h || is_text b h then joined a b h else of_numbers op.Sum a b h

-- what an operator between two operands makes of their values, before the heap changes
abbrev pub binary_computed : Binary → Value → Value → Heap → Computed
binary_computed binary.Identical a b h = bool_made (identical a b h)
binary_computed binary.NotIdentical a b h = bool_made (not (identical a b h))
binary_computed binary.Less a b h = tested test.Less (order a b h)
binary_computed binary.LessEqual a b h = tested test.LessEqual (order a b h)
binary_computed binary.Greater a b h = tested test.Greater (order a b h)
binary_computed binary.GreaterEqual a b h = tested test.GreaterEqual (order a b h)
binary_computed binary.Add a b h = added a b h
binary_computed binary.Subtract a b h = of_numbers op.Difference a b h
binary_computed binary.Multiply a b h = of_numbers op.Product a b h
binary_computed binary.Divide a b h = of_numbers op.Quotient a b h
binary_computed binary.Remainder a b h = of_numbers op.Remainder a b h

-- a built-in is a function, but `console` and `JSON`
abbrev pub native_type : Native → List ℕ
native_type (native.NameSpace space.Console) = codes "object"
native_type (native.NameSpace space.Json) = codes "object"
native_type _ = codes "function"

-- `function` for a cell of the script's own functions, `object` for any other
abbrev pub cell_type : Option Cell → List ℕ
cell_type (Some (cell.Function n)) = codes "function"
cell_type _ = codes "object"

-- the type of a value that is no string (section 13.5.3)
abbrev pub plain_type : Value → Heap → List ℕ
plain_type value.Undefined h = codes "undefined"
plain_type (value.Bool b) h = codes "boolean"
plain_type (value.Number n) h = codes "number"
plain_type (value.Cell at) h = cell_type (cell_at h at)
plain_type (value.Native n) h = native_type n
plain_type _ h = codes "object"

-- `string` for a string, and else what is given
abbrev pub type_or : Option (List ℕ) → List ℕ → List ℕ
type_or (Some t) other = codes "string"
type_or None other = other

-- the word that `typeof` answers
abbrev pub type_name : Value → Heap → List ℕ
type_name v h = type_or (text_of v h) (plain_type v h)

-- what an operator before an operand makes of its value, before the heap changes
abbrev pub unary_computed : Unary → Value → Heap → Computed
unary_computed unary.Not v h = bool_made (not (truth v h))
unary_computed unary.Negate v h = number_made (negated (to_number v h))
unary_computed unary.TypeOf v h = Gives (type_name v h)
