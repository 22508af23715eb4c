-- Equality and order of values (ECMA-262, sections 7.2.13 and 7.2.14).
use Rattle.std.specs.Prelude.{ℕ, ◌+◌, ◌==◌, Bool, true, false, not, List, Option, Some, None, Result, Ok, Err, ℤ}
use Rattle.std.specs.Prelude.{bytes_eq, if◌then◌else◌}
use Rattle.std.specs.declared.cmp.Ordering.{Ordering}
use Rattle.std.specs.Ordering.{nat_cmp, int_cmp, int_eq}
use Rattle.std.specs.Cmp.Lexicographic.{slice_cmp}
use Rattle.js_arena.specs.declared.value.ErrKind.{ErrKind}
use Rattle.js_arena.specs.declared.value.ErrKind.TheVariants as kind
use Rattle.js_arena.specs.declared.value.StringCall.{StringCall}
use Rattle.js_arena.specs.declared.value.StringCall.TheVariants as string
use Rattle.js_arena.specs.declared.value.ArrayCall.{ArrayCall}
use Rattle.js_arena.specs.declared.value.ArrayCall.TheVariants as array
use Rattle.js_arena.specs.declared.value.NameSpace.{NameSpace}
use Rattle.js_arena.specs.declared.value.NameSpace.TheVariants as space
use Rattle.js_arena.specs.declared.value.Native.{Native}
use Rattle.js_arena.specs.declared.value.Native.TheVariants as native
use Rattle.js_arena.specs.declared.value.Value.{Value}
use Rattle.js_arena.specs.declared.value.Value.TheVariants as value
use Rattle.js_arena.specs.Heap.{Heap, text_of}
use Rattle.js_ops.specs.declared.kinds.Fault.{Fault}
use Rattle.js_ops.specs.Convert.{to_number}

-- a number for each kind of Error, of call and of name space, and for each built-in; all built-ins differ by theirs
abbrev pub kind_no : ErrKind → ℕ
kind_no kind.Error = 0
kind_no kind.TypeError = 1
kind_no kind.RangeError = 2
kind_no kind.ReferenceError = 3
kind_no kind.SyntaxError = 4

-- another number for each member of a string, counted from 0
abbrev pub string_call_no : StringCall → ℕ
string_call_no string.CharCodeAt = 0
string_call_no string.IndexOf = 1
string_call_no string.Includes = 2
string_call_no string.StartsWith = 3
string_call_no string.EndsWith = 4
string_call_no string.Slice = 5
string_call_no string.Split = 6
string_call_no string.Trim = 7

-- another number for each member of an array, counted from 0
abbrev pub array_call_no : ArrayCall → ℕ
array_call_no array.Push = 0
array_call_no array.Pop = 1
array_call_no array.Slice = 2
array_call_no array.Concat = 3
array_call_no array.IndexOf = 4
array_call_no array.Includes = 5
array_call_no array.Join = 6
array_call_no array.Map = 7
array_call_no array.Filter = 8
array_call_no array.ForEach = 9

-- another number for each name space, counted from 0
abbrev pub space_no : NameSpace → ℕ
space_no space.Console = 0
space_no space.Json = 1
space_no space.Object = 2
space_no space.Array = 3

-- built-ins by numbers that all differ, those of a family from a ten of its own
abbrev pub native_no : Native → ℕ
native_no native.Log = 0
native_no native.JsonParse = 1
native_no native.JsonStringify = 2
native_no native.ObjectKeys = 3
native_no native.ObjectValues = 4
native_no native.ObjectEntries = 5
native_no native.IsArray = 6
native_no native.ToText = 7
native_no native.ToNumber = 8
native_no (native.NameSpace s) = 10 + space_no s
native_no (native.ErrorKind k) = 20 + kind_no k
native_no (native.StringCall c) = 30 + string_call_no c
native_no (native.ArrayCall c) = 40 + array_call_no c

-- two values of one kind that are no strings are the same: objects, functions and handles by their numbers
abbrev pub same_plain : Value → Value → Bool
same_plain value.Undefined value.Undefined = true
same_plain value.Null value.Null = true
same_plain (value.Bool a) (value.Bool b) = if a then b else not b
same_plain (value.Number a) (value.Number b) = int_eq a b
same_plain (value.Cell a) (value.Cell b) = a.0 == b.0
same_plain (value.Native a) (value.Native b) = native_no a == native_no b
same_plain (value.Handle a) (value.Handle b) = a.0 == b.0
same_plain _ _ = false

-- two strings by their units, no string beside another value, and else what is given for other values
abbrev pub same_or : Option (List ℕ) → Option (List ℕ) → Bool → Bool
same_or (Some s) (Some t) other = bytes_eq s t
same_or (Some s) None other = false
same_or None (Some t) other = false
same_or None None other = other

-- IsStrictlyEqual: strings by their units
abbrev pub identical : Value → Value → Heap → Bool
identical a b h = same_or (text_of a h) (text_of b h) (same_plain a b)

-- the fault of the left side comes before that of the right one
abbrev pub of_both : {X Y Z : Type 0}
    → (X → Y → Result Z Fault) → Result X Fault → Result Y Fault → Result Z Fault
of_both f (Ok x) (Ok y) = f x y
of_both f (Ok x) (Err fault) = Err fault
of_both f (Err fault) other = Err fault

-- which of two integers is the less, as an answer without fault
abbrev pub ordered : ℤ → ℤ → Result Ordering Fault
ordered a b = Ok (int_cmp a b)

-- two strings unit by unit from the front, and else what is given for other values
abbrev pub order_or : Option (List ℕ) → Option (List ℕ) → Result Ordering Fault → Result Ordering Fault
order_or (Some s) (Some t) other = Ok (slice_cmp nat_cmp s t)
order_or (Some s) None other = other
order_or None t other = other

-- the order of two strings by their units, else of two numbers
abbrev pub order : Value → Value → Heap → Result Ordering Fault
order a b h = order_or (text_of a h) (text_of b h) (of_both ordered (to_number a h) (to_number b h))
