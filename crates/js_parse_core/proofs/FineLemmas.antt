-- Levels, firsts and operators: laws of what fits.
use Rattle.std.proofs.Common.{◌≡◌, ◌≤◌, Bool, true, false, cond, not, ◌||◌, List, Option, Some, None, refl, sym, ◌∙◌, ap, arith, true≢false}
use Rattle.std.proofs.lemmas.Bool.{cond_both}
use Rattle.js_tree.specs.declared.tree.BinaryOp.{BinaryOp}
use Rattle.js_tree.specs.declared.tree.BinaryOp.TheVariants as binary
use Rattle.js_grammar.specs.Shapes.{Shape, OtherFirst, Logic, Coalescing, AndOr, NoLogic, strength, is_and_or, is_coalescing, unmixed}
use Rattle.js_parse_core.specs.declared.machine.Frame.{Frame}
use Rattle.js_parse_core.specs.declared.machine.Frame.TheVariants as frame
use Rattle.js_parse_core.specs.declared.machine.Open.{Open}
use Rattle.js_parse_core.specs.declared.machine.Operator.{Operator}
use Rattle.js_parse_core.specs.declared.machine.Operator.TheVariants as operator
use Rattle.js_parse_core.specs.declared.machine.Purpose.TheVariants as purpose
use Rattle.js_parse_core.specs.declared.machine.Tail.TheVariants as tail
use Rattle.js_parse_core.specs.Outer.{Step, first_frame, position_in, is_whole_position}
use Rattle.js_parse_core.proofs.Fine.{operator_need, need_in, need, apart, first_in, may_begin, IsFree, FineStep}

-- ---- tests

pub either : (b : Bool) (x y : Step) → (b ≡ true → FineStep x) → (b ≡ false → FineStep y) → FineStep (cond b x y)
either b x y f g = cond_both b x y FineStep f g

-- ---- levels

pub strength_most : (o : BinaryOp) → strength o ≤ 6
strength_most binary.Coalesce = omega arith
strength_most binary.Or = omega arith
strength_most binary.And = omega arith
strength_most binary.Identical = omega arith
strength_most binary.NotIdentical = omega arith
strength_most binary.Less = omega arith
strength_most binary.LessEqual = omega arith
strength_most binary.Greater = omega arith
strength_most binary.GreaterEqual = omega arith
strength_most binary.Add = omega arith
strength_most binary.Subtract = omega arith
strength_most binary.Multiply = omega arith
strength_most binary.Divide = omega arith
strength_most binary.Remainder = omega arith

pub strength_least : (o : BinaryOp) → 1 ≤ strength o
strength_least binary.Coalesce = omega arith
strength_least binary.Or = omega arith
strength_least binary.And = omega arith
strength_least binary.Identical = omega arith
strength_least binary.NotIdentical = omega arith
strength_least binary.Less = omega arith
strength_least binary.LessEqual = omega arith
strength_least binary.Greater = omega arith
strength_least binary.GreaterEqual = omega arith
strength_least binary.Add = omega arith
strength_least binary.Subtract = omega arith
strength_least binary.Multiply = omega arith
strength_least binary.Divide = omega arith
strength_least binary.Remainder = omega arith

operator_need_most : (o : Operator) → operator_need o ≤ 7
operator_need_most (operator.Binary x o) = let s = strength_most o in omega arith
operator_need_most (operator.Unary o) = omega arith
operator_need_most (operator.Await q) = omega arith
operator_need_most (operator.Update o) = omega arith

need_in_most : (w : Option Frame) → need_in w ≤ 7
need_in_most (Some (frame.Operator o)) = operator_need_most o
need_in_most (Some _) = omega arith
need_in_most None = omega arith

pub need_most : (fs : List Open) → need fs ≤ 7
need_most fs = need_in_most (first_frame fs)

operator_need_least : (o : Operator) → 2 ≤ operator_need o
operator_need_least (operator.Binary x o) = let s = strength_least o in omega arith
operator_need_least (operator.Unary o) = omega arith
operator_need_least (operator.Await q) = omega arith
operator_need_least (operator.Update o) = omega arith

need_in_free : (w : Option Frame) → need_in w ≤ 1 → need_in w ≡ 0
need_in_free (Some (frame.Operator o)) h = let s = operator_need_least o in omega arith
need_in_free (Some _) h = refl
need_in_free None h = refl

pub need_free : (fs : List Open) → need fs ≤ 1 → IsFree fs
need_free fs h = need_in_free (first_frame fs) h

whole_operator : (o : Operator) → is_whole_position (position_in (Some (frame.Operator o))) ≡ true → operator_need o ≡ 0
whole_operator (operator.Binary x o) h = absurd (true≢false (sym h))
whole_operator (operator.Unary o) h = absurd (true≢false (sym h))
whole_operator (operator.Await q) h = absurd (true≢false (sym h))
whole_operator (operator.Update o) h = absurd (true≢false (sym h))

whole_in : (w : Option Frame) → is_whole_position (position_in w) ≡ true → need_in w ≡ 0
whole_in (Some (frame.Operator o)) h = whole_operator o h
whole_in (Some _) h = refl
whole_in None h = refl

pub whole_free : (fs : List Open) → is_whole_position (position_in (first_frame fs)) ≡ true → IsFree fs
whole_free fs h = whole_in (first_frame fs) h

-- ---- firsts

other_in : (w : Option Frame) → first_in w OtherFirst ≡ true
other_in (Some (frame.Purpose purpose.Statement)) = refl
other_in (Some (frame.Purpose _)) = refl
other_in (Some (frame.Tail (tail.Arrow a ns))) = refl
other_in (Some (frame.Tail _)) = refl
other_in (Some _) = refl
other_in None = refl

pub other_first : (fs : List Open) → may_begin fs OtherFirst ≡ true
other_first fs = other_in (first_frame fs)

-- ---- operators that are not mixed

pub apart_none : (k : Logic) → apart k NoLogic ≡ true
apart_none Coalescing = refl
apart_none AndOr = refl
apart_none NoLogic = refl

pub apart_plain : (k l : Logic) → l ≡ NoLogic → apart k l ≡ true
apart_plain k l h = ap (apart k) h ∙ apart_none k

no_and_or : (a b : Logic) → apart Coalescing a ≡ true → apart Coalescing b ≡ true → not (is_and_or a || is_and_or b) ≡ true
no_and_or AndOr b h k = absurd (true≢false (sym h))
no_and_or Coalescing AndOr h k = absurd (true≢false (sym k))
no_and_or Coalescing Coalescing h k = refl
no_and_or Coalescing NoLogic h k = refl
no_and_or NoLogic AndOr h k = absurd (true≢false (sym k))
no_and_or NoLogic Coalescing h k = refl
no_and_or NoLogic NoLogic h k = refl

no_coalescing : (a b : Logic) → apart AndOr a ≡ true → apart AndOr b ≡ true → not (is_coalescing a || is_coalescing b) ≡ true
no_coalescing Coalescing b h k = absurd (true≢false (sym h))
no_coalescing AndOr Coalescing h k = absurd (true≢false (sym k))
no_coalescing AndOr AndOr h k = refl
no_coalescing AndOr NoLogic h k = refl
no_coalescing NoLogic Coalescing h k = absurd (true≢false (sym k))
no_coalescing NoLogic AndOr h k = refl
no_coalescing NoLogic NoLogic h k = refl

pub unmixed_from : (k : Logic) (x y : Shape) → apart k x.logic ≡ true → apart k y.logic ≡ true → unmixed k x y ≡ true
unmixed_from Coalescing x y h k = no_and_or x.logic y.logic h k
unmixed_from AndOr x y h k = no_coalescing x.logic y.logic h k
unmixed_from NoLogic x y h k = refl
