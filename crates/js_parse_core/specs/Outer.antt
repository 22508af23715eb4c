-- What stands round the place that is read.
use Rattle.std.specs.Prelude.{ℕ, ◌+◌, Bool, true, false, cond, ◌&&◌, nat_lt, List, [], ◌∷◌, ◌++◌, drop, Option, Some, None, Result, Ok, Err}
use Rattle.js_tree.specs.declared.tree.Item.TheVariants as item
use Rattle.js_tree.specs.declared.tree.Stmt.{Stmt}
use Rattle.js_tree.specs.declared.tree.Stmt.TheVariants as stmt
use Rattle.js_words.specs.declared.word.Spot.{Spot}
use Rattle.js_parse_core.specs.declared.machine.At.{At}
use Rattle.js_parse_core.specs.declared.machine.At.TheVariants as at
use Rattle.js_parse_core.specs.declared.machine.Block.{Block}
use Rattle.js_parse_core.specs.declared.machine.Body.{Body}
use Rattle.js_parse_core.specs.declared.machine.Body.TheVariants as body
use Rattle.js_parse_core.specs.declared.machine.Frame.{Frame}
use Rattle.js_parse_core.specs.declared.machine.Frame.TheVariants as frame
use Rattle.js_parse_core.specs.declared.machine.Open.{Open}
use Rattle.js_parse_core.specs.declared.machine.Operator.{Operator}
use Rattle.js_parse_core.specs.declared.machine.Operator.TheVariants as operator
use Rattle.js_parse_core.specs.declared.machine.Outer.{Outer}
use Rattle.js_parse_core.specs.declared.machine.Purpose.{Purpose}
use Rattle.js_parse_core.specs.declared.machine.Purpose.TheVariants as purpose
use Rattle.js_parse_core.specs.declared.machine.Tail.{Tail}
use Rattle.js_parse_core.specs.declared.machine.State.{State}
use Rattle.js_parse_core.specs.declared.machine.Refusal.{Refusal}
use Rattle.js_parse_core.specs.declared.machine.Refusal.TheVariants as refusal
use Rattle.js_parse_core.specs.declared.machine.Position.{Position}
use Rattle.js_parse_core.specs.declared.machine.Position.TheVariants as positions

-- what a token makes: the state behind it, or why it is refused
abbrev pub Step : Type 0
Step = Result State Refusal

-- the refusal of a token, with the spots where the token before it and the token itself are asked for a word
abbrev pub because : Option Spot → Option Spot → Refusal
because before here = refusal.Token (record { before = before; here = here; ended = false })

-- the token is refused, and no spot is told
abbrev pub refuse : Step
refuse = Err (because None None)

-- the token is refused at this spot
abbrev pub refuse_at : Spot → Step
refuse_at s = Err (because None (Some s))

-- the token is taken: what is open then, and what was read within it
abbrev pub to : Outer → At → Step
to o a = Ok (record { outer = o; at = a })

-- Counts of constructs stand still far above what may be open.
abbrev pub most_counted : ℕ
most_counted = 1000

-- the sum of two counts of constructs, or the highest count where one of them has reached it
abbrev pub plus : ℕ → ℕ → ℕ
plus a b = cond (nat_lt a most_counted && nat_lt b most_counted) (a + b) most_counted

-- the same items, with these frames open
abbrev pub framed : Outer → List Open → Outer
framed o fs = record { items = o.items; exported = o.exported; frames = fs }

-- how many constructs are open within these frames
abbrev pub constructs_in : List Open → ℕ
constructs_in [] = 0
constructs_in (f ∷ fs) = f.constructs

-- how many constructs are open here
abbrev pub constructs : Outer → ℕ
constructs o = constructs_in o.frames

-- a frame, and how many constructs are open within it
abbrev pub opened : ℕ → Frame → Open
opened n f = record { constructs = n; frame = f }

-- one more frame is open, and so many constructs within it in all
abbrev pub push_at : Outer → ℕ → Frame → Outer
push_at o n f = framed o (opened n f ∷ o.frames)

-- one more frame is open, which opens so many constructs more
abbrev pub push : Outer → ℕ → Frame → Outer
push o more f = push_at o (plus (constructs o) more) f

-- the frame of these that was opened last, if there is one
abbrev pub first_frame : List Open → Option Frame
first_frame [] = None
first_frame (f ∷ fs) = Some f.frame

-- the frame that was opened last, if one is open
abbrev pub innermost : Outer → Option Frame
innermost o = first_frame o.frames

-- the frame that was opened last is open no longer
abbrev pub without : Outer → Outer
without o = framed o (drop 1 o.frames)

-- an expression has to come that is for this, within so many constructs more
abbrev pub wait : Outer → ℕ → Purpose → Step
wait o more x = to (push o more (frame.Purpose x)) at.Begin

-- an operand of this operator has to come, within so many constructs in all
abbrev pub wait_operand : Outer → ℕ → Operator → Step
wait_operand o n x = to (push_at o n (frame.Operator x)) at.Begin

-- the value that ends this has to come, within one construct more
abbrev pub wait_tail : Outer → Tail → Step
wait_tail o x = to (push o 1 (frame.Tail x)) at.Begin

-- the statement that is this body has to come, within one construct more
abbrev pub wait_body : Outer → Body → Step
wait_body o x = to (push o 1 (frame.Body x)) at.Statement

-- the statements of this block have to come, within so many constructs more
abbrev pub open_block : Outer → ℕ → Block → Step
open_block o more b = to (push o more (frame.Block b [])) at.Statement

-- where the operand of this operator stands: `++` and `--` take only a target
abbrev pub operator_position : Operator → Position
operator_position (operator.Update x) = positions.Target
operator_position _ = positions.Operand

-- where the operand that this frame waits for stands
abbrev pub position_in : Option Frame → Position
position_in (Some (frame.Operator x)) = operator_position x
position_in _ = positions.Whole

-- where the operand that comes next stands
abbrev pub position : Outer → Position
position o = position_in (innermost o)

-- an assignment or an arrow may stand at this position
abbrev pub is_whole_position : Position → Bool
is_whole_position positions.Whole = true
is_whole_position positions.Operand = false
is_whole_position positions.Target = false

-- an assignment or an arrow may stand here
abbrev pub is_whole : Outer → Bool
is_whole o = is_whole_position (position o)

-- the frame waits for a statement as its body
abbrev pub is_body : Option Frame → Bool
is_body (Some (frame.Body x)) = true
is_body _ = false

-- the statement that comes next is the body of another
abbrev pub in_body : Outer → Bool
in_body o = is_body (innermost o)

-- the value is for an expression as a statement
abbrev pub is_statement_purpose : Purpose → Bool
is_statement_purpose purpose.Statement = true
is_statement_purpose _ = false

-- the frame waits for an expression as a statement
abbrev pub is_statement : Option Frame → Bool
is_statement (Some (frame.Purpose x)) = is_statement_purpose x
is_statement _ = false

-- the operand that comes next is the first of a statement
abbrev pub begins_statement : Outer → Bool
begins_statement o = is_statement (innermost o)

-- ---- a statement is whole

-- the statement whose body this one is (ECMA-262, sections 14.6 and 14.7)
abbrev pub with_body : Body → Stmt → Stmt
with_body (body.Then test) s = stmt.If test s None
with_body (body.Else test a) s = stmt.If test a (Some s)
with_body (body.For begin test update) s = stmt.For begin test update s
with_body (body.ForOf k n x) s = stmt.ForOf k n x s
with_body (body.While test) s = stmt.While test s

-- the statement is the next item of the script
abbrev pub add_item : Outer → Stmt → Step
add_item o s = to (record { items = o.items ++ item.Stmt s ∷ []; exported = o.exported; frames = o.frames }) at.Statement

-- the statement is the next one of this block
abbrev pub add : Outer → ℕ → Block → List Stmt → Stmt → Step
add o n b ss s = to (push_at o n (frame.Block b (ss ++ s ∷ []))) at.Statement

-- the statement ends this body
abbrev pub complete_body : Outer → Body → Stmt → (Stmt → Step) → Step
complete_body o (body.Then test) s go = to o (at.AfterThen test s)
complete_body o b s go = go (with_body b s)

-- a statement is whole in this frame, and `else` may follow: the next one of a block, or a body
abbrev pub complete_frame : Outer → ℕ → Frame → Stmt → (Stmt → Step) → Step
complete_frame o n (frame.Block b ss) s go = add o n b ss s
complete_frame o n (frame.Body b) s go = complete_body o b s go
complete_frame o n _ s go = refuse

-- a statement is whole within these frames, and `else` may follow
abbrev pub complete_in : Outer → List Open → Stmt → Step
complete_in o [] s = add_item (framed o []) s
complete_in o (f ∷ fs) s = complete_frame (framed o fs) f.constructs f.frame s (λ t. complete_in o fs t)

-- .. and the next token is `else`, or may be
abbrev pub complete : Outer → Stmt → Step
complete o s = complete_in o o.frames s

-- a statement is whole in this frame, and no `else` follows: the next one of a block, or a body
abbrev pub settle_frame : Outer → ℕ → Frame → Stmt → (Stmt → Step) → Step
settle_frame o n (frame.Block b ss) s go = add o n b ss s
settle_frame o n (frame.Body b) s go = go (with_body b s)
settle_frame o n _ s go = refuse

-- a statement is whole within these frames, and no `else` follows
abbrev pub settle_in : Outer → List Open → Stmt → Step
settle_in o [] s = add_item (framed o []) s
settle_in o (f ∷ fs) s = settle_frame (framed o fs) f.constructs f.frame s (λ t. settle_in o fs t)

-- .. and the next token is not `else`
abbrev pub settle : Outer → Stmt → Step
settle o s = settle_in o o.frames s
