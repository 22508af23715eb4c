-- What may be open: which frame each frame and each spot stands in.
use Rattle.std.proofs.Common.{Bool, true, false, List, [], ◌∷◌, Option, Some, None}
use Rattle.std.specs.Prelude.{IsTrue, not}
use Rattle.js_parse_core.specs.declared.machine.At.{At}
use Rattle.js_parse_core.specs.declared.machine.At.TheVariants as at
use Rattle.js_parse_core.specs.declared.machine.Block.{Block}
use Rattle.js_parse_core.specs.declared.machine.Block.TheVariants as block
use Rattle.js_parse_core.specs.declared.machine.Frame.{Frame}
use Rattle.js_parse_core.specs.declared.machine.Frame.TheVariants as frame
use Rattle.js_parse_core.specs.declared.machine.Head.{Head}
use Rattle.js_parse_core.specs.declared.machine.Head.TheVariants as head
use Rattle.js_parse_core.specs.declared.machine.Open.{Open}
use Rattle.js_parse_core.specs.declared.machine.Operator.{Operator}
use Rattle.js_parse_core.specs.declared.machine.Operator.TheVariants as operator
use Rattle.js_parse_core.specs.declared.machine.Purpose.{Purpose}
use Rattle.js_parse_core.specs.declared.machine.Purpose.TheVariants as purpose
use Rattle.js_parse_core.specs.declared.machine.State.{State}
use Rattle.js_parse_core.specs.Outer.{first_frame}

-- What the innermost frame has to be.
pub data Place : Type 0 where
  -- one of statements, or none
  Statements : Place
  -- one that waits for an operand
  Operands : Place
  -- .. and not for what `++` or `--` writes
  Values : Place
  -- .. and not for the operand of an operator
  Wholes : Place
  -- one that waits for an operand, or `export default`
  Objects : Place

abbrev pub is_update : Operator → Bool
is_update (operator.Update o) = true
is_update _ = false

abbrev pub is_within : Place → Option Frame → Bool
is_within Statements None = true
is_within Statements (Some (frame.Block b ss)) = true
is_within Statements (Some (frame.Body b)) = true
is_within Operands (Some (frame.Operator o)) = true
is_within Operands (Some (frame.Tail t)) = true
is_within Operands (Some (frame.Purpose w)) = true
is_within Values (Some (frame.Operator o)) = not (is_update o)
is_within Values (Some (frame.Tail t)) = true
is_within Values (Some (frame.Purpose w)) = true
is_within Wholes (Some (frame.Tail t)) = true
is_within Wholes (Some (frame.Purpose w)) = true
is_within Objects (Some (frame.Operator o)) = true
is_within Objects (Some (frame.Tail t)) = true
is_within Objects (Some (frame.Purpose w)) = true
is_within Objects (Some frame.Export) = true
is_within _ _ = false

-- ---- where each frame stands

abbrev pub place_of_head : Head → Place
place_of_head (head.Declaration a n) = Statements
place_of_head (head.Expression a n) = Operands
place_of_head (head.Method a xs k) = Objects

abbrev pub place_of_block : Block → Place
place_of_block (block.Function h ns) = place_of_head h
place_of_block (block.Arrow a ns) = Wholes
place_of_block _ = Statements

abbrev pub place_of_purpose : Purpose → Place
place_of_purpose (purpose.Then test) = Wholes
place_of_purpose purpose.Group = Operands
place_of_purpose (purpose.Argument c xs) = Operands
place_of_purpose (purpose.Index x n) = Operands
place_of_purpose (purpose.Element xs) = Operands
place_of_purpose (purpose.Pair xs k) = Objects
place_of_purpose (purpose.Hole is u) = Operands
place_of_purpose _ = Statements

abbrev pub place_of_frame : Frame → Place
place_of_frame (frame.Operator o) = Values
place_of_frame (frame.Tail t) = Wholes
place_of_frame (frame.Purpose w) = place_of_purpose w
place_of_frame (frame.Body b) = Statements
place_of_frame (frame.Block b ss) = place_of_block b
place_of_frame frame.Export = Statements

-- each frame stands where it may
abbrev pub Stands : List Open → Type 0
Stands [] = Unit {0}
Stands (f ∷ fs) = IsTrue (is_within (place_of_frame f.frame) (first_frame fs)) × Stands fs

-- ---- where each spot stands

abbrev pub place_of_name : Bool → Place
place_of_name true = Statements
place_of_name false = Operands

abbrev pub place_of : At → Place
place_of at.Begin = Operands
place_of (at.Operand x n) = Operands
place_of (at.Updated x) = Values
place_of (at.Whole x) = Wholes
place_of (at.Async n) = Operands
place_of (at.CoverOpen c ns) = Wholes
place_of (at.CoverName c ns n) = Wholes
place_of (at.Covered c ns b) = Wholes
place_of (at.Arrow a ns) = Wholes
place_of (at.ArrowBody a ns) = Wholes
place_of at.NewName = Operands
place_of (at.NewOpen n) = Operands
place_of (at.MemberName x n) = Operands
place_of (at.NextArgument c xs) = Operands
place_of (at.NextElement xs) = Operands
place_of (at.Key xs) = Objects
place_of (at.NameKey xs n) = Objects
place_of (at.OtherKey xs k) = Objects
place_of (at.AsyncKey xs n) = Objects
place_of (at.AsyncMethod xs k) = Objects
place_of (at.PropertyEnd xs) = Objects
place_of (at.FunctionName d a) = place_of_name d
place_of (at.ParametersOpen h) = place_of_head h
place_of (at.Parameters h ns) = place_of_head h
place_of (at.ParameterRead h ns n) = place_of_head h
place_of (at.BodyOpen h ns) = place_of_head h
place_of _ = Statements

-- a state that a run may reach
pub record IsOpen (s : State) : Type 0 where
  pub here : IsTrue (is_within (place_of s.at) (first_frame s.outer.frames))
  pub below : Stands s.outer.frames
