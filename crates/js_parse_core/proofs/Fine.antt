-- What it is that all that was read fits its place.
use Rattle.std.proofs.Common.{◌≡◌, ℕ, ◌+◌, ◌≤◌, Bool, true, false, cond, not, List, [], ◌∷◌, map, Option, Some, option_map}
use Rattle.js_tree.specs.declared.tree.BinaryOp.{BinaryOp}
use Rattle.js_tree.specs.declared.tree.Catch.{Catch}
use Rattle.js_tree.specs.declared.tree.Declaration.{Declaration}
use Rattle.js_tree.specs.declared.tree.DeclareKind.{DeclareKind}
use Rattle.js_tree.specs.declared.tree.Expr.{Expr}
use Rattle.js_tree.specs.declared.tree.Item.{Item}
use Rattle.js_tree.specs.declared.tree.Property.{Property}
use Rattle.js_tree.specs.declared.tree.Stmt.{Stmt}
use Rattle.js_tree.specs.declared.tree.TemplateItem.{TemplateItem}
use Rattle.js_grammar.specs.Shapes.{Shape, First, Brace, FunctionWord, Logic, Coalescing, AndOr, NoLogic, StmtShape, strength, prefix_level, postfix_level, operand_level, logic, is_brace, is_other, all_true, all_fit, all_statements_fit, all_declared_fit, value_fits, catch_fits, body_fits, item_fits, exports, of_expr, of_target, of_property, of_declaration, of_for, of_catch, of_template, of_stmt}
use Rattle.js_parse_core.specs.declared.machine.At.{At}
use Rattle.js_parse_core.specs.declared.machine.At.TheVariants as at
use Rattle.js_parse_core.specs.declared.machine.Block.{Block}
use Rattle.js_parse_core.specs.declared.machine.Block.TheVariants as block
use Rattle.js_parse_core.specs.declared.machine.Body.{Body}
use Rattle.js_parse_core.specs.declared.machine.Body.TheVariants as body
use Rattle.js_parse_core.specs.declared.machine.Callee.{Callee}
use Rattle.js_parse_core.specs.declared.machine.Callee.TheVariants as callee
use Rattle.js_parse_core.specs.declared.machine.Declared.{Declared}
use Rattle.js_parse_core.specs.declared.machine.Frame.{Frame}
use Rattle.js_parse_core.specs.declared.machine.Frame.TheVariants as frame
use Rattle.js_parse_core.specs.declared.machine.Head.{Head}
use Rattle.js_parse_core.specs.declared.machine.Head.TheVariants as head
use Rattle.js_parse_core.specs.declared.machine.Open.{Open}
use Rattle.js_parse_core.specs.declared.machine.Operator.{Operator}
use Rattle.js_parse_core.specs.declared.machine.Operator.TheVariants as operator
use Rattle.js_parse_core.specs.declared.machine.Outer.{Outer}
use Rattle.js_parse_core.specs.declared.machine.Purpose.{Purpose}
use Rattle.js_parse_core.specs.declared.machine.Purpose.TheVariants as purpose
use Rattle.js_parse_core.specs.declared.machine.State.{State}
use Rattle.js_parse_core.specs.declared.machine.Tail.{Tail}
use Rattle.js_parse_core.specs.declared.machine.Tail.TheVariants as tail
use Rattle.std.specs.Prelude.{Ok, Err}
use Rattle.js_parse_core.specs.Outer.{Step, first_frame, is_body}

-- ---- what the innermost frame asks of the value that it waits for

-- how tightly it binds at least
abbrev pub operator_need : Operator → ℕ
operator_need (operator.Binary x o) = strength o + 1
operator_need _ = prefix_level

abbrev pub need_in : Option Frame → ℕ
need_in (Some (frame.Operator o)) = operator_need o
need_in _ = 0

abbrev pub need : List Open → ℕ
need fs = need_in (first_frame fs)

-- the operator beside which its outermost one stands
abbrev pub operator_beside : Operator → Logic
operator_beside (operator.Binary x o) = logic o
operator_beside _ = NoLogic

abbrev pub beside_in : Option Frame → Logic
beside_in (Some (frame.Operator o)) = operator_beside o
beside_in _ = NoLogic

abbrev pub beside : List Open → Logic
beside fs = beside_in (first_frame fs)

abbrev pub apart : Logic → Logic → Bool
apart Coalescing AndOr = false
apart AndOr Coalescing = false
apart _ _ = true

-- what its first token may be
abbrev pub purpose_first : Purpose → First → Bool
purpose_first purpose.Statement f = is_other f
purpose_first _ f = true

abbrev pub tail_first : Tail → First → Bool
tail_first (tail.Arrow a ns) f = not (is_brace f)
tail_first _ f = true

abbrev pub first_in : Option Frame → First → Bool
first_in (Some (frame.Purpose x)) f = purpose_first x f
first_in (Some (frame.Tail x)) f = tail_first x f
first_in _ f = true

abbrev pub may_begin : List Open → First → Bool
may_begin fs f = first_in (first_frame fs) f

-- ---- values

abbrev pub Fit : Expr → Type 0
Fit x = (of_expr x).fits ≡ true

-- a value that the innermost frame may get
pub record Fills (fs : List Open) (x : Shape) : Type 0 where
  pub fits : x.fits ≡ true
  pub level : need fs ≤ x.level
  pub unmixed : apart (beside fs) x.logic ≡ true
  pub first : may_begin fs x.first ≡ true

-- a value without binary operators, to which more may come
pub record Tight (n : ℕ) (fs : List Open) (x : Shape) : Type 0 where
  pub fits : x.fits ≡ true
  pub level : n ≤ x.level
  pub plain : x.logic ≡ NoLogic
  pub first : may_begin fs x.first ≡ true

-- a left operand, and its operator
pub record Left (o : BinaryOp) (fs : List Open) (x : Shape) : Type 0 where
  pub fits : x.fits ≡ true
  pub level : strength o ≤ x.level
  pub unmixed : apart (logic o) x.logic ≡ true
  pub first : may_begin fs x.first ≡ true
  pub low : need fs ≤ strength o
  pub next : apart (beside fs) (logic o) ≡ true

-- what binds least may stand here
abbrev pub IsFree : List Open → Type 0
IsFree fs = need fs ≡ 0

-- the begin of an assignment, or of `? :`
pub record Begun (n : ℕ) (fs : List Open) (x : Shape) : Type 0 where
  pub fits : x.fits ≡ true
  pub level : n ≤ x.level
  pub free : IsFree fs
  pub first : may_begin fs x.first ≡ true

abbrev pub AllFit : List Expr → Type 0
AllFit xs = all_fit (map of_expr xs) ≡ true

abbrev pub AllMembers : List Property → Type 0
AllMembers xs = all_true (map of_property xs) ≡ true

abbrev pub AllParts : List TemplateItem → Type 0
AllParts is = all_true (map of_template is) ≡ true

abbrev pub AllStatements : List Stmt → Type 0
AllStatements ss = all_statements_fit (map of_stmt ss) ≡ true

abbrev pub AllDeclared : DeclareKind → List Declaration → Type 0
AllDeclared k ds = all_declared_fit k (map of_declaration ds) ≡ true

abbrev pub Value : Option Expr → Type 0
Value x = value_fits (option_map of_expr x) ≡ true

abbrev pub Caught : Option Catch → Type 0
Caught c = catch_fits (option_map of_catch c) ≡ true

-- ---- statements

-- what follows is no body
abbrev pub NoBody : List Open → Type 0
NoBody fs = is_body (first_frame fs) ≡ false

-- a statement that may stand here
pub record Stands (w : Option Frame) (s : StmtShape) : Type 0 where
  pub fits : s.fits ≡ true
  pub body : is_body w ≡ true → s.is_body ≡ true

abbrev pub IsBody : StmtShape → Type 0
IsBody s = body_fits s ≡ true

-- .. and an `else` behind it is not its own
pub record Closed (s : StmtShape) : Type 0 where
  pub body : IsBody s
  pub takes_else : s.takes_else ≡ false

-- ---- what was begun

abbrev pub FineOperator : Operator → List Open → Type 0
FineOperator (operator.Binary x o) fs = Left o fs (of_expr x)
FineOperator _ fs = Unit {0}

abbrev pub FineTail : Tail → List Open → Type 0
FineTail (tail.Assign o t) fs = Begun 0 fs (of_target t)
FineTail (tail.Else test x) fs = Begun 1 fs (of_expr test) × Fit x
FineTail (tail.Arrow a ns) fs = IsFree fs

abbrev pub FineCallee : Callee → List Open → Type 0
FineCallee (callee.Value x n) fs = Tight operand_level fs (of_expr x)
FineCallee (callee.New n) fs = Unit {0}

-- an object, and the members so far
abbrev pub FineObject : List Property → List Open → Type 0
FineObject xs fs = AllMembers xs × (may_begin fs Brace ≡ true)

abbrev pub FinePlace : Bool → List Open → Type 0
FinePlace true fs = Unit {0}
FinePlace false fs = NoBody fs

abbrev pub FineDeclared : Declared → List Open → Type 0
FineDeclared d fs = AllDeclared d.kind d.declarations × FinePlace d.in_for fs

abbrev pub FinePurpose : Purpose → List Open → Type 0
FinePurpose (purpose.Then test) fs = Begun 1 fs (of_expr test)
FinePurpose (purpose.Argument c xs) fs = FineCallee c fs × AllFit xs
FinePurpose (purpose.Index x n) fs = Tight operand_level fs (of_expr x)
FinePurpose (purpose.Element xs) fs = AllFit xs
FinePurpose (purpose.Pair xs k) fs = FineObject xs fs
FinePurpose (purpose.Hole is u) fs = AllParts is
FinePurpose (purpose.ForTest b) fs = of_for b ≡ true
FinePurpose (purpose.ForUpdate b test) fs = (of_for b ≡ true) × Value test
FinePurpose (purpose.Initial d n) fs = FineDeclared d fs
FinePurpose _ fs = Unit {0}

abbrev pub FineBody : Body → Type 0
FineBody (body.Then test) = Fit test
FineBody (body.Else test s) = Fit test × Closed (of_stmt s)
FineBody (body.For b test update) = (of_for b ≡ true) × Value test × Value update
FineBody (body.ForOf k n x) = Fit x
FineBody (body.While test) = Fit test

abbrev pub FineHead : Head → List Open → Type 0
FineHead (head.Declaration a n) fs = NoBody fs
FineHead (head.Expression a n) fs = may_begin fs FunctionWord ≡ true
FineHead (head.Method a xs k) fs = FineObject xs fs

abbrev pub FineBlock : Block → List Open → Type 0
FineBlock (block.Function h ns) fs = FineHead h fs
FineBlock (block.Arrow a ns) fs = IsFree fs
FineBlock (block.Catch ss n) fs = AllStatements ss
FineBlock (block.Finally ss c) fs = AllStatements ss × Caught c
FineBlock _ fs = Unit {0}

-- `export` stands at the top level, and was not there before
abbrev pub MayExport : Bool → List Open → Type 0
MayExport exported fs = (fs ≡ []) × (exported ≡ false)

abbrev pub FineFrame : Bool → Frame → List Open → Type 0
FineFrame e (frame.Operator o) fs = FineOperator o fs
FineFrame e (frame.Tail t) fs = FineTail t fs
FineFrame e (frame.Purpose x) fs = FinePurpose x fs
FineFrame e (frame.Body b) fs = FineBody b
FineFrame e (frame.Block b ss) fs = FineBlock b fs × AllStatements ss
FineFrame e frame.Export fs = MayExport e fs

abbrev pub FineFrames : Bool → List Open → Type 0
FineFrames e [] = Unit {0}
FineFrames e (f ∷ fs) = FineFrame e f.frame fs × FineFrames e fs

-- ---- what was read of the innermost frame

abbrev pub FineNamed : Bool → List Open → Type 0
FineNamed true fs = NoBody fs
FineNamed false fs = may_begin fs FunctionWord ≡ true

abbrev pub FineAt : Bool → List Open → At → Type 0
FineAt e fs at.Begin = (f : First) → may_begin fs f ≡ true
FineAt e fs (at.Operand x n) = Tight operand_level fs (of_expr x)
FineAt e fs (at.Updated x) = Tight postfix_level fs (of_expr x)
FineAt e fs (at.Whole x) = Fills fs (of_expr x)
FineAt e fs (at.CoverOpen c ns) = IsFree fs
FineAt e fs (at.CoverName c ns n) = IsFree fs
FineAt e fs (at.Covered c ns b) = IsFree fs
FineAt e fs (at.Arrow a ns) = IsFree fs
FineAt e fs (at.ArrowBody a ns) = IsFree fs
FineAt e fs (at.MemberName x n) = Tight operand_level fs (of_expr x)
FineAt e fs (at.NextArgument c xs) = FineCallee c fs × AllFit xs
FineAt e fs (at.NextElement xs) = AllFit xs
FineAt e fs (at.Key xs) = FineObject xs fs
FineAt e fs (at.NameKey xs n) = FineObject xs fs
FineAt e fs (at.OtherKey xs k) = FineObject xs fs
FineAt e fs (at.AsyncKey xs n) = FineObject xs fs
FineAt e fs (at.AsyncMethod xs k) = FineObject xs fs
FineAt e fs (at.PropertyEnd xs) = FineObject xs fs
FineAt e fs (at.FunctionName d a) = FineNamed d fs
FineAt e fs (at.ParametersOpen h) = FineHead h fs
FineAt e fs (at.Parameters h ns) = FineHead h fs
FineAt e fs (at.ParameterRead h ns n) = FineHead h fs
FineAt e fs (at.BodyOpen h ns) = FineHead h fs
FineAt e fs (at.DeclaredName d) = FineDeclared d fs
FineAt e fs (at.NameDeclared d n) = FineDeclared d fs
FineAt e fs (at.ForTest b) = of_for b ≡ true
FineAt e fs (at.ForUpdate b test) = (of_for b ≡ true) × Value test
FineAt e fs (at.AfterThen test s) = Fit test × Closed (of_stmt s)
FineAt e fs (at.Jump s) = Closed (of_stmt s)
FineAt e fs (at.AfterTry ss) = AllStatements ss
FineAt e fs (at.CatchOpen ss) = AllStatements ss
FineAt e fs (at.CatchName ss) = AllStatements ss
FineAt e fs (at.CatchClose ss n) = AllStatements ss
FineAt e fs (at.CatchBody ss n) = AllStatements ss
FineAt e fs (at.AfterCatch ss c) = AllStatements ss × (of_catch c ≡ true)
FineAt e fs (at.FinallyOpen ss c) = AllStatements ss × Caught c
FineAt e fs at.ExportDefault = MayExport e fs
FineAt e fs at.ExportObject = MayExport e fs
FineAt e fs _ = Unit {0}

-- ---- the state

abbrev pub count : Bool → ℕ
count exported = cond exported 1 0

pub record FineItems (exported : Bool) (is : List Item) : Type 0 where
  pub fit : all_true (map item_fits is) ≡ true
  pub exported_once : exports is ≡ count exported

pub record FineOuter (o : Outer) : Type 0 where
  pub items : FineItems o.exported o.items
  pub frames : FineFrames o.exported o.frames

pub record Fine (s : State) : Type 0 where
  pub outer : FineOuter s.outer
  pub here : FineAt s.outer.exported s.outer.frames s.at

abbrev pub FineStep : Step → Type 0
FineStep (Ok s) = Fine s
FineStep (Err k) = Unit {0}
