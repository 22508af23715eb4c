-- Which trees have a text: each operand binds as tightly as its place asks, and each statement may stand where it does.
use Rattle.std.specs.Prelude.{ℕ, ◌+◌, Bool, true, false, ◌&&◌, ◌||◌, not, nat_le, nat_lt, List, [], ◌∷◌, map, Option, Some, None}
use Rattle.js_words.specs.Words.{sign_strength}
use Rattle.js_tree.specs.declared.tree.BinaryOp.{BinaryOp}
use Rattle.js_tree.specs.declared.tree.BinaryOp.TheVariants as binary
use Rattle.js_tree.specs.declared.tree.DeclareKind.{DeclareKind}
use Rattle.js_tree.specs.declared.tree.DeclareKind.TheVariants as declare
use Rattle.js_tree.specs.declared.tree.UpdateSide.{UpdateSide}
use Rattle.js_tree.specs.declared.tree.UpdateSide.TheVariants as side
use Rattle.js_tree.specs.declared.tree.Item.{Item}
use Rattle.js_tree.specs.declared.tree.Item.TheVariants as item
use Rattle.js_tree.specs.declared.tree.Stmt.{Stmt}
use Rattle.js_tree.specs.declared.tree.Property.{Property}
use Rattle.js_tree.specs.declared.tree.ArrowBody.{ArrowBody}
use Rattle.js_tree.specs.declared.tree.Expr.{Expr}
use Rattle.js_tree.specs.declared.tree.ForBegin.{ForBegin}
use Rattle.js_tree.specs.declared.tree.Target.{Target}
use Rattle.js_tree.specs.declared.tree.Catch.{Catch}
use Rattle.js_tree.specs.declared.tree.Declaration.{Declaration}
use Rattle.js_tree.specs.declared.tree.Function.{Function}
use Rattle.js_tree.specs.declared.tree.TemplateItem.{TemplateItem}
use Rattle.js_tree.specs.declared.tree.ArrowBody.TheOpen.{ArrowBody-F, Expr-F, ForBegin-F, Property-F, Stmt-F, Target-F, Catch-F, Declaration-F, Function-F, TemplateItem-F}
use Rattle.js_tree.specs.declared.tree.ArrowBody.TheFolds.{fold-ArrowBody, fold-Expr, fold-ForBegin, fold-Property, fold-Stmt, fold-Target, fold-Catch, fold-Declaration, fold-Function, fold-TemplateItem}
use Rattle.js_grammar.specs.Grammar.{binary_sign}

-- ---- expressions

-- The levels of an expression, the weakest first: 0 with an assignment, an arrow or `? :` outermost, 1 to 6
-- with a binary operator, 7 with a prefix operator, 8 with a postfix one, 9 with none (ECMA-262, sections
-- 13.3 to 13.15).
abbrev pub strength : BinaryOp → ℕ
strength o = known (sign_strength (binary_sign o))
  where
    known : Option ℕ → ℕ
    known (Some n) = n
    known None = 0

-- the level of an expression with a prefix operator outermost (ECMA-262, section 13.5)
abbrev pub prefix_level : ℕ
prefix_level = 7

-- the level of an expression with `++` or `--` behind it (ECMA-262, section 13.4)
abbrev pub postfix_level : ℕ
postfix_level = 8

-- the level of an expression with no operator outermost (ECMA-262, sections 13.2 and 13.3)
abbrev pub operand_level : ℕ
operand_level = 9

-- what the first token of an expression is
pub data First : Type 0 where
  Brace : First
  -- `function`, or `async` and `function`
  FunctionWord : First
  OtherFirst : First

-- which operator stands outermost: `??` is not mixed with the other two (section 13.13)
pub data Logic : Type 0 where
  Coalescing : Logic
  AndOr : Logic
  NoLogic : Logic

-- an expression: it has a text, and this is its level, what it begins with, and its outermost logic
pub record Shape : Type 0 where
  pub fits : Bool
  pub level : ℕ
  pub first : First
  pub logic : Logic

-- a declaration: of a `const` it has a value
pub record DeclaredShape : Type 0 where
  pub fits : Bool
  pub has_value : Bool

-- A statement: it may stand as the body of another, and an `else` behind it would be its own.
pub record StmtShape : Type 0 where
  pub fits : Bool
  pub is_body : Bool
  pub takes_else : Bool

-- each of these holds
abbrev pub all_true : List Bool → Bool
all_true [] = true
all_true (b ∷ bs) = b && all_true bs

-- each of these expressions has a text
abbrev pub all_fit : List Shape → Bool
all_fit [] = true
all_fit (x ∷ xs) = x.fits && all_fit xs

-- each of these statements has a text
abbrev pub all_statements_fit : List StmtShape → Bool
all_statements_fit [] = true
all_statements_fit (x ∷ xs) = x.fits && all_statements_fit xs

-- the expression has a text, and binds as tightly as this level
abbrev pub at_least : ℕ → Shape → Bool
at_least n x = x.fits && nat_le n x.level

-- the expression has a text, and binds more tightly than this level
abbrev pub above : ℕ → Shape → Bool
above n x = x.fits && nat_lt n x.level

-- an expression with none of `??`, `||` and `&&` outermost
abbrev pub shaped : Bool → ℕ → First → Shape
shaped b n f = record { fits = b; level = n; first = f; logic = NoLogic }

-- a primary expression (section 13.2)
abbrev pub primary : Bool → Shape
primary b = shaped b operand_level OtherFirst

-- with a call or a member access (section 13.3)
abbrev pub accessing : Shape → Bool → Shape
accessing x b = shaped (at_least operand_level x && b) operand_level x.first

-- `??` stands outermost
abbrev pub is_coalescing : Logic → Bool
is_coalescing Coalescing = true
is_coalescing _ = false

-- `||` or `&&` stands outermost
abbrev pub is_and_or : Logic → Bool
is_and_or AndOr = true
is_and_or _ = false

-- which operator of those that are not mixed this one is
abbrev pub logic : BinaryOp → Logic
logic binary.Coalesce = Coalescing
logic binary.Or = AndOr
logic binary.And = AndOr
logic _ = NoLogic

-- the operands' outermost operators may stand beside this one
abbrev pub unmixed : Logic → Shape → Shape → Bool
unmixed Coalescing x y = not (is_and_or x.logic || is_and_or y.logic)
unmixed AndOr x y = not (is_coalescing x.logic || is_coalescing y.logic)
unmixed NoLogic x y = true

-- left associative
abbrev pub joining : BinaryOp → Shape → Shape → Shape
joining o x y = record {
  fits = (at_least (strength o) x && above (strength o) y) && unmixed (logic o) x y;
  level = strength o;
  first = x.first;
  logic = logic o;
}

-- `++` or `--` on this side of its target (ECMA-262, section 13.4)
abbrev pub updating : UpdateSide → Shape → Shape
updating side.Before x = shaped x.fits prefix_level OtherFirst
updating side.Behind x = shaped x.fits postfix_level x.first

-- the expression begins with `{`
abbrev pub is_brace : First → Bool
is_brace Brace = true
is_brace _ = false

-- the expression begins neither with `{` nor with the word of a function
abbrev pub is_other : First → Bool
is_other OtherFirst = true
is_other _ = false

-- ---- the layers of the tree

-- an arrow's body, of whose parts it is known whether they have a text
abbrev pub ArrowLayer : Type 0
ArrowLayer = ArrowBody-F Bool Shape Bool Bool StmtShape Shape Bool DeclaredShape Bool Bool

-- an expression, of whose parts it is known whether they have a text
abbrev pub ExprLayer : Type 0
ExprLayer = Expr-F Bool Shape Bool Bool StmtShape Shape Bool DeclaredShape Bool Bool

-- the begin of a `for`, of whose parts it is known whether they have a text
abbrev pub ForLayer : Type 0
ForLayer = ForBegin-F Bool Shape Bool Bool StmtShape Shape Bool DeclaredShape Bool Bool

-- a member of an object, of whose parts it is known whether they have a text
abbrev pub PropertyLayer : Type 0
PropertyLayer = Property-F Bool Shape Bool Bool StmtShape Shape Bool DeclaredShape Bool Bool

-- a statement, of whose parts it is known whether they have a text
abbrev pub StmtLayer : Type 0
StmtLayer = Stmt-F Bool Shape Bool Bool StmtShape Shape Bool DeclaredShape Bool Bool

-- what can be written to, of whose parts it is known whether they have a text
abbrev pub TargetLayer : Type 0
TargetLayer = Target-F Bool Shape Bool Bool StmtShape Shape Bool DeclaredShape Bool Bool

-- a `catch`, of whose block it is known whether it has a text
abbrev pub CatchLayer : Type 0
CatchLayer = Catch-F Bool Shape Bool Bool StmtShape Shape Bool DeclaredShape Bool Bool

-- a declaration, of whose value it is known whether it has a text
abbrev pub DeclarationLayer : Type 0
DeclarationLayer = Declaration-F Bool Shape Bool Bool StmtShape Shape Bool DeclaredShape Bool Bool

-- a function, of whose body it is known whether it has a text
abbrev pub FunctionLayer : Type 0
FunctionLayer = Function-F Bool Shape Bool Bool StmtShape Shape Bool DeclaredShape Bool Bool

-- a part of a template, of whose value it is known whether it has a text
abbrev pub TemplateLayer : Type 0
TemplateLayer = TemplateItem-F Bool Shape Bool Bool StmtShape Shape Bool DeclaredShape Bool Bool

-- what can be written to: a name, or a member of an operand (ECMA-262, section 13.15.1)
abbrev pub target_step : TargetLayer → Shape
target_step (Target-F.Variable n) = primary true
target_step (Target-F.Field x n) = accessing x true
target_step (Target-F.Item x k) = accessing x k.fits

-- a member of an object has a text where its value or its function has
abbrev pub property_step : PropertyLayer → Bool
property_step (Property-F.Pair k x) = x.fits
property_step (Property-F.Short n) = true
property_step (Property-F.Method k f) = f

-- a function has a text where each of its statements has
abbrev pub function_step : FunctionLayer → Bool
function_step f = all_statements_fit f.body

-- section 15.3, ConciseBody: a value begins with no `{`
abbrev pub arrow_body_step : ArrowLayer → Bool
arrow_body_step (ArrowBody-F.Statements ss) = all_statements_fit ss
arrow_body_step (ArrowBody-F.Value x) = x.fits && not (is_brace x.first)

-- a part of a template has a text where the value behind it has
abbrev pub template_step : TemplateLayer → Bool
template_step i = i.value.fits

-- whether an expression has a text, and of which shape (ECMA-262, sections 13.2 to 13.15)
abbrev pub expr_step : ExprLayer → Shape
expr_step (Expr-F.Name n) = primary true
expr_step (Expr-F.Number n) = primary true
expr_step (Expr-F.Text u) = primary true
expr_step Expr-F.True = primary true
expr_step Expr-F.False = primary true
expr_step Expr-F.Null = primary true
expr_step Expr-F.This = primary true
expr_step (Expr-F.Template is u) = primary (all_true is)
expr_step (Expr-F.Array xs) = primary (all_fit xs)
expr_step (Expr-F.Object xs) = shaped (all_true xs) operand_level Brace
expr_step (Expr-F.Function n f) = shaped f operand_level FunctionWord
expr_step (Expr-F.Arrow a ns b) = shaped b 0 OtherFirst
expr_step (Expr-F.Group x) = primary x.fits
expr_step (Expr-F.Unary o x) = shaped (at_least prefix_level x) prefix_level OtherFirst
expr_step (Expr-F.Await q x) = shaped (at_least prefix_level x) prefix_level OtherFirst
expr_step (Expr-F.Update s o x) = updating s x
expr_step (Expr-F.Binary o x y) = joining o x y
expr_step (Expr-F.Conditional test a b) = shaped (at_least 1 test && (a.fits && b.fits)) 0 test.first
expr_step (Expr-F.Assign o x y) = shaped (x.fits && y.fits) 0 x.first
expr_step (Expr-F.Call x xs) = accessing x (all_fit xs)
expr_step (Expr-F.New n xs) = primary (all_fit xs)
expr_step (Expr-F.Member x n) = accessing x true
expr_step (Expr-F.Index x k) = accessing x k.fits

-- ---- statements

-- a value that may be missing has a text where it is there
abbrev pub value_fits : Option Shape → Bool
value_fits None = true
value_fits (Some x) = x.fits

-- there is a value
abbrev pub has_value : Option Shape → Bool
has_value None = false
has_value (Some x) = true

-- a declaration: whether it has a text, and whether it has a value
abbrev pub declaration_step : DeclarationLayer → DeclaredShape
declaration_step d = record { fits = value_fits d.value; has_value = has_value d.value }

-- a declaration has a text where its value has; a `const` needs one (ECMA-262, section 14.3.1)
abbrev pub declared_fits : DeclareKind → DeclaredShape → Bool
declared_fits declare.Let d = d.fits
declared_fits declare.Const d = d.fits && d.has_value

-- each of these declarations has a text
abbrev pub all_declared_fit : DeclareKind → List DeclaredShape → Bool
all_declared_fit k [] = true
all_declared_fit k (d ∷ ds) = declared_fits k d && all_declared_fit k ds

-- section 14.3.1: one name at least
abbrev pub declarations_fit : DeclareKind → List DeclaredShape → Bool
declarations_fit k [] = false
declarations_fit k ds = all_declared_fit k ds

-- the begin of a `for` has a text: nothing, one declaration at least, or an expression
abbrev pub for_step : ForLayer → Bool
for_step ForBegin-F.Nothing = true
for_step (ForBegin-F.Declarations k ds) = declarations_fit k ds
for_step (ForBegin-F.Start x) = x.fits

-- a `catch` has a text where each statement of its block has
abbrev pub catch_step : CatchLayer → Bool
catch_step c = all_statements_fit c.body

-- a declaration: it stands in a list of statements, but not as the body of another (ECMA-262, section 14)
abbrev pub item_only : Bool → StmtShape
item_only b = record { fits = b; is_body = false; takes_else = false }

-- a statement that may be a body, and takes no `else` behind it
abbrev pub plain : Bool → StmtShape
plain b = record { fits = b; is_body = true; takes_else = false }

-- the statement has a text, and may stand as the body of another
abbrev pub body_fits : StmtShape → Bool
body_fits s = s.fits && s.is_body

-- a statement that ends with its body
abbrev pub loop : Bool → StmtShape → StmtShape
loop b s = record { fits = b && body_fits s; is_body = true; takes_else = s.takes_else }

-- section 14.6: an `else` belongs to the nearest `if`
abbrev pub branching : Bool → StmtShape → Option StmtShape → StmtShape
branching test a None = record { fits = test && body_fits a; is_body = true; takes_else = true }
branching test a (Some b) = record {
  fits = test && ((body_fits a && not a.takes_else) && body_fits b);
  is_body = true;
  takes_else = b.takes_else;
}

-- a `catch` that may be missing has a text where it is there
abbrev pub catch_fits : Option Bool → Bool
catch_fits None = true
catch_fits (Some b) = b

-- a `finally` that may be missing has a text where it is there
abbrev pub finally_fits : Option (List StmtShape) → Bool
finally_fits None = true
finally_fits (Some ss) = all_statements_fit ss

-- section 14.15: with `catch`, with `finally`, or with both
abbrev pub handles : Option Bool → Option (List StmtShape) → Bool
handles None None = false
handles _ _ = true

-- whether a statement has a text, and of which shape (ECMA-262, sections 14.2 to 14.15)
abbrev pub stmt_step : StmtLayer → StmtShape
stmt_step (Stmt-F.Declare k ds) = item_only (declarations_fit k ds)
stmt_step (Stmt-F.DeclareFunction n f) = item_only f
stmt_step (Stmt-F.Block ss) = plain (all_statements_fit ss)
stmt_step (Stmt-F.If test a b) = branching test.fits a b
stmt_step (Stmt-F.For begin test update s) = loop (begin && (value_fits test && value_fits update)) s
stmt_step (Stmt-F.ForOf k n x s) = loop x.fits s
stmt_step (Stmt-F.While test s) = loop test.fits s
stmt_step (Stmt-F.Break q) = plain true
stmt_step (Stmt-F.Continue q) = plain true
stmt_step (Stmt-F.Return q x) = plain (value_fits x)
stmt_step (Stmt-F.Throw x) = plain x.fits
stmt_step (Stmt-F.Try ss c f) = plain (all_statements_fit ss && (catch_fits c && (finally_fits f && handles c f)))
stmt_step Stmt-F.Empty = plain true
-- section 14.5: neither `{` nor a function's word stands first
stmt_step (Stmt-F.Expr x) = plain (x.fits && is_other x.first)

-- ---- whole trees

-- whether an arrow's body has a text, with all its parts
abbrev pub of_arrow_body : ArrowBody → Bool
of_arrow_body = fold-ArrowBody Bool Shape Bool Bool StmtShape Shape Bool DeclaredShape Bool Bool arrow_body_step expr_step for_step property_step stmt_step target_step catch_step declaration_step function_step template_step

-- the shape of an expression, with all its parts
abbrev pub of_expr : Expr → Shape
of_expr = fold-Expr Bool Shape Bool Bool StmtShape Shape Bool DeclaredShape Bool Bool arrow_body_step expr_step for_step property_step stmt_step target_step catch_step declaration_step function_step template_step

-- whether the begin of a `for` has a text, with all its parts
abbrev pub of_for : ForBegin → Bool
of_for = fold-ForBegin Bool Shape Bool Bool StmtShape Shape Bool DeclaredShape Bool Bool arrow_body_step expr_step for_step property_step stmt_step target_step catch_step declaration_step function_step template_step

-- whether a member of an object has a text, with all its parts
abbrev pub of_property : Property → Bool
of_property = fold-Property Bool Shape Bool Bool StmtShape Shape Bool DeclaredShape Bool Bool arrow_body_step expr_step for_step property_step stmt_step target_step catch_step declaration_step function_step template_step

-- the shape of a statement, with all its parts
abbrev pub of_stmt : Stmt → StmtShape
of_stmt = fold-Stmt Bool Shape Bool Bool StmtShape Shape Bool DeclaredShape Bool Bool arrow_body_step expr_step for_step property_step stmt_step target_step catch_step declaration_step function_step template_step

-- the shape of what can be written to, with all its parts
abbrev pub of_target : Target → Shape
of_target = fold-Target Bool Shape Bool Bool StmtShape Shape Bool DeclaredShape Bool Bool arrow_body_step expr_step for_step property_step stmt_step target_step catch_step declaration_step function_step template_step

-- whether a `catch` has a text, with all its parts
abbrev pub of_catch : Catch → Bool
of_catch = fold-Catch Bool Shape Bool Bool StmtShape Shape Bool DeclaredShape Bool Bool arrow_body_step expr_step for_step property_step stmt_step target_step catch_step declaration_step function_step template_step

-- the shape of a declaration, with its value
abbrev pub of_declaration : Declaration → DeclaredShape
of_declaration = fold-Declaration Bool Shape Bool Bool StmtShape Shape Bool DeclaredShape Bool Bool arrow_body_step expr_step for_step property_step stmt_step target_step catch_step declaration_step function_step template_step

-- whether a function has a text, with all its parts
abbrev pub of_function : Function → Bool
of_function = fold-Function Bool Shape Bool Bool StmtShape Shape Bool DeclaredShape Bool Bool arrow_body_step expr_step for_step property_step stmt_step target_step catch_step declaration_step function_step template_step

-- whether a part of a template has a text, with the value behind it
abbrev pub of_template : TemplateItem → Bool
of_template = fold-TemplateItem Bool Shape Bool Bool StmtShape Shape Bool DeclaredShape Bool Bool arrow_body_step expr_step for_step property_step stmt_step target_step catch_step declaration_step function_step template_step

-- an item of a script has a text: a statement, or the object that is exported
abbrev pub item_fits : Item → Bool
item_fits (item.Stmt s) = (of_stmt s).fits
item_fits (item.Export xs) = all_true (map of_property xs)

-- how many items are `export default`
abbrev pub exports : List Item → ℕ
exports [] = 0
exports (item.Stmt s ∷ is) = exports is
exports (item.Export xs ∷ is) = 1 + exports is

-- section 16.2.1: one `export default` at most
abbrev pub tree_fits : List Item → Bool
tree_fits is = all_true (map item_fits is) && nat_le (exports is) 1
