-- The weight of each form of a tree: eight for the node, three for each of its parts, and the weights of the parts. A walk that puts the
-- tokens of a node and its parts on its tasks comes to its end, since each step takes the weight of what is left down.
use Rattle.std.specs.Prelude.{ℕ, ◌+◌, List, [], ◌∷◌, map, Option, Some, None}
use Rattle.js_tree.specs.declared.tree.Name.{Name}
use Rattle.js_tree.specs.declared.tree.Item.{Item}
use Rattle.js_tree.specs.declared.tree.Item.TheVariants as item
use Rattle.js_tree.specs.declared.tree.ArrowBody.{ArrowBody}
use Rattle.js_tree.specs.declared.tree.ArrowBody.TheOpen.{ArrowBody-F, Expr-F, ForBegin-F, Property-F, Stmt-F, Target-F, Catch-F, Declaration-F, Function-F, TemplateItem-F}
use Rattle.js_tree.specs.declared.tree.ArrowBody.TheFolds.{fold-ArrowBody, fold-Expr, fold-ForBegin, fold-Property, fold-Stmt, fold-Target, fold-Catch, fold-Declaration, fold-Function, fold-TemplateItem}
use Rattle.js_tree.specs.declared.tree.Catch.{Catch}
use Rattle.js_tree.specs.declared.tree.Declaration.{Declaration}
use Rattle.js_tree.specs.declared.tree.Expr.{Expr}
use Rattle.js_tree.specs.declared.tree.ForBegin.{ForBegin}
use Rattle.js_tree.specs.declared.tree.Function.{Function}
use Rattle.js_tree.specs.declared.tree.Property.{Property}
use Rattle.js_tree.specs.declared.tree.Stmt.{Stmt}
use Rattle.js_tree.specs.declared.tree.Target.{Target}
use Rattle.js_tree.specs.declared.tree.TemplateItem.{TemplateItem}

-- a node with parts of this weight
abbrev pub node : ℕ → ℕ
node n = 8 + n

-- a part of this weight
abbrev pub part : ℕ → ℕ
part n = 3 + n

-- a list has its first item and the list of the others as parts
abbrev pub parts : List ℕ → ℕ
parts [] = 0
parts (n ∷ ns) = part n + part (parts ns)

-- a list of names has the weight of a list whose items have no parts
abbrev pub names : List Name → ℕ
names [] = 0
names (n ∷ ns) = part 0 + part (names ns)

-- a part that may be missing weighs nothing where it is
abbrev pub optional : Option ℕ → ℕ
optional None = 0
optional (Some n) = part n

-- the weight of a `finally`, which is nothing where there is none
abbrev pub finally_of : Option (List ℕ) → ℕ
finally_of None = 0
finally_of (Some ns) = part (parts ns)

-- the weight of what can be written to, from those of its parts
abbrev pub target_step : Target-F ℕ ℕ ℕ ℕ ℕ ℕ ℕ ℕ ℕ ℕ → ℕ
target_step (Target-F.Variable n) = node 0
target_step (Target-F.Field object n) = node (part object)
target_step (Target-F.Item object key) = node (part object + part key)

-- the weight of a function, from those of its statements
abbrev pub function_step : Function-F ℕ ℕ ℕ ℕ ℕ ℕ ℕ ℕ ℕ ℕ → ℕ
function_step f = node (part (names f.parameters) + part (parts f.body))

-- the weight of a member of an object, from that of its value
abbrev pub property_step : Property-F ℕ ℕ ℕ ℕ ℕ ℕ ℕ ℕ ℕ ℕ → ℕ
property_step (Property-F.Pair key value) = node (part value)
property_step (Property-F.Short n) = node 0
property_step (Property-F.Method key f) = node (part f)

-- the weight of an arrow's body, from those of its parts
abbrev pub arrow_step : ArrowBody-F ℕ ℕ ℕ ℕ ℕ ℕ ℕ ℕ ℕ ℕ → ℕ
arrow_step (ArrowBody-F.Statements ss) = node (part (parts ss))
arrow_step (ArrowBody-F.Value value) = node (part value)

-- the weight of a part of a template, from that of the value behind it
abbrev pub template_step : TemplateItem-F ℕ ℕ ℕ ℕ ℕ ℕ ℕ ℕ ℕ ℕ → ℕ
template_step i = node i.value

-- the weight of an expression, from those of its parts
abbrev pub expr_step : Expr-F ℕ ℕ ℕ ℕ ℕ ℕ ℕ ℕ ℕ ℕ → ℕ
expr_step (Expr-F.Name n) = node 0
expr_step (Expr-F.Number n) = node 0
expr_step (Expr-F.Text units) = node 0
expr_step Expr-F.True = node 0
expr_step Expr-F.False = node 0
expr_step Expr-F.Null = node 0
expr_step Expr-F.This = node 0
expr_step (Expr-F.Template items last) = node (part (parts items))
expr_step (Expr-F.Array items) = node (part (parts items))
expr_step (Expr-F.Object properties) = node (part (parts properties))
expr_step (Expr-F.Function n f) = node (part f)
expr_step (Expr-F.Arrow is_async parameters body) = node (part (names parameters) + part body)
expr_step (Expr-F.Group inner) = node (part inner)
expr_step (Expr-F.Unary op value) = node (part value)
expr_step (Expr-F.Await place value) = node (part 0 + part value)
expr_step (Expr-F.Update side op target) = node (part target)
expr_step (Expr-F.Binary op left right) = node (part left + part right)
expr_step (Expr-F.Conditional test left right) = node (part test + part left + part right)
expr_step (Expr-F.Assign op target value) = node (part target + part value)
expr_step (Expr-F.Call callee arguments) = node (part callee + part (parts arguments))
expr_step (Expr-F.New n arguments) = node (part (parts arguments))
expr_step (Expr-F.Member object n) = node (part object)
expr_step (Expr-F.Index object key) = node (part object + part key)

-- the weight of a declaration, from that of its value
abbrev pub declaration_step : Declaration-F ℕ ℕ ℕ ℕ ℕ ℕ ℕ ℕ ℕ ℕ → ℕ
declaration_step d = node (part 0 + optional d.value)

-- the weight of what a `for` begins with, from those of its parts
abbrev pub begin_step : ForBegin-F ℕ ℕ ℕ ℕ ℕ ℕ ℕ ℕ ℕ ℕ → ℕ
begin_step ForBegin-F.Nothing = node 0
begin_step (ForBegin-F.Declarations kind ds) = node (part (parts ds))
begin_step (ForBegin-F.Start e) = node (part e)

-- the weight of a `catch`, from those of its statements
abbrev pub catch_step : Catch-F ℕ ℕ ℕ ℕ ℕ ℕ ℕ ℕ ℕ ℕ → ℕ
catch_step c = node (part 0 + part (parts c.body))

-- the weight of a statement, from those of its parts
abbrev pub stmt_step : Stmt-F ℕ ℕ ℕ ℕ ℕ ℕ ℕ ℕ ℕ ℕ → ℕ
stmt_step (Stmt-F.Declare kind ds) = node (part (parts ds))
stmt_step (Stmt-F.DeclareFunction n f) = node (part 0 + part f)
stmt_step (Stmt-F.Block ss) = node (part (parts ss))
stmt_step (Stmt-F.If test body other) = node (part test + part body + optional other)
stmt_step (Stmt-F.For begin test update body) = node (part begin + optional test + optional update + part body)
stmt_step (Stmt-F.ForOf kind n value body) = node (part 0 + part value + part body)
stmt_step (Stmt-F.While test body) = node (part test + part body)
stmt_step (Stmt-F.Break place) = node (part 0)
stmt_step (Stmt-F.Continue place) = node (part 0)
stmt_step (Stmt-F.Return place value) = node (part 0 + optional value)
stmt_step (Stmt-F.Throw value) = node (part value)
stmt_step (Stmt-F.Try body catch finally) = node (part (parts body) + optional catch + finally_of finally)
stmt_step Stmt-F.Empty = node 0
stmt_step (Stmt-F.Expr e) = node (part e)

-- the weight of a whole arrow's body
abbrev pub of_arrow : ArrowBody → ℕ
of_arrow = fold-ArrowBody ℕ ℕ ℕ ℕ ℕ ℕ ℕ ℕ ℕ ℕ arrow_step expr_step begin_step property_step stmt_step target_step catch_step declaration_step function_step template_step

-- the weight of a whole expression
abbrev pub of_expr : Expr → ℕ
of_expr = fold-Expr ℕ ℕ ℕ ℕ ℕ ℕ ℕ ℕ ℕ ℕ arrow_step expr_step begin_step property_step stmt_step target_step catch_step declaration_step function_step template_step

-- the weight of all that a `for` begins with
abbrev pub of_begin : ForBegin → ℕ
of_begin = fold-ForBegin ℕ ℕ ℕ ℕ ℕ ℕ ℕ ℕ ℕ ℕ arrow_step expr_step begin_step property_step stmt_step target_step catch_step declaration_step function_step template_step

-- the weight of a whole member of an object
abbrev pub of_property : Property → ℕ
of_property = fold-Property ℕ ℕ ℕ ℕ ℕ ℕ ℕ ℕ ℕ ℕ arrow_step expr_step begin_step property_step stmt_step target_step catch_step declaration_step function_step template_step

-- the weight of a whole statement
abbrev pub of_stmt : Stmt → ℕ
of_stmt = fold-Stmt ℕ ℕ ℕ ℕ ℕ ℕ ℕ ℕ ℕ ℕ arrow_step expr_step begin_step property_step stmt_step target_step catch_step declaration_step function_step template_step

-- the weight of all of what can be written to
abbrev pub of_target : Target → ℕ
of_target = fold-Target ℕ ℕ ℕ ℕ ℕ ℕ ℕ ℕ ℕ ℕ arrow_step expr_step begin_step property_step stmt_step target_step catch_step declaration_step function_step template_step

-- the weight of a whole `catch`
abbrev pub of_catch : Catch → ℕ
of_catch = fold-Catch ℕ ℕ ℕ ℕ ℕ ℕ ℕ ℕ ℕ ℕ arrow_step expr_step begin_step property_step stmt_step target_step catch_step declaration_step function_step template_step

-- the weight of a whole declaration
abbrev pub of_declaration : Declaration → ℕ
of_declaration = fold-Declaration ℕ ℕ ℕ ℕ ℕ ℕ ℕ ℕ ℕ ℕ arrow_step expr_step begin_step property_step stmt_step target_step catch_step declaration_step function_step template_step

-- the weight of a whole function
abbrev pub of_function : Function → ℕ
of_function = fold-Function ℕ ℕ ℕ ℕ ℕ ℕ ℕ ℕ ℕ ℕ arrow_step expr_step begin_step property_step stmt_step target_step catch_step declaration_step function_step template_step

-- the weight of a part of a template with the whole value behind it
abbrev pub of_template : TemplateItem → ℕ
of_template = fold-TemplateItem ℕ ℕ ℕ ℕ ℕ ℕ ℕ ℕ ℕ ℕ arrow_step expr_step begin_step property_step stmt_step target_step catch_step declaration_step function_step template_step

-- the weight of a whole item of a script
abbrev pub of_item : Item → ℕ
of_item (item.Stmt s) = node (part (of_stmt s))
of_item (item.Export properties) = node (part (parts (map of_property properties)))
