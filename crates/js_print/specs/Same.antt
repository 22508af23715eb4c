-- Trees that are equal but for places, and a text that is written anew.
use Rattle.std.specs.Prelude.{◌≡◌, ℕ, List, map, option_map}
use Rattle.js_lex.specs.declared.token.Token.{Token}
use Rattle.js_lex.specs.declared.token.TokenKind.TheVariants as tok
use Rattle.js_tree.specs.declared.tree.Name.{Name}
use Rattle.js_tree.specs.declared.tree.Key.{Key}
use Rattle.js_tree.specs.declared.tree.Key.TheVariants as keys
use Rattle.js_tree.specs.declared.tree.Item.{Item}
use Rattle.js_tree.specs.declared.tree.Item.TheVariants as item
use Rattle.js_tree.specs.declared.tree.ArrowBody.{ArrowBody, roll-ArrowBody}
use Rattle.js_tree.specs.declared.tree.Expr.{Expr, roll-Expr}
use Rattle.js_tree.specs.declared.tree.ForBegin.{ForBegin, roll-ForBegin}
use Rattle.js_tree.specs.declared.tree.Property.{Property, roll-Property}
use Rattle.js_tree.specs.declared.tree.Stmt.{Stmt, roll-Stmt}
use Rattle.js_tree.specs.declared.tree.Target.{Target, roll-Target}
use Rattle.js_tree.specs.declared.tree.Catch.{Catch, roll-Catch}
use Rattle.js_tree.specs.declared.tree.Declaration.{Declaration, roll-Declaration}
use Rattle.js_tree.specs.declared.tree.Function.{Function, roll-Function}
use Rattle.js_tree.specs.declared.tree.TemplateItem.{TemplateItem, roll-TemplateItem}
use Rattle.js_tree.specs.declared.tree.ArrowBody.TheOpen.{Expr-F, Property-F, Stmt-F, Target-F, Catch-F, Declaration-F, Function-F}
use Rattle.js_tree.specs.declared.tree.ArrowBody.TheFolds.{fold-Property, fold-Stmt, fold-ArrowBody, fold-Expr, fold-ForBegin, fold-Target, fold-Catch, fold-Declaration, fold-Function, fold-TemplateItem}
use Rattle.js_grammar.specs.Fault.{Splits}
use Rattle.js_grammar.specs.Script.{IsScript}

-- ---- each node with place 0 for its own

-- the name with place 0
abbrev pub unplaced_name : Name → Name
unplaced_name n = record { place = 0; units = n.units }

-- the key with place 0, where it is a name
abbrev pub unplaced_key : Key → Key
unplaced_key (keys.Name n) = keys.Name (unplaced_name n)
unplaced_key k = k

-- the node of an expression, with place 0 for its names and its word
abbrev pub expr_node : Expr-F ArrowBody Expr ForBegin Property Stmt Target Catch Declaration Function TemplateItem → Expr-F ArrowBody Expr ForBegin Property Stmt Target Catch Declaration Function TemplateItem
expr_node (Expr-F.Name n) = Expr-F.Name (unplaced_name n)
expr_node (Expr-F.Function n f) = Expr-F.Function (option_map unplaced_name n) f
expr_node (Expr-F.Arrow a ns b) = Expr-F.Arrow a (map unplaced_name ns) b
expr_node (Expr-F.Await q x) = Expr-F.Await 0 x
expr_node (Expr-F.New n xs) = Expr-F.New (unplaced_name n) xs
expr_node (Expr-F.Member x n) = Expr-F.Member x (unplaced_name n)
expr_node y = y

-- an expression with place 0 in its node, whose parts have none already
abbrev pub expr_step : Expr-F ArrowBody Expr ForBegin Property Stmt Target Catch Declaration Function TemplateItem → Expr
expr_step y = roll-Expr (expr_node y)

-- the node of a member of an object, with place 0 for its name
abbrev pub property_node : Property-F ArrowBody Expr ForBegin Property Stmt Target Catch Declaration Function TemplateItem → Property-F ArrowBody Expr ForBegin Property Stmt Target Catch Declaration Function TemplateItem
property_node (Property-F.Pair k x) = Property-F.Pair (unplaced_key k) x
property_node (Property-F.Short n) = Property-F.Short (unplaced_name n)
property_node (Property-F.Method k f) = Property-F.Method (unplaced_key k) f

-- a member of an object with place 0 in its node, whose parts have none already
abbrev pub property_step : Property-F ArrowBody Expr ForBegin Property Stmt Target Catch Declaration Function TemplateItem → Property
property_step y = roll-Property (property_node y)

-- the node of a statement, with place 0 for its name and its word
abbrev pub stmt_node : Stmt-F ArrowBody Expr ForBegin Property Stmt Target Catch Declaration Function TemplateItem → Stmt-F ArrowBody Expr ForBegin Property Stmt Target Catch Declaration Function TemplateItem
stmt_node (Stmt-F.DeclareFunction n f) = Stmt-F.DeclareFunction (unplaced_name n) f
stmt_node (Stmt-F.ForOf k n x s) = Stmt-F.ForOf k (unplaced_name n) x s
stmt_node (Stmt-F.Break q) = Stmt-F.Break 0
stmt_node (Stmt-F.Continue q) = Stmt-F.Continue 0
stmt_node (Stmt-F.Return q x) = Stmt-F.Return 0 x
stmt_node y = y

-- a statement with place 0 in its node, whose parts have none already
abbrev pub stmt_step : Stmt-F ArrowBody Expr ForBegin Property Stmt Target Catch Declaration Function TemplateItem → Stmt
stmt_step y = roll-Stmt (stmt_node y)

-- the node of what can be written to, with place 0 for its name
abbrev pub target_node : Target-F ArrowBody Expr ForBegin Property Stmt Target Catch Declaration Function TemplateItem → Target-F ArrowBody Expr ForBegin Property Stmt Target Catch Declaration Function TemplateItem
target_node (Target-F.Variable n) = Target-F.Variable (unplaced_name n)
target_node (Target-F.Field x n) = Target-F.Field x (unplaced_name n)
target_node (Target-F.Item x k) = Target-F.Item x k

-- what can be written to, with place 0 in its node, whose parts have none already
abbrev pub target_step : Target-F ArrowBody Expr ForBegin Property Stmt Target Catch Declaration Function TemplateItem → Target
target_step y = roll-Target (target_node y)

-- a `catch` with place 0 for its name, whose parts have none already
abbrev pub catch_step : Catch-F ArrowBody Expr ForBegin Property Stmt Target Catch Declaration Function TemplateItem → Catch
catch_step c = roll-Catch (record { name = option_map unplaced_name c.name; body = c.body })

-- a declaration with place 0 for its name, whose parts have none already
abbrev pub declaration_step : Declaration-F ArrowBody Expr ForBegin Property Stmt Target Catch Declaration Function TemplateItem → Declaration
declaration_step d = roll-Declaration (record { name = unplaced_name d.name; value = d.value })

-- a function with place 0 for its parameters, whose parts have none already
abbrev pub function_step : Function-F ArrowBody Expr ForBegin Property Stmt Target Catch Declaration Function TemplateItem → Function
function_step f = roll-Function (record { is_async = f.is_async; parameters = map unplaced_name f.parameters; body = f.body })

-- ---- whole trees

-- an arrow's body with place 0 everywhere
abbrev pub of_arrow_body : ArrowBody → ArrowBody
of_arrow_body = fold-ArrowBody ArrowBody Expr ForBegin Property Stmt Target Catch Declaration Function TemplateItem roll-ArrowBody expr_step roll-ForBegin property_step stmt_step target_step catch_step declaration_step function_step roll-TemplateItem

-- an expression with place 0 everywhere
abbrev pub of_expr : Expr → Expr
of_expr = fold-Expr ArrowBody Expr ForBegin Property Stmt Target Catch Declaration Function TemplateItem roll-ArrowBody expr_step roll-ForBegin property_step stmt_step target_step catch_step declaration_step function_step roll-TemplateItem

-- what a `for` begins with, with place 0 everywhere
abbrev pub of_for : ForBegin → ForBegin
of_for = fold-ForBegin ArrowBody Expr ForBegin Property Stmt Target Catch Declaration Function TemplateItem roll-ArrowBody expr_step roll-ForBegin property_step stmt_step target_step catch_step declaration_step function_step roll-TemplateItem

-- a member of an object with place 0 everywhere
abbrev pub of_property : Property → Property
of_property = fold-Property ArrowBody Expr ForBegin Property Stmt Target Catch Declaration Function TemplateItem roll-ArrowBody expr_step roll-ForBegin property_step stmt_step target_step catch_step declaration_step function_step roll-TemplateItem

-- a statement with place 0 everywhere
abbrev pub of_stmt : Stmt → Stmt
of_stmt = fold-Stmt ArrowBody Expr ForBegin Property Stmt Target Catch Declaration Function TemplateItem roll-ArrowBody expr_step roll-ForBegin property_step stmt_step target_step catch_step declaration_step function_step roll-TemplateItem

-- what can be written to, with place 0 everywhere
abbrev pub of_target : Target → Target
of_target = fold-Target ArrowBody Expr ForBegin Property Stmt Target Catch Declaration Function TemplateItem roll-ArrowBody expr_step roll-ForBegin property_step stmt_step target_step catch_step declaration_step function_step roll-TemplateItem

-- a `catch` with place 0 everywhere
abbrev pub of_catch : Catch → Catch
of_catch = fold-Catch ArrowBody Expr ForBegin Property Stmt Target Catch Declaration Function TemplateItem roll-ArrowBody expr_step roll-ForBegin property_step stmt_step target_step catch_step declaration_step function_step roll-TemplateItem

-- a declaration with place 0 everywhere
abbrev pub of_declaration : Declaration → Declaration
of_declaration = fold-Declaration ArrowBody Expr ForBegin Property Stmt Target Catch Declaration Function TemplateItem roll-ArrowBody expr_step roll-ForBegin property_step stmt_step target_step catch_step declaration_step function_step roll-TemplateItem

-- a function with place 0 everywhere
abbrev pub of_function : Function → Function
of_function = fold-Function ArrowBody Expr ForBegin Property Stmt Target Catch Declaration Function TemplateItem roll-ArrowBody expr_step roll-ForBegin property_step stmt_step target_step catch_step declaration_step function_step roll-TemplateItem

-- a part of a template, and the value behind it with place 0 everywhere
abbrev pub of_template : TemplateItem → TemplateItem
of_template = fold-TemplateItem ArrowBody Expr ForBegin Property Stmt Target Catch Declaration Function TemplateItem roll-ArrowBody expr_step roll-ForBegin property_step stmt_step target_step catch_step declaration_step function_step roll-TemplateItem

-- an item of a script with place 0 everywhere
abbrev pub unplaced_item : Item → Item
unplaced_item (item.Stmt s) = item.Stmt (of_stmt s)
unplaced_item (item.Export xs) = item.Export (map of_property xs)

-- a script with place 0 everywhere
abbrev pub unplaced : List Item → List Item
unplaced is = map unplaced_item is

-- equal but for the places of names and words
abbrev pub AreLike : List Item → List Item → Type 0
AreLike tree again = unplaced tree ≡ unplaced again

-- The units are a script of the same tree, places aside.
pub record Reprinted (tree : List Item) (units : List ℕ) : Type 0 where
  pub again : List Item
  pub like : AreLike tree again
  pub tokens : List Token
  pub last : Token
  pub splits : Splits units tokens last
  pub whole : last.kind ≡ tok.End
  pub open_at : List ℕ
  pub script : IsScript again tokens open_at
