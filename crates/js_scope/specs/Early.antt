-- The early faults of a script, in the order of its text.
use Rattle.std.specs.Prelude.{ℕ, ◌≡◌, nat_eq, Result, Ok, Err, Bool, true, false, List, [], ◌∷◌, ◌++◌, map, flat_map, Option, Some, None, if◌then◌else◌}
use Rattle.std.specs.List.{list_any}
use Rattle.std.specs.Cmp.Lexicographic.{pointwise}
use Rattle.js_tree.specs.declared.tree.Name.{Name}
use Rattle.js_tree.specs.declared.tree.Item.{Item}
use Rattle.js_tree.specs.declared.tree.Item.TheVariants as item
use Rattle.js_tree.specs.declared.tree.ArrowBody.{ArrowBody}
use Rattle.js_tree.specs.declared.tree.ArrowBody.TheOpen.{ArrowBody-F, Expr-F, ForBegin-F, Property-F, Stmt-F, Target-F, Catch-F, Declaration-F, Function-F, TemplateItem-F}
use Rattle.js_tree.specs.declared.tree.ArrowBody.TheFolds.{fold-ArrowBody, fold-Expr, fold-ForBegin, fold-Property, fold-Stmt, fold-Target, fold-Catch, fold-Declaration, fold-Function, fold-TemplateItem}
use Rattle.js_tree.specs.declared.tree.Catch.{Catch}
use Rattle.js_tree.specs.declared.tree.Declaration.{Declaration}
use Rattle.js_tree.specs.declared.tree.Expr.{Expr}
use Rattle.js_tree.specs.declared.tree.ForBegin.{ForBegin}
use Rattle.js_tree.specs.declared.tree.Function.{Function}
use Rattle.js_tree.specs.declared.tree.Property.{Property}
use Rattle.js_tree.specs.declared.tree.Stmt.{Stmt}
use Rattle.js_tree.specs.declared.tree.Target.{Target}
use Rattle.js_tree.specs.declared.tree.TemplateItem.{TemplateItem}
use Rattle.js_scope.specs.declared.fault.EarlyEnd.{EarlyEnd}
use Rattle.js_scope.specs.declared.fault.EarlyEnd.TheVariants.{Fault, NoMemory}
use Rattle.js_scope.specs.declared.fault.EarlyFault.{EarlyFault}
use Rattle.js_scope.specs.declared.fault.EarlyKind.{EarlyKind}
use Rattle.js_scope.specs.declared.fault.EarlyKind.TheVariants.{DoubleName, ReturnOutside, AwaitOutside, BreakOutside}

-- what a piece of a script shows to what stands around it: a declared name, what is a fault unless something around it allows it, and a fault
pub data Mark : Type 0 where
  Declares : Name → Mark
  Unless : EarlyFault → Mark
  Faulty : EarlyFault → Mark

-- what a piece shows, in the order of the text
abbrev pub Marks : Type 0
Marks = List Mark

-- a fault of this kind at a place
abbrev pub fault : EarlyKind → ℕ → EarlyFault
fault kind place = record { kind = kind; place = place }

-- the mark of a word that is a fault at its place, unless something around it allows it
abbrev pub word : EarlyKind → ℕ → Mark
word kind place = Unless (fault kind place)

-- ---- what stands around a piece

-- this name is one of those
abbrev pub stands : List ℕ → List (List ℕ) → Bool
stands units names = list_any (pointwise nat_eq units) names

-- what is seen from outside of a scope that has some names already: no name, and a fault at each name that stood before
-- (ECMA-262: declarations 14.3.1.1, blocks 14.2.1, `for` 14.7.5.1, `catch` 14.15.1, functions 15.2.1, arrows 15.3.1, methods 15.4.1, the
-- top level 16.2.1.1)
abbrev pub scope_from : List (List ℕ) → Marks → Marks
scope_from names [] = []
scope_from names (Declares n ∷ ms) = if stands n.units names then Faulty (fault DoubleName n.place) ∷ scope_from names ms else scope_from (n.units ∷ names) ms
scope_from names (Unless f ∷ ms) = Unless f ∷ scope_from names ms
scope_from names (Faulty f ∷ ms) = Faulty f ∷ scope_from names ms

-- what is seen of these marks from outside of a scope that has no names before
abbrev pub scope : Marks → Marks
scope ms = scope_from [] ms

-- a loop allows `break` and `continue` in it (ECMA-262, sections 14.8.1 and 14.9.1)
abbrev pub loop_allows : EarlyKind → Bool
loop_allows BreakOutside = true
loop_allows DoubleName = false
loop_allows ReturnOutside = false
loop_allows AwaitOutside = false

-- what is seen of a mark from outside of a loop
abbrev pub through_loop : Mark → Marks
through_loop (Unless f) = if loop_allows f.kind then [] else Unless f ∷ []
through_loop (Declares n) = Declares n ∷ []
through_loop (Faulty f) = Faulty f ∷ []

-- what is seen of these marks from outside of a loop
abbrev pub loop : Marks → Marks
loop ms = flat_map through_loop ms

-- a function allows `return` in it, and `await` if it is async (ECMA-262, sections 14.10 and 15.8); what it does not allow, nothing around it allows
abbrev pub function_allows : Bool → EarlyKind → Bool
function_allows is_async ReturnOutside = true
function_allows is_async AwaitOutside = is_async
function_allows is_async BreakOutside = false
function_allows is_async DoubleName = false

-- what is seen of a mark from outside of a function
abbrev pub through_function : Bool → Mark → Marks
through_function is_async (Unless f) = if function_allows is_async f.kind then [] else Faulty f ∷ []
through_function is_async (Declares n) = Declares n ∷ []
through_function is_async (Faulty f) = Faulty f ∷ []

-- what is seen of these marks from outside of a function, `async` or not
abbrev pub function : Bool → Marks → Marks
function is_async ms = flat_map (through_function is_async) ms

-- ---- the marks of each form

-- the marks of pieces, one piece behind another
abbrev pub concat : List Marks → Marks
concat [] = []
concat (ms ∷ rest) = ms ++ concat rest

-- the marks of a piece that may be missing
abbrev pub optional : Option Marks → Marks
optional None = []
optional (Some ms) = ms

-- each of these names is declared
abbrev pub declares : List Name → Marks
declares [] = []
declares (n ∷ ns) = Declares n ∷ declares ns

-- the name is declared, where there is one
abbrev pub named : Option Name → Marks
named None = []
named (Some n) = Declares n ∷ []

-- the parameters, and what stands directly in the body, are one scope
abbrev pub function_of : Bool → List Name → Marks → Marks
function_of is_async parameters body = function is_async (scope (declares parameters ++ body))

-- the body of a loop, which is seen as if it stood in braces
abbrev pub loop_body : Marks → Marks
loop_body ms = loop (scope ms)

-- the marks of what can be written to, from those of its parts
abbrev pub target_step : Target-F Marks Marks Marks Marks Marks Marks Marks Marks Marks Marks → Marks
target_step (Target-F.Variable n) = []
target_step (Target-F.Field object n) = object
target_step (Target-F.Item object key) = object ++ key

-- the marks of a function, from those of its statements
abbrev pub function_step : Function-F Marks Marks Marks Marks Marks Marks Marks Marks Marks Marks → Marks
function_step f = function_of f.is_async f.parameters (concat f.body)

-- the marks of a member of an object, from those of its value
abbrev pub property_step : Property-F Marks Marks Marks Marks Marks Marks Marks Marks Marks Marks → Marks
property_step (Property-F.Pair key value) = value
property_step (Property-F.Short n) = []
property_step (Property-F.Method key f) = f

-- the marks of an arrow's body, from those of its parts
abbrev pub arrow_step : ArrowBody-F Marks Marks Marks Marks Marks Marks Marks Marks Marks Marks → Marks
arrow_step (ArrowBody-F.Statements ss) = concat ss
arrow_step (ArrowBody-F.Value value) = value

-- the marks of a part of a template, from those of the value behind it
abbrev pub template_step : TemplateItem-F Marks Marks Marks Marks Marks Marks Marks Marks Marks Marks → Marks
template_step i = i.value

-- the name of a function expression is alone in its scope
abbrev pub expr_step : Expr-F Marks Marks Marks Marks Marks Marks Marks Marks Marks Marks → Marks
expr_step (Expr-F.Name n) = []
expr_step (Expr-F.Number n) = []
expr_step (Expr-F.Text units) = []
expr_step Expr-F.True = []
expr_step Expr-F.False = []
expr_step Expr-F.Null = []
expr_step Expr-F.This = []
expr_step (Expr-F.Template items last) = concat items
expr_step (Expr-F.Array items) = concat items
expr_step (Expr-F.Object properties) = concat properties
expr_step (Expr-F.Function n f) = scope (named n) ++ f
expr_step (Expr-F.Arrow is_async parameters body) = function_of is_async parameters body
expr_step (Expr-F.Group inner) = inner
expr_step (Expr-F.Unary op value) = value
expr_step (Expr-F.Await place value) = word AwaitOutside place ∷ value
expr_step (Expr-F.Update side op target) = target
expr_step (Expr-F.Binary op left right) = left ++ right
expr_step (Expr-F.Conditional test left right) = test ++ left ++ right
expr_step (Expr-F.Assign op target value) = target ++ value
expr_step (Expr-F.Call callee arguments) = callee ++ concat arguments
expr_step (Expr-F.New n arguments) = concat arguments
expr_step (Expr-F.Member object n) = object
expr_step (Expr-F.Index object key) = object ++ key

-- the marks of a declaration: its name, then those of its value
abbrev pub declaration_step : Declaration-F Marks Marks Marks Marks Marks Marks Marks Marks Marks Marks → Marks
declaration_step d = Declares d.name ∷ optional d.value

-- the marks of what a `for` begins with, from those of its parts
abbrev pub begin_step : ForBegin-F Marks Marks Marks Marks Marks Marks Marks Marks Marks Marks → Marks
begin_step ForBegin-F.Nothing = []
begin_step (ForBegin-F.Declarations kind ds) = concat ds
begin_step (ForBegin-F.Start e) = e

-- the name and what stands directly in the block are one scope
abbrev pub catch_step : Catch-F Marks Marks Marks Marks Marks Marks Marks Marks Marks Marks → Marks
catch_step c = scope (named c.name ++ concat c.body)

-- the statements between braces are one scope (ECMA-262, section 14.2.1)
abbrev pub block : List Marks → Marks
block ss = scope (concat ss)

-- the marks of a `finally`, where there is one
abbrev pub finally_of : Option (List Marks) → Marks
finally_of None = []
finally_of (Some ss) = block ss

-- the marks of an `else`, where there is one
abbrev pub else_of : Option Marks → Marks
else_of None = []
else_of (Some s) = scope s

-- the bodies of `if` and `else` are seen as if they stood in braces; each `for` is one scope
abbrev pub stmt_step : Stmt-F Marks Marks Marks Marks Marks Marks Marks Marks Marks Marks → Marks
stmt_step (Stmt-F.Declare kind ds) = concat ds
stmt_step (Stmt-F.DeclareFunction n f) = Declares n ∷ f
stmt_step (Stmt-F.Block ss) = block ss
stmt_step (Stmt-F.If test body other) = test ++ scope body ++ else_of other
stmt_step (Stmt-F.For begin test update body) = scope (begin ++ optional test ++ optional update ++ loop_body body)
stmt_step (Stmt-F.ForOf kind n value body) = scope (Declares n ∷ value ++ loop_body body)
stmt_step (Stmt-F.While test body) = test ++ loop_body body
stmt_step (Stmt-F.Break place) = word BreakOutside place ∷ []
stmt_step (Stmt-F.Continue place) = word BreakOutside place ∷ []
stmt_step (Stmt-F.Return place value) = word ReturnOutside place ∷ optional value
stmt_step (Stmt-F.Throw value) = value
stmt_step (Stmt-F.Try body catch finally) = block body ++ optional catch ++ finally_of finally
stmt_step Stmt-F.Empty = []
stmt_step (Stmt-F.Expr e) = e

-- the marks of a whole arrow's body
abbrev pub of_arrow : ArrowBody → Marks
of_arrow = fold-ArrowBody Marks Marks Marks Marks Marks Marks Marks Marks Marks Marks arrow_step expr_step begin_step property_step stmt_step target_step catch_step declaration_step function_step template_step

-- the marks of a whole expression
abbrev pub of_expr : Expr → Marks
of_expr = fold-Expr Marks Marks Marks Marks Marks Marks Marks Marks Marks Marks arrow_step expr_step begin_step property_step stmt_step target_step catch_step declaration_step function_step template_step

-- the marks of all that a `for` begins with
abbrev pub of_begin : ForBegin → Marks
of_begin = fold-ForBegin Marks Marks Marks Marks Marks Marks Marks Marks Marks Marks arrow_step expr_step begin_step property_step stmt_step target_step catch_step declaration_step function_step template_step

-- the marks of a whole member of an object
abbrev pub of_property : Property → Marks
of_property = fold-Property Marks Marks Marks Marks Marks Marks Marks Marks Marks Marks arrow_step expr_step begin_step property_step stmt_step target_step catch_step declaration_step function_step template_step

-- the marks of a whole statement
abbrev pub of_stmt : Stmt → Marks
of_stmt = fold-Stmt Marks Marks Marks Marks Marks Marks Marks Marks Marks Marks arrow_step expr_step begin_step property_step stmt_step target_step catch_step declaration_step function_step template_step

-- the marks of all of what can be written to
abbrev pub of_target : Target → Marks
of_target = fold-Target Marks Marks Marks Marks Marks Marks Marks Marks Marks Marks arrow_step expr_step begin_step property_step stmt_step target_step catch_step declaration_step function_step template_step

-- the marks of a whole `catch`
abbrev pub of_catch : Catch → Marks
of_catch = fold-Catch Marks Marks Marks Marks Marks Marks Marks Marks Marks Marks arrow_step expr_step begin_step property_step stmt_step target_step catch_step declaration_step function_step template_step

-- the marks of a whole declaration
abbrev pub of_declaration : Declaration → Marks
of_declaration = fold-Declaration Marks Marks Marks Marks Marks Marks Marks Marks Marks Marks arrow_step expr_step begin_step property_step stmt_step target_step catch_step declaration_step function_step template_step

-- the marks of a whole function
abbrev pub of_function : Function → Marks
of_function = fold-Function Marks Marks Marks Marks Marks Marks Marks Marks Marks Marks arrow_step expr_step begin_step property_step stmt_step target_step catch_step declaration_step function_step template_step

-- the marks of a part of a template with the whole value behind it
abbrev pub of_template : TemplateItem → Marks
of_template = fold-TemplateItem Marks Marks Marks Marks Marks Marks Marks Marks Marks Marks arrow_step expr_step begin_step property_step stmt_step target_step catch_step declaration_step function_step template_step

-- ---- a script

-- the marks of a whole item of a script
abbrev pub of_item : Item → Marks
of_item (item.Stmt s) = of_stmt s
of_item (item.Export properties) = concat (map of_property properties)

-- nothing stands around a script that allows anything
abbrev pub faults_of : Marks → List EarlyFault
faults_of [] = []
faults_of (Declares n ∷ ms) = faults_of ms
faults_of (Unless f ∷ ms) = f ∷ faults_of ms
faults_of (Faulty f ∷ ms) = f ∷ faults_of ms

-- the early faults of a script
-- for each of them ECMA-262 refuses the script before any of it runs (section 17)
abbrev pub early_faults : List Item → List EarlyFault
early_faults items = faults_of (scope (concat (map of_item items)))

-- the first of them
abbrev pub first : List EarlyFault → Option EarlyFault
first [] = None
first (f ∷ fs) = Some f

-- the answer is the first of these faults, where there is one
abbrev pub IsFirst : {A : Type 0} → List EarlyFault → Result A EarlyEnd → Type 0
IsFirst fs (Ok x) = fs ≡ []
IsFirst fs (Err (Fault f)) = first fs ≡ Some f
IsFirst fs (Err NoMemory) = Unit {0}
