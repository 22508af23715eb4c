-- What it means that each kind of node is taken apart: its marks stand on the tasks, in order, and what is
-- left to walk is no heavier than the node.
use Rattle.std.specs.Prelude.{ℕ, ◌+◌, Bool, List, ◌∷◌, ◌++◌, map, Option, option_map}
use Rattle.js_tree.specs.declared.tree.ArrowBody.{ArrowBody}
use Rattle.js_tree.specs.declared.tree.Catch.{Catch}
use Rattle.js_tree.specs.declared.tree.Declaration.{Declaration}
use Rattle.js_tree.specs.declared.tree.Expr.{Expr}
use Rattle.js_tree.specs.declared.tree.ForBegin.{ForBegin}
use Rattle.js_tree.specs.declared.tree.Function.{Function}
use Rattle.js_tree.specs.declared.tree.Item.{Item}
use Rattle.js_tree.specs.declared.tree.Name.{Name}
use Rattle.js_tree.specs.declared.tree.Property.{Property}
use Rattle.js_tree.specs.declared.tree.Stmt.{Stmt}
use Rattle.js_tree.specs.declared.tree.TemplateItem.{TemplateItem}
use Rattle.js_scope.specs.declared.task.ScopeKind.{ScopeKind}
use Rattle.js_scope.specs.declared.task.Task.{Task}
use Rattle.js_scope.specs.Verdict.{IsSplit, inside}
use Rattle.js_scope.specs.Early as early
use Rattle.js_tree.specs.Weight as weight

-- two expressions are taken apart
abbrev pub SplitsTwo : List Task → Expr → Expr → List Task → Type 0
SplitsTwo old x y new = IsSplit old (early.of_expr x ++ early.of_expr y) (2 + weight.of_expr x + weight.of_expr y) new

-- a function is taken apart
abbrev pub SplitsFunction : List Task → Function → List Task → Type 0
SplitsFunction old f new = IsSplit old (early.of_function f) (weight.of_function f) new

-- an arrow is taken apart
abbrev pub SplitsArrow : List Task → Bool → List Name → ArrowBody → List Task → Type 0
SplitsArrow old is_async ns b new =
    IsSplit old
    (early.function_of is_async ns (early.of_arrow b))
    (weight.part (weight.names ns) + weight.of_arrow b)
    new

-- expressions are taken apart
abbrev pub SplitsExprs : List Task → List Expr → List Task → Type 0
SplitsExprs old xs new = IsSplit old (early.concat (map early.of_expr xs)) (weight.parts (map weight.of_expr xs)) new

-- the parts of a template are taken apart
abbrev pub SplitsTemplate : List Task → List TemplateItem → List Task → Type 0
SplitsTemplate old parts new =
    IsSplit old
    (early.concat (map early.of_template parts))
    (weight.parts (map weight.of_template parts))
    new

-- a property is taken apart
abbrev pub SplitsProperty : List Task → Property → List Task → Type 0
SplitsProperty old x new = IsSplit old (early.of_property x) (weight.of_property x) new

-- properties are taken apart
abbrev pub SplitsProperties : List Task → List Property → List Task → Type 0
SplitsProperties old xs new =
    IsSplit old
    (early.concat (map early.of_property xs))
    (weight.parts (map weight.of_property xs))
    new

-- an expression is taken apart, where there is one
abbrev pub SplitsOptionalExpr : List Task → Option Expr → List Task → Type 0
SplitsOptionalExpr old x new =
    IsSplit old
    (early.optional (option_map early.of_expr x))
    (weight.optional (option_map weight.of_expr x))
    new

-- a declaration is taken apart
abbrev pub SplitsDeclaration : List Task → Declaration → List Task → Type 0
SplitsDeclaration old d new = IsSplit old (early.of_declaration d) (weight.of_declaration d) new

-- declarations are taken apart
abbrev pub SplitsDeclarations : List Task → List Declaration → List Task → Type 0
SplitsDeclarations old ds new =
    IsSplit old
    (early.concat (map early.of_declaration ds))
    (weight.parts (map weight.of_declaration ds))
    new

-- statements are taken apart
abbrev pub SplitsStmts : List Task → List Stmt → List Task → Type 0
SplitsStmts old ss new = IsSplit old (early.concat (map early.of_stmt ss)) (weight.parts (map weight.of_stmt ss)) new

-- statements in a scope of their own are taken apart
abbrev pub SplitsScope : List Task → ScopeKind → List Stmt → List Task → Type 0
SplitsScope old how ss new =
    IsSplit old
    (inside how (early.concat (map early.of_stmt ss)))
    (weight.part (weight.parts (map weight.of_stmt ss)))
    new

-- a statement in a scope of its own is taken apart
abbrev pub SplitsBody : List Task → ScopeKind → Stmt → List Task → Type 0
SplitsBody old how s new = IsSplit old (inside how (early.of_stmt s)) (weight.part (weight.of_stmt s)) new

-- the `else` of an `if` is taken apart, where there is one
abbrev pub SplitsElse : List Task → Option Stmt → List Task → Type 0
SplitsElse old s new =
    IsSplit old
    (early.else_of (option_map early.of_stmt s))
    (weight.optional (option_map weight.of_stmt s))
    new

-- a `for` is taken apart
abbrev pub SplitsFor : List Task → ForBegin → Option Expr → Option Expr → Stmt → List Task → Type 0
SplitsFor old b test update body new =
    IsSplit old
    (early.scope (early.of_begin b ++ early.optional (option_map early.of_expr test)
    ++ early.optional (option_map early.of_expr update) ++ early.loop_body (early.of_stmt body)))
    (weight.part (weight.of_begin b) + weight.optional (option_map weight.of_expr test)
    + weight.optional (option_map weight.of_expr update) + weight.part (weight.of_stmt body))
    new

-- a `for` with `of` is taken apart
abbrev pub SplitsForOf : List Task → Name → Expr → Stmt → List Task → Type 0
SplitsForOf old n x body new =
    IsSplit old
    (early.scope (early.Declares n ∷ early.of_expr x ++ early.loop_body (early.of_stmt body)))
    (weight.part 0 + weight.part (weight.of_expr x) + weight.part (weight.of_stmt body))
    new

-- a `catch` is taken apart, where there is one
abbrev pub SplitsCatch : List Task → Option Catch → List Task → Type 0
SplitsCatch old c new =
    IsSplit old
    (early.optional (option_map early.of_catch c))
    (weight.optional (option_map weight.of_catch c))
    new

-- a `finally` is taken apart, where there is one
abbrev pub SplitsFinally : List Task → Option (List Stmt) → List Task → Type 0
SplitsFinally old ss new =
    IsSplit old
    (early.finally_of (option_map (map early.of_stmt) ss))
    (weight.finally_of (option_map (map weight.of_stmt) ss))
    new

-- an `if` is taken apart
abbrev pub SplitsIf : List Task → Expr → Stmt → Option Stmt → List Task → Type 0
SplitsIf old test branch other new =
    IsSplit old
    (early.of_expr test ++ early.scope (early.of_stmt branch) ++ early.else_of (option_map early.of_stmt other))
    (weight.part (weight.of_expr test) + weight.part (weight.of_stmt branch)
    + weight.optional (option_map weight.of_stmt other))
    new

-- a `try` is taken apart
abbrev pub SplitsTry : List Task → List Stmt → Option Catch → Option (List Stmt) → List Task → Type 0
SplitsTry old ss c last new =
    IsSplit old
    (early.block (map early.of_stmt ss) ++ early.optional (option_map early.of_catch c)
    ++ early.finally_of (option_map (map early.of_stmt) last))
    (weight.part (weight.parts (map weight.of_stmt ss)) + weight.optional (option_map weight.of_catch c)
    + weight.finally_of (option_map (map weight.of_stmt) last))
    new

-- the items of a script are taken apart
abbrev pub SplitsItems : List Task → List Item → List Task → Type 0
SplitsItems old items new =
    IsSplit old
    (early.concat (map early.of_item items))
    (weight.parts (map weight.of_item items))
    new
