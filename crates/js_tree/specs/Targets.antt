-- What can be written to.
use Rattle.std.specs.Prelude.{Result, Ok, Err}
use Rattle.js_tree.specs.declared.tree.ArrowBody.{ArrowBody}
use Rattle.js_tree.specs.declared.tree.ArrowBody.TheOpen.{Expr-F}
use Rattle.js_tree.specs.declared.tree.Catch.{Catch}
use Rattle.js_tree.specs.declared.tree.Declaration.{Declaration}
use Rattle.js_tree.specs.declared.tree.Expr.{Expr, out-Expr}
use Rattle.js_tree.specs.declared.tree.ForBegin.{ForBegin}
use Rattle.js_tree.specs.declared.tree.Function.{Function}
use Rattle.js_tree.specs.declared.tree.Property.{Property}
use Rattle.js_tree.specs.declared.tree.Stmt.{Stmt}
use Rattle.js_tree.specs.declared.tree.Target.{Target}
use Rattle.js_tree.specs.declared.tree.Target.TheVariants as target
use Rattle.js_tree.specs.declared.tree.TemplateItem.{TemplateItem}

-- an expression as the check sees one node of it
abbrev pub Node : Type 0
Node = Expr-F ArrowBody Expr ForBegin Property Stmt Target Catch Declaration Function TemplateItem

-- what can be written to, where the node is a name or a member; else the expression as it was
abbrev pub target_in : Expr → Node → Result Target Expr
target_in e (Expr-F.Name n) = Ok (target.Variable n)
target_in e (Expr-F.Member o n) = Ok (target.Field o n)
target_in e (Expr-F.Index o k) = Ok (target.Item o k)
target_in e _ = Err e

-- ECMA-262, section 8.6.4, AssignmentTargetType: a name or a member
abbrev pub target_of : Expr → Result Target Expr
target_of e = target_in e (out-Expr e)
