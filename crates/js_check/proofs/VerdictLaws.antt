-- What a reading and a walk of a tree make of a script.
use Rattle.std.specs.Prelude.{◌≡◌, ℕ, List, [], Option, Some, None}
use Rattle.js_lex.specs.declared.token.ScriptFault.{ScriptFault}
use Rattle.js_tree.specs.declared.tree.Item.{Item}
use Rattle.js_grammar.specs.Fault.{IsTreeOf, IsFirstFault}
use Rattle.js_scope.specs.Early.{early_faults}
use Rattle.js_check.specs.declared.script.ScriptRefusal.{ScriptRefusal}
use Rattle.js_check.specs.declared.script.ScriptRefusal.TheVariants.{Grammar, Early}
use Rattle.js_check.specs.Verdict.{Checked, IsRefusedFor}

pub tree_checked : (units : List ℕ) (tree : List Item) (found : Option ScriptRefusal) → IsTreeOf tree units → IsRefusedFor (early_faults tree) found → Checked units found
unfolding Checked
tree_checked units tree None t e = (tree, t, e)
tree_checked units tree (Some (Early f)) t e = (tree, t, e)
tree_checked units tree (Some (Grammar f)) t e = absurd e

pub fault_checked : (units : List ℕ) (f : ScriptFault) → IsFirstFault f units → Checked units (Some (Grammar f))
unfolding Checked
fault_checked units f h = h
