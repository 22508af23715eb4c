-- What a script is refused for.
use Rattle.std.specs.Prelude.{◌≡◌, ℕ, List, [], Option, Some, None}
use Rattle.js_tree.specs.declared.tree.Item.{Item}
use Rattle.js_grammar.specs.Fault.{IsTreeOf, IsFirstFault}
use Rattle.js_scope.specs.declared.fault.EarlyFault.{EarlyFault}
use Rattle.js_scope.specs.Early.{early_faults, first}
use Rattle.js_check.specs.declared.script.ScriptRefusal.{ScriptRefusal}
use Rattle.js_check.specs.declared.script.ScriptRefusal.TheVariants.{Grammar, Early}

-- a tree with these early faults is refused for the first of them, where there is one
abbrev pub IsRefusedFor : List EarlyFault → Option ScriptRefusal → Type 0
IsRefusedFor faults None = faults ≡ []
IsRefusedFor faults (Some (Early f)) = first faults ≡ Some f
IsRefusedFor faults (Some (Grammar f)) = ⊥

-- The script of these units passes: it has a tree, and this no early fault. Or it is refused, for its first fault, where it has no
-- tree, and else for the first early fault of its tree.
unfoldable pub Checked : List ℕ → Option ScriptRefusal → Type 0
Checked units None = (tree : List Item) × IsTreeOf tree units × (early_faults tree ≡ [])
Checked units (Some (Grammar f)) = IsFirstFault f units
Checked units (Some (Early f)) = (tree : List Item) × IsTreeOf tree units × (first (early_faults tree) ≡ Some f)
