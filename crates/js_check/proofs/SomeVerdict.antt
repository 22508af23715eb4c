-- Every script passes, or is refused for something.
use Rattle.std.specs.Prelude.{◌≡◌, ℕ, List, [], ◌∷◌, Option, Some, None, Ok, Err, refl}
use Rattle.std.proofs.Common.{ap}
use Rattle.js_tree.specs.declared.tree.Item.{Item}
use Rattle.js_grammar.specs.Fault.{IsTreeOf}
use Rattle.js_lex.proofs.LexLaws.{are_tokens}
use Rattle.js_lex.proofs.Whole.{tokens_of}
use Rattle.js_parse_core.specs.Answer.{Answer, answer}
use Rattle.js_parse_core.proofs.Parsed.{answer_found, answer_first}
use Rattle.js_scope.specs.declared.fault.EarlyFault.{EarlyFault}
use Rattle.js_scope.specs.Early.{early_faults, first}
use Rattle.js_check.specs.declared.script.ScriptRefusal.{ScriptRefusal}
use Rattle.js_check.specs.declared.script.ScriptRefusal.TheVariants.{Grammar, Early}
use Rattle.js_check.specs.Verdict.{Checked}

-- by the early faults of its tree
of_tree : (units : List ℕ) (tree : List Item) (faults : List EarlyFault) → early_faults tree ≡ faults
    → IsTreeOf tree units → (found : Option ScriptRefusal) × Checked units found
unfolding Checked
of_tree units tree [] e t = (None, (tree, t, e))
of_tree units tree (f ∷ fs) e t = (Some (Early f), (tree, t, ap first e))

-- by the tree or the fault that the definition of the parser answers
by_answer : (units : List ℕ) (x : Answer) → answer (tokens_of units) ≡ x
    → (found : Option ScriptRefusal) × Checked units found
unfolding Checked
by_answer units (Ok tree) e =
    of_tree units tree (early_faults tree) refl (answer_found units (tokens_of units) tree (are_tokens units) e)
by_answer units (Err f) e = (Some (Grammar f), answer_first units (tokens_of units) f (are_tokens units) e)

pub some_verdict : (units : List ℕ) → (found : Option ScriptRefusal) × Checked units found
some_verdict units = by_answer units (answer (tokens_of units)) refl
