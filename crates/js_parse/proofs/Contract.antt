-- What is answered to the tokens of a text, as what is answered to the text.
use Rattle.std.proofs.Common.{◌≡◌, ℕ, List, Result, Ok, Err, sym, ◌∙◌}
use Rattle.std.specs.Prelude.{IfOk}
use Rattle.js_lex.specs.declared.token.ScriptFault.{ScriptFault}
use Rattle.js_lex.specs.declared.token.Token.{Token}
use Rattle.js_lex.specs.Grammar.{AreTokens}
use Rattle.js_tree.specs.declared.tree.Item.{Item}
use Rattle.js_grammar.specs.Fault.{IsTreeOf, IsFirstFault}
use Rattle.js_parse_core.specs.Answer.{Answer, answer}
use Rattle.js_parse_core.proofs.Parsed.{answer_found, tree_answered, answer_first, first_answered}
use Rattle.js_parse.specs.declared.reader.ScriptEnd.{ScriptEnd}
use Rattle.js_parse.specs.declared.reader.ScriptEnd.TheVariants.{Fault, NoMemory}
use Rattle.js_parse.specs.Answer.{IsAnswer}
use Rattle.js_parse.specs.Fault.{IfFault, IsOnly, IsOnlyFault}

tree_same : (a b : List Item) → (let r : Answer = Ok a in r) ≡ Ok b → a ≡ b
tree_same a b e = cc

fault_same : (f g : ScriptFault) → (let r : Answer = Err f in r) ≡ Err g → f ≡ g
fault_same f g e = cc

never_both : (a : List Item) (f : ScriptFault) → (let r : Answer = Ok a in r) ≡ Err f → ⊥
never_both a f e = cc

pub tree_found : (units : List ℕ) (all : List Token) (r : Result (List Item) ScriptEnd) → AreTokens units all → IsAnswer (answer all) r → IfOk r (λ tree. IsTreeOf tree units)
tree_found units all (Ok tree) a h = answer_found units all tree a h
tree_found units all (Err end) a h = tt

pub tree_only : (units : List ℕ) (all : List Token) (r : Result (List Item) ScriptEnd) → AreTokens units all → IsAnswer (answer all) r → (tree : List Item) → IsTreeOf tree units → IsOnly tree r
tree_only units all (Ok found) a h tree t = tree_same found tree (sym h ∙ tree_answered units all tree a t)
tree_only units all (Err (Fault f)) a h tree t = never_both tree f (sym (tree_answered units all tree a t) ∙ h)
tree_only units all (Err NoMemory) a h tree t = tt

pub fault_found : (units : List ℕ) (all : List Token) (r : Result (List Item) ScriptEnd) → AreTokens units all → IsAnswer (answer all) r → IfFault r (λ f. IsFirstFault f units)
fault_found units all (Ok tree) a h = tt
fault_found units all (Err (Fault f)) a h = answer_first units all f a h
fault_found units all (Err NoMemory) a h = tt

pub fault_only : (units : List ℕ) (all : List Token) (r : Result (List Item) ScriptEnd) → AreTokens units all → IsAnswer (answer all) r → (f : ScriptFault) → IsFirstFault f units → IsOnlyFault f r
fault_only units all (Ok tree) a h f t = never_both tree f (sym h ∙ first_answered units all f a t)
fault_only units all (Err (Fault g)) a h f t = fault_same g f (sym h ∙ first_answered units all f a t)
fault_only units all (Err NoMemory) a h f t = tt
