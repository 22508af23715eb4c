-- A script is refused for one thing alone.
use Rattle.std.specs.Prelude.{◌≡◌, ℕ, List, [], ◌∷◌, ◌++◌, Option, Some, None, Ok, Err}
use Rattle.std.proofs.Common.{sym, ap, subst, ◌∙◌}
use Rattle.js_lex.specs.declared.token.ScriptFault.{ScriptFault}
use Rattle.js_lex.specs.declared.token.Token.{Token}
use Rattle.js_tree.specs.declared.tree.Item.{Item}
use Rattle.js_grammar.specs.Fault.{IsTreeOf, IsFirstFault}
use Rattle.js_parse_core.specs.Answer.{Answer, answer}
use Rattle.js_parse_core.proofs.Parsed.{tree_answered, first_answered}
use Rattle.js_scope.specs.declared.fault.EarlyFault.{EarlyFault}
use Rattle.js_scope.specs.Early.{early_faults, first}
use Rattle.js_check.specs.declared.script.ScriptRefusal.{ScriptRefusal}
use Rattle.js_check.specs.declared.script.ScriptRefusal.TheVariants.{Grammar, Early}
use Rattle.js_check.specs.Verdict.{Checked}

trees_same : (a b : List Item) (x : Answer) → x ≡ Ok a → x ≡ Ok b → a ≡ b
trees_same a b x ea eb = cc

faults_same : (f g : ScriptFault) (x : Answer) → x ≡ Err f → x ≡ Err g → f ≡ g
faults_same f g x ef eg = cc

never_both : (a : List Item) (f : ScriptFault) (x : Answer) → x ≡ Ok a → x ≡ Err f → ⊥
never_both a f x ea ef = cc

-- a script has one tree ..
one_tree : (units : List ℕ) (a b : List Item) → IsTreeOf a units → IsTreeOf b units → a ≡ b
one_tree units a b x y =
    let all : List Token = x.tokens ++ x.last ∷ [] in
    trees_same a b (answer all) (tree_answered units all a x.splits.tokens x) (tree_answered units all b x.splits.tokens y)

-- .. or one first fault ..
one_fault : (units : List ℕ) (f g : ScriptFault) → IsFirstFault f units → IsFirstFault g units → f ≡ g
one_fault units f g x y =
    let all : List Token = x.tokens ++ x.last ∷ [] in
    faults_same f g (answer all) (first_answered units all f x.splits.tokens x) (first_answered units all g x.splits.tokens y)

-- .. and not both
apart : (units : List ℕ) (a : List Item) (f : ScriptFault) → IsTreeOf a units → IsFirstFault f units → ⊥
apart units a f x y =
    let all : List Token = x.tokens ++ x.last ∷ [] in
    never_both a f (answer all) (tree_answered units all a x.splits.tokens x) (first_answered units all f x.splits.tokens y)

early_same : (a b : List Item) (f g : EarlyFault) → a ≡ b → first (early_faults a) ≡ Some f → first (early_faults b) ≡ Some g → f ≡ g
early_same a b f g same ef eg = let e : first (early_faults b) ≡ Some f = subst (λ z. first (early_faults z) ≡ Some f) same ef in cc

early_none : (a b : List Item) (f : EarlyFault) → a ≡ b → early_faults a ≡ [] → first (early_faults b) ≡ Some f → ⊥
early_none a b f same none ef = let e : first (early_faults b) ≡ None = ap first (subst (λ z. early_faults z ≡ []) same none) in cc

pub one_verdict : (units : List ℕ) (a b : Option ScriptRefusal) → Checked units a → Checked units b → a ≡ b
unfolding Checked
one_verdict units None None x y = cc
one_verdict units None (Some (Grammar g)) x y = absurd (apart units x.0 g x.1 y)
one_verdict units None (Some (Early g)) x y = absurd (early_none x.0 y.0 g (one_tree units x.0 y.0 x.1 y.1) x.2 y.2)
one_verdict units (Some (Grammar f)) None x y = absurd (apart units y.0 f y.1 x)
one_verdict units (Some (Grammar f)) (Some (Grammar g)) x y = ap (λ z. Some (Grammar z)) (one_fault units f g x y)
one_verdict units (Some (Grammar f)) (Some (Early g)) x y = absurd (apart units y.0 f y.1 x)
one_verdict units (Some (Early f)) None x y = absurd (early_none y.0 x.0 f (one_tree units y.0 x.0 y.1 x.1) y.2 x.2)
one_verdict units (Some (Early f)) (Some (Grammar g)) x y = absurd (apart units x.0 g x.1 y)
one_verdict units (Some (Early f)) (Some (Early g)) x y = ap (λ z. Some (Early z)) (early_same x.0 y.0 f g (one_tree units x.0 y.0 x.1 y.1) x.2 y.2)
