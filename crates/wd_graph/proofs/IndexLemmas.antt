-- The index of names, one service after another.
use Rattle.std.proofs.Common.{◌≡◌, ℕ, suc, ◌+◌, ◌<◌, length, drop, drop-cons, get_or, ap₂, subst, arith, Bool, true, false, cond, List, [], ◌∷◌, Vec, Some, None, refl, sym, ap, ◌∙◌, Global, Ordering, Less, Equal, Greater, is_eq}
use Rattle.std.proofs.lemmas.Bool.{false≢true}
use Rattle.std.specs.BTreeMap.{is_at, insert_entry}
use Rattle.std.specs.Cmp.Lexicographic.{slice_cmp, texts_ties}
use Rattle.std.specs.Map.{lookup}
use Rattle.std.specs.Ordering.{nat_cmp, match_ordering}
use Rattle.wd_base.specs.declared.config.Service.{Service}
use Rattle.wd_graph.specs.Index.{IsIndexFrom}
use Rattle.wd_graph.specs.Names.{same_name}
use Rattle.wd_graph.proofs.FindLemmas.{same_name_swap}
use Rattle.wd_graph.proofs.Numbers.{one_name, name_itself}

abbrev pub Key : Type 0
Key = Vec ℕ Global

abbrev pub by_text : Key → Key → Ordering
by_text a b = slice_cmp nat_cmp a.items b.items

abbrev at : List ℕ → Key → Bool
at name key = is_at (λ key. slice_cmp nat_cmp name key.items) key

at_same : (name : List ℕ) (key : Key) → at name key ≡ same_name key.items name
at_same name key = sym (texts_ties name key.items) ∙ same_name_swap name key.items

overwritten : {X : Type 0} (b : Bool) (x y r : X) → cond b x r ≡ cond b x (cond b y r)
overwritten true x y r = refl
overwritten false x y r = refl

apart : {X : Type 0} (b d : Bool) (x y r : X) → (b ≡ true → d ≡ true → ⊥) → cond b y (cond d x r) ≡ cond d x (cond b y r)
apart true true x y r h = absurd (h refl refl)
apart true false x y r h = refl
apart false true x y r h = refl
apart false false x y r h = refl

-- a look-up after an insertion
lookup_insert : (name : List ℕ) (es : List (Key × ℕ)) (key : Key) (v : ℕ) → lookup (at name) (insert_entry by_text es key v) ≡ cond (same_name key.items name) (Some v) (lookup (at name) es)
lookup_insert name [] key v = ap (λ b. cond b (Some v) None) (at_same name key)
lookup_insert name (e ∷ es) key v =
    let rest = lookup (at name) es in
    let here = at_same name key in
    elim (by_text key e.0) as (λ o. by_text key e.0 ≡ o → lookup (at name) (match_ordering o ((key, v) ∷ e ∷ es) ((e.0, v) ∷ es) (e ∷ insert_entry by_text es key v)) ≡ cond (same_name key.items name) (Some v) (cond (at name e.0) (Some e.1) rest)) [
      | Less ↦ λ h. ap (λ b. cond b (Some v) (cond (at name e.0) (Some e.1) rest)) here
      | Equal ↦ λ h.
          let one = one_name key.items e.0.items (texts_ties key.items e.0.items ∙ ap is_eq h) in
          let passes : at name e.0 ≡ same_name key.items name = ap (λ (t : List ℕ). is_eq (slice_cmp nat_cmp name t)) (sym one) ∙ here in
          ap (λ b. cond b (Some v) rest) passes ∙ overwritten (same_name key.items name) (Some v) (Some e.1) rest ∙ ap (λ b. cond (same_name key.items name) (Some v) (cond b (Some e.1) rest)) (sym passes)
      | Greater ↦ λ h.
          let other : same_name key.items e.0.items ≡ false = texts_ties key.items e.0.items ∙ ap is_eq h in
          let never : at name e.0 ≡ true → same_name key.items name ≡ true → ⊥ = λ a b.
          let second = one_name e.0.items name (sym (at_same name e.0) ∙ a) in
          let first = one_name key.items name b in
          false≢true (sym other ∙ ap (same_name key.items) (second ∙ sym first) ∙ name_itself key.items) in
          ap (λ o. cond (at name e.0) (Some e.1) o) (lookup_insert name es key v) ∙ apart (at name e.0) (same_name key.items name) (Some v) (Some e.1) rest never
    ] refl

-- the index with one service more, in front
pub index_more : (from : ℕ) (s : Service) (rest : List Service) (es : List (Key × ℕ)) (key : Key) → key.items ≡ s.name → IsIndexFrom (from + 1) rest es → IsIndexFrom from (s ∷ rest) (insert_entry by_text es key from)
index_more from s rest es key e index = λ name.
    lookup_insert name es key from ∙ ap (λ t. cond (same_name t name) (Some from) (lookup (at name) es)) e ∙ ap (λ o. cond (same_name s.name name) (Some from) o) (index name)

-- the index with one service more, before those that it has
pub index_before : (ss : List Service) (left : ℕ) (s : Service) (es : List (Key × ℕ)) (key : Key) → left < length ss → s ≡ get_or ss left s → key.items ≡ s.name → IsIndexFrom (left + 1) (drop (left + 1) ss) es → IsIndexFrom left (drop left ss) (insert_entry by_text es key left)
index_before ss left s es key h e k index =
    let next : suc left ≡ left + 1 = omega arith in
    let front : drop left ss ≡ s ∷ drop (left + 1) ss = drop-cons ss left s h ∙ ap₂ (λ (x : Service) (n : ℕ). x ∷ drop n ss) (sym e) next in
    subst (λ rest. IsIndexFrom left rest (insert_entry by_text es key left)) (sym front) (index_more left s (drop (left + 1) ss) es key k index)
