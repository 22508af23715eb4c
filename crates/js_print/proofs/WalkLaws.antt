-- A step of a walk.
use Rattle.std.proofs.Common.{◌≡◌, ℕ, ◌≤◌, ◌+◌, arith, List, [], ◌∷◌, ◌++◌, map, Result, OnOk, refl, sym, ap, ◌∙◌}
use Rattle.std.proofs.lemmas.List.{append_assoc, append-nil}
use Rattle.js_lex.specs.Units.{Text}
use Rattle.js_lex.specs.declared.token.TokenKind.{TokenKind}
use Rattle.js_tree.specs.declared.tree.Item.{Item}
use Rattle.js_grammar.specs.Grammar.{of_tree}
use Rattle.js_print.specs.declared.piece.Piece.{Piece}
use Rattle.js_print.specs.Printed.{plain, printed}
use Rattle.js_print.specs.TokenText.{token_text, spaced, texts}
use Rattle.js_tree.specs.Weight as weight
use Rattle.js_print.proofs.ListSplits.{tree_kinds}
use Rattle.js_print.specs.Walk.{IsSplit, IsStep, item_forms, kinds, piece_forms, piece_weight, total}
use Rattle.js_print.proofs.PlainLaws.{Kinds}
use Rattle.js_print.proofs.NodeKinds.{Tasks, on_ok}

token_same : (q : Piece) (out : Text) (old : Tasks) (k : TokenKind) → plain (piece_forms q) ≡ k ∷ [] → (out ++ spaced k) ++ texts (kinds old) ≡ out ++ texts (kinds (q ∷ old))
token_same q out old k one = append_assoc out (spaced k) (texts (kinds old)) ∙ ap (λ (ks : Kinds). out ++ texts (ks ++ kinds old)) (sym one)

pub token_step : {T E : Type 0} (got : Result T E) (p q : Piece) (out : Text) (old : Tasks) (out' : Text) (k : TokenKind) → p ≡ q → OnOk got (out' ≡ out ++ spaced k) → plain (piece_forms q) ≡ k ∷ [] → OnOk got (IsStep p out old out' old)
token_step got p q out old out' k e a one = on_ok got a (λ w. record {
  same = ap (λ (t : Text). t ++ texts (kinds old)) w ∙ token_same q out old k one ∙ ap (λ (z : Piece). out ++ texts (kinds (z ∷ old))) (sym e);
  lighter = omega arith;
})

pub ascii_step : {T E : Type 0} (got : Result T E) (p q : Piece) (out : Text) (old : Tasks) (out' w : Text) (k : TokenKind) → p ≡ q → OnOk got (out' ≡ out ++ (w ++ 32 ∷ [])) → w ≡ token_text k → plain (piece_forms q) ≡ k ∷ [] → OnOk got (IsStep p out old out' old)
ascii_step got p q out old out' w k e a t one = token_step got p q out old out' k e (on_ok got a (λ b. b ∙ ap (λ (z : Text). out ++ (z ++ 32 ∷ [])) t)) one

pub split_step : {T E : Type 0} (got : Result T E) (p q : Piece) (out : Text) (old new : Tasks) → p ≡ q → OnOk got (IsSplit old (piece_forms q) (piece_weight q) new) → OnOk got (IsStep p out old out new)
split_step got p q out old new e a = on_ok got a (λ i. record {
  same = ap (λ (ks : Kinds). out ++ texts ks) i.same ∙ ap (λ (z : Piece). out ++ texts (kinds (z ∷ old))) (sym e);
  lighter = omega (arith, i.heavier, ap piece_weight e);
})

-- all that the items put on no tasks is the text
pub all_written : (items : List Item) (none tasks : Tasks) (n : ℕ) (out out' : Text) → none ≡ [] → out ≡ [] → IsSplit none (of_tree items) n tasks → out' ≡ out ++ texts (kinds tasks) → out' ≡ printed items
all_written items none tasks n out out' e e_out i w = w ∙ ap (λ (t : Text). t ++ texts (kinds tasks)) e_out ∙ ap texts (i.same ∙ ap (λ (ts : Tasks). plain (of_tree items) ++ kinds ts) e ∙ append-nil (plain (of_tree items)))

-- an item is put before those behind it
pub item_before : (old mid new : Tasks) (i : Item) (is : List Item) → IsSplit old (of_tree is) (weight.parts (map weight.of_item is)) mid → IsSplit mid (item_forms i) (weight.of_item i) new → IsSplit old (of_tree (i ∷ is)) (weight.parts (map weight.of_item (i ∷ is))) new
item_before old mid new i is a b = record {
  same = b.same ∙ ap (λ (ks : Kinds). plain (item_forms i) ++ ks) a.same ∙ sym (tree_kinds i is (kinds old));
  heavier = omega (arith, a.heavier, b.heavier);
}
