-- The text of a script's tree is a script of the same tree, places aside.
use Rattle.std.specs.Prelude.{Result, Ok, Err, IfOk}
use Rattle.std.proofs.Common.{◌≡◌, ℕ, ◌+◌, Bool, true, false, cond, ◌&&◌, List, [], ◌∷◌, ◌++◌, map, refl, sym, ap, ap₂, subst, inl}
use Rattle.std.specs.Prelude.{IsTrue, nat_le}
use Rattle.js_lex.specs.declared.token.Token.{Token}
use Rattle.js_lex.specs.declared.token.Punctuator.TheVariants as p
use Rattle.js_lex.specs.declared.token.Reserved.TheVariants as r
use Rattle.js_tree.specs.declared.tree.Item.{Item}
use Rattle.js_tree.specs.declared.tree.Item.TheVariants as item
use Rattle.js_tree.specs.declared.tree.Property.{Property}
use Rattle.js_tree.specs.declared.tree.Stmt.{Stmt}
use Rattle.js_grammar.specs.Marks.{Piece, Read, Form, Matches, sign, just, maybe, more}
use Rattle.js_grammar.specs.Grammar.{of_stmt, of_property, of_export, is_empty, export_end, of_tree}
use Rattle.js_grammar.specs.Shapes.{all_true, item_fits, exports, tree_fits}
use Rattle.js_grammar.specs.Shapes as shape
use Rattle.js_grammar.specs.Fault.{IsTreeOf}
use Rattle.js_grammar.specs.Script.{pieces, Puts, constructs, IsScript}
use Rattle.js_print.specs.Printed.{plain, printed}
use Rattle.js_print.specs.Same.{unplaced_item, unplaced, Reprinted}
use Rattle.js_print.specs.Same as like
use Rattle.js_print.proofs.Printable.{placed}
use Rattle.js_print.proofs.Lexed.{tokens_told}
use Rattle.js_print.proofs.Placed.{end_token, texts_split}
use Rattle.js_print.proofs.Sound.{Sound}
use Rattle.js_print.proofs.SoundTree.{sound_tree}
use Rattle.js_print.proofs.Filled.{rest, behind, Fills, Fixed, fills_none, fills_append, fills_fixed, fills_word, fills_enclosed, fills_listed, fills_more}
use Rattle.js_print.proofs.Moved.{MovedProperty, MovedStmt}
use Rattle.js_print.proofs.MovedNodes.{moves_property, moves_stmt}
use Rattle.js_print.proofs.Chosen.{PiecesTold, AllTold, told_ends, all_told, printable_plain, reads, Refilled, refilled}

-- ---- whole trees at other places

record MovedList (xs : List Property) (qs : List ℕ) : Type 0 where
  again : List Property
  like : map like.of_property again ≡ map like.of_property xs
  shape : map shape.of_property again ≡ map shape.of_property xs
  filled : Fills qs (more (map of_property xs)) (more (map of_property again))

moved_list : (xs : List Property) (qs : List ℕ) → MovedList xs qs
moved_list [] qs = record { again = []; like = refl; shape = refl; filled = fills_none qs }
moved_list (x ∷ xs) qs =
    let a : MovedProperty x (rest qs) = moves_property x (rest qs) in
    let b : MovedList xs (behind (of_property x) (rest qs)) = moved_list xs (behind (of_property x) (rest qs)) in
    record {
      again = a.again ∷ b.again;
      like = ap₂ (λ (u : Property) (v : List Property). u ∷ v) a.like b.like;
      shape = ap₂ (λ (u : Bool) (v : List Bool). u ∷ v) a.shape b.shape;
      filled = fills_more qs (of_property x) (of_property a.again) (map of_property xs) (map of_property b.again) a.filled b.filled;
    }

record MovedTree (is : List Item) (qs : List ℕ) : Type 0 where
  again : List Item
  like : unplaced again ≡ unplaced is
  fits : map item_fits again ≡ map item_fits is
  exported : exports again ≡ exports is
  ends : export_end again ≡ export_end is
  filled : Fills qs (of_tree is) (of_tree again)

fixed_end : (is : List Item) → Fixed (export_end is)
fixed_end [] = record { same = λ q. refl }
fixed_end (item.Export xs ∷ is) = record { same = λ q. refl }
fixed_end (item.Stmt s ∷ is) = by_test (is_empty s)
  where
    by_test : (b : Bool) → Fixed (cond b (just p.Semicolon) (maybe (sign p.Semicolon)))
    by_test true = record { same = λ q. refl }
    by_test false = record { same = λ q. refl }

fills_export : (qs : List ℕ) (xs ys : List Property) → Fills (0 ∷ rest (rest (rest qs))) (more (map of_property xs)) (more (map of_property ys)) → Fills qs (of_export xs) (of_export ys)
fills_export qs xs ys a =
    fills_word qs r.Export _ _ (fills_word (rest qs) r.Default _ _
    (fills_enclosed (rest (rest qs)) p.OpenBrace p.CloseBrace _ _ (fills_listed (rest (rest (rest qs))) (map of_property xs) (map of_property ys) a)))

fills_end : (qs : List ℕ) (f g : Form) (fs gs : List Form) → g ≡ f → Fixed f → Fills (rest qs) fs gs → Fills qs (f ∷ fs) (g ∷ gs)
fills_end qs f g fs gs e h a = subst (λ (z : Form). Fills qs (f ∷ fs) (z ∷ gs)) (sym e) (fills_fixed qs f fs gs h a)

moved_tree : (is : List Item) (qs : List ℕ) → MovedTree is qs
moved_tree [] qs = record { again = []; like = refl; fits = refl; exported = refl; ends = refl; filled = fills_none qs }
moved_tree (item.Stmt s ∷ is) qs =
    let a : MovedStmt s qs = moves_stmt s qs in
    let b : MovedTree is (behind (of_stmt s).forms qs) = moved_tree is (behind (of_stmt s).forms qs) in
    record {
      again = item.Stmt a.again ∷ b.again;
      like = ap₂ (λ (u : Stmt) (v : List Item). item.Stmt u ∷ v) a.like b.like;
      fits = ap₂ (λ (u : shape.StmtShape) (v : List Bool). u.fits ∷ v) a.shape b.fits;
      exported = b.exported;
      ends = ap (λ (z : Bool). cond z (just p.Semicolon) (maybe (sign p.Semicolon))) a.empty;
      filled = fills_append qs (of_stmt s).forms (of_stmt a.again).forms (of_tree is) (of_tree b.again) a.filled.forms b.filled;
    }
moved_tree (item.Export xs ∷ is) qs =
    let a : MovedList xs (0 ∷ rest (rest (rest qs))) = moved_list xs (0 ∷ rest (rest (rest qs))) in
    let q2 : List ℕ = behind (of_export xs) qs in
    let b : MovedTree is (rest q2) = moved_tree is (rest q2) in
    record {
      again = item.Export a.again ∷ b.again;
      like = ap₂ (λ (u : List Property) (v : List Item). item.Export u ∷ v) a.like b.like;
      fits = ap₂ (λ (u v : List Bool). all_true u ∷ v) a.shape b.fits;
      exported = ap (λ (n : ℕ). 1 + n) b.exported;
      ends = refl;
      filled = fills_append qs (of_export xs) (of_export a.again) (export_end is ∷ of_tree is) (export_end b.again ∷ of_tree b.again) (fills_export qs xs a.again a.filled)
          (fills_end q2 (export_end is) (export_end b.again) (of_tree is) (of_tree b.again) b.ends (fixed_end is) b.filled);
    }

moved_fits : (is : List Item) (qs : List ℕ) (m : MovedTree is qs) → tree_fits m.again ≡ tree_fits is
moved_fits is qs m = ap₂ (λ (u : List Bool) (n : ℕ). all_true u && nat_le n 1) m.fits m.exported

-- ---- the text's tokens

-- no end is put in
puts_read : (before : List Piece) (ts : List Token) → Puts before ts (reads ts)
puts_read before [] = refl
puts_read before (t ∷ ts) = inl (reads ts, refl, puts_read (before ++ Read t ∷ []) ts)

script_again : (tree : List Item) (m : Refilled 0 (of_tree tree)) (t : MovedTree tree m.places) → IsTrue (tree_fits tree) → IsScript t.again (placed 0 (plain (of_tree tree))) (constructs m.seen)
script_again tree m t f = record {
  seen = m.seen;
  puts = (reads (placed 0 (plain (of_tree tree))), puts_read [] (placed 0 (plain (of_tree tree))), inl m.are);
  program = record {
    fits = subst (λ (b : Bool). IsTrue b) (sym (moved_fits tree m.places t)) f;
    written = subst (λ (z : List Form). Matches z m.seen) (sym t.filled.is) m.matches;
  };
  constructs = refl;
}

-- The text of the tree of a script is a script of a tree that is like it.
pub reprinted : (tree : List Item) (units0 : List ℕ) → IsTreeOf tree units0 → Reprinted tree (printed tree)
reprinted tree units0 h =
    let sound : Sound (of_tree tree) = sound_tree tree in
    let told : PiecesTold (pieces h.is.script.seen) = told_ends h.tokens (pieces h.is.script.seen) (tokens_told units0 h.tokens h.last h.splits.tokens) h.is.script.puts in
    let all : AllTold (of_tree tree) = all_told (of_tree tree) h.is.script.seen h.is.script.program.written told in
    let again : Refilled 0 (of_tree tree) = refilled 0 (of_tree tree) sound.good all in
    let moved : MovedTree tree again.places = moved_tree tree again.places in
    record {
      again = moved.again;
      like = sym moved.like;
      tokens = placed 0 (plain (of_tree tree));
      last = end_token (plain (of_tree tree));
      splits = texts_split (plain (of_tree tree)) (printable_plain (of_tree tree) sound.good all) (sound.balanced.nests []);
      whole = refl;
      open_at = constructs again.seen;
      script = script_again tree again moved h.is.script.program.fits;
    }

-- what is printed of a script's tree
pub reprints : (tree : List Item) (units script : List ℕ) → units ≡ printed tree → IsTreeOf tree script → Reprinted tree units
reprints tree units script e h = subst (Reprinted tree) (sym e) (reprinted tree script h)

pub all_reprinted : {E : Type 0} (r : Result (List ℕ) E) (tree : List Item) → IfOk r (λ units. units ≡ printed tree) → IfOk r (λ units. (script : List ℕ) → IsTreeOf tree script → Reprinted tree units)
all_reprinted (Ok units) tree e = λ script h. reprints tree units script e h
all_reprinted (Err e) tree h = tt
