-- Scripts: lists of tokens that a tree is written as, with automatic ends put in (ECMA-262, section 12.10).
use Rattle.std.specs.Prelude.{◌≡◌, ℕ, ◌≤◌, true, IsTrue, List, [], ◌∷◌, ◌++◌, ◌⊎◌, map}
use Rattle.js_lex.specs.declared.token.TokenKind.TheVariants as tok
use Rattle.js_lex.specs.declared.token.Punctuator.TheVariants as p
use Rattle.js_lex.specs.declared.token.Token.{Token}
use Rattle.js_tree.specs.declared.tree.Item.{Item}
use Rattle.js_grammar.specs.Marks.{Piece, Read, Ended, Seen, Matches}
use Rattle.js_grammar.specs.Grammar.{of_tree}
use Rattle.js_grammar.specs.Shapes.{tree_fits}

-- the tokens that are neither `End` nor `Bad`, behind which none stand
abbrev pub pieces : List Seen → List Piece
pieces ss = map (λ s. s.piece) ss

-- the tree is written as these pieces
pub record IsProgram (tree : List Item) (ss : List Seen) : Type 0 where
  pub fits : IsTrue (tree_fits tree)
  pub written : Matches (of_tree tree) ss

-- some program begins with these pieces: the grammar allows each of them behind those before it
pub record IsAllowed (ps : List Piece) : Type 0 where
  pub tree : List Item
  pub seen : List Seen
  pub rest : List Piece
  pub program : IsProgram tree seen
  pub begins : pieces seen ≡ ps ++ rest

-- An end may be put between these pieces and t: t is `}`, or it follows a line end and the grammar does not
-- allow it there.
abbrev pub MayEnd : List Piece → Token → Type 0
MayEnd before t = (t.kind ≡ tok.Punctuator p.CloseBrace) ⊎ ((t.after_line_end ≡ true) × (IsAllowed (before ++ Read t ∷ []) → ⊥))

-- ps are the tokens ts, with ends put in before some of them, behind the pieces so far
abbrev pub Puts : List Piece → List Token → List Piece → Type 0
Puts before [] ps = ps ≡ []
Puts before (t ∷ ts) ps =
    ((rest : List Piece) × (ps ≡ Read t ∷ rest) × Puts (before ++ Read t ∷ []) ts rest)
    ⊎ ((rest : List Piece) × (ps ≡ Ended ∷ Read t ∷ rest) × MayEnd before t × Puts (before ++ Ended ∷ Read t ∷ []) ts rest)

-- .. and perhaps one at the end of the script
abbrev pub PutsEnds : List Token → List Piece → Type 0
PutsEnds ts ps = (qs : List Piece) × Puts [] ts qs × ((ps ≡ qs) ⊎ (ps ≡ qs ++ Ended ∷ []))

-- how many constructs are open at each token
abbrev pub constructs : List Seen → List ℕ
constructs [] = []
constructs (s ∷ ss) = of_piece s.piece s.constructs (constructs ss)
  where
    of_piece : Piece → ℕ → List ℕ → List ℕ
    of_piece (Read t) n ns = n ∷ ns
    of_piece Ended n ns = ns

-- the tokens are those of this tree, with so many constructs open at each
pub record IsScript (tree : List Item) (ts : List Token) (open_at : List ℕ) : Type 0 where
  pub seen : List Seen
  pub puts : PutsEnds ts (pieces seen)
  pub program : IsProgram tree seen
  pub constructs : constructs seen ≡ open_at

-- so many constructs may be open
abbrev pub most_open : ℕ
most_open = 128

-- at no token are more constructs open than may be
abbrev pub AreShallow : List ℕ → Type 0
AreShallow [] = Unit {0}
AreShallow (n ∷ ns) = (n ≤ most_open) × AreShallow ns

-- the tree of these tokens
pub record IsTree (tree : List Item) (ts : List Token) : Type 0 where
  pub open_at : List ℕ
  pub script : IsScript tree ts open_at
  pub shallow : AreShallow open_at
