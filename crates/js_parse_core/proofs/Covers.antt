-- Forms that have all the pieces of others.
use Rattle.std.proofs.Common.{◌≡◌, List, [], ◌∷◌, ◌++◌, map, sym, ap, subst}
use Rattle.js_grammar.specs.Marks.{Piece, Form, first_unbroken, on_one_line}
use Rattle.js_parse_core.proofs.Pieces.{SpellsOne, Fits}
use Rattle.js_parse_core.proofs.PieceLemmas.{Split, fits_append, fits_split}

-- ---- all the pieces that fit the first fit the second

pub record Covers (a b : List Form) : Type 0 where
  pub covers : (ps : List Piece) → Fits a ps → Fits b ps

pub covers_same : (a b : List Form) → a ≡ b → Covers a b
covers_same a b e = record { covers = λ ps h. subst (λ (z : List Form). Fits z ps) e h }

pub covers_trans : (a b c : List Form) → Covers a b → Covers b c → Covers a c
covers_trans a b c f g = record { covers = λ ps h. g.covers ps (f.covers ps h) }

pub covers_behind : (a b c : List Form) → Covers b c → Covers (a ++ b) (a ++ c)
covers_behind a b c f = record {
  covers = λ ps h.
      let r : Split a b ps = fits_split a b ps h in
      subst (Fits (a ++ c)) (sym r.parts) (fits_append a c r.front r.back r.fits_front (f.covers r.back r.fits_back));
}

pub covers_before : (a b c : List Form) → Covers a b → Covers (a ++ c) (b ++ c)
covers_before a b c f = record {
  covers = λ ps h.
      let r : Split a c ps = fits_split a c ps h in
      subst (Fits (b ++ c)) (sym r.parts) (fits_append b c r.front r.back (f.covers r.front r.fits_front) r.fits_back);
}

-- nothing fits a form without alternatives
pub covers_none : (fs b : List Form) → Covers ([] ∷ fs) b
covers_none fs b = record { covers = λ ps h. absurd h.3 }

-- a form with more alternatives
pub covers_wider : (f g : Form) (fs : List Form) → ((ps : List Piece) → SpellsOne f ps → SpellsOne g ps) → Covers (f ∷ fs) (g ∷ fs)
covers_wider f g fs w = record { covers = λ ps h. (h.0, h.1, h.2, w h.0 h.3, h.4) }

-- ---- .. whether or not a line end may stand before the first

pub record Within (a b : List Form) : Type 0 where
  pub all : Covers a b
  pub on_line : Covers (on_one_line a) (on_one_line b)

pub within_same : (a b : List Form) → a ≡ b → Within a b
within_same a b e = record { all = covers_same a b e; on_line = covers_same _ _ (ap on_one_line e) }

pub within_trans : (a b c : List Form) → Within a b → Within b c → Within a c
within_trans a b c f g = record { all = covers_trans a b c f.all g.all; on_line = covers_trans _ _ _ f.on_line g.on_line }

pub within_behind : (f : Form) (a b : List Form) → Covers a b → Within (f ∷ a) (f ∷ b)
within_behind f a b c = record { all = covers_behind (f ∷ []) a b c; on_line = covers_behind (map first_unbroken f ∷ []) a b c }

pub within_before : (f g : Form) (a b c : List Form) → Within (f ∷ a) (g ∷ b) → Within (f ∷ (a ++ c)) (g ∷ (b ++ c))
within_before f g a b c w = record { all = covers_before (f ∷ a) (g ∷ b) c w.all; on_line = covers_before (map first_unbroken f ∷ a) (map first_unbroken g ∷ b) c w.on_line }

pub within_none : (fs b : List Form) → Within ([] ∷ fs) b
within_none fs b = record { all = covers_none fs b; on_line = covers_none fs (on_one_line b) }
