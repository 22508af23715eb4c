-- A token, and the piece that it is with how many constructs are open at it, behind what a state has read.
use Rattle.std.proofs.Common.{◌≡◌, ℕ, ◌+◌, ◌≤◌, Bool, true, false, cond, List, [], ◌∷◌, ◌++◌, ◌⊎◌, map, Ok, Err, refl, sym, ◌∙◌, ap, subst, append_assoc, inl, inr, add-zero, le_refl, le_trans, arith}
use Rattle.js_lex.specs.declared.token.Punctuator.{Punctuator}
use Rattle.js_lex.specs.declared.token.Reserved.{Reserved}
use Rattle.js_lex.specs.declared.token.TokenKind.{TokenKind}
use Rattle.js_lex.specs.declared.token.TokenKind.TheVariants as tok
use Rattle.js_lex.specs.declared.token.Token.{Token}
use Rattle.js_tree.specs.declared.tree.Item.{Item}
use Rattle.js_tree.specs.declared.tree.Key.{Key}
use Rattle.js_tree.specs.declared.tree.Key.TheVariants as keys
use Rattle.js_grammar.specs.Marks.{Piece, Seen, Want, Just, At, Mark, Form, AreOf, IsOneOf, Matches, IsWanted, deeper_mark, mark, unbroken, one, just, sign, word, end}
use Rattle.js_grammar.specs.Grammar.{reserved, key}
use Rattle.js_parse_core.specs.declared.machine.Open.{Open}
use Rattle.js_parse_core.specs.Outer.{Step}
use Rattle.js_parse_core.specs.Tokens.{is_end}
use Rattle.js_parse_core.specs.Statements.{ends_statement}
use Rattle.js_parse_core.proofs.Pieces.{Spells}
use Rattle.js_parse_core.proofs.Spelled.{unread, is_line, lined}
use Rattle.js_parse_core.proofs.SpelledLemmas.{Filled}
use Rattle.js_parse_core.proofs.Grows.{piece, want_line}
use Rattle.js_parse_core.proofs.Grows.{Shows as Showing}
use Rattle.js_parse_core.proofs.Grows.{shows_just as showing_just}
use Rattle.js_parse_core.proofs.Grows.{shows_line_sign as showing_line_sign}
use Rattle.js_parse_core.proofs.Grows.{shows_line_word as showing_line_word}
use Rattle.js_parse_core.proofs.Grows.{shows_at as showing_at}
use Rattle.js_parse_core.proofs.Grows.{shows_line_at as showing_line_at}
use Rattle.js_parse_core.proofs.Grows.{shows_end as showing_end}
use Rattle.js_parse_core.proofs.CountedCovers.{matches_append, Covers, covers_same, covers_trans, covers_behind, Within, within_same}
use Rattle.js_parse_core.proofs.CountedForms.{up}
use Rattle.js_parse_core.proofs.CountedSpelled.{level, front, spell, whole_items, spelled}
use Rattle.js_parse_core.proofs.CountedLemmas.{Enters, spell_append, spell_within, enters_front, enters_behind}

-- ---- pieces with counts

-- the token, with so many constructs open
abbrev pub seen_of : Token → ℕ → Seen
seen_of t n = record { piece = piece t; constructs = n }

-- so many constructs are open at one of these at least
abbrev pub Reaches : ℕ → List Seen → Type 0
Reaches n [] = n ≤ 0
Reaches n (s ∷ ss) = (n ≤ s.constructs) ⊎ Reaches n ss

pub reaches_less : (n k : ℕ) (ss : List Seen) → n ≤ k → Reaches k ss → Reaches n ss
reaches_less n k [] h r = le_trans h r
reaches_less n k (s ∷ ss) h (inl a) = inl (le_trans h a)
reaches_less n k (s ∷ ss) h (inr b) = inr (reaches_less n k ss h b)

pub reaches_last : (n : ℕ) (ss : List Seen) (s : Seen) → n ≤ s.constructs → Reaches n (ss ++ s ∷ [])
reaches_last n [] s h = inl h
reaches_last n (x ∷ ss) s h = inr (reaches_last n ss s h)

pub reaches_front : (n : ℕ) (ss ts : List Seen) → Reaches n ss → Reaches n (ss ++ ts)
reaches_front n [] [] r = r
reaches_front n [] (t ∷ ts) r = inr (reaches_front n [] ts r)
reaches_front n (s ∷ ss) ts (inl a) = inl a
reaches_front n (s ∷ ss) ts (inr b) = inr (reaches_front n ss ts b)

pub reaches_back : (n : ℕ) (ss ts : List Seen) → Reaches n ts → Reaches n (ss ++ ts)
reaches_back n [] ts r = r
reaches_back n (s ∷ ss) ts r = inr (reaches_back n ss ts r)

-- at most so many constructs are open at each
abbrev pub AllBelow : ℕ → List Seen → Type 0
AllBelow most [] = Unit {0}
AllBelow most (s ∷ ss) = (s.constructs ≤ most) × AllBelow most ss

pub below_reaches : (n most : ℕ) (ss : List Seen) → Reaches n ss → AllBelow most ss → n ≤ most
below_reaches n most [] r h = le_trans r (omega arith)
below_reaches n most (s ∷ ss) (inl a) h = le_trans a h.0
below_reaches n most (s ∷ ss) (inr b) h = below_reaches n most ss b h.1

-- the token is of this form, with n constructs open
abbrev pub Shows : ℕ → Form → Token → Type 0
Shows n f t = IsOneOf (up n f) (seen_of t n ∷ [])

-- marks that open no constructs
abbrev pub AreFlat : List Mark → Type 0
AreFlat [] = Unit {0}
AreFlat (m ∷ ms) = (m.constructs ≡ 0) × AreFlat ms

abbrev pub IsFlat : Form → Type 0
IsFlat [] = Unit {0}
IsFlat (ms ∷ f) = AreFlat ms × IsFlat f

flat_marks : (n : ℕ) (t : Token) (ms : List Mark) → AreFlat ms → Spells ms (piece t ∷ []) → AreOf (map (deeper_mark n) ms) (seen_of t n ∷ [])
flat_marks n t [] z h = absurd (nothing h)
  where
    IsNone : List Piece → Type 0
    IsNone [] = Unit {0}
    IsNone (q ∷ qs) = ⊥

    nothing : piece t ∷ [] ≡ [] → ⊥
    nothing e = subst IsNone (sym e) tt
flat_marks n t (m ∷ []) z h =
    (seen_of t n, [], refl, record { wanted = subst (IsWanted m.want m.unbroken) (head_is (h.2 ∙ ap (λ (y : List Piece). h.0 ∷ y) h.4)) h.3; constructs = sym (ap (λ (c : ℕ). n + c) z.0 ∙ add-zero n) }, refl)
  where
    first : Piece → List Piece → Piece
    first q [] = q
    first q (x ∷ xs) = x

    head_is : piece t ∷ [] ≡ h.0 ∷ [] → h.0 ≡ piece t
    head_is e = sym (ap (first h.0) e)
flat_marks n t (m ∷ k ∷ ms) z h = absurd (too_long (h.2 ∙ ap (λ (y : List Piece). h.0 ∷ y) h.4.2))
  where
    IsOne : List Piece → Type 0
    IsOne (q ∷ []) = Unit {0}
    IsOne _ = ⊥

    too_long : piece t ∷ [] ≡ h.0 ∷ h.4.0 ∷ h.4.1 → ⊥
    too_long e = subst IsOne e tt

pub shows : (n : ℕ) (f : Form) (t : Token) → IsFlat f → Showing f t → Shows n f t
shows n [] t z h = h
shows n (ms ∷ f) t z h = elim h [
  | inl a ↦ inl (flat_marks n t ms z.0 a)
  | inr b ↦ inr (shows n f t z.1 b)
]

pub shows_just : (n : ℕ) (t : Token) (k : TokenKind) → t.kind ≡ k → is_end k ≡ false → Shows n (one (mark (Just k))) t
shows_just n t k e h = shows n (one (mark (Just k))) t ((refl, tt), tt) (showing_just t k e h)

pub shows_sign : (n : ℕ) (x : Punctuator) (t : Token) → t.kind ≡ tok.Punctuator x → Shows n (just x) t
shows_sign n x t e = shows_just n t (tok.Punctuator x) e refl

pub shows_line_sign : (n : ℕ) (x : Punctuator) (t : Token) → t.kind ≡ tok.Punctuator x → t.after_line_end ≡ false → Shows n (one (unbroken (sign x))) t
shows_line_sign n x t e l = shows n (one (unbroken (sign x))) t ((refl, tt), tt) (showing_line_sign x t e l)

pub shows_word : (n : ℕ) (x : Reserved) (t : Token) → t.kind ≡ tok.Reserved x → Shows n (reserved x) t
shows_word n x t e = shows_just n t (tok.Reserved x) e refl

pub shows_line_word : (n : ℕ) (x : Reserved) (t : Token) → t.kind ≡ tok.Reserved x → t.after_line_end ≡ false → Shows n (one (unbroken (word x))) t
shows_line_word n x t e l = shows n (one (unbroken (word x))) t ((refl, tt), tt) (showing_line_word x t e l)

pub shows_at : (n : ℕ) (t : Token) (k : TokenKind) → t.kind ≡ k → is_end k ≡ false → Shows n (one (mark (At t.place k))) t
shows_at n t k e h = shows n (one (mark (At t.place k))) t ((refl, tt), tt) (showing_at t k e h)

pub shows_line_at : (n : ℕ) (t : Token) (k : TokenKind) → t.kind ≡ k → is_end k ≡ false → t.after_line_end ≡ false → Shows n (one (unbroken (mark (At t.place k)))) t
shows_line_at n t k e h l = shows n (one (unbroken (mark (At t.place k)))) t ((refl, tt), tt) (showing_line_at t k e h l)

pub shows_end : (n : ℕ) (t : Token) (k : TokenKind) → t.kind ≡ k → ends_statement false k ≡ true → Shows n end t
shows_end n t k e h = shows n end t ((refl, tt), ((refl, tt), tt)) (showing_end t k e h)

pub key_flat : (k : Key) → IsFlat (key k)
key_flat (keys.Name n) = ((refl, tt), ((refl, tt), tt))
key_flat (keys.Text u) = ((refl, tt), tt)
key_flat (keys.Number n) = ((refl, tt), tt)

-- ---- what was read grows

-- m constructs are open at the piece between a state with l open and one with n open
pub record Between (l m n : ℕ) : Type 0 where
  pub above : n ≤ m
  pub below : (most : ℕ) → l ≤ most → n ≤ most → m ≤ most

pub at_open : (l m : ℕ) → Between l m m
at_open l m = record { above = le_refl m; below = λ most a b. b }

pub at_close : (l m n : ℕ) → n ≤ m → m ≤ l → Between l m n
at_close l m n h k = record { above = h; below = λ most a b. le_trans k a }

pub record Added (l : ℕ) (ss : List Seen) (t : Token) (b : List Form) (n : ℕ) : Type 0 where
  pub constructs : ℕ
  pub matches : Matches b (ss ++ seen_of t constructs ∷ [])
  pub above : Reaches n (ss ++ seen_of t constructs ∷ [])
  pub below : (most : ℕ) → AllBelow most ss → l ≤ most → n ≤ most → constructs ≤ most

-- l constructs are open before the token, and n behind it
pub record Adds (l : ℕ) (a : List Form) (t : Token) (b : List Form) (n : ℕ) : Type 0 where
  pub adds : (ss : List Seen) → Matches a ss → Added l ss t b n

-- the token comes, and the state that it leads to has read it too
abbrev pub Grows : ℕ → List Form → Token → Step → Type 0
Grows l a t (Ok n) = Adds l a t (spelled n) (level n)
Grows l a t (Err k) = Unit {0}

pub adds_form : (l n : ℕ) (a : List Form) (m : ℕ) (f : Form) (t : Token) → Between l m n → Shows m f t → Adds l a t (a ++ up m f ∷ []) n
adds_form l n a m f t w o = record {
  adds = λ ss h. record {
    constructs = m;
    matches = matches_append a (up m f ∷ []) ss (seen_of t m ∷ []) h (seen_of t m ∷ [], [], refl, o, refl);
    above = reaches_last n ss (seen_of t m) w.above;
    below = λ most all a b. w.below most a b;
  };
}

-- so many constructs are open there by what was read
abbrev pub Known : ℕ → List Form → ℕ → Type 0
Known l a m = (ss : List Seen) → Matches a ss → (most : ℕ) → AllBelow most ss → l ≤ most → m ≤ most

pub adds_known : (l n : ℕ) (a : List Form) (m : ℕ) (f : Form) (t : Token) → n ≤ m → Known l a m → Shows m f t → Adds l a t (a ++ up m f ∷ []) n
adds_known l n a m f t w k o = record {
  adds = λ ss h. record {
    constructs = m;
    matches = matches_append a (up m f ∷ []) ss (seen_of t m ∷ []) h (seen_of t m ∷ [], [], refl, o, refl);
    above = reaches_last n ss (seen_of t m) w;
    below = λ most all a b. k ss h most all a;
  };
}

pub adds_to : (l n : ℕ) (a : List Form) (t : Token) (b c : List Form) → Adds l a t b n → Covers b c → Adds l a t c n
adds_to l n a t b c h w = record {
  adds = λ ss k.
      let r : Added l ss t b n = h.adds ss k in
      record { constructs = r.constructs; matches = w.covers (ss ++ seen_of t r.constructs ∷ []) r.matches; above = r.above; below = r.below };
}

pub adds_from : (l n : ℕ) (a b : List Form) (t : Token) (c : List Form) → Covers a b → Adds l b t c n → Adds l a t c n
adds_from l n a b t c w h = record { adds = λ ss k. h.adds ss (w.covers ss k) }

adds_lower : (l k n : ℕ) (a : List Form) (t : Token) (b : List Form) → k ≤ l → Adds k a t b n → Adds l a t b n
adds_lower l k n a t b w h = record {
  adds = λ ss m.
      let r : Added k ss t b n = h.adds ss m in
      record { constructs = r.constructs; matches = r.matches; above = r.above; below = λ most all x y. r.below most all (le_trans w x) y };
}

pub grows_lower : (l k : ℕ) (a : List Form) (t : Token) (x : Step) → k ≤ l → Grows k a t x → Grows l a t x
grows_lower l k a t (Ok n) w h = adds_lower l k (level n) a t (spelled n) w h
grows_lower l k a t (Err e) w h = tt

pub grows_cond : (l : ℕ) (a : List Form) (t : Token) (b : Bool) (x y : Step) → (b ≡ true → Grows l a t x) → (b ≡ false → Grows l a t y) → Grows l a t (cond b x y)
grows_cond l a t true x y h k = h refl
grows_cond l a t false x y h k = k refl

pub grows_from : (l : ℕ) (a b : List Form) (t : Token) (x : Step) → Covers a b → Grows l b t x → Grows l a t x
grows_from l a b t (Ok n) w h = adds_from l (level n) a b t (spelled n) w h
grows_from l a b t (Err k) w h = tt

pub grows_same : (l : ℕ) (a b : List Form) (t : Token) (x : Step) → a ≡ b → Grows l b t x → Grows l a t x
grows_same l a b t x e h = subst (λ (z : List Form). Grows l z t x) (sym e) h

-- what no pieces match grows to anything
pub adds_none : (l n : ℕ) (a : List Form) (t : Token) (b : List Form) → Covers a unread → Adds l a t b n
adds_none l n a t b c = record { adds = λ ss h. absurd (c.covers ss h).3 }

pub grows_none : (l : ℕ) (a : List Form) (t : Token) (x : Step) → Covers a unread → Grows l a t x
grows_none l a t (Ok n) c = adds_none l (level n) a t (spelled n) c
grows_none l a t (Err k) c = tt

-- within the frames
pub adds_in : (l n : ℕ) (is : List Item) (fs : List Open) (r y : List Form) (m : ℕ) (f : Form) (t : Token) → Between l m n → Filled r → Within (r ++ up m f ∷ []) y → Shows m f t
    → Adds l (whole_items is ++ spell fs r) t (whole_items is ++ spell fs y) n
adds_in l n is fs r y m f t b s w o =
    adds_to l n (whole_items is ++ spell fs r) t ((whole_items is ++ spell fs r) ++ up m f ∷ []) (whole_items is ++ spell fs y) (adds_form l n _ m f t b o)
    (covers_trans _ (whole_items is ++ spell fs (r ++ up m f ∷ [])) _
    (covers_same _ _ (append_assoc (whole_items is) (spell fs r) (up m f ∷ []) ∙ ap (λ (z : List Form). whole_items is ++ z) (sym (spell_append fs r (up m f ∷ []) s))))
    (covers_behind (whole_items is) _ _ (spell_within fs (r ++ up m f ∷ []) y w).all))

pub adds_known_in : (l n : ℕ) (is : List Item) (fs : List Open) (r y : List Form) (m : ℕ) (f : Form) (t : Token) → n ≤ m → Known l (whole_items is ++ spell fs r) m → Filled r → r ++ up m f ∷ [] ≡ y → Shows m f t
    → Adds l (whole_items is ++ spell fs r) t (whole_items is ++ spell fs y) n
adds_known_in l n is fs r y m f t b k s e o =
    adds_to l n (whole_items is ++ spell fs r) t ((whole_items is ++ spell fs r) ++ up m f ∷ []) (whole_items is ++ spell fs y) (adds_known l n _ m f t b k o)
    (covers_same _ _ (append_assoc (whole_items is) (spell fs r) (up m f ∷ []) ∙ ap (λ (z : List Form). whole_items is ++ z) (sym (spell_append fs r (up m f ∷ []) s) ∙ ap (spell fs) e)))

pub adds_same : (l n : ℕ) (is : List Item) (fs : List Open) (r y : List Form) (m : ℕ) (f : Form) (t : Token) → Between l m n → Filled r → r ++ up m f ∷ [] ≡ y → Shows m f t
    → Adds l (whole_items is ++ spell fs r) t (whole_items is ++ spell fs y) n
adds_same l n is fs r y m f t b s e o = adds_in l n is fs r y m f t b s (within_same _ _ e) o

-- ---- where an operand begins

-- a token that may stand behind a line end comes into the innermost frame
pub record Opens (l : ℕ) (a : List Form) (is : List Item) (fs : List Open) (t : Token) : Type 0 where
  pub opens : (n m : ℕ) (w : Want) → Between l m n → IsWanted w false (piece t) → Adds l a t (whole_items is ++ spell fs (up m (one (mark w)) ∷ [])) n

shows_mark : (m : ℕ) (u : Bool) (w : Want) (t : Token) → IsWanted w u (piece t) → IsOneOf (up m (one (record { want = w; unbroken = u; constructs = 0 }))) (seen_of t m ∷ [])
shows_mark m u w t h = inl (seen_of t m, [], refl, record { wanted = h; constructs = sym (add-zero m) }, refl)

pub opens_enters : (l : ℕ) (a : List Form) (is : List Item) (b : List Form) (fs : List Open) (t : Token) → Covers a (whole_items is ++ b) → Enters b fs → Opens l a is fs t
opens_enters l a is b fs t c e = record {
  opens = λ n m w k h.
      adds_from l n a (whole_items is ++ b) t _ c
      (adds_to l n _ t _ _ (adds_form l n (whole_items is ++ b) m (one (mark w)) t k (shows_mark m false w t h)) (enters_behind (whole_items is) b fs (up m (one (mark w)) ∷ []) e));
}

pub opens_frame : (l : ℕ) (is : List Item) (fs : List Open) (c : List Form) (f : Open) (t : Token) → Filled c → c ≡ front fs f.frame → is_line f.frame ≡ false → Opens l (whole_items is ++ spell fs c) is (f ∷ fs) t
opens_frame l is fs c f t s e q = opens_enters l _ is (spell fs c) (f ∷ fs) t (covers_same _ _ refl) (enters_front fs c f s e q)

-- behind `return` and `throw`
pub opens_line : (l : ℕ) (is : List Item) (fs : List Open) (f : Open) (t : Token) → Filled (front fs f.frame) → is_line f.frame ≡ true → t.after_line_end ≡ false → Opens l (whole_items is ++ spell fs (front fs f.frame)) is (f ∷ fs) t
opens_line l is fs f t s e q = record {
  opens = λ n m w k h.
      subst (λ (b : Bool). Adds l (whole_items is ++ spell fs (front fs f.frame)) t (whole_items is ++ spell fs (lined b (front fs f.frame) (up m (one (mark w)) ∷ []))) n) (sym e)
      (adds_in l n is fs (front fs f.frame) (front fs f.frame ++ up m (one (unbroken (mark w))) ∷ []) m (one (unbroken (mark w))) t k s (within_same _ _ refl) (shows_mark m true w t (want_line w t t.kind q h)));
}

pub opened_as : (l n : ℕ) (a : List Form) (is : List Item) (fs : List Open) (t : Token) (m : ℕ) (w : Want) (y : List Form) → Between l m n → Opens l a is fs t → IsWanted w false (piece t) → up m (one (mark w)) ∷ [] ≡ y → Adds l a t (whole_items is ++ spell fs y) n
opened_as l n a is fs t m w y b o h e = subst (λ (z : List Form). Adds l a t (whole_items is ++ spell fs z) n) e (o.opens n m w b h)
