-- Pieces that match forms tell how many constructs are open at each, where the forms are of one length, or told apart by a piece.
use Rattle.std.proofs.Common.{◌≡◌, ℕ, ◌+◌, Bool, true, false, List, [], ◌∷◌, ◌++◌, ◌⊎◌, map, refl, sym, ap, ap₂, ◌∙◌, subst, append_assoc, append-nil, inl, inr}
use Rattle.js_lex.specs.declared.token.Punctuator.{Punctuator}
use Rattle.js_lex.specs.declared.token.Punctuator.TheVariants as p
use Rattle.js_lex.specs.declared.token.TokenKind.{TokenKind}
use Rattle.js_lex.specs.declared.token.TokenKind.TheVariants as tok
use Rattle.js_grammar.specs.Marks.{Piece, Read, Ended, Seen, Want, Just, At, Auto, Mark, Form, IsWanted, AreOf, IsOneOf, Matches, mark, sign, one, just, end, maybe, deeper_mark, deeper, first_unbroken, on_one_line, enclosed, more, separated, listed}
use Rattle.js_grammar.specs.Script.{pieces}
use Rattle.js_parse_core.proofs.PieceLemmas.{pieces_append}

-- the counts are those of the pieces, whatever follows
pub record Unique (fs : List Form) : Type 0 where
  pub same : (a b : List Seen) (x y : List Piece) → Matches fs a → Matches fs b → pieces a ++ x ≡ pieces b ++ y → a ≡ b

-- ---- lists

pub pieces_behind : (a b : List Seen) (x : List Piece) → pieces (a ++ b) ++ x ≡ pieces a ++ (pieces b ++ x)
pieces_behind a b x = ap (λ (z : List Piece). z ++ x) (pieces_append a b) ∙ append_assoc (pieces a) (pieces b) x

pub first_same : (p q : Piece) (x y : List Piece) → p ∷ x ≡ q ∷ y → p ≡ q
first_same p q x y e = cc

pub rest_same : (p q : Piece) (x y : List Piece) → p ∷ x ≡ q ∷ y → x ≡ y
rest_same p q x y e = cc

pub cancel : (a x y : List Piece) → a ++ x ≡ a ++ y → x ≡ y
cancel [] x y e = e
cancel (p ∷ a) x y e = cancel a x y (rest_same p p (a ++ x) (a ++ y) e)

seen_same : (s t : Seen) → s.piece ≡ t.piece → s.constructs ≡ t.constructs → s ≡ t
seen_same s t p n = ap₂ (λ (q : Piece) (c : ℕ). let r : Seen = record { piece = q; constructs = c } in r) p n

-- ---- marks

marks_same : (ms : List Mark) (a b : List Seen) (x y : List Piece) → AreOf ms a → AreOf ms b → pieces a ++ x ≡ pieces b ++ y → a ≡ b
marks_same [] a b x y h k e = h ∙ sym k
marks_same (m ∷ ms) a b x y (s, r, i, o, h) (t, u, j, q, k) e =
    let e2 : s.piece ∷ (pieces r ++ x) ≡ t.piece ∷ (pieces u ++ y) = sym (ap (λ (z : List Seen). pieces z ++ x) i) ∙ e ∙ ap (λ (z : List Seen). pieces z ++ y) j in
    let first : s ≡ t = seen_same s t (first_same s.piece t.piece (pieces r ++ x) (pieces u ++ y) e2) (o.constructs ∙ sym q.constructs) in
    let rest : r ≡ u = marks_same ms r u x y h k (rest_same s.piece t.piece (pieces r ++ x) (pieces u ++ y) e2) in
    i ∙ ap₂ (λ (z : Seen) (zs : List Seen). z ∷ zs) first rest ∙ sym j

-- no piece is of both
pub record Differ (m k : Mark) : Type 0 where
  pub never : (q : Piece) → IsWanted m.want m.unbroken q → IsWanted k.want k.unbroken q → ⊥

-- marks at one place differ
abbrev pub Apart : List Mark → List Mark → Type 0
Apart [] ks = ⊥
Apart (m ∷ ms) [] = ⊥
Apart (m ∷ ms) (k ∷ ks) = Differ m k ⊎ Apart ms ks

apart_never : (ms ks : List Mark) (a b : List Seen) (x y : List Piece) → Apart ms ks → AreOf ms a → AreOf ks b → pieces a ++ x ≡ pieces b ++ y → ⊥
apart_never [] ks a b x y d h k e = d
apart_never (m ∷ ms) [] a b x y d h k e = d
apart_never (m ∷ ms) (n ∷ ks) a b x y d (s, r, i, o, h) (t, u, j, q, k) e =
    let e2 : s.piece ∷ (pieces r ++ x) ≡ t.piece ∷ (pieces u ++ y) = sym (ap (λ (z : List Seen). pieces z ++ x) i) ∙ e ∙ ap (λ (z : List Seen). pieces z ++ y) j in
    elim d [
      | inl f ↦ f.never t.piece (subst (λ (z : Piece). IsWanted m.want m.unbroken z) (first_same s.piece t.piece (pieces r ++ x) (pieces u ++ y) e2) o.wanted) q.wanted
      | inr g ↦ apart_never ms ks r u x y g h k (rest_same s.piece t.piece (pieces r ++ x) (pieces u ++ y) e2)
    ]

abbrev pub AllApart : List Mark → Form → Type 0
AllApart ms [] = Unit {0}
AllApart ms (ks ∷ f) = Apart ms ks × AllApart ms f

-- at most one of these is what the pieces are
abbrev pub Choice : Form → Type 0
Choice [] = Unit {0}
Choice (ms ∷ f) = AllApart ms f × Choice f

all_apart : (ms : List Mark) (f : Form) (a b : List Seen) (x y : List Piece) → AllApart ms f → AreOf ms a → IsOneOf f b → pieces a ++ x ≡ pieces b ++ y → ⊥
all_apart ms [] a b x y d h k e = k
all_apart ms (ks ∷ f) a b x y d h k e = elim k [
  | inl c ↦ apart_never ms ks a b x y d.0 h c e
  | inr c ↦ all_apart ms f a b x y d.1 h c e
]

form_same : (f : Form) (a b : List Seen) (x y : List Piece) → Choice f → IsOneOf f a → IsOneOf f b → pieces a ++ x ≡ pieces b ++ y → a ≡ b
form_same [] a b x y d h k e = absurd h
form_same (ms ∷ f) a b x y d h k e = elim h [
  | inl c ↦ elim k [
    | inl g ↦ marks_same ms a b x y c g e
    | inr g ↦ absurd (all_apart ms f a b x y d.0 c g e)
  ]
  | inr c ↦ elim k [
    | inl g ↦ absurd (all_apart ms f b a y x d.0 g c (sym e))
    | inr g ↦ form_same f a b x y d.1 c g e
  ]
]

-- ---- forms

pub record Parted (fs gs : List Form) (a : List Seen) : Type 0 where
  pub front : List Seen
  pub back : List Seen
  pub parts : a ≡ front ++ back
  pub is_front : Matches fs front
  pub is_back : Matches gs back

pub parted : (fs gs : List Form) (a : List Seen) → Matches (fs ++ gs) a → Parted fs gs a
parted [] gs a h = record { front = []; back = a; parts = refl; is_front = refl; is_back = h }
parted (f ∷ fs) gs a h =
    let r : Parted fs gs h.1 = parted fs gs h.1 h.4 in
    record {
      front = h.0 ++ r.front;
      back = r.back;
      parts = h.2 ∙ ap (λ (z : List Seen). h.0 ++ z) r.parts ∙ sym (append_assoc h.0 r.front r.back);
      is_front = (h.0, r.front, refl, h.3, r.is_front);
      is_back = r.is_back;
    }

pub unique_none : Unique []
unique_none = record { same = λ a b x y h k e. h ∙ sym k }

pub unique_form : (f : Form) → Choice f → Unique (f ∷ [])
unique_form f d = record {
  same = λ a b x y h k e.
      let i : a ≡ h.0 = h.2 ∙ ap (λ (z : List Seen). h.0 ++ z) h.4 ∙ append-nil h.0 in
      let j : b ≡ k.0 = k.2 ∙ ap (λ (z : List Seen). k.0 ++ z) k.4 ∙ append-nil k.0 in
      i ∙ form_same f h.0 k.0 x y d h.3 k.3 (sym (ap (λ (z : List Seen). pieces z ++ x) i) ∙ e ∙ ap (λ (z : List Seen). pieces z ++ y) j) ∙ sym j;
}

pub unique_append : (fs gs : List Form) → Unique fs → Unique gs → Unique (fs ++ gs)
unique_append fs gs u v = record {
  same = λ a b x y h k e.
      let r : Parted fs gs a = parted fs gs a h in
      let s : Parted fs gs b = parted fs gs b k in
      let e2 : pieces r.front ++ (pieces r.back ++ x) ≡ pieces s.front ++ (pieces s.back ++ y) =
      sym (pieces_behind r.front r.back x) ∙ sym (ap (λ (z : List Seen). pieces z ++ x) r.parts) ∙ e ∙ ap (λ (z : List Seen). pieces z ++ y) s.parts ∙ pieces_behind s.front s.back y in
      let i : r.front ≡ s.front = u.same r.front s.front (pieces r.back ++ x) (pieces s.back ++ y) r.is_front s.is_front e2 in
      let e3 : pieces r.back ++ x ≡ pieces s.back ++ y = cancel (pieces s.front) (pieces r.back ++ x) (pieces s.back ++ y) (subst (λ (z : List Seen). pieces z ++ (pieces r.back ++ x) ≡ pieces s.front ++ (pieces s.back ++ y)) i e2) in
      r.parts ∙ ap₂ (λ (z w : List Seen). z ++ w) i (v.same r.back s.back x y r.is_back s.is_back e3) ∙ sym s.parts;
}

pub unique_then : (f : Form) (gs : List Form) → Choice f → Unique gs → Unique (f ∷ gs)
unique_then f gs d v = unique_append (f ∷ []) gs (unique_form f d) v

-- what matches the first matches the second
pub record Narrows (fs gs : List Form) : Type 0 where
  pub narrows : (a : List Seen) → Matches fs a → Matches gs a

pub unique_narrower : (fs gs : List Form) → Narrows fs gs → Unique gs → Unique fs
unique_narrower fs gs n u = record { same = λ a b x y h k e. u.same a b x y (n.narrows a h) (n.narrows b k) e }

pub unique_as : (fs gs : List Form) → fs ≡ gs → Unique gs → Unique fs
unique_as fs gs e u = subst Unique (sym e) u

-- ---- with more constructs open

abbrev pub raise : ℕ → Seen → Seen
raise n s = record { piece = s.piece; constructs = n + s.constructs }

raised_pieces : (n : ℕ) (a : List Seen) → pieces (map (raise n) a) ≡ pieces a
raised_pieces n [] = refl
raised_pieces n (s ∷ a) = ap (λ (z : List Piece). s.piece ∷ z) (raised_pieces n a)

raised_append : (n : ℕ) (a b : List Seen) → map (raise n) (a ++ b) ≡ map (raise n) a ++ map (raise n) b
raised_append n [] b = refl
raised_append n (s ∷ a) b = ap (λ (z : List Seen). raise n s ∷ z) (raised_append n a b)

-- what matched before, and the counts raised
pub record Raised (n : ℕ) (P : List Seen → Type 0) (a : List Seen) : Type 0 where
  pub low : List Seen
  pub are : a ≡ map (raise n) low
  pub is : P low

marks_low : (n : ℕ) (ms : List Mark) (a : List Seen) → AreOf (map (deeper_mark n) ms) a → Raised n (AreOf ms) a
marks_low n [] a h = record { low = []; are = h; is = refl }
marks_low n (m ∷ ms) a (s, r, i, o, h) =
    let l : Raised n (AreOf ms) r = marks_low n ms r h in
    let first : Seen = record { piece = s.piece; constructs = m.constructs } in
    record {
      low = first ∷ l.low;
      are = i ∙ ap₂ (λ (z : Seen) (zs : List Seen). z ∷ zs) (seen_same s (raise n first) refl o.constructs) l.are;
      is = (first, l.low, refl, record { wanted = o.wanted; constructs = refl }, l.is);
    }

form_low : (n : ℕ) (f : Form) (a : List Seen) → IsOneOf (map (map (deeper_mark n)) f) a → Raised n (IsOneOf f) a
form_low n [] a h = absurd h
form_low n (ms ∷ f) a h = elim h [
  | inl c ↦ (let l : Raised n (AreOf ms) a = marks_low n ms a c in record { low = l.low; are = l.are; is = inl l.is })
  | inr c ↦ (let l : Raised n (IsOneOf f) a = form_low n f a c in record { low = l.low; are = l.are; is = inr l.is })
]

pub forms_low : (n : ℕ) (fs : List Form) (a : List Seen) → Matches (deeper n fs) a → Raised n (Matches fs) a
forms_low n [] a h = record { low = []; are = h; is = refl }
forms_low n (f ∷ fs) a h =
    let l : Raised n (IsOneOf f) h.0 = form_low n f h.0 h.3 in
    let r : Raised n (Matches fs) h.1 = forms_low n fs h.1 h.4 in
    record {
      low = l.low ++ r.low;
      are = h.2 ∙ ap₂ (λ (z w : List Seen). z ++ w) l.are r.are ∙ sym (raised_append n l.low r.low);
      is = (l.low, r.low, refl, l.is, r.is);
    }

pub low_pieces : (n : ℕ) (fs : List Form) (a : List Seen) (r : Raised n (Matches fs) a) → pieces a ≡ pieces r.low
low_pieces n fs a r = ap pieces r.are ∙ raised_pieces n r.low

pub unique_deeper : (n : ℕ) (fs : List Form) → Unique fs → Unique (deeper n fs)
unique_deeper n fs u = record {
  same = λ a b x y h k e.
      let r : Raised n (Matches fs) a = forms_low n fs a h in
      let s : Raised n (Matches fs) b = forms_low n fs b k in
      let e2 : pieces r.low ++ x ≡ pieces s.low ++ y =
      sym (ap (λ (z : List Piece). z ++ x) (low_pieces n fs a r)) ∙ e ∙ ap (λ (z : List Piece). z ++ y) (low_pieces n fs b s) in
      r.are ∙ ap (λ (z : List Seen). map (raise n) z) (u.same r.low s.low x y r.is s.is e2) ∙ sym s.are;
}

-- ---- on one line

wanted_anywhere : (w : Want) (u : Bool) (q : Piece) → IsWanted w true q → IsWanted w u q
wanted_anywhere w true q h = h
wanted_anywhere (Just k) false (Read t) h = (h.0, tt)
wanted_anywhere (At p k) false (Read t) h = (h.0, h.1, tt)
wanted_anywhere Auto false Ended h = tt
wanted_anywhere (Just k) false Ended h = h
wanted_anywhere (At p k) false Ended h = h
wanted_anywhere Auto false (Read t) h = h

marks_anywhere : (ms : List Mark) (a : List Seen) → AreOf (first_unbroken ms) a → AreOf ms a
marks_anywhere [] a h = h
marks_anywhere (m ∷ ms) a (s, r, i, o, h) = (s, r, i, record { wanted = wanted_anywhere m.want m.unbroken s.piece o.wanted; constructs = o.constructs }, h)

form_anywhere : (f : Form) (a : List Seen) → IsOneOf (map first_unbroken f) a → IsOneOf f a
form_anywhere [] a h = h
form_anywhere (ms ∷ f) a h = elim h [
  | inl c ↦ inl (marks_anywhere ms a c)
  | inr c ↦ inr (form_anywhere f a c)
]

pub narrows_one_line : (fs : List Form) → Narrows (on_one_line fs) fs
narrows_one_line [] = record { narrows = λ a h. h }
narrows_one_line (f ∷ fs) = record { narrows = λ a h. (h.0, h.1, h.2, form_anywhere f h.0 h.3, h.4) }

pub unique_one_line : (fs : List Form) → Unique fs → Unique (on_one_line fs)
unique_one_line fs u = unique_narrower (on_one_line fs) fs (narrows_one_line fs) u

-- ---- a mark or nothing, before one that differs

one_are : (m : Mark) (a : List Seen) → Matches (one m ∷ []) a → AreOf (m ∷ []) a
one_are m a h =
    let i : a ≡ h.0 = h.2 ∙ ap (λ (z : List Seen). h.0 ++ z) h.4 ∙ append-nil h.0 in
    elim h.3 [
      | inl c ↦ subst (AreOf (m ∷ [])) (sym i) c
      | inr c ↦ absurd c
    ]

narrows_until : (m b : Mark) → Narrows (maybe m ∷ one b ∷ []) (((m ∷ b ∷ []) ∷ (b ∷ []) ∷ []) ∷ [])
narrows_until m b = record {
  narrows = λ a h.
      let k : AreOf (b ∷ []) h.1 = one_are b h.1 h.4 in
      elim h.3 [
        | inl c ↦ (a, [], sym (append-nil a), inl (c.0, h.1, h.2 ∙ ap (λ (z : List Seen). z ++ h.1) (c.2 ∙ ap (λ (z : List Seen). c.0 ∷ z) c.4), c.3, k), refl)
        | inr d ↦ elim d [
          | inl c ↦ (a, [], sym (append-nil a), inr (inl (subst (AreOf (b ∷ [])) (sym (h.2 ∙ ap (λ (z : List Seen). z ++ h.1) c)) k)), refl)
          | inr c ↦ absurd c
        ]
      ];
}

pub unique_until : (m b : Mark) → Differ m b → Unique (maybe m ∷ one b ∷ [])
unique_until m b d = unique_narrower (maybe m ∷ one b ∷ []) (((m ∷ b ∷ []) ∷ (b ∷ []) ∷ []) ∷ []) (narrows_until m b) (unique_form ((m ∷ b ∷ []) ∷ (b ∷ []) ∷ []) ((inl d, tt), (tt, tt)))

-- ---- lists

abbrev pub AllUnique : List (List Form) → Type 0
AllUnique [] = Unit {0}
AllUnique (fs ∷ rest) = Unique fs × AllUnique rest

pub unique_one : (m : Mark) (gs : List Form) → Unique gs → Unique (one m ∷ gs)
unique_one m gs u = unique_then (one m) gs (tt, tt) u

pub unique_only : (m : Mark) → Unique (one m ∷ [])
unique_only m = unique_form (one m) (tt, tt)

pub unique_more : (xs : List (List Form)) → AllUnique xs → Unique (more xs)
unique_more [] u = unique_none
unique_more (fs ∷ rest) u = unique_one (sign p.Comma) (fs ++ more rest) (unique_append fs (more rest) u.0 (unique_more rest u.1))

pub unique_separated : (xs : List (List Form)) → AllUnique xs → Unique (separated xs)
unique_separated [] u = unique_none
unique_separated (fs ∷ rest) u = unique_append fs (more rest) u.0 (unique_more rest u.1)

-- the next mark tells whether a comma stands behind the last
pub unique_listed : (xs : List (List Form)) (b : Mark) → Differ (sign p.Comma) b → AllUnique xs → Unique (listed xs ++ one b ∷ [])
unique_listed [] b d u = unique_only b
unique_listed (fs ∷ rest) b d u =
    unique_as (((fs ++ more rest) ++ maybe (sign p.Comma) ∷ []) ++ one b ∷ []) ((fs ++ more rest) ++ (maybe (sign p.Comma) ∷ one b ∷ []))
    (append_assoc (fs ++ more rest) (maybe (sign p.Comma) ∷ []) (one b ∷ []))
    (unique_append (fs ++ more rest) (maybe (sign p.Comma) ∷ one b ∷ [])
    (unique_append fs (more rest) u.0 (unique_more rest u.1))
    (unique_until (sign p.Comma) b d))

-- ---- brackets

pub differ_kinds : (k l : TokenKind) → (k ≡ l → ⊥) → Differ (mark (Just k)) (mark (Just l))
differ_kinds k l d = record { never = by_piece }
  where
    by_piece : (q : Piece) → IsWanted (Just k) false q → IsWanted (Just l) false q → ⊥
    by_piece (Read t) h g = d (sym h.0 ∙ g.0)
    by_piece Ended h g = h

abbrev pub EndsList : Punctuator → Type 0
EndsList b = Differ (sign p.Comma) (sign b)

pub paren_ends : EndsList p.CloseParen
paren_ends = differ_kinds (tok.Punctuator p.Comma) (tok.Punctuator p.CloseParen) (λ e. cc)

pub bracket_ends : EndsList p.CloseBracket
bracket_ends = differ_kinds (tok.Punctuator p.Comma) (tok.Punctuator p.CloseBracket) (λ e. cc)

pub brace_ends : EndsList p.CloseBrace
brace_ends = differ_kinds (tok.Punctuator p.Comma) (tok.Punctuator p.CloseBrace) (λ e. cc)

pub unique_enclosed : (a : Punctuator) (fs : List Form) (b : Punctuator) → Unique fs → Unique (enclosed a fs b)
unique_enclosed a fs b u = unique_deeper 1 (just a ∷ (fs ++ just b ∷ [])) (unique_one (sign a) (fs ++ just b ∷ []) (unique_append fs (just b ∷ []) u (unique_only (sign b))))

pub unique_enclosed_listed : (a : Punctuator) (xs : List (List Form)) (b : Punctuator) → EndsList b → AllUnique xs → Unique (enclosed a (listed xs) b)
unique_enclosed_listed a xs b d u = unique_deeper 1 (just a ∷ (listed xs ++ just b ∷ [])) (unique_one (sign a) (listed xs ++ just b ∷ []) (unique_listed xs (sign b) d u))

-- ---- ends of statements

end_differs : Differ (sign p.Semicolon) (mark Auto)
end_differs = record { never = by_piece }
  where
    by_piece : (q : Piece) → IsWanted (Just (tok.Punctuator p.Semicolon)) false q → IsWanted Auto false q → ⊥
    by_piece (Read t) h g = g
    by_piece Ended h g = h

pub unique_end : Unique (end ∷ [])
unique_end = unique_form end ((inl end_differs, tt), (tt, tt))

-- ---- one of two marks, which one piece may both be

record Sole (c : ℕ) (a : List Seen) : Type 0 where
  only : Seen
  is : a ≡ only ∷ []
  constructs : only.constructs ≡ c

either_sole : (m k : Mark) → m.constructs ≡ k.constructs → (a : List Seen) → Matches (((m ∷ []) ∷ (k ∷ []) ∷ []) ∷ []) a → Sole m.constructs a
either_sole m k e a h = from h.3
  where
    whole : (z : List Seen) → h.0 ≡ z → a ≡ z
    whole z i = h.2 ∙ ap (λ (y : List Seen). h.0 ++ y) h.4 ∙ append-nil h.0 ∙ i

    from : IsOneOf ((m ∷ []) ∷ (k ∷ []) ∷ []) h.0 → Sole m.constructs a
    from (inl c) = record { only = c.0; is = whole _ (c.2 ∙ ap (λ (y : List Seen). c.0 ∷ y) c.4); constructs = c.3.constructs }
    from (inr (inl c)) = record { only = c.0; is = whole _ (c.2 ∙ ap (λ (y : List Seen). c.0 ∷ y) c.4); constructs = c.3.constructs ∙ sym e }
    from (inr (inr c)) = absurd c

pub unique_either : (m k : Mark) → m.constructs ≡ k.constructs → Unique (((m ∷ []) ∷ (k ∷ []) ∷ []) ∷ [])
unique_either m k e = record {
  same = λ a b x y h i p.
      let s : Sole m.constructs a = either_sole m k e a h in
      let t : Sole m.constructs b = either_sole m k e b i in
      let q : s.only.piece ∷ x ≡ t.only.piece ∷ y = sym (ap (λ (z : List Seen). pieces z ++ x) s.is) ∙ p ∙ ap (λ (z : List Seen). pieces z ++ y) t.is in
      s.is ∙ ap (λ (z : Seen). z ∷ []) (seen_same s.only t.only (first_same s.only.piece t.only.piece x y q) (s.constructs ∙ sym t.constructs)) ∙ sym t.is;
}
