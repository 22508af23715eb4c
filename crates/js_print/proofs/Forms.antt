-- The first alternative of a form: it is printable, and its text is one of the form.
use Rattle.std.proofs.Common.{◌≡◌, ◌⊎◌, ℕ, Bool, List, [], ◌∷◌, ◌++◌, map, refl, sym, ap, ◌∙◌, inl, inr, append_assoc}
use Rattle.js_lex.specs.declared.token.TokenKind.{TokenKind}
use Rattle.js_lex.specs.declared.token.TokenKind.TheVariants as tok
use Rattle.js_lex.specs.declared.token.Punctuator.{Punctuator}
use Rattle.js_grammar.specs.Marks.{Want, Just, At, Auto, Mark, Form, sign, one, deeper_mark, deeper, first_unbroken, on_one_line}
use Rattle.js_print.specs.Printed.{wanted, marked, first_of, plain}
use Rattle.js_print.proofs.Printable.{IsPrintable, read_as}
use Rattle.js_print.proofs.Lexed.{IsTold}

-- what a piece of some text told
abbrev pub WantTold : Want → Type 0
WantTold (Just k) = IsTold k
WantTold (At q k) = IsTold k
WantTold Auto = Unit {0}

abbrev pub MarksTold : List Mark → Type 0
MarksTold [] = Unit {0}
MarksTold (m ∷ ms) = WantTold m.want × MarksTold ms

abbrev pub SomeTold : Form → Type 0
SomeTold [] = ⊥
SomeTold (ms ∷ f) = MarksTold ms ⊎ SomeTold f

-- an alternative of one token of this kind
abbrev pub IsOfKind : TokenKind → Want → Type 0
IsOfKind k (Just j) = j ≡ k
IsOfKind k (At q j) = j ≡ k
IsOfKind k Auto = ⊥

abbrev pub IsSingle : TokenKind → List Mark → Type 0
IsSingle k [] = ⊥
IsSingle k (m ∷ []) = IsOfKind k m.want
IsSingle k (m ∷ n ∷ ms) = ⊥

abbrev pub HasOne : TokenKind → Form → Type 0
HasOne k [] = ⊥
HasOne k (ms ∷ f) = IsSingle k ms ⊎ HasOne k f

pub record Chosen (f : Form) : Type 0 where
  pub first : TokenKind
  pub is_first : first_of f ≡ first ∷ []
  pub printable : IsPrintable first
  pub has : HasOne (read_as first) f

pub record Good (f : Form) : Type 0 where
  pub chosen : SomeTold f → Chosen f

abbrev pub AllGood : List Form → Type 0
AllGood [] = Unit {0}
AllGood (f ∷ fs) = Good f × AllGood fs

-- ---- how many constructs are open does not matter

told_shallow : (n : ℕ) (ms : List Mark) → MarksTold (map (deeper_mark n) ms) → MarksTold ms
told_shallow n [] h = h
told_shallow n (m ∷ ms) h = (h.0, told_shallow n ms h.1)

some_shallow : (n : ℕ) (f : Form) → SomeTold (map (map (deeper_mark n)) f) → SomeTold f
some_shallow n [] h = h
some_shallow n (ms ∷ f) h = elim h [
  | inl a ↦ inl (told_shallow n ms a)
  | inr b ↦ inr (some_shallow n f b)
]

single_deeper : (n : ℕ) (k : TokenKind) (ms : List Mark) → IsSingle k ms → IsSingle k (map (deeper_mark n) ms)
single_deeper n k [] h = h
single_deeper n k (m ∷ []) h = h
single_deeper n k (m ∷ o ∷ ms) h = h

one_deeper : (n : ℕ) (k : TokenKind) (f : Form) → HasOne k f → HasOne k (map (map (deeper_mark n)) f)
one_deeper n k [] h = h
one_deeper n k (ms ∷ f) h = elim h [
  | inl a ↦ inl (single_deeper n k ms a)
  | inr b ↦ inr (one_deeper n k f b)
]

marked_deeper : (n : ℕ) (ms : List Mark) → marked (map (deeper_mark n) ms) ≡ marked ms
marked_deeper n [] = refl
marked_deeper n (m ∷ ms) = ap (λ (z : List TokenKind). wanted m.want ++ z) (marked_deeper n ms)

first_deeper : (n : ℕ) (f : Form) → first_of (map (map (deeper_mark n)) f) ≡ first_of f
first_deeper n [] = refl
first_deeper n (ms ∷ f) = marked_deeper n ms

good_deeper_form : (n : ℕ) (f : Form) → Good f → Good (map (map (deeper_mark n)) f)
good_deeper_form n f g = record {
  chosen = λ h.
      let c : Chosen f = g.chosen (some_shallow n f h) in
      record { first = c.first; is_first = first_deeper n f ∙ c.is_first; printable = c.printable; has = one_deeper n (read_as c.first) f c.has };
}

pub good_deeper : (n : ℕ) (fs : List Form) → AllGood fs → AllGood (deeper n fs)
good_deeper n [] g = tt
good_deeper n (f ∷ fs) g = (good_deeper_form n f g.0, good_deeper n fs g.1)

pub plain_deeper : (n : ℕ) (fs : List Form) → plain (deeper n fs) ≡ plain fs
plain_deeper n [] = refl
plain_deeper n (f ∷ fs) =
    ap (λ (z : List TokenKind). z ++ plain (deeper n fs)) (first_deeper n f) ∙ ap (λ (z : List TokenKind). first_of f ++ z) (plain_deeper n fs)

-- ---- .. nor whether a line end may stand before the first

told_broken : (ms : List Mark) → MarksTold (first_unbroken ms) → MarksTold ms
told_broken [] h = h
told_broken (m ∷ ms) h = h

some_broken : (f : Form) → SomeTold (map first_unbroken f) → SomeTold f
some_broken [] h = h
some_broken (ms ∷ f) h = elim h [
  | inl a ↦ inl (told_broken ms a)
  | inr b ↦ inr (some_broken f b)
]

single_unbroken : (k : TokenKind) (ms : List Mark) → IsSingle k ms → IsSingle k (first_unbroken ms)
single_unbroken k [] h = h
single_unbroken k (m ∷ []) h = h
single_unbroken k (m ∷ o ∷ ms) h = h

one_unbroken : (k : TokenKind) (f : Form) → HasOne k f → HasOne k (map first_unbroken f)
one_unbroken k [] h = h
one_unbroken k (ms ∷ f) h = elim h [
  | inl a ↦ inl (single_unbroken k ms a)
  | inr b ↦ inr (one_unbroken k f b)
]

marked_unbroken : (ms : List Mark) → marked (first_unbroken ms) ≡ marked ms
marked_unbroken [] = refl
marked_unbroken (m ∷ ms) = refl

first_of_unbroken : (f : Form) → first_of (map first_unbroken f) ≡ first_of f
first_of_unbroken [] = refl
first_of_unbroken (ms ∷ f) = marked_unbroken ms

pub good_one_line : (fs : List Form) → AllGood fs → AllGood (on_one_line fs)
good_one_line [] g = tt
good_one_line (f ∷ fs) g = (
  record {
    chosen = λ h.
        let c : Chosen f = g.0.chosen (some_broken f h) in
        record { first = c.first; is_first = first_of_unbroken f ∙ c.is_first; printable = c.printable; has = one_unbroken (read_as c.first) f c.has };
  },
  g.1,
)

pub plain_one_line : (fs : List Form) → plain (on_one_line fs) ≡ plain fs
plain_one_line [] = refl
plain_one_line (f ∷ fs) = ap (λ (z : List TokenKind). z ++ plain fs) (first_of_unbroken f)

-- ---- one behind the other

pub good_append : (fs gs : List Form) → AllGood fs → AllGood gs → AllGood (fs ++ gs)
good_append [] gs a b = b
good_append (f ∷ fs) gs a b = (a.0, good_append fs gs a.1 b)

pub plain_append : (fs gs : List Form) → plain (fs ++ gs) ≡ plain fs ++ plain gs
plain_append [] gs = refl
plain_append (f ∷ fs) gs = ap (λ (z : List TokenKind). first_of f ++ z) (plain_append fs gs) ∙ sym (append_assoc (first_of f) (plain fs) (plain gs))

-- ---- single forms

-- one mark
pub good_kind : (k : TokenKind) (u : Bool) (c : ℕ) → Good (one (record { want = Just k; unbroken = u; constructs = c }))
good_kind k u c = record {
  chosen = λ h. elim h [
    | inl a ↦ record { first = k; is_first = refl; printable = a.0.printable; has = inl (sym a.0.same) }
    | inr b ↦ absurd b
  ];
}

pub good_at : (q : ℕ) (k : TokenKind) (u : Bool) (c : ℕ) → Good (one (record { want = At q k; unbroken = u; constructs = c }))
good_at q k u c = record {
  chosen = λ h. elim h [
    | inl a ↦ record { first = k; is_first = refl; printable = a.0.printable; has = inl (sym a.0.same) }
    | inr b ↦ absurd b
  ];
}

pub good_sign : (x : Punctuator) (f : Form) → Good ((sign x ∷ []) ∷ f)
good_sign x f = record { chosen = λ h. record { first = tok.Punctuator x; is_first = refl; printable = tt; has = inl refl } }
