-- Token lists against marks.
use Rattle.std.proofs.Common.{◌≡◌, List, [], ◌∷◌, ◌++◌, refl, sym, ◌∙◌, ap, subst, append_assoc, inl, inr}
use Rattle.capnp_text.specs.declared.token.TokenKind.TheVariants.{Comma}
use Rattle.capnp_text.specs.declared.token.Token.{Token}
use Rattle.capnp_text.specs.Marks.{Mark, Just, MayComma, OfMark, Matches}

pub matches_append : (a b : List Mark) (x y : List Token) → Matches a x → Matches b y → Matches (a ++ b) (x ++ y)
matches_append [] b x y e h = subst (λ (z : List Token). Matches b (z ++ y)) (sym e) h
matches_append (m ∷ a) b x y (us, vs, e, o, h) k = (us, vs ++ y, ap (λ (z : List Token). z ++ y) e ∙ append_assoc us vs y, o, matches_append a b vs y h k)

pub record Split (a b : List Mark) (x : List Token) : Type 0 where
  pub us : List Token
  pub vs : List Token
  pub is : x ≡ us ++ vs
  pub front : Matches a us
  pub back : Matches b vs

pub split : (a b : List Mark) (x : List Token) → Matches (a ++ b) x → Split a b x
split [] b x h = record { us = []; vs = x; is = refl; front = refl; back = h }
split (m ∷ a) b x (us, vs, e, o, h) =
    let r : Split a b vs = split a b vs h in
    record { us = us ++ r.us; vs = r.vs; is = e ∙ ap (λ (z : List Token). us ++ z) r.is ∙ sym (append_assoc us r.us r.vs); front = (us, r.us, refl, o, r.front); back = r.back }

-- what is of the first marks is of the second
pub record Covers (a b : List Mark) : Type 0 where
  pub covers : (ts : List Token) → Matches a ts → Matches b ts

pub covers_behind : (a b c : List Mark) → Covers b c → Covers (a ++ b) (a ++ c)
covers_behind a b c f = record {
  covers = λ ts h.
      let r : Split a b ts = split a b ts h in
      subst (Matches (a ++ c)) (sym r.is) (matches_append a c r.us r.vs r.front (f.covers r.vs r.back));
}

pub covers_before : (a b c : List Mark) → Covers a b → Covers (a ++ c) (b ++ c)
covers_before a b c f = record {
  covers = λ ts h.
      let r : Split a c ts = split a c ts h in
      subst (Matches (b ++ c)) (sym r.is) (matches_append b c r.us r.vs (f.covers r.us r.front) r.back);
}

pub covers_same : (a b : List Mark) → a ≡ b → Covers a b
covers_same a b e = record { covers = λ ts h. subst (λ (z : List Mark). Matches z ts) e h }

pub covers_trans : (a b c : List Mark) → Covers a b → Covers b c → Covers a c
covers_trans a b c f g = record { covers = λ ts h. g.covers ts (f.covers ts h) }

pub may_comma : Covers (Just Comma ∷ []) (MayComma ∷ [])
may_comma = record { covers = λ ts h. (h.0, h.1, h.2, inl h.3, h.4) }

pub no_comma : Covers [] (MayComma ∷ [])
no_comma = record { covers = λ ts e. ([], [], e, inr refl, refl) }

-- a token on its own
pub one : (m : Mark) (t : Token) → OfMark m (t ∷ []) → Matches (m ∷ []) (t ∷ [])
one m t o = (t ∷ [], [], refl, o, refl)
