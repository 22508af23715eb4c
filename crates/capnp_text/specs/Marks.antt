-- Patterns of tokens.
use Rattle.std.specs.Prelude.{◌≡◌, ℕ, List, [], ◌∷◌, ◌++◌, ◌⊎◌}
use Rattle.capnp_text.specs.declared.token.TokenKind.{TokenKind}
use Rattle.capnp_text.specs.declared.token.TokenKind.TheVariants.{Comma}
use Rattle.capnp_text.specs.declared.token.Token.{Token}

-- a pattern of at most one token
pub data Mark : Type 0 where
  -- this token, at any place
  Just : TokenKind → Mark
  -- this token, at this place: the tree keeps it
  At : ℕ → TokenKind → Mark
  -- a comma, or nothing
  MayComma : Mark

-- the tokens are those of one pattern
abbrev pub OfMark : Mark → List Token → Type 0
OfMark (Just t) ts = (p : ℕ) × (ts ≡ record { place = p; kind = t } ∷ [])
OfMark (At p t) ts = ts ≡ record { place = p; kind = t } ∷ []
OfMark MayComma ts = ((p : ℕ) × (ts ≡ record { place = p; kind = Comma } ∷ [])) ⊎ (ts ≡ [])

-- the tokens are of these marks, in order
abbrev pub Matches : List Mark → List Token → Type 0
Matches [] ts = ts ≡ []
Matches (m ∷ ms) ts = (us : List Token) × (vs : List Token) × (ts ≡ us ++ vs) × OfMark m us × Matches ms vs
