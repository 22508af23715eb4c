-- The tokens one after another, as the code reads them.
use Rattle.std.specs.Prelude.{ℕ, zero, suc, ◌+◌, Bool, false, ◌||◌, List, [], ◌∷◌}
use Rattle.js_lex.specs.declared.token.TokenKind.TheVariants as tok
use Rattle.js_lex.specs.declared.token.Token.{Token}
use Rattle.js_lex.specs.declared.scan.Brace.{Brace}
use Rattle.js_lex.specs.declared.front.Front.{Front}
use Rattle.js_lex.specs.declared.front.Front.TheVariants as front
use Rattle.js_lex.specs.Units.{Text}
use Rattle.js_lex.specs.Places.{in_hole, braces, fault, token}
use Rattle.js_lex.specs.Front.{front_of}

-- what stands at place n, behind a line end or not, within these braces; then what comes behind it
abbrev pub put : ℕ → Bool → List Brace → Front → (ℕ → ℕ → Bool → List Brace → List Token) → List Token
put n l bs (front.Gap more ends) f = f more (n + (1 + more)) (l || ends) bs
put n l bs (front.Token k more) f = token n l k ∷ f more (n + (1 + more)) false (braces k bs)
put n l bs (front.Bad why) f = token n l (tok.Bad (fault n why)) ∷ []

-- the tokens of a text, where the first units, so many, are of what stood before
abbrev pub tokens_from : ℕ → ℕ → Bool → List Brace → Text → List Token
tokens_from more n l bs [] = token n l tok.End ∷ []
tokens_from (suc more) n l bs (u ∷ z) = tokens_from more n l bs z
tokens_from zero n l bs (u ∷ z) = put n l bs (front_of (in_hole bs) u z) (λ more m ends cs. tokens_from more m ends cs z)

-- The tokens of a script.
abbrev pub tokens_of : Text → List Token
tokens_of z = tokens_from 0 0 false [] z
