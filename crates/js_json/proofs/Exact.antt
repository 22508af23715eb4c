-- What is accepted is exactly what is in the grammar.
use Rattle.std.proofs.Common.{◌≡◌, ℕ, ◌^◌, ◌<◌, Bool, true, List, length, sym, ◌∙◌}
use Rattle.std.specs.Prelude.{◌↔◌}
use Rattle.js_json.specs.Grammar.{IsJson}
use Rattle.js_json.specs.Machine.{accepts, start}
use Rattle.js_json.proofs.Sound.{sound}
use Rattle.js_json.proofs.Complete.{complete}

pub exact : (us : List ℕ) (b : Bool) → length us < 2 ^ 63 → b ≡ accepts start us → (b ≡ true) ↔ IsJson us
exact us b l e = (λ h. sound us l (sym e ∙ h), λ j. e ∙ complete us l j)
