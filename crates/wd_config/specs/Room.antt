-- How many tokens a tree takes at least.
use Rattle.std.specs.Prelude.{ℕ, ◌+◌, ◌≤◌, List, [], ◌∷◌}
use Rattle.capnp_text.specs.declared.tree.Value.{Value}
use Rattle.capnp_text.specs.declared.tree.Decl.{Decl}
use Rattle.capnp_text.specs.Marks.{Mark, Just, At, MayComma}
use Rattle.capnp_text.specs.Grammar.{of_value, of_file}

-- the tokens of these marks, without the commas that may be left out
abbrev pub sure : List Mark → ℕ
sure [] = 0
sure (Just t ∷ ms) = 1 + sure ms
sure (At p t ∷ ms) = 1 + sure ms
sure (MayComma ∷ ms) = sure ms

-- no text that is read has more bytes
abbrev pub most_bytes : ℕ
most_bytes = 536870912

-- a text that is read has room for the value
unfoldable pub Small : Value → Type 0
Small v = sure (of_value v) ≤ most_bytes

-- a text that is read has room for the file
unfoldable pub SmallFile : List Decl → Type 0
SmallFile ds = sure (of_file ds) ≤ most_bytes
