-- The text of a tree.
use Rattle.std.specs.Prelude.{List, [], ◌∷◌, ◌++◌, flat_map}
use Rattle.js_lex.specs.declared.token.TokenKind.{TokenKind}
use Rattle.js_lex.specs.Units.{Text}
use Rattle.js_tree.specs.declared.tree.Item.{Item}
use Rattle.js_grammar.specs.Marks.{Want, Just, At, Auto, Mark, Form}
use Rattle.js_grammar.specs.Grammar.{of_tree}
use Rattle.js_print.specs.TokenText.{texts}

-- an automatic end is no token
abbrev pub wanted : Want → List TokenKind
wanted (Just k) = k ∷ []
wanted (At q k) = k ∷ []
wanted Auto = []

-- the tokens that these marks ask for, in order
abbrev pub marked : List Mark → List TokenKind
marked [] = []
marked (m ∷ ms) = wanted m.want ++ marked ms

-- The first of what may stand at a spot: each statement's end is `;`, a list has a comma behind its last item, and the only parameter
-- of an arrow has no brackets.
abbrev pub first_of : Form → List TokenKind
first_of [] = []
first_of (ms ∷ others) = marked ms

-- the tokens of these forms, in order, each form by its first choice
abbrev pub plain : List Form → List TokenKind
plain [] = []
plain (f ∷ fs) = first_of f ++ plain fs

-- each token with a space behind it
abbrev pub printed : List Item → Text
printed items = texts (plain (of_tree items))
