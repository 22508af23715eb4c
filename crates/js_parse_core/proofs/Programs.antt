-- What the machine reads whole is a program, and each program is read whole.
use Rattle.std.proofs.Common.{◌≡◌, List, Ok, subst}
use Rattle.js_tree.specs.declared.tree.Item.{Item}
use Rattle.js_grammar.specs.Grammar.{of_tree}
use Rattle.js_grammar.specs.Marks.{Piece}
use Rattle.js_parse_core.specs.declared.machine.State.{State}
use Rattle.js_parse_core.specs.Machine.{start}
use Rattle.js_parse_core.proofs.Bounds.{script_fits}
use Rattle.js_parse_core.proofs.CompleteStatements as of
use Rattle.js_parse_core.proofs.CompleteTree.{IsRead}
use Rattle.js_parse_core.proofs.Ends.{Program, Whole}
use Rattle.js_parse_core.proofs.PieceLemmas.{SeenAs, seen_as, fits_pieces}
use Rattle.js_parse_core.proofs.Pieces.{Fits, run, finish}
use Rattle.js_parse_core.proofs.Sound.{script_sound}

pub sound : (ps : List Piece) (s n : State) → run start ps ≡ Ok s → finish s ≡ Ok n → Program ps n.outer.items
sound ps s n h e =
    let x : SeenAs (of_tree n.outer.items) ps = seen_as (of_tree n.outer.items) ps (script_sound ps s n h e) in
    record { seen = x.seen; are = x.are; program = record { fits = (script_fits ps s n h e).0; written = x.matches } }

pub complete : (ps : List Piece) (tree : List Item) → Program ps tree → Whole ps tree
complete ps tree r =
    let x : IsRead tree ps = of.complete tree ps r.program.fits (subst (Fits (of_tree tree)) r.are (fits_pieces (of_tree tree) r.seen r.program.written)) in
    record { last = x.state; over = x.last; ran = x.runs; ends = x.finishes; items = x.items }
