use Rattle.std.proofs.Common.{◌∙◌, ap, List}
use Rattle.js_arena.specs.declared.value.HandleName.{HandleName}
use Rattle.js_arena.specs.Heap.{Heap, heap_of, handle_no, with_handle}
use Rattle.js_arena.proofs.arena.Arena.hand.Goals as goal
use Rattle.js_arena.proofs.arena.Arena.hand.Goals.{in-Ok, in-Err}

pub returns-clause-number : goal.returns-clause-number
returns-clause-number c =
    let number = λ (h : Heap). handle_no c.args.name h.handles in
    elim c.match-insert_full.branch [
      | in-Ok w ↦ rw w.result-is (w.in-Ok.ensures.index ∙ ap number c.self.view_is)
      | in-Err w ↦ rw w.result-is tt
    ]

pub returns-clause-ok : goal.returns-clause-ok
returns-clause-ok c =
    let h = c.self.inside in
    let seen = λ (names : List HandleName). heap_of h.cells.items h.texts names h.total h.limit in
    elim c.match-insert_full.branch [
      | in-Ok w ↦ rw w.result-is (ap seen w.in-Ok.ensures.keys ∙ ap (with_handle c.args.name) c.self.view_is)
      | in-Err w ↦ rw w.result-is tt
    ]
