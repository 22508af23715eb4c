use Rattle.std.proofs.Common.{◌∙◌, ap}
use Rattle.js_arena.specs.Pairs.{pairs_of}
use Rattle.js_arena.proofs.PairsKept.{pairs_insert}
use Rattle.js_arena.proofs.props.put_entry.Goals as goal
use Rattle.js_arena.proofs.props.put_entry.Goals.{in-Ok, in-Err}

pub returns-clause-ok : goal.returns-clause-ok
returns-clause-ok c =
    elim c.match-insert.branch [
      | in-Ok w ↦
          let inserted = pairs_insert c.args.map.now.entries c.args.key c.args.value in
          rw w.result-is (ap pairs_of w.in-Ok.ensures.entries ∙ inserted)
      | in-Err w ↦ rw w.result-is tt
    ]
