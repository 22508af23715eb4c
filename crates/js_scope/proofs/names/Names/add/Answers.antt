use Rattle.std.proofs.Common.{not, ap, ◌∙◌}
use Rattle.js_scope.proofs.NameLemmas.{texts_insert, texts_any, texts}
use Rattle.js_scope.specs.Names.{has, with_name}
use Rattle.js_scope.proofs.names.Names.add.Goals as goal
use Rattle.js_scope.proofs.names.Names.add.Goals.{in-Ok, in-Err}

pub returns-clause-new : goal.returns-clause-new
returns-clause-new c = elim c.match-insert.branch [
  | in-Ok w ↦ rw w.result-is (w.in-Ok.ensures.added ∙ ap not (texts_any c.self.inside.keys.keys c.args.name) ∙ ap (λ ns. not (has c.args.name.now ns)) c.self.view_is)
  | in-Err w ↦ rw w.result-is tt
]

pub returns-clause-names : goal.returns-clause-names
returns-clause-names c = elim c.match-insert.branch [
  | in-Ok w ↦ rw w.result-is (ap texts w.in-Ok.ensures.keys ∙ texts_insert c.self.inside.keys.keys c.args.name ∙ ap (λ ns. with_name ns c.args.name.now) c.self.view_is)
  | in-Err w ↦ rw w.result-is tt
]
