use Rattle.std.proofs.Common.{sym, ◌∙◌}
use Rattle.std.proofs.lemmas.Bool.{false≢true}
use Rattle.wd_machine.proofs.StepLemmas.{OnOk-map, begun_absent, begun_no_worker, begun_nobody, begun_done}
use Rattle.wd_machine.proofs.machine.Machine.begin.Goals as goal

pub returns-in_default : goal.returns-in_default
returns-in_default g c = begun_absent g.I.Isolate.means c.args.self.now c.args.seat c.args.places.req (c.requires.row ∙ c.in_default.is)

pub returns-in_default-worker : goal.returns-in_default-worker
returns-in_default-worker g c = begun_no_worker g.I.Isolate.means c.args.self.now c.args.seat c.args.places.req (c.requires.worker ∙ c.in_default-worker.is)

pub returns-then-is_empty : goal.returns-then-is_empty
returns-then-is_empty g c = begun_nobody g.I.Isolate.means _ c.args.self.now c.args.seat c.args.places.req c.in-Some-worker.place c.index.result.now c.self.view_is (c.requires.worker ∙ c.in-Some-worker.is) c.index.ensures (c.is_empty.ensures.0 c.if-is_empty.true)

pub returns : goal.returns
returns g c =
    OnOk-map c.run_front.result c.run_front.ensures
    (λ front. begun_done g.I.Isolate.means _ c.args.self.now c.args.seat c.args.places.req c.index_mut-2.result.now c.index-2.result.now c.run_front.new.row c.index_mut.result.now c.index.result.now c.run_front.new.worker c.in-Some.at c.in-Some-worker.place c.start_run.new.running.items c.self.view_is (c.requires.row ∙ c.in-Some.is) (c.requires.worker ∙ c.in-Some-worker.is) c.index_mut-2.ensures.value c.index-2.ensures c.index_mut.ensures.value c.index.ensures c.in_ok-start_run.ensures (λ none. false≢true (sym c.if-is_empty.false ∙ c.is_empty.ensures.1 none)) front)
