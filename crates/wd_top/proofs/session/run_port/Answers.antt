use Rattle.std.proofs.Common.{Err, subst, ◌∙◌}
use Rattle.wd_top.specs.Ended.{IsFront, Listens}
use Rattle.wd_top.specs.Table.{addresses}
use Rattle.wd_top.proofs.ListenSteps.{not_listening}
use Rattle.wd_top.proofs.session.run_port.Goals as goal

pub returns-in-Err-clause-holds : goal.returns-in-Err-clause-holds
returns-in-Err-clause-holds g c =
    not_listening c.args.board.now.0.seat c.args.board.now.0.world c.in-Err.outcome (g.P.Files.told c.args.port.now)
    (g.P.Files.told c.listen_all.new.port) (g.P.Files.gone c.listen_all.new.port)
    (g.P.Files.faults c.listen_all.new.port) c.args.board.now.1
    c.requires.fresh c.requires.journal
    (subst (λ ss. IsFront (g.P.Files.told c.listen_all.new.port).sockets (addresses ss)) (c.as_slice.ensures
    ∙ c.sockets.ensures) c.in-Err.ensures.front)
    (subst (λ ss. Listens (addresses ss) (g.P.Files.told c.args.port.now) (g.P.Files.told c.listen_all.new.port)
    (g.P.Files.faults c.listen_all.new.port) (Err c.in-Err.outcome)) (c.as_slice.ensures ∙ c.sockets.ensures)
    c.in-Err.ensures.listens)
