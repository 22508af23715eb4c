use Rattle.wd_ports.specs.Told.{with_sent}
use Rattle.wd_ports.proofs.MemLinks.{mem_lost, mem_sent, unseen_called, unseen_marked, sources_lost, sources_changed}
use Rattle.wd_ports.proofs.mem_port.MemPortPort.write_link.Goals as goal

pub returns-then-fails_now-clause-tells : goal.returns-then-fails_now-clause-tells
returns-then-fails_now-clause-tells c = mem_lost c.args.self.now c.set_gone.new.links.items _ c.set_gone.ensures

pub returns-clause-tells : goal.returns-clause-tells
returns-clause-tells c = mem_sent c.args.self.now c.add_sent.new.links.items c.args.link c.args.bytes.now c.in_ok-add_sent.ensures.ok

pub returns-then-fails_now-clause-unseen : goal.returns-then-fails_now-clause-unseen
returns-then-fails_now-clause-unseen c = unseen_called c.args.self.now c.set_gone.new.links.items c.fails_now.new.calls c.if-fails_now.ensures.counts (sources_lost _ _ _ c.set_gone.ensures)

pub returns-clause-marks : goal.returns-clause-marks
returns-clause-marks c = unseen_marked c.args.self.now c.mark.new.self c.add_sent.new.links.items c.fails_now.new.calls c.mark.ensures c.if-fails_now.ensures.counts (sources_changed _ _ _ (with_sent _) c.in_ok-add_sent.ensures.ok)
