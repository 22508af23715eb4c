use Rattle.wd_ports.proofs.MemLinks.{mem_lost, unseen_same, sources_lost}
use Rattle.wd_ports.proofs.mem_port.MemPortPort.gone.Goals as goal

pub returns-then-is_gone-clause-tells : goal.returns-then-is_gone-clause-tells
returns-then-is_gone-clause-tells c = mem_lost c.args.self.now c.set_gone.new.links.items _ c.set_gone.ensures

pub returns-then-is_gone-clause-unseen : goal.returns-then-is_gone-clause-unseen
returns-then-is_gone-clause-unseen c = unseen_same c.args.self.now c.set_gone.new.links.items (sources_lost _ _ _ c.set_gone.ensures)
