use Rattle.wd_ports.specs.Told.{with_shut}
use Rattle.wd_ports.proofs.MemLinks.{mem_shut, unseen_same, sources_changed}
use Rattle.wd_ports.proofs.mem_port.MemPortPort.shut.Goals as goal

pub returns-clause-tells : goal.returns-clause-tells
returns-clause-tells c = mem_shut c.args.self.now c.add_shut.new.links.items c.args.link c.add_shut.ensures

pub returns-clause-unseen : goal.returns-clause-unseen
returns-clause-unseen c = unseen_same c.args.self.now c.add_shut.new.links.items (sources_changed _ _ _ with_shut c.add_shut.ensures)
