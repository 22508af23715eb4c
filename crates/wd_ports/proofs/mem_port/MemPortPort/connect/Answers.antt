use Rattle.wd_ports.proofs.MemLinks.{mem_given}
use Rattle.wd_ports.proofs.mem_port.MemPortPort.connect.Goals as goal

pub returns-in_ok-add_link-in-Some-clause-tells : goal.returns-in_ok-add_link-in-Some-clause-tells
returns-in_ok-add_link-in-Some-clause-tells c = mem_given c.args.self.now c.add_link.new.links.items _ _ c.in_ok-add_link-in-Some.ensures.ok
