use Rattle.wd_ports.proofs.Children.{child_value}
use Rattle.wd_ports.proofs.mem_files.is_child.Goals as goal

pub returns-then-starts_with-clause-value : goal.returns-then-starts_with-clause-value
returns-then-starts_with-clause-value c = child_value c.args.folder.now c.args.path.now c.contains.result (cc) (cc) c.contains.ensures.value
