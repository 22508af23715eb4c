use Rattle.wd_ports.proofs.Lookups.{file_set, file_made}
use Rattle.wd_ports.proofs.mem_files.set_file.Goals as goal

pub returns-in-Some-clause-ok : goal.returns-in-Some-clause-ok
returns-in-Some-clause-ok c = file_set _ _ _ _ _ _ c.in-Some.at c.in_ok-name.ensures c.in_ok-bytes.ensures c.in-Some.ensures c.set.ensures

pub returns-in_ok-push-in-None-clause-ok : goal.returns-in_ok-push-in-None-clause-ok
returns-in_ok-push-in-None-clause-ok c = file_made _ _ _ _ _ _ c.in_ok-name.ensures c.in_ok-bytes.ensures c.in-None.ensures c.in_ok-push-in-None.ensures.ok
