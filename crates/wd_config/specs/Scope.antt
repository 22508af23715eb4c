-- The context that a scope and the files give.
use Rattle.wd_ports.specs.Told.{Told}
use Rattle.wd_config.specs.declared.scope.Scope.{Scope}
use Rattle.wd_config.specs.Values.{Context}

-- where values are read: the file's declarations and folder, with the files as they are observed
abbrev pub context : Scope → Told → Context
context s told = record { file = s.file.now; constants = s.constants.now; folder = s.folder.now; files = told.files }
