-- A configuration of one Worker, and its first isolate.
use Rattle.std.specs.Prelude.{◌≡◌, ℕ, List, [], ◌∷◌, codes}
use Rattle.wd_base.specs.declared.config.Config.{Config}
use Rattle.wd_base.specs.declared.config.Form.TheVariants.{Module}
use Rattle.wd_base.specs.declared.config.Kind.TheVariants.{Worker}
use Rattle.wd_base.specs.declared.config.WorkerDef.{WorkerDef}
use Rattle.wd_graph.specs.Links.{internet_name}
use Rattle.wd_sample.specs.declared.isolate.Sample.{Sample}

-- the Worker's name
abbrev pub hello : List ℕ
hello = codes "hello"

-- a Worker that fetches from the internet alone
abbrev pub hello_worker : WorkerDef
hello_worker = record { form = Module; source = []; bindings = []; outbound = internet_name }

-- the Worker `hello`, and a socket for it
abbrev pub hello_config : Config
hello_config = record {
  services = record { name = hello; kind = Worker hello_worker } ∷ [];
  sockets = record { name = hello; address = record { host = []; port = 80 }; service = hello } ∷ [];
}

-- its first isolate
abbrev pub first_sample : Sample
first_sample = record { worker = hello_worker; workers = []; generation = 0 }
