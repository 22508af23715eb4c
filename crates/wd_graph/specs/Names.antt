-- Services by their names, and the services that a Worker reaches.
use Rattle.std.specs.Prelude.{ℕ, nat_eq, Bool, true, not, ◌&&◌, List, [], ◌∷◌, ◌++◌, filter, flat_map, Option, Some, None, is_some}
use Rattle.std.specs.List.{find, list_any, position_from}
use Rattle.std.specs.Cmp.Lexicographic.{pointwise}
use Rattle.wd_base.specs.declared.config.BindValue.{BindValue}
use Rattle.wd_base.specs.declared.config.BindValue.TheVariants.{Text, Buffer, Json, Service as Bound}
use Rattle.wd_base.specs.declared.config.Config.{Config}
use Rattle.wd_base.specs.declared.config.Kind.{Kind}
use Rattle.wd_base.specs.declared.config.Kind.TheVariants.{Worker, Network, External, Disk}
use Rattle.wd_base.specs.declared.config.Service.{Service}
use Rattle.wd_base.specs.declared.config.WorkerDef.{WorkerDef}

-- the two names are one
abbrev pub same_name : List ℕ → List ℕ → Bool
same_name a b = pointwise nat_eq a b

-- the service has this name
abbrev pub is_named : List ℕ → Service → Bool
is_named name s = same_name s.name name

-- the service of this name
abbrev pub service_of : List ℕ → List Service → Option Service
service_of name services = find (is_named name) services

-- the place of the service of this name, from 0
abbrev pub number_of : List ℕ → List Service → Option ℕ
number_of name services = position_from (is_named name) 0 services

-- a service has this name
abbrev pub has_name : List Service → List ℕ → Bool
has_name services name = list_any (is_named name) services

-- no two services have one name
abbrev pub names_differ : List Service → Bool
names_differ [] = true
names_differ (s ∷ rest) = not (has_name rest s.name) && names_differ rest

-- the Worker that a kind of service is
abbrev pub worker_in : Kind → Option WorkerDef
worker_in (Worker def) = Some def
worker_in (Network net) = None
worker_in (External address) = None
worker_in (Disk disk) = None

-- the Worker that a service is, where there is the service and it is one
abbrev pub worker_at : Option Service → Option WorkerDef
worker_at None = None
worker_at (Some s) = worker_in s.kind

-- the services that a binding's value designates: one, or none
abbrev pub designated : BindValue → List (List ℕ)
designated (Text text) = []
designated (Buffer bytes) = []
designated (Json text) = []
designated (Bound name) = name ∷ []

-- the services that a Worker can fetch from: those of its bindings in order, and its outbound
abbrev pub targets : WorkerDef → List (List ℕ)
targets def = flat_map (λ b. designated b.value) def.bindings ++ def.outbound ∷ []

-- the list with each name at its first place alone
abbrev pub first_places : List (List ℕ) → List (List ℕ)
first_places [] = []
first_places (x ∷ xs) = x ∷ filter (λ y. not (same_name x y)) (first_places xs)

-- the names of the Workers among a Worker's targets
abbrev pub workers_of : List Service → WorkerDef → List (List ℕ)
workers_of services def = first_places (filter (λ name. is_some (worker_at (service_of name services))) (targets def))

-- a socket answers for this service
abbrev pub is_public : Config → List ℕ → Bool
is_public world name = list_any (λ socket. same_name socket.service name) world.sockets
