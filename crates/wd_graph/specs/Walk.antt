-- What a walk of the graph leaves behind at each step.
use Rattle.std.specs.Prelude.{ℕ, ◌≡◌, ◌+◌, ◌↔◌, Bool, true, false, List, [], ◌∷◌, ◌++◌, length, slice_get, slice_set, Option, Some, None}
use Rattle.wd_base.specs.declared.config.Service.{Service}
use Rattle.wd_base.specs.declared.ids.ServiceNo.{ServiceNo}
use Rattle.wd_graph.specs.declared.walk.Walk.{Walk}
use Rattle.wd_graph.specs.Names.{number_of, worker_at, service_of}
use Rattle.wd_graph.specs.Graph.{IsReached, targets_in}

-- a service that was not met before is marked, and stands behind those that were met
abbrev pub met_mark : Walk → ℕ → Option Bool → Walk
met_mark walk number (Some false) = record { marks = slice_set walk.marks number true; order = walk.order ++ number ∷ [] }
met_mark walk number (Some true) = walk
met_mark walk number None = walk

-- the walk after it met the service of this number
abbrev pub met : Walk → ℕ → Walk
met walk number = met_mark walk number (slice_get walk.marks number)

-- the walk after it met a service, if the name that it looked for is one's
abbrev pub met_number : Walk → Option ℕ → Walk
met_number walk None = walk
met_number walk (Some number) = met walk number

-- the service of this name was met
abbrev pub met_name : List Service → Walk → List ℕ → Walk
met_name services walk name = met_number walk (number_of name services)

-- the services of these names were met
abbrev pub met_names : List Service → Walk → List (List ℕ) → Walk
met_names services walk [] = walk
met_names services walk (name ∷ names) = met_names services (met_name services walk name) names

-- all that the service `by` can fetch from was met
abbrev pub visited : List Service → ℕ → Walk → Walk
visited services by walk = met_names services walk (targets_in (worker_at (slice_get services by)))

-- the marks stand at the services that the service `number` reaches
pub record MarkReach (services : List Service) (number : ℕ) (marks : List Bool) : Type 0 where
  pub sized : length marks ≡ length services
  pub exact : (other : ℕ) → (slice_get marks other ≡ Some true) ↔ IsReached services number other

-- the numbers of the marks, the first of which stands for `from`
abbrev pub numbers_from : ℕ → List Bool → List ServiceNo
numbers_from from [] = []
numbers_from from (true ∷ marks) = (record { 0 = from }) ∷ numbers_from (from + 1) marks
numbers_from from (false ∷ marks) = numbers_from (from + 1) marks

-- each marked service stands in `other` under the same name, with an equal definition
abbrev pub MarkedStand : List Service → List Bool → List Service → Type 0
MarkedStand services marks other = (number : ℕ) (s : Service) → slice_get marks number ≡ Some true → slice_get services number ≡ Some s → service_of s.name other ≡ Some s
