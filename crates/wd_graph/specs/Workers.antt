-- What the search for the Workers among the targets of a Worker leaves behind at each step.
use Rattle.std.specs.Prelude.{ℕ, Bool, true, false, List, [], ◌∷◌, ◌++◌, slice_get, slice_set, Option, Some, None}
use Rattle.wd_base.specs.declared.config.Service.{Service}
use Rattle.wd_base.specs.declared.config.WorkerDef.{WorkerDef}
use Rattle.wd_graph.specs.Names.{number_of, worker_at}
use Rattle.wd_graph.specs.declared.workers.Found.{Found}

-- the name of a Worker that was not found before is marked, and stands behind those that were found
abbrev pub found_mark : Found → List ℕ → ℕ → Option Bool → Found
found_mark found name number (Some false) = record { marks = slice_set found.marks number true; names = found.names ++ name ∷ [] }
found_mark found name number (Some true) = found
found_mark found name number None = found

-- the search after a service, which counts only if it is a Worker
abbrev pub found_worker : Found → List ℕ → ℕ → Option WorkerDef → Found
found_worker found name number None = found
found_worker found name number (Some def) = found_mark found name number (slice_get found.marks number)

-- the search after a name, which counts only if a service has it
abbrev pub found_number : List Service → Found → List ℕ → Option ℕ → Found
found_number services found name None = found
found_number services found name (Some number) = found_worker found name number (worker_at (slice_get services number))

-- the name was looked at
abbrev pub found_name : List Service → Found → List ℕ → Found
found_name services found name = found_number services found name (number_of name services)

-- the names were looked at
abbrev pub found_names : List Service → Found → List (List ℕ) → Found
found_names services found [] = found
found_names services found (name ∷ names) = found_names services (found_name services found name) names
