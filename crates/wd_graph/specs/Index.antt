-- What it is for the entries of a map to be the index of a list of services.
use Rattle.std.specs.Prelude.{ℕ, ◌≡◌, List, Vec}
use Rattle.std.specs.BTreeMap.{is_at}
use Rattle.std.specs.Cmp.Lexicographic.{slice_cmp}
use Rattle.std.specs.List.{position_from}
use Rattle.std.specs.Map.{lookup}
use Rattle.std.specs.Ordering.{nat_cmp}
use Rattle.std.specs.declared.alloc.Global.{Global}
use Rattle.wd_base.specs.declared.config.Service.{Service}
use Rattle.wd_graph.specs.Names.{is_named}

-- a look-up of any name gives the number of the first service of that name, where the services are numbered on from `from`
abbrev pub IsIndexFrom : ℕ → List Service → List (Vec ℕ Global × ℕ) → Type 0
IsIndexFrom from services entries = (name : List ℕ) → lookup (is_at (λ key. slice_cmp nat_cmp name key.items)) entries ≡ position_from (is_named name) from services

-- a look-up of a name in the entries gives the number, counted from 0, of the first service of that name
abbrev pub IsIndex : List Service → List (Vec ℕ Global × ℕ) → Type 0
IsIndex services entries = IsIndexFrom 0 services entries
