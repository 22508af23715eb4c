use Rattle.std.proofs.Common.{◌≡◌, ◌+◌, ◌*◌, ◌≤◌, length}
use Rattle.wd_ports.specs.Faults.{part, ReadFile}
use Rattle.wd_config.specs.Reading.{along, done, given, ◌>>=◌}
use Rattle.wd_config.specs.Build.{built}
use Rattle.capnp_text.specs.declared.tree.Field.{Field}
use Rattle.capnp_text.specs.Lexed.{Every}
use Rattle.wd_config.specs.Room.{Small}
use Rattle.wd_config.specs.Scope.{context}
use Rattle.wd_config.specs.Sound.{SoundFields, SoundItems}
use Rattle.wd_config.specs.Values.{value_item, item_step, field_step, listed, structured, place_of, as_list, as_struct}
use Rattle.wd_config.proofs.Along.{Leads}
use Rattle.wd_config.proofs.values.+value.Given as goal

abbrev pub invariant-listed-loop-first : goal.invariant-listed-loop-first
invariant-listed-loop-first g l = record {
  same : l.active ≡ l.fn.active;
  told : g.F.Files.told l.files ≡ g.F.Files.told l.fn.files;
  later : part ReadFile (g.F.Files.faults l.fn.files) ≤ part ReadFile (g.F.Files.faults l.files);
  leads : Leads (listed (value_item l.levels (context l.scope (g.F.Files.told l.fn.files)) l.fn.active) l.label l.kind (place_of l.value) (as_list l.value))
      (along (item_step (value_item l.levels (context l.scope (g.F.Files.told l.fn.files)) l.fn.active) l.label l.kind) l.list l.rest >>= λ made. done made.items);
  sound : SoundItems l.kind (length l.rest) l.list;
  small : Every Small l.rest;
}

abbrev pub decreases-listed-loop-first : goal.decreases-listed-loop-first
decreases-listed-loop-first g l = length l.rest

abbrev pub invariant-structured-loop-first : goal.invariant-structured-loop-first
invariant-structured-loop-first g l = record {
  same : l.active ≡ l.fn.active;
  told : g.F.Files.told l.files ≡ g.F.Files.told l.fn.files;
  later : part ReadFile (g.F.Files.faults l.fn.files) ≤ part ReadFile (g.F.Files.faults l.files);
  leads : Leads (structured (value_item l.levels (context l.scope (g.F.Files.told l.fn.files)) l.fn.active) (context l.scope (g.F.Files.told l.fn.files)) l.taken l.label l.kind l.value (as_struct l.value))
      (along (field_step (value_item l.levels (context l.scope (g.F.Files.told l.fn.files)) l.fn.active) l.taken l.kind) l.entries l.rest >>= λ es. given (built l.kind l.place es));
  sound : SoundFields l.taken l.kind l.entries;
  small : Every (λ (f : Field). Small f.value) l.rest;
}

abbrev pub decreases-structured-loop-first : goal.decreases-structured-loop-first
decreases-structured-loop-first g l = length l.rest

abbrev pub decreases-value_item : goal.decreases-value_item
decreases-value_item g l = 4 * l.levels

abbrev pub decreases-shaped : goal.decreases-shaped
decreases-shaped g l = 4 * l.levels + 3

abbrev pub decreases-listed : goal.decreases-listed
decreases-listed g l = 4 * l.levels + 2

abbrev pub decreases-structured : goal.decreases-structured
decreases-structured g l = 4 * l.levels + 2

abbrev pub decreases-item : goal.decreases-item
decreases-item g l = 4 * l.levels + 1

abbrev pub decreases-field : goal.decreases-field
decreases-field g l = 4 * l.levels + 1
