-- What a field's value is read to, and how a struct finds its fields.
use Rattle.std.specs.Prelude.{List, [], ◌∷◌, Option, Some, None, Bool, if◌then◌else◌}
use Rattle.std.specs.List.{list_any}
use Rattle.wd_config.specs.declared.schema.Slot.{Slot}
use Rattle.wd_config.specs.declared.items.Item.{Item}
use Rattle.wd_config.specs.declared.items.Entry.{Entry}
use Rattle.wd_config.specs.Schema.{same_slot}

-- what was read for a slot
abbrev pub item_of : List Entry → Slot → Option Item
item_of [] s = None
item_of (e ∷ es) s = if same_slot e.slot s then Some e.item else item_of es s

-- an entry is the one for this field
abbrev pub is_of : Slot → Entry → Bool
is_of s e = same_slot e.slot s

-- a field of the slot was read
abbrev pub has_slot : List Entry → Slot → Bool
has_slot es s = list_any (λ e. is_of s e) es

-- the others
abbrev pub without : List Entry → Slot → List Entry
without [] s = []
without (e ∷ es) s = if same_slot e.slot s then es else e ∷ without es s
