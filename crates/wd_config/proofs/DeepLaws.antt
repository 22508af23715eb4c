-- A field and an item are less deep than what they stand in.
use Rattle.std.proofs.Common.{◌≡◌, ◌-◌, ◌<◌, ◌≤◌, ℕ, List, Ok, arith}
use Rattle.capnp_text.specs.declared.tree.Placed.{Placed}
use Rattle.wd_config.specs.declared.items.Entry.{Entry}
use Rattle.wd_config.specs.declared.schema.ListKind.{ListKind}
use Rattle.wd_config.specs.declared.schema.ListKind.TheVariants as list
use Rattle.wd_config.specs.declared.schema.Rule.{Rule}
use Rattle.wd_config.specs.declared.schema.Rule.TheVariants.{LeftOut, Read as Reads}
use Rattle.wd_config.specs.declared.schema.Shape.{Shape}
use Rattle.wd_config.specs.declared.schema.Slot.{Slot}
use Rattle.wd_config.specs.declared.schema.StructKind.{StructKind}
use Rattle.wd_config.specs.declared.schema.StructKind.TheVariants as struct
use Rattle.wd_config.specs.Deep.{deep, list_deep, struct_deep}
use Rattle.wd_config.specs.Schema.{rule_in, rule_of, rows}
use Rattle.wd_config.specs.Values.{allowed, item_shape}
use Rattle.wd_config.proofs.SoundLaws.{Each, allowed_rule, found}

pub less_deep : (a b c : ℕ) → a < b → b ≤ c → a < c
less_deep a b c h k = omega arith

pub before_last : (a b : ℕ) → a < b → a ≤ b - 1
before_last a b h = omega arith

abbrev LessDeep : ℕ → Rule → Type 0
LessDeep n LeftOut = Unit {0}
LessDeep n (Reads s x) = deep x < n

rows_deep : (k : StructKind) → Each (LessDeep (struct_deep k)) (rows k)
rows_deep struct.Config = (omega arith, (omega arith, (tt, (tt, (tt, tt)))))
rows_deep struct.Service = (omega arith, (omega arith, (omega arith, (omega arith, (omega arith, tt)))))
rows_deep struct.Worker = (omega arith, (omega arith, (omega arith, (omega arith, (omega arith, (omega arith, (tt, (tt, (tt, (tt, (tt, tt)))))))))))
rows_deep struct.Module = (omega arith, (omega arith, (tt, (tt, (tt, (tt, (tt, tt)))))))
rows_deep struct.Binding = (omega arith, (omega arith, (omega arith, (omega arith, (omega arith, (tt, (tt, (tt, (tt, (tt, (tt, (tt, (tt, (tt, tt))))))))))))))
rows_deep struct.Designator = (omega arith, (tt, (tt, tt)))
rows_deep struct.Network = (omega arith, (omega arith, (tt, tt)))
rows_deep struct.External = (omega arith, (omega arith, (tt, (tt, tt))))
rows_deep struct.Disk = (omega arith, (omega arith, (omega arith, tt)))
rows_deep struct.Socket = (omega arith, (omega arith, (omega arith, (omega arith, (tt, tt)))))
rows_deep struct.Http = (omega arith, (tt, (tt, (tt, (tt, tt)))))

pub field_deep : (k : StructKind) (es : List Entry) (n : Placed) (s : Slot) (x : Shape) → allowed k es n ≡ Ok (s, x) → deep x < struct_deep k
unfolding allowed rule_of
field_deep k es n s x e = found (LessDeep (struct_deep k)) (rows k) n.bytes (Reads s x) (rows_deep k) (allowed_rule es n (rule_in (rows k) n.bytes) s x e)

pub item_deep : (k : ListKind) → deep (item_shape k) < list_deep k
item_deep list.Flags = omega arith
item_deep list.Ranges = omega arith
item_deep list.Modules = omega arith
item_deep list.Bindings = omega arith
item_deep list.Services = omega arith
item_deep list.Sockets = omega arith
