-- How deep the schema lets values stand in one another.
use Rattle.std.specs.Prelude.{ℕ}
use Rattle.wd_config.specs.declared.schema.ListKind.{ListKind}
use Rattle.wd_config.specs.declared.schema.ListKind.TheVariants as list
use Rattle.wd_config.specs.declared.schema.StructKind.{StructKind}
use Rattle.wd_config.specs.declared.schema.StructKind.TheVariants as struct
use Rattle.wd_config.specs.declared.schema.Shape.{Shape}
use Rattle.wd_config.specs.declared.schema.Shape.TheVariants as shape

-- how many levels of values a struct of this kind may have, itself among them
abbrev pub struct_deep : StructKind → ℕ
struct_deep struct.Config = 7
struct_deep struct.Service = 5
struct_deep struct.Worker = 4
struct_deep struct.Module = 1
struct_deep struct.Binding = 2
struct_deep struct.Designator = 1
struct_deep struct.Network = 2
struct_deep struct.External = 2
struct_deep struct.Disk = 1
struct_deep struct.Socket = 2
struct_deep struct.Http = 1

-- how many levels of values a list of this kind may have, itself among them
abbrev pub list_deep : ListKind → ℕ
list_deep list.Flags = 1
list_deep list.Ranges = 1
list_deep list.Modules = 2
list_deep list.Bindings = 3
list_deep list.Services = 6
list_deep list.Sockets = 3

-- how many values stand in one another within a value that is read as this
abbrev pub deep : Shape → ℕ
deep (shape.Word k) = 0
deep (shape.Leaf k) = 0
deep (shape.List k) = list_deep k
deep (shape.Struct k) = struct_deep k
