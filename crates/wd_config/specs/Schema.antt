-- The schema: the fields of each struct, and what the value of each is read as.
use Rattle.std.specs.Prelude.{ℕ, nat_eq, Bool, List, [], ◌∷◌, Option, Some, None, codes, if◌then◌else◌}
use Rattle.std.specs.Str.{bytes_eq}
use Rattle.wd_config.specs.declared.schema.Leaf.TheVariants as leaf
use Rattle.wd_config.specs.declared.schema.ListKind.TheVariants as list
use Rattle.wd_config.specs.declared.schema.WordKind.TheVariants as word
use Rattle.wd_config.specs.declared.schema.StructKind.{StructKind}
use Rattle.wd_config.specs.declared.schema.StructKind.TheVariants as struct
use Rattle.wd_config.specs.declared.schema.Shape.{Shape}
use Rattle.wd_config.specs.declared.schema.Shape.TheVariants as shape
use Rattle.wd_config.specs.declared.schema.Slot.{Slot}
use Rattle.wd_config.specs.declared.schema.Slot.TheVariants as slot
use Rattle.wd_config.specs.declared.schema.Rule.{Rule}
use Rattle.wd_config.specs.declared.schema.Rule.TheVariants.{LeftOut, Read}

-- a field's name, and what is done with it. Fields of one slot are a group, of which one alone may stand.
pub record Row : Type 0 where
  pub name : List ℕ
  pub rule : Rule

-- a field of this name that is supported, and the shape of its value
abbrev reads : List ℕ → Slot → Shape → Row
reads name s x = record { name = name; rule = Read s x }

-- a field of this name that workerd has, and that is refused by name
abbrev left_out : List ℕ → Row
left_out name = record { name = name; rule = LeftOut }

-- the fields of a configuration
abbrev pub config_rows : List Row
config_rows =
    reads (codes "services") slot.Services (shape.List list.Services)
    ∷ reads (codes "sockets") slot.Sockets (shape.List list.Sockets)
    ∷ left_out (codes "v8Flags")
    ∷ left_out (codes "extensions")
    ∷ left_out (codes "autogates")
    ∷ []

-- the fields of a service
abbrev pub service_rows : List Row
service_rows =
    reads (codes "name") slot.Name (shape.Leaf leaf.Name)
    ∷ reads (codes "worker") slot.Kind (shape.Struct struct.Worker)
    ∷ reads (codes "network") slot.Kind (shape.Struct struct.Network)
    ∷ reads (codes "external") slot.Kind (shape.Struct struct.External)
    ∷ reads (codes "disk") slot.Kind (shape.Struct struct.Disk)
    ∷ []

-- the fields of a Worker
abbrev pub worker_rows : List Row
worker_rows =
    reads (codes "modules") slot.Script (shape.List list.Modules)
    ∷ reads (codes "serviceWorkerScript") slot.Script (shape.Leaf leaf.Script)
    ∷ reads (codes "bindings") slot.Bindings (shape.List list.Bindings)
    ∷ reads (codes "globalOutbound") slot.Outbound (shape.Struct struct.Designator)
    ∷ reads (codes "compatibilityDate") slot.Date (shape.Leaf leaf.Date)
    ∷ reads (codes "compatibilityFlags") slot.Flags (shape.List list.Flags)
    ∷ left_out (codes "inherit")
    ∷ left_out (codes "durableObjectNamespaces")
    ∷ left_out (codes "durableObjectStorage")
    ∷ left_out (codes "cacheApiOutbound")
    ∷ left_out (codes "tails")
    ∷ []

-- the fields of a module
abbrev pub module_rows : List Row
module_rows =
    reads (codes "name") slot.Name (shape.Leaf leaf.Text)
    ∷ reads (codes "esModule") slot.Source (shape.Leaf leaf.Module)
    ∷ left_out (codes "commonJsModule")
    ∷ left_out (codes "text")
    ∷ left_out (codes "data")
    ∷ left_out (codes "wasm")
    ∷ left_out (codes "json")
    ∷ []

-- the fields of a binding
abbrev pub binding_rows : List Row
binding_rows =
    reads (codes "name") slot.Name (shape.Leaf leaf.Name)
    ∷ reads (codes "text") slot.Value (shape.Leaf leaf.Units)
    ∷ reads (codes "data") slot.Value (shape.Leaf leaf.Data)
    ∷ reads (codes "json") slot.Value (shape.Leaf leaf.Json)
    ∷ reads (codes "service") slot.Value (shape.Struct struct.Designator)
    ∷ left_out (codes "parameter")
    ∷ left_out (codes "cryptoKey")
    ∷ left_out (codes "wasmModule")
    ∷ left_out (codes "durableObjectNamespace")
    ∷ left_out (codes "kvNamespace")
    ∷ left_out (codes "r2Bucket")
    ∷ left_out (codes "queue")
    ∷ left_out (codes "fromEnvironment")
    ∷ left_out (codes "analyticsEngine")
    ∷ []

-- the fields of a designator of a service
abbrev pub designator_rows : List Row
designator_rows =
    reads (codes "name") slot.Name (shape.Leaf leaf.Text)
    ∷ left_out (codes "entrypoint")
    ∷ left_out (codes "props")
    ∷ []

-- the fields of a network
abbrev pub network_rows : List Row
network_rows =
    reads (codes "allow") slot.Allow (shape.List list.Ranges)
    ∷ reads (codes "deny") slot.Deny (shape.List list.Ranges)
    ∷ left_out (codes "tlsOptions")
    ∷ []

-- the fields of an external server
abbrev pub external_rows : List Row
external_rows =
    reads (codes "address") slot.Address (shape.Leaf leaf.ExternalAddress)
    ∷ reads (codes "http") slot.Http (shape.Struct struct.Http)
    ∷ left_out (codes "https")
    ∷ left_out (codes "tcp")
    ∷ []

-- the fields of a folder of the disk
abbrev pub disk_rows : List Row
disk_rows =
    reads (codes "path") slot.Path (shape.Leaf leaf.Text)
    ∷ reads (codes "writable") slot.Writable (shape.Word word.Flag)
    ∷ reads (codes "allowDotfiles") slot.Dotfiles (shape.Word word.Flag)
    ∷ []

-- the fields of a socket
abbrev pub socket_rows : List Row
socket_rows =
    reads (codes "name") slot.Name (shape.Leaf leaf.Name)
    ∷ reads (codes "address") slot.Address (shape.Leaf leaf.SocketAddress)
    ∷ reads (codes "http") slot.Http (shape.Struct struct.Http)
    ∷ reads (codes "service") slot.Service (shape.Struct struct.Designator)
    ∷ left_out (codes "https")
    ∷ []

-- the fields of the options of HTTP
abbrev pub http_rows : List Row
http_rows =
    reads (codes "style") slot.Style (shape.Word word.Style)
    ∷ left_out (codes "forwardedProtoHeader")
    ∷ left_out (codes "cfBlobHeader")
    ∷ left_out (codes "injectRequestHeaders")
    ∷ left_out (codes "injectResponseHeaders")
    ∷ []

-- the fields of each struct of the schema
abbrev pub rows : StructKind → List Row
rows struct.Config = config_rows
rows struct.Service = service_rows
rows struct.Worker = worker_rows
rows struct.Module = module_rows
rows struct.Binding = binding_rows
rows struct.Designator = designator_rows
rows struct.Network = network_rows
rows struct.External = external_rows
rows struct.Disk = disk_rows
rows struct.Socket = socket_rows
rows struct.Http = http_rows

-- what is done with a field of this name; none where the struct has no such field
abbrev pub rule_in : List Row → List ℕ → Option Rule
rule_in [] name = None
rule_in (r ∷ rs) name = if bytes_eq name r.name then Some r.rule else rule_in rs name

-- the rule for a struct's field of this name, if the schema has such a field
unfoldable pub rule_of : StructKind → List ℕ → Option Rule
rule_of kind name = rule_in (rows kind) name

-- the numbers of slots
-- (each kind of field has another number, so that two kinds are compared by it)
abbrev pub slot_number : Slot → ℕ
slot_number slot.Services = 0
slot_number slot.Sockets = 1
slot_number slot.Name = 2
slot_number slot.Kind = 3
slot_number slot.Script = 4
slot_number slot.Bindings = 5
slot_number slot.Outbound = 6
slot_number slot.Date = 7
slot_number slot.Flags = 8
slot_number slot.Source = 9
slot_number slot.Value = 10
slot_number slot.Allow = 11
slot_number slot.Deny = 12
slot_number slot.Address = 13
slot_number slot.Http = 14
slot_number slot.Path = 15
slot_number slot.Writable = 16
slot_number slot.Dotfiles = 17
slot_number slot.Service = 18
slot_number slot.Style = 19

-- two fields are the same field
abbrev pub same_slot : Slot → Slot → Bool
same_slot a b = nat_eq (slot_number a) (slot_number b)
