-- Why nothing is served or checked: the status and the text of it.
use Rattle.std.specs.Prelude.{ℕ, List, [], ◌∷◌, ◌++◌, codes}
use Rattle.std.specs.Fmt.{decimal}
use Rattle.capnp_text.specs.declared.reader.TextKind.{TextKind}
use Rattle.capnp_text.specs.declared.reader.TextKind.TheVariants as text
use Rattle.wd_command.specs.Notice.{status_of as notice_status, text_of as notice_text}
use Rattle.wd_config.specs.declared.faults.ConfigFault.{ConfigFault}
use Rattle.wd_config.specs.declared.faults.ConfigKind.{ConfigKind}
use Rattle.wd_config.specs.declared.faults.ConfigKind.TheVariants as kind
use Rattle.wd_graph.specs.declared.linking.GraphFault.{GraphFault}
use Rattle.wd_plan.specs.declared.reason.RefusedScript.{RefusedScript}
use Rattle.wd_plan.specs.declared.refusal.Refusal.{Refusal}
use Rattle.wd_plan.specs.declared.refusal.Refusal.TheVariants as refusal
use Rattle.wd_plan.specs.Reason.{reason_text}

-- a line end
-- (LF, which follows every printed text)
abbrev pub line_end : List ℕ
line_end = 10 ∷ []

-- the exit status of a refusal
abbrev pub status_of : Refusal → ℕ
status_of (refusal.NoCommand notice) = notice_status notice
status_of (refusal.Config fault) = 2
status_of (refusal.Link fault) = 2
status_of (refusal.Script script) = 3
status_of (refusal.MissingFile path) = 5
status_of (refusal.FileFault path) = 5

-- the name of a kind of fault of the text form
abbrev pub text_kind : TextKind → List ℕ
text_kind text.BadByte = codes "BadByte"
text_kind text.BadToken = codes "BadToken"
text_kind text.Unclosed = codes "Unclosed"
text_kind text.BadDecl = codes "BadDecl"
text_kind text.TooDeep = codes "TooDeep"

-- the name of a kind of fault
abbrev pub kind_text : ConfigKind → List ℕ
kind_text (kind.Text k) = text_kind k
kind_text kind.NoSuchConst = codes "NoSuchConst"
kind_text kind.SeveralConfigs = codes "SeveralConfigs"
kind_text kind.ConstLoop = codes "ConstLoop"
kind_text kind.UnknownField = codes "UnknownField"
kind_text kind.WrongKind = codes "WrongKind"
kind_text kind.LeftOut = codes "LeftOut"
kind_text kind.DoubleName = codes "DoubleName"
kind_text kind.EmbedFault = codes "EmbedFault"
kind_text kind.EmbedMissing = codes "EmbedMissing"
kind_text kind.BadJson = codes "BadJson"
kind_text kind.BadAddress = codes "BadAddress"
kind_text kind.BadRange = codes "BadRange"
kind_text kind.NoScript = codes "NoScript"

-- what is printed of a fault of the configuration: its kind, place and name
unfoldable pub config_text : ConfigFault → List ℕ
config_text fault = codes "error: config " ++ (kind_text fault.kind ++ codes " at ") ++ decimal fault.place
    ++ codes ": " ++ fault.name ++ line_end

-- what is printed of a name that no service has: where it is named, and the name
unfoldable pub link_text : GraphFault → List ℕ
link_text fault = codes "error: link UnknownService " ++ (fault.from ++ codes " -> ") ++ (fault.name ++ line_end)

-- what is printed of a script that is refused: the service whose script it is, and the reason
unfoldable pub script_text : RefusedScript → List ℕ
script_text script = codes "error: script " ++ (script.service ++ codes ": ") ++ reason_text script.reason ++ line_end

-- what is printed of a refusal
abbrev pub text_of : Refusal → List ℕ
text_of (refusal.NoCommand notice) = notice_text notice
text_of (refusal.Config fault) = config_text fault
text_of (refusal.Link fault) = link_text fault
text_of (refusal.Script script) = script_text script
text_of (refusal.MissingFile path) = codes "error: file " ++ (path ++ line_end)
text_of (refusal.FileFault path) = codes "error: file " ++ (path ++ line_end)
