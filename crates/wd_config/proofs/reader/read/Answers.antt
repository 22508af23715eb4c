use Rattle.std.proofs.Common.{ℕ, List, Bor, option_map, Err, subst, sym}
use Rattle.capnp_text.specs.declared.tree.Decl.{Decl}
use Rattle.capnp_text.specs.declared.reader.ParseEnd.{ParseEnd}
use Rattle.capnp_text.specs.Fault.{IsFirstFault, IfFault}
use Rattle.wd_config.specs.declared.faults.ConfigFault.{ConfigFault}
use Rattle.wd_config.specs.declared.faults.ConfigEnd.TheVariants.{Fault}
use Rattle.wd_config.specs.Answer.{Answered}
use Rattle.wd_config.specs.Configured.{configured}
use Rattle.wd_config.specs.Reading.{Comes}
use Rattle.wd_config.proofs.Ended.{answered_file, answered_fault, embed_failed, ended_ok}
use Rattle.wd_config.specs.Room.{SmallFile}
use Rattle.wd_config.proofs.RoomLaws.{text_small}
use Rattle.wd_config.proofs.reader.read.Goals as goal

pub returns-in-Ok-clause-reads : goal.returns-in-Ok-clause-reads
returns-in-Ok-clause-reads g c =
    let name = option_map (λ (s : Bor (List ℕ)). s.now) c.args.const_name in
    let files = (g.F.Files.told c.args.files.now).files in
    answered_file c.args.bytes.now name c.args.folder.now files c.in-Ok.file c.configured-found.result c.ended.result c.in-Ok.ensures.found
    (subst (λ (ds : List Decl). Comes (configured name c.args.folder.now files ds) c.configured-found.result) c.as_slice.ensures c.configured-found.ensures.reads) c.ended.ensures

pub returns-in-Err-Fault-clause-reads : goal.returns-in-Err-Fault-clause-reads
returns-in-Err-Fault-clause-reads g c =
    let name = option_map (λ (s : Bor (List ℕ)). s.now) c.args.const_name in
    let files = (g.F.Files.told c.args.files.now).files in
    subst (λ (f : ConfigFault). Answered c.args.bytes.now name c.args.folder.now files (Err (Fault f))) (sym c.text_fault.ensures)
    (answered_fault c.args.bytes.now name c.args.folder.now files c.in-Err-Fault.fault
    (subst (λ (e : ParseEnd). IfFault (Err e) (λ f. IsFirstFault f c.args.bytes.now)) c.in-Err-Fault.field-0-is c.in-Err-Fault.ensures.first))

pub returns-in-Ok-clause-differ : goal.returns-in-Ok-clause-differ
returns-in-Ok-clause-differ g c = ended_ok _ c.configured-found.result c.ended.result c.ended.ensures c.configured-found.ensures.differ

pub returns-in-Ok-clause-fault : goal.returns-in-Ok-clause-fault
returns-in-Ok-clause-fault g c = λ e. c.configured-found.ensures.fault (embed_failed c.configured-found.result c.ended.result c.ended.ensures e)

pub returns-in-Ok-clause-few : goal.returns-in-Ok-clause-few
returns-in-Ok-clause-few g c = ended_ok _ c.configured-found.result c.ended.result c.ended.ensures c.configured-found.ensures.few

pub configured-found-requires : goal.configured-found-requires
configured-found-requires g c = subst SmallFile (sym c.as_slice.ensures) (text_small c.in-Ok.file c.args.bytes.now c.in-Ok.ensures.found c.requires)
