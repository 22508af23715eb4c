use Rattle.std.proofs.Common.{drop}
use Rattle.http_message.proofs.ChunkSteps.{nothing_short, nothing_late, chunk_stands, chunk_never, behind_short, behind_long, end_seen}
use Rattle.http_message.proofs.chunks.chunk_of.Goals as goal

pub returns-then-rest-size : goal.returns-then-rest-size
returns-then-rest-size c =
    let a = c.args in
    let bytes = a.bytes.now in
    nothing_short a.before bytes a.size (drop a.line bytes) c.requires.some c.requires.fits c.requires.reads (behind_short bytes a.line a.size c.if-rest-size.true)

pub returns-in-Later : goal.returns-in-Later
returns-in-Later c =
    let a = c.args in
    let bytes = a.bytes.now in
    nothing_late a.before bytes a.size (drop a.line bytes) c.requires.some c.requires.fits c.requires.reads (behind_long bytes a.line a.size c.if-rest-size.false)
    (end_seen bytes a.line a.size _ _ c.in-Later.is c.end_of.ensures)

pub returns-in-Stands : goal.returns-in-Stands
returns-in-Stands c =
    let a = c.args in
    let bytes = a.bytes.now in
    chunk_stands a.before bytes a.line a.size c.requires.some c.requires.fits c.requires.within c.requires.reads (behind_long bytes a.line a.size c.if-rest-size.false)
    (end_seen bytes a.line a.size _ _ c.in-Stands.is c.end_of.ensures)

pub returns-in-Never : goal.returns-in-Never
returns-in-Never c =
    let a = c.args in
    let bytes = a.bytes.now in
    chunk_never a.before bytes a.size (drop a.line bytes) c.requires.some c.requires.fits c.requires.reads (behind_long bytes a.line a.size c.if-rest-size.false)
    (end_seen bytes a.line a.size _ _ c.in-Never.is c.end_of.ensures)
