use Rattle.http_message.proofs.ChunkSteps.{unfinished, next_seen, reading_on}
use Rattle.http_message.proofs.chunks.ChunkReader.advance.Goals as goal

pub returns-in-Later-clause-shown : goal.returns-in-Later-clause-shown
returns-in-Later-clause-shown c =
    let bytes = c.args.bytes.now in
    let reader = c.loop-why.self in
    unfinished bytes reader c.loop-why.invariant (next_seen _ _ bytes reader.at _ _ c.len.ensures c.in-Later.is c.in_ok-next_of.ensures)

pub loop-why-preserved : goal.loop-why-preserved
loop-why-preserved c =
    let bytes = c.args.bytes.now in
    let reader = c.loop-why.self in
    reading_on bytes reader.at c.in-Chunk.start c.in-Chunk.end reader.body c.extend.new.self c.loop-why.invariant
    (next_seen _ _ bytes reader.at _ _ c.len.ensures c.in-Chunk.is c.in_ok-next_of.ensures) c.in_ok-extend-in-Chunk.ensures.ok
