use Rattle.std.proofs.Common.{rules}
use Rattle.http_response.proofs.ResponseSteps.{progress_more}
use Rattle.http_response.proofs.reader.Response.feed.Goals as goal

pub read_response-requires : goal.read_response-requires
read_response-requires c = search (rules, progress_more c.self.inside.to_head c.self.inside.bytes.items c.args.piece.now c.self.inside.progress c.self.invariant)
