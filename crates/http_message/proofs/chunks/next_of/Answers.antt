use Rattle.http_message.proofs.chunks.next_of.Goals as goal

pub returns-then-size-eq0 : goal.returns-then-size-eq0
returns-then-size-eq0 c = c.last_of.ensures c.args.before c.requires
