use Rattle.capnp_text.proofs.Ends.{unfinished_tells}
use Rattle.capnp_text.proofs.reader.finish.Goals as goal

pub returns-in_default : goal.returns-in_default
returns-in_default c = unfinished_tells c.args.place c.args.state.decls c.args.state.at c.fault.result c.in_default.not-Decl c.fault.ensures
