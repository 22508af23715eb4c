use Rattle.js_parse.proofs.Contract.{tree_found, fault_found}
use Rattle.js_parse.proofs.reader.parse.Goals as goal

pub returns-clause-found : goal.returns-clause-found
returns-clause-found c = tree_found c.args.units.now c.in_ok-tokens.tokens c.read.result c.in_ok-tokens.ensures.found c.read.ensures

pub returns-clause-first : goal.returns-clause-first
returns-clause-first c = fault_found c.args.units.now c.in_ok-tokens.tokens c.read.result c.in_ok-tokens.ensures.found c.read.ensures
