use Rattle.js_print.proofs.Splits.{on_statements, on_value}
use Rattle.js_print.proofs.split.split_arrow_body.Goals as goal

pub returns-in-Statements : goal.returns-in-Statements
returns-in-Statements c = on_statements _ _ _ _ _ _ c.put.ensures c.in-Statements.is c.as_slice.ensures

pub returns-in-Value : goal.returns-in-Value
returns-in-Value c = on_value _ _ _ _ _ _ c.put-in-Value.ensures c.in-Value.is c.get.ensures
