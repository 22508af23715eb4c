use Rattle.std.proofs.Common.{refl}
use Rattle.js_print.proofs.Splits.{on_field, on_item, on_variable}
use Rattle.js_print.proofs.split.split_target.Goals as goal

pub returns-in-Variable : goal.returns-in-Variable
returns-in-Variable c = on_variable _ _ _ _ _ _ c.put.ensures c.in-Variable.is refl

pub returns-in-Field : goal.returns-in-Field
returns-in-Field c = on_field _ _ _ _ _ _ _ _ c.put-in-Field.ensures c.in-Field.is c.get.ensures refl

pub returns-in-Item : goal.returns-in-Item
returns-in-Item c = on_item _ _ _ _ _ _ _ _ c.put-in-Item.ensures c.in-Item.is c.get-in-Item.ensures c.get-in-Item-2.ensures
