use Rattle.std.proofs.Common.{refl}
use Rattle.js_print.proofs.ListSplits.{bare_declaration, declaration_value}
use Rattle.js_print.proofs.lists.split_declaration.Goals as goal

pub returns-in-None : goal.returns-in-None
returns-in-None c = bare_declaration _ _ _ _ _ c.put.ensures c.in-None.is refl

pub returns-in-Some : goal.returns-in-Some
returns-in-Some c = declaration_value _ _ _ _ _ _ _ c.put-in-Some.ensures c.in-Some.is refl refl
