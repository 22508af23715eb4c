use Rattle.std.proofs.Common.{◌≡◌, ◌++◌, take, map}
use Rattle.wd_machine.specs.Steps.{named}
use Rattle.wd_machine.proofs.steps.push_named.Given as goal

abbrev pub invariant-loop-obj : goal.invariant-loop-obj
invariant-loop-obj l = l.names.items ≡ l.fn.names.items ++ map (named l.req) (take l.obj-index l.objs)
