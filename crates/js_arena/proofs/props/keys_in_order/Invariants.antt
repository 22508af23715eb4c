use Rattle.std.proofs.Common.{◌≡◌, drop, fold, map}
use Rattle.js_arena.specs.Keys.{with_key, order_of}
use Rattle.js_arena.specs.Pairs.{key_units}
use Rattle.js_arena.proofs.props.keys_in_order.Given as goal

-- the keys that are left, added to the order so far
abbrev pub invariant-loop-key : goal.invariant-loop-key
invariant-loop-key l = fold with_key l.order (map key_units (drop l.key-index l.keys)) ≡ order_of (map key_units l.keys)
