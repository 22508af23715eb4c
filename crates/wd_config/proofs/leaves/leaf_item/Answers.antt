use Rattle.wd_config.proofs.Comes.{comes_then, gives_comes}
use Rattle.wd_config.specs.Values.{leaf_item}
use Rattle.wd_config.proofs.SoundLaws.{leaf_sound}
use Rattle.wd_config.proofs.leaves.leaf_item.Goals as goal

pub returns-clause-reads : goal.returns-clause-reads
unfolding leaf_item
returns-clause-reads g c = comes_then _ _ c.in_ok-text.text c.checked.result c.in_ok-text.ensures.reads (gives_comes _ _ c.checked.ensures)

pub returns-clause-sound : goal.returns-clause-sound
returns-clause-sound g c = leaf_sound c.args.taken.now c.args.label.now c.args.leaf c.in_ok-text.text c.checked.result c.checked.ensures
