use Rattle.std.proofs.Common.{◌∙◌, sym}
use Rattle.wd_ports.proofs.Children.{folders_next, folders_end}
use Rattle.wd_ports.proofs.mem_files.add_folder_names.Goals as goal

pub loop-path-preserved : goal.loop-path-preserved
loop-path-preserved c = folders_next _ _ _ _ _ _ _ _ c.loop-path-test.true (c.as_slice.ensures ∙ c.path-item.is) c.in_ok-add_name.ensures ∙ c.loop-path.invariant

pub returns : goal.returns
returns c = sym (folders_end _ _ _ _ _ c.loop-path-test.false) ∙ c.loop-path.invariant
