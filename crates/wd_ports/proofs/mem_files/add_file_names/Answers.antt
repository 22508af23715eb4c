use Rattle.std.proofs.Common.{◌∙◌, sym, ap}
use Rattle.wd_ports.proofs.Children.{files_next, files_end}
use Rattle.wd_ports.proofs.mem_files.add_file_names.Goals as goal

pub loop-file-preserved : goal.loop-file-preserved
loop-file-preserved c = files_next _ _ _ _ _ _ _ _ c.loop-file-test.true (c.as_slice.ensures ∙ ap (λ f. f.0) c.file-item.is) c.in_ok-add_name.ensures ∙ c.loop-file.invariant

pub returns : goal.returns
returns c = sym (files_end _ _ _ _ _ c.loop-file-test.false) ∙ c.loop-file.invariant
