use Rattle.std.proofs.Common.{refl, sym, inr, arith}
use Rattle.wd_ports.proofs.Printing.{printed_nothing}
use Rattle.wd_top.proofs.outcome.report.Goals as goal

pub returns-in-Err : goal.returns-in-Err
returns-in-Err g c = record {
  reports = record {
    printed = 0;
    tells = sym (printed_nothing _);
    later = omega arith;
    which = inr (inr refl);
  };
}
