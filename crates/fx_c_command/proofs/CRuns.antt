-- The C text of what is certified, over rows in range.
use Rattle.fx_model.specs.Function.{Function}
use Rattle.fx_model.specs.Machine.{Program}
use Rattle.fx_model.specs.Rows.{AreInputs, InRangeLaw}
use Rattle.fx_inequalities.specs.Certificate.{Certificate}
use Rattle.fx_inequalities.specs.Rewriting.{Rewrites}
use Rattle.fx_sound.specs.Soundness.{IsCertified, RunLaw}
use Rattle.fx_c99.specs.Laws.{CertifiedLaw}
use Rattle.fx_mixed.proofs.Runs.{true_rows}
use Rattle.fx_c_command.specs.Printed.{CRunsLaw}

pub c_runs : (rewrite : Rewrites) (fn : Function) (p : Program) (cert : Certificate) → InRangeLaw → RunLaw →
    CertifiedLaw → AreInputs fn.inputs → IsCertified rewrite fn p cert → CRunsLaw fn.inputs p cert
c_runs rewrite fn p cert in_range run_law c_law inputs certified gs all =
    let ts = true_rows fn.inputs gs in_range inputs all in
    let r = run_law rewrite fn p cert gs ts.0 certified ts.1 in
    record {
      run = r.run;
      own = r.not_stuck;
      text = λ s length. c_law rewrite fn p cert gs ts.0 r.run s certified ts.1 length r.not_stuck;
    }
