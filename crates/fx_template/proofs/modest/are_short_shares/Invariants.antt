use Rattle.std.proofs.Common.{ℕ, ◌<◌}
use Rattle.fx_model.specs.Tree.{at}
use Rattle.fx_inequalities.specs.Formula.{Num}
use Rattle.fx_formulas.specs.Places.{IsShort}
use Rattle.fx_cert.specs.CertificateView.{shares_of}
use Rattle.fx_template.proofs.ShortLists.{no_share}
use Rattle.fx_template.proofs.modest.are_short_shares.Given as goal

abbrev pub invariant-loop-i : goal.invariant-loop-i
invariant-loop-i l = (k : ℕ) → k < l.i → IsShort 96 (Num (at no_share (shares_of l.fn.shares) k).times)
