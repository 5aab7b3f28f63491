use Rattle.fx_conditions.proofs.Shorts.{bound_short}
use Rattle.fx_template_conditions.specs.CertificateSide.{templates_on}
use Rattle.fx_template_conditions.proofs.bound.share_bound.Goals as goal

pub returns : goal.returns
returns c =
    let s = c.args.side.now in let i = c.args.share.template in
    c.bound_times.ensures ((templates_on s).bound i) (bound_short s.templates c.keeps.ensures.templates s.states i)
    c.bound.ensures
