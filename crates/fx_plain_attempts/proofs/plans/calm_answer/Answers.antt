use Rattle.std.proofs.Common.{sym, subst}
use Rattle.fx_inequalities.specs.LawfulCertificate.{IsLawfulCertificate}
use Rattle.fx_rules.specs.Steps.{rewrite}
use Rattle.fx_wanted.specs.Asked.{rounding_of}
use Rattle.fx_plain_attempts.proofs.Promised.{accepted_as, calm_plan_answers}
use Rattle.fx_plain_attempts.proofs.plans.calm_answer.Goals as goal

pub certify_plan-requires : goal.certify_plan-requires
certify_plan-requires c =
    let w = c.args.wanted in let fn = c.args.function.now in let e = c.in-Ok.ensures in
    let plan = c.calm_law.ensures w.width (rounding_of w) fn c.requires.width e.narrow e.calm in
    record {
      lawful = subst IsLawfulCertificate (sym e.certificate) plan.certificate;
      accepted = accepted_as fn _ _ _ _ e.program e.certificate (plan.accepted rewrite);
    }

pub returns-clause-answer : goal.returns-clause-answer
returns-clause-answer c =
    let w = c.args.wanted in let fn = c.args.function.now in let e = c.in-Ok.ensures in
    (calm_plan_answers w fn
    (c.calm_law.ensures w.width (rounding_of w) fn c.requires.width e.narrow e.calm)
    c.in_ok-certified.certified _ _ c.in_ok-certified.ensures e.program e.certificate).0

pub returns-clause-bounded : goal.returns-clause-bounded
returns-clause-bounded c =
    let w = c.args.wanted in let fn = c.args.function.now in let e = c.in-Ok.ensures in
    (calm_plan_answers w fn
    (c.calm_law.ensures w.width (rounding_of w) fn c.requires.width e.narrow e.calm)
    c.in_ok-certified.certified _ _ c.in_ok-certified.ensures e.program e.certificate).1
