use Rattle.std.proofs.Common.{sym, subst}
use Rattle.fx_inequalities.specs.LawfulCertificate.{IsLawfulCertificate}
use Rattle.fx_rules.specs.Steps.{rewrite}
use Rattle.fx_wanted.specs.Asked.{rounding_of}
use Rattle.fx_plain_attempts.proofs.Promised.{accepted_as, plain_plan_bounded}
use Rattle.fx_plain_attempts.proofs.plans.plain_answer.Goals as goal

pub certify_plan-requires : goal.certify_plan-requires
certify_plan-requires c =
    let w = c.args.wanted in let fn = c.args.function.now in let e = c.in-Ok.ensures in
    record {
      lawful = subst IsLawfulCertificate (sym e.certificate) e.plan.certificate;
      accepted = accepted_as fn _ _ _ _ e.program e.certificate
          (c.class_law.ensures rewrite w.width (rounding_of w) fn c.requires.width c.requires.class);
    }

pub returns-clause-bounded : goal.returns-clause-bounded
returns-clause-bounded c =
    let w = c.args.wanted in let fn = c.args.function.now in let e = c.in-Ok.ensures in
    plain_plan_bounded w fn c.in_ok-certified.certified _ _ c.in_ok-certified.ensures e.program e.certificate
    (c.bound_law.ensures w.width (rounding_of w) fn c.requires.width c.requires.class.plain c.requires.class.modest)
