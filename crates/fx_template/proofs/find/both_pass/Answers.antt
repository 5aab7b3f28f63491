use Rattle.std.proofs.Common.{ap, subst}
use Rattle.fx_cert.specs.CertificateView.{templates_in}
use Rattle.fx_cert.specs.declared.side.Side.TheVariants.{Value, Error}
use Rattle.fx_template.specs.Transitions.{transition_in}
use Rattle.fx_template.specs.Templates.{AreCountedTemplates, AreKept}
use Rattle.fx_template.proofs.find.both_pass.Goals as goal

pub returns-then-passes-clause-both : goal.returns-then-passes-clause-both
returns-then-passes-clause-both c = λ e.
    let t = transition_in c.args.t.now in let a = ap templates_in c.as_slice.ensures in
    let b = ap templates_in c.as_slice-then-passes.ensures in
    record {
      kept = subst (AreKept Value t) a (c.passes.ensures.kept c.if-passes.true);
      kept_errors = subst (AreKept Error t) b (c.passes-then-passes.ensures.kept e);
      counted = subst (AreCountedTemplates t.states) a (c.passes.ensures.counted c.if-passes.true);
      counted_errors = subst (AreCountedTemplates t.states) b (c.passes-then-passes.ensures.counted e);
    }
