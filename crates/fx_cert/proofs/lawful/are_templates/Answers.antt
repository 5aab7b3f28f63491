use Rattle.std.proofs.Common.{ℕ, ◌≤◌, All, length, subst, sym}
use Rattle.std.proofs.lemmas.List.{length-map}
use Rattle.std.proofs.lemmas.List.Elements.{All-map}
use Rattle.fx_inequalities.specs.LawfulCertificate.{AreUnitTemplates, IsWrittenTemplate}
use Rattle.fx_cert.specs.declared.certificate.Template.{Template}
use Rattle.fx_cert.specs.CertificateView.{template_view, templates_in}
use Rattle.fx_cert.proofs.Tested.{all_so, none_seen, one_more_so, rest_seen}
use Rattle.fx_cert.proofs.lawful.are_templates.Goals as goal

pub loop-i-preserved : goal.loop-i-preserved
loop-i-preserved c =
    let xs = c.args.templates.now in let i = c.loop-i.i in let r = c.index-templates-i.result in
    let k = c.args.states in let lt = c.loop-i-test.true in let yes = c.if-not-is_template.false in
    record {
      each =
          one_more_so (λ (x : Template). IsWrittenTemplate k (length xs) (template_view x)) xs i r lt
          c.index-templates-i.is (c.is_template.ensures.written yes) c.loop-i.invariant.each;
      units = λ rest. c.loop-i.invariant.units
          (subst (AreUnitTemplates k i) (sym (rest_seen template_view xs i r lt c.index-templates-i.is))
          (c.is_template.ensures.unit yes, rest));
    }

pub returns : goal.returns
returns c = λ _.
    let xs = c.args.templates.now in let i = c.loop-i.i in let k = c.args.states in let end = c.loop-i-test.false in
    let same = sym (length-map xs template_view) in
    record {
      enough = subst (λ (n : ℕ). k ≤ n) same c.if-count-states.false;
      few = subst (λ (n : ℕ). n ≤ 512) same c.if-count-gt-TEMPLATES.false;
      units = c.loop-i.invariant.units (subst (AreUnitTemplates k i) (sym (none_seen template_view xs i end)) tt);
      each =
          subst (λ (n : ℕ). All (IsWrittenTemplate k n) (templates_in xs)) same
          (All-map (IsWrittenTemplate k (length xs)) template_view xs
          (all_so (λ (x : Template). IsWrittenTemplate k (length xs) (template_view x)) xs i end
          c.loop-i.invariant.each));
    }
