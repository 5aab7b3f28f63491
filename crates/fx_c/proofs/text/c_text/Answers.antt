use Rattle.std.proofs.Common.{◌≡◌, ap, sym, subst}
use Rattle.fx_model.specs.Machine.{Program}
use Rattle.fx_c99.specs.OfProgram.{c_text_of}
use Rattle.fx_c99.specs.Runs.{DoesSteps}
use Rattle.fx_c.proofs.Whole.{whole_is}
use Rattle.fx_c.proofs.text.c_text.Goals as goal

text_is : (c : goal.After-drop-starts-2) →
    c.put_step.new.out.items ≡ c_text_of c.args.program.now c.args.widths.now.items
text_is c =
    whole_is c.args.program.now c.program.inside.codes.items c.deref.result.now c.args.widths.now.items
    c.as_slice.result.now c.as_slice-3.result.now c.new-out.result.items c.put_front.new.out.items
    c.put_step.new.out.items c.as_slice-2.result.now c.in_ok-starts.starts.items
    (ap (λ (q : Program). q.codes) c.program.view_is) c.deref.ensures.value c.as_slice.ensures.value
    c.as_slice-3.ensures.value c.new-out.ensures.items c.in_ok-starts.ensures c.as_slice-2.ensures.value
    c.in_ok-put_front.ensures c.in_ok-put_step.ensures

pub returns-clause-text : goal.returns-clause-text
returns-clause-text c = text_is c

pub returns-clause-does : goal.returns-clause-does
returns-clause-does c =
    let q = c.args.program.now in let ns = c.args.widths.now.items in
    subst (DoesSteps q ns) (sym (text_is c))
    (c.text_law.ensures q ns c.keeps.ensures.lawful c.keeps.ensures.name c.requires)
