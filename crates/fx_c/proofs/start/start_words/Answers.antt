use Rattle.std.proofs.Common.{pos, get_or, sym, ap, ◌∙◌, ◌++◌}
use Rattle.fx_model.specs.Machine.{starts_of}
use Rattle.fx_program.specs.CodeView.{code_of}
use Rattle.fx_program.specs.declared.code.Code.TheVariants.{Input}
use Rattle.fx_c.proofs.Appended.{start_more}
use Rattle.fx_c.proofs.start.start_words.Goals as goal

pub loop-code-preserved : goal.loop-code-preserved
loop-code-preserved c =
    let c_of = code_of (get_or c.args.codes.now c.loop-code.code-index (Input 0 (pos 0))) in
    c.in_ok-take_start.ensures ∙ ap (λ ws. ws ++ starts_of c_of) c.loop-code.invariant
    ∙ sym (start_more code_of c.args.codes.now c.loop-code.code-index (Input 0 (pos 0)) c.loop-code-test.true)
