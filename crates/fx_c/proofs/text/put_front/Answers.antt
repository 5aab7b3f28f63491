use Rattle.std.proofs.Common.{◌++◌, ◌∙◌, List, map, ap}
use Rattle.fx_program.specs.CodeView.{code_of}
use Rattle.fx_program.specs.declared.code.Code as program
use Rattle.fx_c99.specs.CText.{helpers_text}
use Rattle.fx_c99.specs.OfProgram.{c_lets_from}
use Rattle.fx_c.proofs.Whole.{front_is}
use Rattle.fx_c.proofs.text.put_front.Goals as goal

pub returns : goal.returns
returns c =
    let p = c.program.inside in let ns = c.args.widths.now in let title = c.as_bytes-title.result.now in
    front_is c.args.program.now p.version p.width p.inputs p.states p.outputs p.name p.codes.items ns title
    c.args.starts.now c.args.out.now.items c.put_top.new.out.items c.put_helpers.new.out.items c.put_reset.new.out.items
    c.program.view_is (c.as_bytes-title.ensures.value ∙ c.as_str.ensures.text) c.in_ok-put_top.ensures
    (c.in_ok-put_helpers.ensures ∙ ap (λ (cs : List program.Code). c.put_top.new.out.items
    ++ helpers_text p.width (c_lets_from p.width 0 ns (map code_of cs))) c.deref.ensures.value)
    c.in_ok-put_reset.ensures
