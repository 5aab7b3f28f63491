use Rattle.std.proofs.Common.{◌≡◌, ◌-◌, ◌+◌, ◌++◌, ◌∙◌, ℕ, List, length, map, ap, rules}
use Rattle.std.specs.List.{flat_map}
use Rattle.fx_program.specs.CodeView.{code_of}
use Rattle.fx_program.specs.declared.code.Code as program
use Rattle.fx_c99.specs.CText.{c_let_text, unreads_text}
use Rattle.fx_c99.specs.OfProgram.{c_lets_from}
use Rattle.fx_c.proofs.Taken.{body_is}
use Rattle.fx_c.proofs.text.put_body.Goals as goal

pub returns : goal.returns
returns c =
    let p = c.program.inside in let ns = c.args.widths.now in
    let many : c.len.result ≡ length p.codes.items = search rules in
    let first = c.len.result - (p.outputs + p.states) in
    body_is c.args.program.now p.version p.width p.inputs p.states p.outputs p.name p.codes.items ns
    first c.args.out.now.items c.put_lets.new.out.items c.put_stores.new.out.items
    c.put_outputs.new.out.items c.put_unreads.new.out.items c.program.view_is
    (ap (λ (k : ℕ). k - (p.outputs + p.states)) many)
    (c.in_ok-put_lets.ensures ∙ ap (λ (cs : List program.Code). c.args.out.now.items
    ++ flat_map (c_let_text p.width) (c_lets_from p.width 0 ns (map code_of cs))) c.deref.ensures.value)
    c.in_ok-put_stores.ensures c.in_ok-put_outputs.ensures
    (c.in_ok-put_unreads.ensures p.width ns ∙ ap (λ (cs : List program.Code). c.put_outputs.new.out.items
    ++ unreads_text (c_lets_from p.width 0 ns (map code_of cs)) first (c_lets_from p.width 0 ns (map code_of cs)))
    c.deref-2.ensures.value)
