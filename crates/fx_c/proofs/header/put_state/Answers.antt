use Rattle.std.proofs.Common.{pos, rules, ◌+◌, ◌++◌, ◌∙◌, ap}
use Rattle.std.specs.Int.{w32, w64}
use Rattle.std.proofs.lemmas.Int.{to_z-of_z}
use Rattle.fx_model.specs.Machine.{Program}
use Rattle.fx_model.specs.Tree.{at}
use Rattle.fx_c99.specs.CHeader.{point, state_macros}
use Rattle.fx_c.proofs.header.put_state.Goals as goal

pub returns : goal.returns
returns c =
    let q = c.args.program.now in let k = c.args.k in
    let t = c.title.ensures in let n = c.state_name.ensures in
    let f = to_z-of_z w32 c.point_at.result (search rules) ∙ c.point_at.ensures.value
    ∙ ap (λ (r : Program). point q (r.inputs + k)) c.program.view_is in
    let w = to_z-of_z w64 c.word_at.result (search rules) ∙ c.word_at.ensures
    ∙ ap (λ ws. at (pos 0) ws k) c.requires.starts in
    c.in_ok-put_state_macros.ensures ∙ (λ i. c.args.out.now.items ++ state_macros (t i) k (n i) (f i) (w i))
