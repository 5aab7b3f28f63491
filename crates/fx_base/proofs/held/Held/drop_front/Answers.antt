use Rattle.std.proofs.Common.{◌≡◌, ◌+◌, ◌-◌, take, drop, length, arith, sym, ap, ◌∙◌}
use Rattle.std.proofs.lemmas.List.{drop-drop, drop-take, length-take}
use Rattle.fx_base.proofs.held.Held.drop_front.Goals as goal

pub returns : goal.returns
returns c =
    let start = c.self.inside.start in
    let n = c.args.count in
    let size = c.self.inside.end - start in
    let behind = drop start c.self.inside.block.items in
    let enough : n + (size - n) ≡ size = omega (arith, ap length c.self.view_is, c.requires, length-take size behind) in
    ap (λ k. take k (drop (start + n) c.self.inside.block.items))
    (let e : c.self.inside.end - (start + n) ≡ size - n = omega arith in e)
    ∙ ap (take (size - n)) (sym (drop-drop n start c.self.inside.block.items))
    ∙ sym (drop-take n (size - n) behind)
    ∙ ap (λ k. drop n (take k behind)) enough
    ∙ ap (drop n) c.self.view_is
