use Rattle.std.proofs.Common.{◌≡◌, ◌<◌, SFits, List, ℤ, pos, length, ap, sym, subst, ◌∙◌, rules}
use Rattle.std.specs.Int.{w64}
use Rattle.std.proofs.lemmas.Int.{to_z-of_z}
use Rattle.std.proofs.lemmas.List.{length-map}
use Rattle.fx_model.specs.Tree.{at}
use Rattle.fx_lanes.specs.RowsSideBySide.{lane}
use Rattle.fx_lanes.proofs.Sixteen.{word_found}
use Rattle.fx_lanes.proofs.step.LaneRegisters.word.Goals as goal

pub returns : goal.returns
returns g c =
    let f : SFits w64 c.get.result = search rules in
    let words = g.L.SideBySide.words in let kept = c.self.inside.words.items in let n = c.args.n in let k = c.args.k in
    let within : n < length kept =
    subst (λ (m : _). n < m) (sym (ap length c.self.view_is) ∙ length-map kept words) c.requires.within in
    let found : at (pos 0) (words c.index.result.now) k ≡ at (pos 0) (lane k c.args.self.now) n =
    word_found words kept n c.index.result.now k within c.index.ensures
    ∙ ap (λ (vs : List (List ℤ)). at (pos 0) (lane k vs) n) c.self.view_is in
    to_z-of_z w64 c.get.result f ∙ c.get.ensures.value ∙ c.word.ensures ∙ found
