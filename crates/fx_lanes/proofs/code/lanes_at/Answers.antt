use Rattle.fx_lanes.proofs.Sixteen.{words_found}
use Rattle.fx_lanes.proofs.code.lanes_at.Goals as goal

pub returns : goal.returns
returns g c =
    words_found g.L.SideBySide.words c.args.words.now c.args.a c.index-words-a.result c.requires c.index-words-a.is
    c.keeps.ensures.many
