use Rattle.std.proofs.Common.{Some, map, sym, ap, ap₂, subst, ◌∙◌}
use Rattle.fx_lanes.specs.WordsSideBySide.{AreLanes, divided}
use Rattle.fx_lanes.proofs.Filled.{are_numbers, array_quotients, arrays}
use Rattle.fx_lanes.proofs.wide.WideLanesSideBySide.div_shift.Goals as goal

pub quotients-requires : goal.quotients-requires
quotients-requires g c =
    let r = c.requires in
    let a =
    arrays c.array-v.ensures c.array-w.ensures c.self.view_is c.other.view_is c.self.invariant c.other.invariant in
    record { width = r.room; left = a.left; right = a.right; shift = r.shift; fits = array_quotients a c.args.s r.fits }

pub of-requires : goal.of-requires
of-requires g c = are_numbers c.requires.room.most c.quotients.ensures.words

pub invariant_of-result : goal.invariant_of-result
invariant_of-result g c = subst (AreLanes g.row.B) (sym c.of.ensures) c.quotients.ensures.words

pub returns : goal.returns
returns g c =
    let a =
    arrays c.array-v.ensures c.array-w.ensures c.self.view_is c.other.view_is c.self.invariant c.other.invariant in
    ap (map (λ q. Some q)) c.of.ensures ∙ c.quotients.ensures.some ∙ ap₂ (divided c.args.s) a.left_is a.right_is
