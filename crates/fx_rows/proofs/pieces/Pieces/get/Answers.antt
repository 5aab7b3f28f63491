use Rattle.std.proofs.Common.{◌≤◌, length, ap, sym, ◌∙◌, arith}
use Rattle.csv.specs.Records.{field_at}
use Rattle.fx_rows.specs.Line.{pieces_left}
use Rattle.fx_rows.proofs.Cuts.{in_table, behind_table, first_there, none_there}
use Rattle.fx_rows.proofs.pieces.Pieces.get.Goals as goal

pub returns-then-place-self : goal.returns-then-place-self
returns-then-place-self c =
    let room : c.self.inside.count ≤ length c.self.inside.first = omega (arith, c.self.told, c.self.invariant) in
    sym (ap (λ fs. field_at fs c.args.place) (sym c.self.view_is)
    ∙ in_table c.self.inside.first c.self.inside.count c.args.place _
    (pieces_left c.self.inside.rest) c.if-place-self.true room)

pub returns-in-Some : goal.returns-in-Some
returns-in-Some c =
    let room : c.self.inside.count ≤ length c.self.inside.first = omega (arith, c.self.told, c.self.invariant) in
    first_there (pieces_left c.self.inside.rest)
    (pieces_left c.skip_pieces.result) _ _ _ c.in-Some.ensures c.skip_pieces.ensures
    ∙ sym (ap (λ fs. field_at fs c.args.place) (sym c.self.view_is)
    ∙ behind_table c.self.inside.first c.self.inside.count c.args.place
    (pieces_left c.self.inside.rest) c.if-place-self.false room)

pub returns-in-None : goal.returns-in-None
returns-in-None c =
    let room : c.self.inside.count ≤ length c.self.inside.first = omega (arith, c.self.told, c.self.invariant) in
    none_there (pieces_left c.self.inside.rest)
    (pieces_left c.skip_pieces.result) _ c.in-None.ensures c.skip_pieces.ensures
    ∙ sym (ap (λ fs. field_at fs c.args.place) (sym c.self.view_is)
    ∙ behind_table c.self.inside.first c.self.inside.count c.args.place
    (pieces_left c.self.inside.rest) c.if-place-self.false room)
