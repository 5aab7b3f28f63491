use Rattle.std.proofs.Common.{◌≡◌, ◌+◌, ◌-◌, ◌<◌, length, get_or, drop, arith, ap, ◌∙◌}
use Rattle.std.proofs.Math.ListN.{length-set}
use Rattle.fx_rows.specs.Line.{pieces, pieces_left}
use Rattle.fx_rows.proofs.Cuts.{drop-further, one_further}
use Rattle.fx_rows.proofs.Passed.{leading_piece}
use Rattle.fx_rows.proofs.Placed.{column_value, one_placed}
use Rattle.fx_rows.proofs.Ranges.{no_range, range-at}
use Rattle.fx_rows.proofs.quick.read_columns.Goals as goal

pub behind_piece-rest-requires : goal.behind_piece-rest-requires
behind_piece-rest-requires c = leading_piece c.in_ok-text.text.now _ _ c.in_ok-value.ensures.leads

pub loop-k-preserved : goal.loop-k-preserved
loop-k-preserved c =
    let whole = pieces c.args.line.now in
    let i = get_or c.args.order.now c.loop-k.k 0 in
    let place = get_or c.args.columns.now.places.now i 0 in
    let column = c.loop-k.column in
    let le = c.if-place-column.false in
    let there : place ≡ column + (place - column) = omega (arith, le) in
    let one : place - column + 1 ≡ place + 1 - column = omega (arith, le) in
    let lt : i < length c.args.columns.now.ranges.now = c.requires.each c.loop-k.k 0 c.loop-k-test.true in
    let left = pieces_left c.loop-k.rest in
    let behind = c.behind_piece-rest.ensures in
    record {
      long = length-set c.loop-k.row i _ ∙ c.loop-k.invariant.long;
      rest =
          one_further left (pieces c.in_ok-text.text.now) _ _ (place - column) behind.pieces c.in_ok-text.ensures.pieces
          ∙ ap (λ n. drop n left) one ∙ ap (λ l. drop (place + 1 - column) l) c.loop-k.invariant.rest
          ∙ drop-further whole column (place + 1) (omega (arith, le));
      special = behind.special ∙ c.in_ok-text.ensures.special ∙ c.loop-k.invariant.special;
      values = λ is h.
          let x = range-at is c.args.columns.now.ranges.now h i no_range lt in
          one_placed is c.args.columns.now.places.now whole c.args.order.now c.loop-k.row c.loop-k.k _ x.0
          (omega (arith, lt, c.loop-k.invariant.long)) x.1
          (column_value x.0 whole left _ c.in_ok-text.text.now _ _ _ column
          (place - column) place x.2 c.in_ok-value.ensures c.loop-k.invariant.rest there c.in_ok-text.ensures.pieces
          behind.pieces)
          (c.loop-k.invariant.values is h);
    }
