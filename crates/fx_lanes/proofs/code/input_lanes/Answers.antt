use Rattle.std.proofs.Common.{◌≡◌, ◌<◌, ◌+◌, ◌*◌, pos, length, sym, ap, subst, ◌∙◌, arith, rules, to_z, of_z, FitsSigned, slice_index_or}
use Rattle.std.specs.Int.{w32, w64}
use Rattle.std.proofs.lemmas.Int.{to_z-of_z}
use Rattle.std.proofs.lemmas.List.{length-set, get_or_default}
use Rattle.fx_rational.specs.Decimal.{Decimal, quantised}
use Rattle.fx_model.specs.Machine.{IsWord}
use Rattle.fx_lanes.proofs.Sixteen.{filled_more, place_within}
use Rattle.fx_lanes.proofs.code.input_lanes.Goals as goal

pub loop-j-preserved : goal.loop-j-preserved
loop-j-preserved g c =
    let rows = c.args.rows.now in let n = c.args.inputs in let k = c.args.k in let j = c.loop-j.j in let f = c.args.f in
    let lt : j * n + k < length rows =
    place_within n j k (length rows) c.requires.many c.loop-j-test.true c.requires.within in
    let fr : FitsSigned w64 c.input_word.result = search rules in
    let got : (d : Decimal) →
    to_z w64 (of_z w64 c.input_word.result)
    ≡ quantised (slice_index_or rows (j * n + k) d) (to_z w32 (of_z w32 f)) =
    λ d. to_z-of_z w64 c.input_word.result fr ∙ c.input_word.ensures
    ∙ ap (λ (x : Decimal). quantised x (to_z w32 (of_z w32 f))) (c.index-rows-j.is
    ∙ get_or_default rows (j * n + k) c.index-rows-j.result d lt) in
    record {
      many = length-set _ _ _ ∙ c.loop-j.invariant.many;
      filled =
          filled_more c.loop-j.words j (to_z w64 (of_z w64 c.input_word.result))
          (λ i d. quantised (slice_index_or rows (i * n + k) d) (to_z w32 (of_z w32 f)))
          (omega (arith, c.loop-j.invariant.many, c.loop-j-test.true)) c.loop-j.invariant.filled got;
    }

pub of-requires : goal.of-requires
of-requires g c =
    let rows = c.args.rows.now in let n = c.args.inputs in let k = c.args.k in let f = c.args.f in
    let ef = to_z-of_z w32 f c.ranges.f in
    let none : Decimal = record { a = pos 0; b = 0 } in
    let many = c.loop-j.invariant.many in
    record {
      room = c.requires.room;
      words = record {
        many = many;
        words =
            λ i e lt. subst (IsWord g.row.B)
            (sym (get_or_default c.loop-j.words i e (pos 0) lt
            ∙ c.loop-j.invariant.filled i none (omega (arith, many, c.loop-j-test.false))
            ∙ ap (quantised (slice_index_or rows (i * n + k) none)) ef))
            (c.requires.words i none (omega (arith, many)));
      };
    }
