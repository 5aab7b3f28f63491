use Rattle.std.proofs.Common.{◌≡◌, ◌+◌, List, [], ◌∷◌, ◌++◌, take, map, ap, sym, subst, ◌∙◌, rules}
use Rattle.std.proofs.lemmas.List.{take_more, map-append}
use Rattle.fx_model.specs.Function.{Input}
use Rattle.fx_fraction.specs.declared.range.Range.{Range}
use Rattle.fx_expr.specs.Parts.{input_of}
use Rattle.fx_expr.specs.declared.parts.Input as declared
use Rattle.fx_rows.specs.Ranges.{AreRangesOf}
use Rattle.fx_rows.proofs.Ranges.{range-is, ranges-more}
use Rattle.fx_rows.proofs.reader.ranges_of.Goals as goal

pub loop-input-preserved : goal.loop-input-preserved
loop-input-preserved c =
    let k = c.loop-input.input-index in let ins = c.args.inputs.now in let x = c.input-item.result in
    let one_more : take (k + 1) ins ≡ take k ins ++ x ∷ [] = take_more ins k x c.loop-input-test.true
    ∙ ap (λ (y : declared.Input). take k ins ++ y ∷ []) (sym c.input-item.is) in
    let inputs : map input_of (take (k + 1) ins) ≡ map input_of (take k ins) ++ input_of x ∷ [] =
    ap (map input_of) one_more ∙ map-append input_of (take k ins) (x ∷ []) in
    let pushed : c.push.new.self.items ≡ c.loop-input.ranges.items ++ c.new.result ∷ [] = search rules in
    let more =
    ranges-more (map input_of (take k ins)) c.loop-input.ranges.items
    (input_of x) c.new.result c.loop-input.invariant (range-is x c.new.result c.new.ensures) in
    subst (λ (is : List Input). AreRangesOf is c.push.new.self.items) (sym inputs)
    (subst (λ (rs : List Range). AreRangesOf (map input_of (take k ins) ++ input_of x ∷ []) rs) (sym pushed) more)
