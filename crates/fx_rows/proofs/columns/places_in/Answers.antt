use Rattle.std.proofs.Common.{Ok, sym, ◌≡◌, ◌+◌, drop, ◌++◌, ◌∷◌, [], map, ap, ◌∙◌, arith, rules, inr}
use Rattle.std.proofs.lemmas.List.{length-map}
use Rattle.csv.specs.Records.{fields_of}
use Rattle.fx_model.specs.Function.{Input}
use Rattle.fx_expr.specs.Parts.{input_of}
use Rattle.fx_rows.specs.Blanks.{without_blanks}
use Rattle.fx_rows.specs.Header.{columns_from}
use Rattle.fx_rows.specs.Places.{kept_of, places_of}
use Rattle.fx_rows.proofs.Named.{is_missing, is_twice, is_one, all_done, joined, name-at}
use Rattle.fx_rows.proofs.columns.places_in.Goals as goal

pub returns-in-None : goal.returns-in-None
returns-in-None c =
    let fields = map without_blanks (fields_of c.args.row.now) in
    let names = map (λ (n : Input). n.name) (map input_of c.args.inputs.now) in
    let x = c.index-inputs-i.result in
    let kept = c.get.ensures.value ∙ c.in-Ok.ensures c.as_bytes.result.now
    ∙ ap (λ n. kept_of (places_of n fields)) (c.as_bytes.ensures.value ∙ c.as_str.ensures.text) in
    inr (is_missing names fields c.loop-i.i (input_of x).name
    (name-at c.args.inputs.now c.loop-i.i x c.loop-i-test.true c.index-inputs-i.is) c.loop-i.places.items _
    c.loop-i.invariant (c.in-None.ensures ∙ kept))

pub returns-in-Some-None : goal.returns-in-Some-None
returns-in-Some-None c =
    let fields = map without_blanks (fields_of c.args.row.now) in
    let names = map (λ (n : Input). n.name) (map input_of c.args.inputs.now) in
    let x = c.index-inputs-i.result in
    let kept = c.get.ensures.value ∙ c.in-Ok.ensures c.as_bytes.result.now
    ∙ ap (λ n. kept_of (places_of n fields)) (c.as_bytes.ensures.value ∙ c.as_str.ensures.text) in
    inr (is_twice names fields c.loop-i.i (input_of x).name
    (name-at c.args.inputs.now c.loop-i.i x c.loop-i-test.true c.index-inputs-i.is) c.loop-i.places.items _
    c.loop-i.invariant (rw c.in-Some-None.field-0-is at (c.in-Some-None.ensures ∙ kept)))

pub loop-i-preserved : goal.loop-i-preserved
loop-i-preserved c =
    let fields = map without_blanks (fields_of c.args.row.now) in
    let names = map (λ (n : Input). n.name) (map input_of c.args.inputs.now) in
    let x = c.index-inputs-i.result in
    let kept = c.get.ensures.value ∙ c.in-Ok.ensures c.as_bytes.result.now
    ∙ ap (λ n. kept_of (places_of n fields)) (c.as_bytes.ensures.value ∙ c.as_str.ensures.text) in
    let pushed : c.push.new.self.items ≡ c.loop-i.places.items ++ c.in-Some-Some.place ∷ [] = search rules in
    ap (λ l. joined l (columns_from (c.loop-i.i + 1) (drop (c.loop-i.i + 1) names) fields)) pushed
    ∙ is_one names fields c.loop-i.i (input_of x).name
    (name-at c.args.inputs.now c.loop-i.i x c.loop-i-test.true c.index-inputs-i.is) c.loop-i.places.items _
    c.loop-i.invariant c.in-Some-Some.place (rw c.in-Some-Some.field-0-is at (c.in-Some-Some.ensures ∙ kept))

pub returns : goal.returns
returns c =
    all_done (map (λ (n : Input). n.name) (map input_of c.args.inputs.now))
    (map without_blanks (fields_of c.args.row.now)) c.loop-i.i c.loop-i.places.items _
    (simp length-map (omega arith)) c.loop-i.invariant ∙ ap Ok (sym c.from_vec.ensures)
