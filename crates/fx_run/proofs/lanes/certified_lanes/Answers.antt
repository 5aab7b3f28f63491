use Rattle.std.proofs.Common.{◌≡◌, ◌<◌, ℕ, ℤ, List, [], map, sym, refl, subst, ◌∙◌, arith}
use Rattle.std.proofs.lemmas.List.{nil_from_length}
use Rattle.fx_rational.specs.Decimal.{decimal_value}
use Rattle.fx_model.specs.Function.{start_state}
use Rattle.fx_model.specs.Machine.{start_words}
use Rattle.fx_inequalities.specs.Near.{IsNear}
use Rattle.fx_rules.specs.Steps.{rewrite}
use Rattle.fx_checker.proofs.Ready.{states_are}
use Rattle.fx_lanes.specs.RowsSideBySide.{row_at}
use Rattle.fx_run.proofs.lanes.certified_lanes.Goals as goal

pub step_lanes-requires : goal.step_lanes-requires
step_lanes-requires g c =
    let a = c.args.certified.now in let fn = a.function in let p = a.program in let cert = a.certificate in
    let r = c.requires in
    let inputs = rw c.function.ensures at c.keeps.ensures.inputs in
    let start = c.certified.ensures.start in
    let none : start_words p.codes ≡ [] =
    nil_from_length (start_words p.codes) (start.words
    ∙ sym (states_are rewrite fn p cert c.certified.ensures.certified) ∙ r.states) in
    let near : IsNear fn p cert [] (start_state fn) =
    subst (λ (z : List ℤ). IsNear fn p cert z (start_state fn)) none start in
    let runs = λ (k : ℕ) (lt : k < 16).
    let row = map decimal_value (row_at p.inputs k c.args.rows.now) in
    let t = (c.in_range_law.ensures fn.inputs row inputs).0 (r.in_range k lt) in
    c.step_law.ensures rewrite fn p cert row t.0 [] (start_state fn) c.certified.ensures.certified t.1 near in
    rw c.program.ensures (
      omega arith,
      (
        r.width,
        (
          r.lane_room,
          (r.states, (r.words, (r.many, λ (k : ℕ) (lt : k < 16). rw (runs k lt).words.are refl))),
        ),
      ),
    )
