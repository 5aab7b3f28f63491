-- The calm plan of a calm function is accepted, and each output's bound is at most 2^z.
use Rattle.std.proofs.Common.{◌≡◌, ℕ, ◌+◌, ◌^◌, ◌<◌, ◌≤◌, Bool, true, false, if◌then◌else◌, [], ◌∷◌, ◌++◌, length, get_or, ℤ, pos, neg_ℤ, ◌+ℤ◌, ◌-ℤ◌, refl, sym, ap, subst, ◌∙◌, arith}
use Rattle.std.specs.Prelude.{Contains}
use Rattle.std.proofs.lemmas.Int.{ints}
use Rattle.std.proofs.lemmas.List.{length-map}
use Rattle.fx_rational.specs.Rational.{Rational, whole, over, times, negative, AtMost, Equal}
use Rattle.fx_rational.specs.Dyadic.{Dyadic, dyadic_value, negated, is_dyadic_at_most}
use Rattle.fx_rational.specs.Interval.{Interval}
use Rattle.fx_rational.proofs.Ring.{by_quotes, quotes}
use Rattle.fx_rational.proofs.Laws.{equal_refl, equal_sym, equal_trans, le_trans, le_of_equal, negative_le, negative_same, times_le, times_same}
use Rattle.fx_rational.proofs.Quotient.{above_nonneg}
use Rattle.fx_rational.proofs.Powers.{power, unit, unit_above, unit_power}
use Rattle.fx_model.specs.Tree as tree
use Rattle.fx_model.specs.Tree.{at}
use Rattle.fx_model.specs.Function as function
use Rattle.fx_model.specs.Function.{Function, free, outputs}
use Rattle.fx_model.specs.Machine.{Round, points_of}
use Rattle.fx_model.specs.LawfulProgram.{widths}
use Rattle.fx_model.specs.Nodes.{nodes_of}
use Rattle.fx_inequalities.specs.Formula.{Num, formula_value, span}
use Rattle.fx_inequalities.specs.Affine.{range_at, error_at, templates_of}
use Rattle.fx_inequalities.specs.Certificate.{NodeLine, no_line, no_box}
use Rattle.fx_inequalities.specs.Condition as condition
use Rattle.fx_inequalities.specs.Condition.{OfProgram, OfStart, OfTemplate, OfErrorTemplate, OfOutput}
use Rattle.fx_inequalities.specs.NodeConditions.{node_conditions}
use Rattle.fx_inequalities.specs.Rewriting.{Rewrites}
use Rattle.fx_inequalities.specs.Accepted.{output_code, counts_agree, each_node, all_shape_conditions, start_claims, start_template_claims, template_claims, demand_claims, each_claims, conditions_of, demand_conditions, IsAccepted, certified_bound}
use Rattle.fx_outward.specs.Grid.{lowest_dyadic}
use Rattle.fx_plan_laws.specs.Demands.{allows}
use Rattle.fx_plan_laws.specs.Powers.{power_value}
use Rattle.fx_plan_laws.proofs.Claims.{AreMet}
use Rattle.fx_plan_laws.proofs.Conditions.{faultless, none_append, test_first, indexes_none}
use Rattle.fx_plan_laws.proofs.Powers.{power_more}
use Rattle.fx_plan_laws.proofs.Demands.{IsWithinPower, demand_met}
use Rattle.fx_plan_laws.specs.Bounds.{Bound, no_bound}
use Rattle.fx_plan_laws.specs.Calm.{numbers_of, IsCalm}
use Rattle.fx_plan_laws.proofs.Calmness.{all_at, demands}
use Rattle.fx_plan_laws.proofs.Factors.{power_units, naturals_le}
use Rattle.fx_plan_laws.proofs.TreeBound.{tree_bound}
use Rattle.fx_plan_laws.specs.CalmPlan.{calm_code, calm_program, units, calm_certificate}
use Rattle.fx_plan_laws.specs.CalmLaw.{IsNarrowFunction, IsCalmPlan, CalmLaw}
use Rattle.fx_plan_laws.proofs.Lawful.{program_lawful, certificate_lawful}
use Rattle.fx_plan_laws.proofs.Limited.{width, u, spare, space, front, copy_bound, bounds_long, output_error}
use Rattle.fx_plan_laws.proofs.Roundings.{program_rounds}
use Rattle.fx_plan_laws.proofs.Units.{small_units}
use Rattle.fx_plan_laws.proofs.PlanValues.{units_value, minus_units_value}
use Rattle.fx_plan_laws.proofs.Whole.{k, bounds, long, line_at, claims_none, counts_met, shapes_met, nodes_met, starts_met, start_templates_met, start_error_templates_met, templates_met, error_templates_met}

-- e units, of which there are at most 2^k, are at most 2^z, which is 2^k units
within_power : (z : ℤ) (e k f : ℕ) → e ≤ 2 ^ k → z ≡ pos k -ℤ pos f →
    AtMost (times (whole (pos e)) (unit (pos f))) (power_value z)
within_power z e k f l h =
    le_trans (times_le (naturals_le l) (above_nonneg (unit_above (pos f))))
    (le_of_equal (equal_trans (times_same (equal_sym (power_units z k f h)) (equal_refl (unit (pos f))))
    (equal_trans (by_quotes {ρ = power_value z ∷ power f ∷ unit (pos f)
    ∷ []} {b =
    times (power_value z) (times (unit (pos f)) (power f))} (search quotes depth 20) (search quotes depth 20) refl)
    (equal_trans (times_same (equal_refl (power_value z)) (unit_power f))
    (by_quotes {ρ = power_value z ∷ []} (search quotes depth 20) (search quotes depth 20) refl)))))

-- ---- the greater end
number_value : (d : Dyadic) → formula_value (Num d) ≡ dyadic_value d
unfolding formula_value
number_value d = refl

negated_value : (d : Dyadic) → Equal (dyadic_value (negated d)) (negative (dyadic_value d))
unfolding dyadic_value negative over
negated_value d = equal_refl _

turned_end : (e f : ℕ) →
    Equal (dyadic_value (negated (lowest_dyadic (neg_ℤ (pos e)) f))) (times (whole (pos e)) (unit (pos f)))
turned_end e f =
    let d = lowest_dyadic (neg_ℤ (pos e)) f in
    equal_trans (negated_value d)
    (equal_trans (negative_same
    (subst (λ (r : Rational). Equal r (negative (times (whole (pos e)) (unit (pos f))))) (number_value d)
    (minus_units_value e f)))
    (by_quotes {ρ = times (whole (pos e)) (unit (pos f)) ∷ []} {b = times (whole (pos e)) (unit (pos f))}
    (search quotes depth 20) (search quotes depth 20) refl))

upper_end : (e f : ℕ) → Equal (dyadic_value (lowest_dyadic (pos e) f)) (times (whole (pos e)) (unit (pos f)))
upper_end e f =
    subst (λ (r : Rational). Equal r (times (whole (pos e)) (unit (pos f)))) (number_value (lowest_dyadic (pos e) f))
    (units_value (pos e) f)

greater_end : (x : Rational) (e f : ℕ) → AtMost (times (whole (pos e)) (unit (pos f))) x →
    (let h = units f e in let lo = negated h.lo in
    AtMost (dyadic_value (if is_dyadic_at_most lo h.hi then h.hi else lo)) x)
greater_end x e f l = by (is_dyadic_at_most (negated (units f e).lo) (units f e).hi)
  where
    by : (t : Bool) → AtMost (dyadic_value (if t then (units f e).hi else negated (units f e).lo)) x
    by true = le_trans (le_of_equal (upper_end e f)) l
    by false = le_trans (le_of_equal (turned_end e f)) l

-- ---- errors within 2^z
within_z : (z : ℤ) (e f : ℕ) → e ≤ 2 ^ 61 → AtMost (times (whole (pos e)) (unit (pos f))) (power_value z) →
    IsWithinPower f e z (span (units f e))
within_z z e f l h = record {
  small = small_units f e (omega (arith, l));
  few = omega (arith, l);
  low = le_trans (negative_le h) (le_of_equal (equal_sym (minus_units_value e f)));
  high = le_trans (le_of_equal (units_value (pos e) f)) h;
}

-- ---- a calm function at a width
module _ (n : ℕ) (r : Round) (fn : Function) (some_width : Contains widths n) (narrow : IsNarrowFunction fn)
    (calm : IsCalm n fn) where
  -- the copy of output j
  output_place : (j : ℕ) → j < outputs fn →
      (output_code (calm_program n r fn) j ≡ length (front n fn some_width narrow calm) + j) ×
      (output_code (calm_program n r fn) j < length (bounds n fn some_width narrow calm))
  output_place j lt =
      let m = length-map (nodes_of fn) (calm_code r fn (numbers_of n fn).f) in
      let l = long n fn some_width narrow calm in let b = bounds_long n fn some_width narrow calm in
      let results = narrow.lawful.valid.all_results in
      (omega (arith, m, l, b, results, lt), omega (arith, m, l, b, results, lt))

  output_bound : (j : ℕ) → j < outputs fn →
      at no_bound (bounds n fn some_width narrow calm) (output_code (calm_program n r fn) j)
      ≡ tree_bound (numbers_of n fn) fn.inputs (get_or fn.results j (tree.Input 0))
  output_bound j lt =
      let results = narrow.lawful.valid.all_results in
      ap (at no_bound (bounds n fn some_width narrow calm)) (output_place j lt).0
      ∙ copy_bound n fn some_width narrow calm j (tree.Input 0) (omega (arith, results, lt))

  -- its error in units
  error_of : (j : ℕ) → ℕ
  error_of j = (tree_bound (numbers_of n fn) fn.inputs (get_or fn.results j (tree.Input 0))).e

  output_line : (j : ℕ) → j < outputs fn →
      (at no_line (calm_certificate n fn).lines (output_code (calm_program n r fn) j)).error
      ≡ units (numbers_of n fn).f (error_of j)
  unfolding error_of
  output_line j lt =
      ap (λ (l : NodeLine). l.error)
      (line_at n fn some_width narrow calm (output_code (calm_program n r fn) j) (output_place j lt).1)
      ∙ ap (λ (b : Bound). units (numbers_of n fn).f b.e) (output_bound j lt)

  z_is : (numbers_of n fn).z
      ≡ pos ((numbers_of n fn).a + (numbers_of n fn).p + 5 + u n fn some_width narrow calm) -ℤ pos (numbers_of n fn).f
  z_is = moved ((numbers_of n fn).a + (numbers_of n fn).p + 5) (u n fn some_width narrow calm) (numbers_of n fn).f
    where
      moved : (k y f : ℕ) → pos k +ℤ (pos y -ℤ pos f) ≡ pos (k + y) -ℤ pos f
      moved k y f = omega (arith, ints)

  error_few : (j : ℕ) → j < outputs fn →
      error_of j ≤ 2 ^ ((numbers_of n fn).a + (numbers_of n fn).p + 5 + u n fn some_width narrow calm)
  unfolding error_of
  error_few j lt = output_error n fn some_width narrow calm j (tree.Input 0) lt

  error_short : (j : ℕ) → j < outputs fn → error_of j ≤ 2 ^ 61
  error_short j lt =
      let e = error_few j lt in let s = spare n fn some_width narrow calm in let er = s.errors in let w = s.width in
      let m =
      power_more {a = (numbers_of n fn).a + (numbers_of n fn).p + 5 + u n fn some_width narrow calm} {b = 61}
      (omega (arith, er, w)) in
      omega (arith, e, m)

  error_within : (j : ℕ) → j < outputs fn →
      AtMost (times (whole (pos (error_of j))) (unit (pos (numbers_of n fn).f))) (power_value (numbers_of n fn).z)
  error_within j lt =
      within_power (numbers_of n fn).z (error_of j)
      ((numbers_of n fn).a + (numbers_of n fn).p + 5 + u n fn some_width narrow calm) (numbers_of n fn).f
      (error_few j lt) z_is

  demands_met : (j : ℕ) → j < outputs fn →
      (let ls = (calm_certificate n fn).lines in let o = output_code (calm_program n r fn) j in
      AreMet (demand_claims (at free fn.demands j) (range_at ls o) (error_at ls o)))
  demands_met j lt =
      let ls = (calm_certificate n fn).lines in let o = output_code (calm_program n r fn) j in
      let c = numbers_of n fn in
      subst (λ (h : Interval). AreMet (demand_claims (at free fn.demands j) (range_at ls o) (span h)))
      (sym (output_line j lt))
      (demand_met c.f (error_of j) c.z (range_at ls o) (span (units c.f (error_of j))) (at free fn.demands j)
      (within_z c.z (error_of j) c.f (error_short j lt) (error_within j lt)) (narrow.demands j free lt)
      (all_at (λ (d : function.Demand). allows d c.z) fn.demands j free
      (demands n fn (width n fn some_width narrow calm) calm) lt))

  -- ---- all conditions
  accepted : (rewrite : Rewrites) → IsAccepted rewrite fn (calm_program n r fn) (calm_certificate n fn)
  accepted rewrite =
      let q = calm_program n r fn in let ct = calm_certificate n fn in let states = length fn.states in
      let nodes = each_node (node_conditions fn n (points_of q.codes) ct) 0 (nodes_of fn) q.codes in
      let starts = each_claims condition.Start OfStart states (start_claims fn q ct) in
      let start_templates =
      each_claims condition.Start OfTemplate (length ct.templates)
      (start_template_claims states (templates_of states ct.templates) (λ s. span (at no_box ct.starts s).range)) in
      let start_errors =
      each_claims condition.Start OfErrorTemplate (length ct.error_templates)
      (start_template_claims states (templates_of states ct.error_templates)
      (λ s. span (at no_box ct.starts s).error)) in
      let templates =
      each_claims condition.Row OfTemplate (length ct.templates)
      (template_claims fn q ct (templates_of states ct.templates) ct.templates (range_at ct.lines) (λ a. a.rest)) in
      let errors =
      each_claims condition.ErrorRow OfErrorTemplate (length ct.error_templates)
      (template_claims fn q ct (templates_of states ct.error_templates) ct.error_templates (error_at ct.lines)
      (λ a. a.error_rest)) in
      test_first condition.Counts OfProgram 0 (counts_agree fn q ct)
      (conditions_of fn q ct ++ demand_conditions fn q ct) (counts_met n fn some_width narrow calm r)
      (none_append (conditions_of fn q ct) (demand_conditions fn q ct)
      (none_append (all_shape_conditions fn q)
      (nodes ++ (starts ++ (start_templates ++ (start_errors ++ (templates ++ errors)))))
      (shapes_met n fn some_width narrow calm r)
      (none_append nodes (starts ++ (start_templates ++ (start_errors ++ (templates ++ errors))))
      (nodes_met n fn some_width narrow calm r)
      (none_append starts (start_templates ++ (start_errors ++ (templates ++ errors)))
      (claims_none condition.Start OfStart states (start_claims fn q ct) (starts_met n fn some_width narrow calm r))
      (none_append start_templates (start_errors ++ (templates ++ errors))
      (claims_none condition.Start OfTemplate (length ct.templates) _
      (start_templates_met n fn some_width narrow calm))
      (none_append start_errors (templates ++ errors)
      (claims_none condition.Start OfErrorTemplate (length ct.error_templates) _
      (start_error_templates_met n fn some_width narrow calm))
      (none_append templates errors
      (claims_none condition.Row OfTemplate (length ct.templates) _ (templates_met n fn some_width narrow calm r))
      (claims_none condition.ErrorRow OfErrorTemplate (length ct.error_templates) _
      (error_templates_met n fn some_width narrow calm r))))))))
      (indexes_none (outputs fn) (λ j. record {
        kind = condition.Demand;
        part = OfOutput;
        index = j + 1;
        test = true;
        claims =
            demand_claims (at free fn.demands j) (range_at ct.lines (output_code q j))
            (error_at ct.lines (output_code q j));
      })
      (λ j lt. faultless condition.Demand OfOutput (j + 1) true
      (demand_claims (at free fn.demands j) (range_at ct.lines (output_code q j))
      (error_at ct.lines (output_code q j))) refl (demands_met j lt))))

  bounds_within : (j : ℕ) → j < outputs fn →
      AtMost (certified_bound (calm_program n r fn) (calm_certificate n fn) j) (power_value (numbers_of n fn).z)
  bounds_within j lt =
      subst (λ (h : Interval). AtMost
      (dyadic_value (if is_dyadic_at_most (negated h.lo) h.hi then h.hi else negated h.lo))
      (power_value (numbers_of n fn).z)) (sym (output_line j lt))
      (greater_end (power_value (numbers_of n fn).z) (error_of j) (numbers_of n fn).f (error_within j lt))

  pub plan : IsCalmPlan n r fn
  plan = record {
    accepted = accepted;
    program = program_lawful n fn some_width narrow calm r;
    certificate = certificate_lawful n fn some_width narrow calm;
    rounded = program_rounds n r fn (space n fn some_width narrow calm).some;
    bounds = bounds_within;
  }

pub plan_is : CalmLaw
plan_is n r fn some_width narrow calm = plan n r fn some_width narrow calm
