-- No condition of the calm plan has a fault.
use Rattle.std.proofs.Common.{◌≡◌, ℕ, ◌+◌, ◌-◌, ◌^◌, ◌<◌, ◌≤◌, ◌==◌, ltb, Bool, true, false, ◌&&◌, if◌then◌else◌, List, [], ◌∷◌, ◌++◌, length, map, min, get_or, None, ⊎_elim, ℤ, pos, refl, sym, ap, subst, ◌∙◌, arith}
use Rattle.std.specs.Prelude.{All, Contains}
use Rattle.std.specs.List.{list_all}
use Rattle.std.proofs.lemmas.Bool.{cases_lt}
use Rattle.std.proofs.lemmas.List.{length-map, get_or-map, get_or_past}
use Rattle.std.proofs.lemmas.List.Elements.{All-head, All-tail}
use Rattle.fx_rational.specs.Rational.{Rational}
use Rattle.fx_rational.proofs.Laws.{le_trans, le_of_equal, times_le}
use Rattle.fx_rational.proofs.Quotient.{above_nonneg}
use Rattle.fx_rational.proofs.Powers.{power_above}
use Rattle.fx_model.specs.Tree as tree
use Rattle.fx_model.specs.Tree.{at}
use Rattle.fx_model.specs.Function.{Function, outputs}
use Rattle.fx_model.specs.Machine.{Round, Code, Program, points_of, start_words}
use Rattle.fx_model.specs.LawfulProgram.{widths}
use Rattle.fx_model.specs.Nodes.{Node, inputs_from, states_from, nodes_of}
use Rattle.fx_model.proofs.Exact.{nodes_go}
use Rattle.fx_inequalities.specs.Formula.{Difference, span, word_at}
use Rattle.fx_inequalities.specs.Claim.{Claim, BelowFraction, AboveFraction, fits, holds}
use Rattle.fx_inequalities.specs.Affine.{Affine, range_at, error_at, affine_at, of_line, variable, templates_of}
use Rattle.fx_inequalities.specs.Certificate.{Certificate, NodeLine, StartBox, no_line, no_box}
use Rattle.fx_inequalities.specs.Condition as condition
use Rattle.fx_inequalities.specs.Condition.{Condition, Kind, Part, OfNode, first_fault_of}
use Rattle.fx_inequalities.specs.NodeConditions.{shape_conditions, node_conditions, variables}
use Rattle.fx_inequalities.specs.Accepted.{next_code, counts_agree, each_node, all_shape_conditions, no_state, start_of, start_claims, start_template_claims, template_claims, each_claims}
use Rattle.fx_flat.proofs.Ordered.{IsNodeList, node_list, before_length}
use Rattle.fx_plan_laws.specs.Narrow.{IsNarrowNumber, IsNarrowNode}
use Rattle.fx_plan_laws.specs.Powers.{magnitude}
use Rattle.fx_plan_laws.proofs.Claims.{AreMet, below_above_met, over_fits}
use Rattle.fx_plan_laws.proofs.Conditions.{faultless, same_count, same_name, none_append, test_last, indexes_none}
use Rattle.fx_flat.proofs.Pairs.{ArePairs, pairs_length}
use Rattle.fx_plan_laws.proofs.Powers.{power_more}
use Rattle.fx_plan_laws.proofs.Sizes.{IsSmall, IsSmallSpan, small_difference, small_zero}
use Rattle.fx_plan_laws.proofs.Values.{magnitude_nonneg}
use Rattle.fx_plan_laws.proofs.Words.{small_word_at}
use Rattle.fx_plan_laws.specs.Bounds.{Bound, no_bound, units_up, error_box, state_bound}
use Rattle.fx_plan_laws.specs.Calm.{Numbers, numbers_of, IsCalm}
use Rattle.fx_plan_laws.proofs.Calmness.{start_small}
use Rattle.fx_plan_laws.proofs.Factors.{box_is, powers}
use Rattle.fx_plan_laws.proofs.Rounded.{units_above, units_least}
use Rattle.fx_plan_laws.proofs.TreeBound.{tree_bound}
use Rattle.fx_plan_laws.specs.CalmPlan.{calm_code, calm_program, units, calm_line, calm_start, calm_certificate}
use Rattle.fx_plan_laws.specs.CalmLaw.{IsNarrowFunction}
use Rattle.fx_plan_laws.proofs.Flattened.{IsLimited}
use Rattle.fx_plan_laws.proofs.Folded.{IsNodeBound, all_bounded}
use Rattle.fx_plan_laws.proofs.Limited.{width, u, spare, space, roomy, next_few, whole_nodes, bs, front, copy_bound, bounds_long, front_long, limited}
use Rattle.fx_plan_laws.proofs.NodeClaims.{limit_few, ends_met}
use Rattle.fx_plan_laws.proofs.NodeFaults.{HasBounds, node_faults, shape_faults}
use Rattle.fx_plan_laws.proofs.Points.{IsPointed, all_points, start_word, start_word_at}
use Rattle.fx_plan_laws.proofs.Templates.{start_template_met, template_met, unit_template_at, unit_templates_long}
use Rattle.fx_plan_laws.proofs.Units.{small_units}
use Rattle.fx_plan_laws.proofs.PlanValues.{word_up_to, word_low, word_high}
use Rattle.fx_plan_laws.proofs.NodeFaults.{IsUndivided}

-- ---- lists of conditions
-- no node with its code has a fault
nodes_none : (P : ℕ → Node → Bound → Type 0) (f : ℕ → Node → Code → List Condition) (code : Node → Code) →
    ((k : ℕ) (node : Node) (x : Bound) → P k node x → IsNarrowNode node → IsUndivided node →
    first_fault_of (f k node (code node)) ≡ None) →
    (k : ℕ) (nodes : List Node) (xs : List Bound) → ArePairs P k nodes xs → All IsNarrowNode nodes →
    All IsUndivided nodes → first_fault_of (each_node f k nodes (map code nodes)) ≡ None
nodes_none P f code h k [] [] p w q = refl
nodes_none P f code h k (node ∷ nodes) (x ∷ xs) p w q =
    none_append (f k node (code node)) (each_node f (k + 1) nodes (map code nodes))
    (h k node x p.0 (All-head IsNarrowNode node nodes w) (All-head IsUndivided node nodes q))
    (nodes_none P f code h (k + 1) nodes xs p.1 (All-tail IsNarrowNode node nodes w)
    (All-tail IsUndivided node nodes q))
nodes_none P f code h k [] (x ∷ xs) p w q = absurd p
nodes_none P f code h k (node ∷ nodes) [] p w q = absurd p

-- comparisons for each index
pub claims_none : (kind : Kind) (part : Part) (n : ℕ) (claims : ℕ → List Claim) →
    ((i : ℕ) → i < n → AreMet (claims i)) → first_fault_of (each_claims kind part n claims) ≡ None
claims_none kind part n claims h =
    indexes_none n (λ i. record { kind = kind; part = part; index = i; test = true; claims = claims i })
    (λ i lt. faultless kind part i true (claims i) refl (h i lt))

four_met : (a b c d : Claim) → AreMet (a ∷ b ∷ []) → AreMet (c ∷ d ∷ []) → AreMet (a ∷ b ∷ c ∷ d ∷ [])
four_met a b c d h g = record { fits = both fits h.fits g.fits; holds = both holds h.holds g.holds }
  where
    both : (p : Claim → Bool) → list_all p (a ∷ b ∷ []) ≡ true → list_all p (c ∷ d ∷ []) ≡ true →
        list_all p (a ∷ b ∷ c ∷ d ∷ []) ≡ true
    both p x y = by (p a) (p b) (p c) (p d) x y
      where
        by : (s t q r : Bool) → (s && (t && true)) ≡ true → (q && (r && true)) ≡ true →
            (s && (t && (q && (r && true)))) ≡ true
        by true true q r x y = y
        by true false q r x y = absurd cc
        by false t q r x y = absurd cc

below_test : (a b : ℕ) → a < b → ltb a b ≡ true
below_test a b lt = grind (arith, lt)

test_below : (a b : ℕ) → ltb a b ≡ true → a < b
test_below a b e = grind (arith, e)

-- ---- forms of plain lines
plain_form : (v n f : ℕ) (ls : List NodeLine) (b : Bound) → v ≤ n → at no_line ls n ≡ calm_line f b →
    affine_at v ls n ≡ of_line (calm_line f b) None
plain_form v n f ls b le e =
    let l : ltb n v ≡ false = grind (arith, le) in
    ap (λ (t : Bool). if t then variable n else of_line (at no_line ls n) (at no_line ls n).form) l
    ∙ ap (λ (l : NodeLine). of_line l l.form) e

-- ---- a calm function at a width
module _ (n : ℕ) (fn : Function) (some_width : Contains widths n) (narrow : IsNarrowFunction fn)
    (calm : IsCalm n fn) where
  abbrev pub c : Numbers
  c = numbers_of n fn

  abbrev pub i : ℕ
  i = length fn.inputs

  abbrev pub k : ℕ
  k = length fn.states

  abbrev pub cert : Certificate
  cert = calm_certificate n fn

  abbrev pub bounds : List Bound
  bounds = bs n fn some_width narrow calm

  pub list : IsNodeList i k (outputs fn + k) (nodes_of fn)
  list = node_list fn narrow.lawful.valid

  pub pairs : ArePairs (IsNodeBound k c fn.inputs bounds) 0 (nodes_of fn) bounds
  pairs =
      let f = all_bounded c fn.inputs k (nodes_of fn) list.ordered in
      subst (λ (xs : List Bound). ArePairs (IsNodeBound k c fn.inputs bounds) 0 (nodes_of fn) xs) (sym f.is) f.pairs

  pub long : length (nodes_of fn) ≡ length bounds
  long = pairs_length (IsNodeBound k c fn.inputs bounds) 0 (nodes_of fn) bounds pairs

  pub counted : length (nodes_of fn) ≡ length list.before + (outputs fn + k)
  counted = before_length list

  few : {r : ℕ} → r ≤ 2 ^ (c.m + c.f) → r < 2 ^ 126
  few l = let m = limit_few n c (space n fn some_width narrow calm) in omega (arith, l, m)

  -- ---- the certificate
  has : HasBounds fn c bounds cert
  has = record {
    lines = refl;
    templates = λ j lt. ap (λ r. r.bound) (unit_template_at k 0 k j (units c.f (state_bound c).r) lt);
    error_templates = λ j lt. ap (λ r. r.bound) (unit_template_at k 0 k j (units c.f (state_bound c).e) lt);
  }

  -- ---- starts
  start_box : (j : ℕ) → j < k → at no_box cert.starts j ≡ calm_start c.f (at no_state fn.states j)
  start_box j lt = get_or-map (calm_start c.f) fn.states j no_state no_box lt

  start_units : (j : ℕ) → j < k → units_up c.f (magnitude (start_of fn j)) ≤ 2 ^ (c.q + c.f)
  start_units j lt = units_least c.f (magnitude (start_of fn j)) (magnitude_nonneg (start_of fn j)) (2 ^ (c.q + c.f))
      (le_trans (times_le (start_small n fn (width n fn some_width narrow calm) calm j no_state lt)
      (above_nonneg (power_above c.f))) (le_of_equal (powers c.q c.f)))

  pub start_limited : (j : ℕ) → j < k → units_up c.f (magnitude (start_of fn j)) ≤ 2 ^ (c.m + c.f)
  start_limited j lt =
      let h = start_units j lt in
      let s = (spare n fn some_width narrow calm).states in
      let m = power_more {a = c.q + c.f} {b = c.m + c.f} (omega (arith, s)) in
      omega (arith, h, m)

  narrow_start : (j : ℕ) → j < k → IsNarrowNumber (start_of fn j)
  narrow_start j lt = narrow.states j no_state lt

  box_few : (state_bound c).r < 2 ^ 126
  box_few =
      let s = (spare n fn some_width narrow calm).states in
      few (power_more {a = c.q + 2 + c.f} {b = c.m + c.f} (omega (arith, s)))

  error_box_few : (state_bound c).e < 2 ^ 126
  error_box_few =
      let e = (spare n fn some_width narrow calm).errors in
      let b = box_is c (u n fn some_width narrow calm) (spare n fn some_width narrow calm) in
      few (power_more {a = error_box c} {b = c.m + c.f} (omega (arith, e, b)))

  template_below : (j : ℕ) (b : Bound) → j < length cert.templates → j < k
  template_below j b lt = let l = unit_templates_long k 0 k (units c.f (state_bound c).r) in omega (arith, lt, l)

  error_template_below : (j : ℕ) → j < length cert.error_templates → j < k
  error_template_below j lt = let l = unit_templates_long k 0 k (units c.f (state_bound c).e) in omega (arith, lt, l)

  -- a size that is 0 past the states
  start_size : ℕ → ℕ
  start_size j = if ltb j k then units_up c.f (magnitude (start_of fn j)) else 0

  start_size_is : (j : ℕ) → j < k → start_size j ≡ units_up c.f (magnitude (start_of fn j))
  unfolding start_size
  start_size_is j lt =
      let e = below_test j k lt in ap (λ (t : Bool). if t then units_up c.f (magnitude (start_of fn j)) else 0) e

  start_size_few : (j : ℕ) → start_size j < 2 ^ 126
  unfolding start_size
  start_size_few j = by (ltb j k) refl
    where
      by : (t : Bool) → ltb j k ≡ t → (if t then units_up c.f (magnitude (start_of fn j)) else 0) < 2 ^ 126
      by true e = few (start_limited j (test_below j k e))
      by false e = omega arith

  pub start_templates_met : (j : ℕ) → j < length cert.templates →
      AreMet (start_template_claims k (templates_of k cert.templates) (λ s. span (at no_box cert.starts s).range) j)
  start_templates_met j lt =
      let l = template_below j no_bound lt in
      start_template_met c.f k (state_bound c).r box_few j
      (λ s. span (at no_box cert.starts s).range) start_size l start_size_few
      (λ s ls. subst (λ (b : StartBox). IsSmallSpan c.f (start_size s) (span b.range)) (sym (start_box s ls))
      (subst (λ (m : ℕ). IsSmallSpan c.f m (span (units c.f (units_up c.f (magnitude (start_of fn s))))))
      (sym (start_size_is s ls)) (small_units c.f _ (let f = few (start_limited s ls) in omega (arith, f)))))
      (let e = start_size_is j l in let h = start_units j l in
      let m = power_more {a = c.q + c.f} {b = c.q + 2 + c.f} (omega arith) in omega (arith, e, h, m))

  pub start_error_templates_met : (j : ℕ) → j < length cert.error_templates →
      AreMet (start_template_claims k (templates_of k cert.error_templates)
      (λ s. span (at no_box cert.starts s).error) j)
  start_error_templates_met j lt =
      start_template_met c.f k (state_bound c).e error_box_few j (λ s. span (at no_box cert.starts s).error) (λ s. 1)
      (error_template_below j lt) (λ s. omega arith)
      (λ s ls. subst (λ (b : StartBox). IsSmallSpan c.f 1 (span b.error)) (sym (start_box s ls))
      (small_units c.f 1 (omega arith)))
      (power_more {a = 0} {b = error_box c} (omega arith))

  -- ---- lines
  -- the bound of a node, or none
  limited_any : (a : ℕ) → IsLimited c (at no_bound bounds a)
  limited_any a =
      ⊎_elim (λ (lt : a < length bounds). limited n fn some_width narrow calm a lt)
      (λ (past : length bounds ≤ a). subst (IsLimited c) (sym (get_or_past bounds a no_bound past))
      (record { r = omega arith; e = omega arith })) (cases_lt a (length bounds))

  input_below : (j : ℕ) → j < i → j < length bounds
  input_below j lt =
      let f = front_long n fn some_width narrow calm in
      let b = bounds_long n fn some_width narrow calm in
      omega (arith, f, b, lt)

  pub line_at : (a : ℕ) → a < length bounds → at no_line cert.lines a ≡ calm_line c.f (at no_bound bounds a)
  line_at a lt = get_or-map (calm_line c.f) bounds a no_bound no_line lt

  -- ---- with the program, however it rounds
  module _ (r : Round) where
    abbrev pub p : Program
    p = calm_program n r fn

    abbrev pub codes : List Code
    codes = map (calm_code r fn c.f) (nodes_of fn)

    pub pointed : IsPointed c.f (length (nodes_of fn)) (points_of codes)
    pointed = all_points r fn i k c.f (nodes_of fn) list.ordered (whole_nodes n fn some_width narrow calm)

    point_at : (a : ℕ) → a < length bounds → at (pos 0) (points_of codes) a ≡ pos c.f
    point_at a lt = let l = long in let q = pointed.long in pointed.points a (omega (arith, lt, l, q))

    -- ---- nodes
    pub nodes_met : first_fault_of (each_node (node_conditions fn n (points_of codes) cert) 0 (nodes_of fn) codes)
        ≡ None
    nodes_met =
        nodes_none (IsNodeBound k c fn.inputs bounds) (node_conditions fn n (points_of codes) cert) (calm_code r fn c.f)
        (λ j node x h w q. node_faults n r fn c bounds cert (points_of codes) j node x
        (space n fn some_width narrow calm) has (limited n fn some_width narrow calm) narrow.inputs
        (roomy n fn some_width narrow calm) (point_at j h.below) h w q)
        0 (nodes_of fn) bounds pairs narrow.literals (whole_nodes n fn some_width narrow calm)

    pub shapes_met : first_fault_of (all_shape_conditions fn p) ≡ None
    shapes_met =
        let next = length (nodes_of fn) - k in
        let same =
        same_count (length (nodes_of fn)) (length codes) (sym (length-map (nodes_of fn) (calm_code r fn c.f))) in
        let cnt = counted in let enough = list.enough in
        test_last condition.Shape OfNode (min (length (nodes_of fn)) (length codes))
        (length (nodes_of fn) == length codes)
        (each_node (shape_conditions i next (points_of codes)) 0 (nodes_of fn) codes) same
        (nodes_none (IsNodeBound k c fn.inputs bounds) (shape_conditions i next (points_of codes)) (calm_code r fn c.f)
        (λ j node x h w q. (let below = h.below in
        shape_faults r fn i k next c.f j (points_of codes) node h.ordered
        (λ a le. point_at a (omega (arith, le, below))) (λ le. omega (arith, le, cnt, enough))))
        0 (nodes_of fn) bounds pairs narrow.literals (whole_nodes n fn some_width narrow calm))

    pub counts_met : counts_agree fn p cert ≡ true
    counts_met =
        let lines = same_count (length cert.lines) (length codes) (let l = length-map bounds (calm_line c.f) in
        let m = length-map (nodes_of fn) (calm_code r fn c.f) in let s = long in omega (arith, l, m, s)) in
        let a = same_name fn.name in let b = same_count i i refl in let d = same_count k k refl in
        let e = same_count (outputs fn) (outputs fn) refl in
        rw (a, b, d, e, lines) refl

    -- ---- starts
    word_is : (j : ℕ) → j < k → at (pos 0) (start_words codes) j ≡ start_word fn c.f j
    word_is j lt =
        let g = nodes_go i fn.temps fn.results [] [] (inputs_from 0 i ++ states_from 0 k) in
        start_word_at r fn c.f i k j (nodes_of fn) g.more g.is lt

    start_point : (j : ℕ) → j < k → at (pos 0) (points_of codes) (i + j) ≡ pos c.f
    start_point j lt =
        point_at (i + j) (let l = long in let cnt = counted in let e = list.enough in omega (arith, l, cnt, e, lt))

    pub starts_met : (j : ℕ) → j < k → AreMet (start_claims fn p cert j)
    starts_met j lt =
        let x = start_of fn j in let size = units_up c.f (magnitude x) in
        let sp = space n fn some_width narrow calm in
        let above = units_above c.f (magnitude x) (magnitude_nonneg x) in let l = start_limited j lt in
        let fw = few l in let fl = limit_few n c sp in
        let word = small_word_at (start_word fn c.f j) c.f size (omega (arith, fw)) (word_up_to x size c.f above) in
        let one = small_units c.f 1 (omega arith) in
        let nx = narrow_start j lt in
        let box : AreMet (BelowFraction (span (units c.f size)).lo x ∷ AboveFraction x (span (units c.f size)).hi
        ∷ []) = ends_met n c sp size x x l nx nx above above in
        let error : AreMet (BelowFraction
        (Difference (word_at (start_word fn c.f j) (pos c.f)) (span (units c.f 1)).hi) x
        ∷ AboveFraction x (Difference (word_at (start_word fn c.f j) (pos c.f)) (span (units c.f 1)).lo) ∷ []) =
        below_above_met (Difference (word_at (start_word fn c.f j) (pos c.f)) (span (units c.f 1)).hi)
        (Difference (word_at (start_word fn c.f j) (pos c.f)) (span (units c.f 1)).lo) x x
        (over_fits x (omega (arith, l, fl)) (small_difference (omega (arith, fw)) word one.hi) nx)
        (over_fits x (omega (arith, l, fl)) (small_difference (omega (arith, fw)) word one.lo) nx) (word_low x c.f)
        (word_high x c.f) in
        let four = four_met _ _ _ _ box error in
        let word_same = word_is j lt in let point_same = start_point j lt in let box_same = start_box j lt in
        subst (λ (b : StartBox). AreMet
        (claims_at b (at (pos 0) (start_words codes) j) (at (pos 0) (points_of codes) (i + j)) x)) (sym box_same)
        (subst (λ (w : ℤ). AreMet
        (claims_at (calm_start c.f (at no_state fn.states j)) w (at (pos 0) (points_of codes) (i + j)) x))
        (sym word_same)
        (subst (λ (f : ℤ). AreMet (claims_at (calm_start c.f (at no_state fn.states j)) (start_word fn c.f j) f x))
        (sym point_same) four))
      where
        -- the definition's four, at a box, a word and a point
        claims_at : StartBox → ℤ → ℤ → Rational → List Claim
        claims_at box w f x =
            BelowFraction (span box.range).lo x ∷ AboveFraction x (span box.range).hi
            ∷ BelowFraction (Difference (word_at w f) (span box.error).hi) x
            ∷ AboveFraction x (Difference (word_at w f) (span box.error).lo) ∷ []

    -- ---- templates
    -- the copy of next state j
    next_place : (j : ℕ) → j < k → (next_code p j ≡ length (front n fn some_width narrow calm) + (outputs fn + j)) ×
        (next_code p j < length bounds)
    next_place j lt =
        let m = length-map (nodes_of fn) (calm_code r fn c.f) in let l = long in
        let b = bounds_long n fn some_width narrow calm in let results = narrow.lawful.valid.all_results in
        (omega (arith, m, l, b, results, lt), omega (arith, m, l, b, results, lt))

    next_bound : (j : ℕ) → j < k →
        at no_bound bounds (next_code p j) ≡ tree_bound c fn.inputs (get_or fn.results (outputs fn + j) (tree.Input 0))
    next_bound j lt =
        let results = narrow.lawful.valid.all_results in
        ap (at no_bound bounds) (next_place j lt).0
        ∙ copy_bound n fn some_width narrow calm (outputs fn + j) (tree.Input 0) (omega (arith, results, lt))

    next_form : (j : ℕ) → j < k →
        affine_at (variables fn) cert.lines (next_code p j)
        ≡ of_line (calm_line c.f (at no_bound bounds (next_code p j))) None
    next_form j lt =
        let q = next_place j lt in let f = front_long n fn some_width narrow calm in let e = q.0 in
        plain_form (variables fn) (next_code p j) c.f cert.lines (at no_bound bounds (next_code p j))
        (omega (arith, e, f)) (line_at (next_code p j) q.1)

    no_coefs : (j s : ℕ) → s < k → IsSmall 0 0 ((affine_at (variables fn) cert.lines (next_code p s)).coef j)
    no_coefs j s lt =
        subst (λ (a : Affine). IsSmall 0 0 (a.coef j)) (sym (next_form s lt)) (small_zero 0 0 (omega arith))

    -- the range and the error of any bound are small
    small_range : (s : ℕ) → IsSmallSpan c.f (at no_bound bounds s).r (span (units c.f (at no_bound bounds s).r))
    small_range s = small_units c.f _ (let f = few (limited_any s).r in omega (arith, f))

    small_error : (s : ℕ) → IsSmallSpan c.f (at no_bound bounds s).e (span (units c.f (at no_bound bounds s).e))
    small_error s = small_units c.f _ (let f = few (limited_any s).e in omega (arith, f))

    pub templates_met : (j : ℕ) → j < length cert.templates →
        AreMet (template_claims fn p cert (templates_of k cert.templates) cert.templates (range_at cert.lines)
        (λ a. a.rest) j)
    templates_met j lt =
        let l = template_below j no_bound lt in
        template_met c.f k (state_bound c).r box_few i j (λ s. affine_at (variables fn) cert.lines (next_code p s))
        (λ a. a.rest) (range_at cert.lines) (λ s. (at no_bound bounds (next_code p s)).r)
        (λ s. (at no_bound bounds s).r) l (λ s. few (limited_any (next_code p s)).r)
        (λ s ls. subst (λ (a : Affine). IsSmallSpan c.f (at no_bound bounds (next_code p s)).r a.rest)
        (sym (next_form s ls)) (small_range (next_code p s)))
        no_coefs
        (λ s ls. subst (λ (m : NodeLine). IsSmallSpan c.f (at no_bound bounds s).r (span m.range))
        (sym (line_at s (input_below s ls))) (small_range s))
        (subst (λ (b : Bound). b.r ≤ 2 ^ (c.q + 2 + c.f)) (sym (next_bound j l))
        (next_few n fn some_width narrow calm j (tree.Input 0) l).0)

    pub error_templates_met : (j : ℕ) → j < length cert.error_templates →
        AreMet (template_claims fn p cert (templates_of k cert.error_templates) cert.error_templates
        (error_at cert.lines) (λ a. a.error_rest) j)
    error_templates_met j lt =
        let l = error_template_below j lt in
        let b = box_is c (u n fn some_width narrow calm) (spare n fn some_width narrow calm) in
        template_met c.f k (state_bound c).e error_box_few i j
        (λ s. affine_at (variables fn) cert.lines (next_code p s)) (λ a. a.error_rest) (error_at cert.lines)
        (λ s. (at no_bound bounds (next_code p s)).e) (λ s. (at no_bound bounds s).e) l
        (λ s. few (limited_any (next_code p s)).e)
        (λ s ls. subst (λ (a : Affine). IsSmallSpan c.f (at no_bound bounds (next_code p s)).e a.error_rest)
        (sym (next_form s ls)) (small_error (next_code p s)))
        no_coefs
        (λ s ls. subst (λ (m : NodeLine). IsSmallSpan c.f (at no_bound bounds s).e (span m.error))
        (sym (line_at s (input_below s ls))) (small_error s))
        (subst (λ (b : Bound). b.e ≤ 2 ^ error_box c) (sym (next_bound j l))
        (subst (λ (m : ℕ). (tree_bound c fn.inputs (get_or fn.results (outputs fn + j) (tree.Input 0))).e ≤ 2 ^ m)
        (sym b) (next_few n fn some_width narrow calm j (tree.Input 0) l).1))
