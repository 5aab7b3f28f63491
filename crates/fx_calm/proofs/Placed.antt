-- The plan's numbers in code: bounds have 61 bits, and words 64.
use Rattle.std.proofs.Common.{◌≡◌, ℕ, ◌+◌, ◌^◌, ◌≤◌, List, [], ◌∷◌, length, map, ℤ, pos, negsuc, neg_ℤ, ◌≤ℤ◌, ◌-ℤ◌, FitsSigned, ap, sym, subst, ◌∙◌, arith}
use Rattle.std.specs.Prelude.{All, Contains}
use Rattle.std.specs.Int.{w64}
use Rattle.std.proofs.lemmas.Int.{ints}
use Rattle.std.proofs.lemmas.List.Elements.{All-nil, All-cons, All-from_get_or}
use Rattle.fx_rational.specs.Rational.{Rational, floor, scaled}
use Rattle.fx_model.specs.Function.{Function}
use Rattle.fx_model.specs.LawfulProgram.{IsLawfulProgram, widths}
use Rattle.fx_model.specs.Machine.{Round, Code}
use Rattle.fx_model.specs.Nodes.{Node, Input, State, Const, Neg, Add, Sub, Mul, Div, Copy, nodes_of}
use Rattle.fx_model.proofs.Widths.{width_of}
use Rattle.fx_inequalities.specs.Accepted.{start_of}
use Rattle.fx_lowering.specs.OfFunction.{program_for}
use Rattle.fx_plan_laws.specs.Powers.{magnitude}
use Rattle.fx_plan_laws.proofs.Powers.{power_more}
use Rattle.fx_plan_laws.proofs.Values.{magnitude_nonneg}
use Rattle.fx_flat.proofs.Pairs.{ArePairs}
use Rattle.fx_plan_laws.specs.Calm.{Numbers, numbers_of, IsCalm}
use Rattle.fx_plan_laws.specs.Bounds.{Bound, no_bound, units_up, const_bound}
use Rattle.fx_plan_laws.proofs.Calmness.{room}
use Rattle.fx_plan_laws.proofs.Rounded.{units_above}
use Rattle.fx_plan_laws.specs.CalmPlan.{bounds_of, calm_code, calm_program}
use Rattle.fx_plan_laws.specs.CalmLaw.{IsNarrowFunction}
use Rattle.fx_plan_laws.proofs.Folded.{IsNodeBound}
use Rattle.fx_plan_laws.proofs.Limited.{limited}
use Rattle.fx_plan_laws.proofs.Planned.{plan_is}
use Rattle.fx_plan_laws.proofs.PlanValues.{word_up_to}
use Rattle.fx_plan_laws.proofs.Whole.{pairs, start_limited}
use Rattle.fx_calm.specs.BoundOf.{IsShort, HasPlace, HasWord, HaveShortStarts}

-- what is at most 2^61 units has a word
word_fits : (x : Rational) (f : ℕ) → units_up f (magnitude x) ≤ 2 ^ 61 → FitsSigned w64 (floor (scaled x (pos f)))
word_fits x f few =
    let h = word_up_to x (units_up f (magnitude x)) f (units_above f (magnitude x) (magnitude_nonneg x)) in
    go (floor (scaled x (pos f))) (units_up f (magnitude x)) h.low h.high few
  where
    go : (z : ℤ) (r : ℕ) → neg_ℤ (pos r) ≤ℤ z → z ≤ℤ pos r → r ≤ 2 ^ 61 → FitsSigned w64 z
    go (pos k) r low high few = record { sfits = omega (arith, ints, high, few) }
    go (negsuc k) r low high few = record { sfits = omega (arith, ints, low, few) }

module _ (n : ℕ) (fn : Function) (some : Contains widths n) (narrow : IsNarrowFunction fn) (calm : IsCalm n fn) where
  abbrev c : Numbers
  c = numbers_of n fn

  abbrev bs : List Bound
  bs = bounds_of c fn

  units_few : {k : ℕ} → k ≤ 2 ^ (c.m + c.f) → k ≤ 2 ^ 61
  units_few l =
      let w = (room n fn (width_of n some) calm).width in
      let m = power_more {a = c.m + c.f} {b = 61} w in
      omega (arith, l, m)

  place : HasPlace c
  place =
      let r = room n fn (width_of n some) calm in
      by c.q c.a c.m c.f c.p _ c.v r.v r.roundings r.point r.states r.errors r.width
    where
      by : (q a m f p y : ℕ) (v : ℤ) → v ≡ pos y -ℤ pos f → m + 6 ≤ p → p + 2 ≤ f → q + 3 ≤ m → a + p + 5 + y ≤ m + f →
          m + f ≤ 61 → HasPlace (record { q = q; a = a; m = m; f = f; p = p; v = v; z = c.z })
      by q a m f p y v e o l s x w = record {
        some = omega (arith, s);
        point = omega (arith, s, w);
        few = omega (arith, l, s, w);
        states = omega (arith, s, w);
        error_low = omega (arith, ints, e);
        error_high = omega (arith, ints, e, x, w);
      }

  short : All IsShort bs
  short =
      All-from_get_or IsShort bs no_bound (λ a lt. (let h = limited n fn some narrow calm a lt in
      record { r = units_few h.r; e = units_few h.e }))

  short_starts : HaveShortStarts fn c.f
  short_starts k lt = units_few (start_limited n fn some narrow calm k lt)

  -- ---- words
  node_word : (k : ℕ) (node : Node) (x : Bound) → IsNodeBound (length fn.states) c fn.inputs bs k node x →
      HasWord fn c.f node
  node_word k (Input j) x h = tt
  node_word k (State j) x h = let lt = h.ordered.1 in (lt, word_fits (start_of fn j) c.f (short_starts j lt))
  node_word k (Const q) x h =
      let own : IsShort (const_bound c.f q) = subst IsShort (h.at ∙ h.is) (short k no_bound h.below) in
      word_fits q c.f own.r
  node_word k (Neg a) x h = tt
  node_word k (Add a b) x h = tt
  node_word k (Sub a b) x h = tt
  node_word k (Mul a b) x h = tt
  node_word k (Div a b) x h = tt
  node_word k (Copy a) x h = tt

  all_words : (k : ℕ) (nodes : List Node) (xs : List Bound) →
      ArePairs (IsNodeBound (length fn.states) c fn.inputs bs) k nodes xs → All (HasWord fn c.f) nodes
  all_words k [] [] h = All-nil (HasWord fn c.f)
  all_words k (node ∷ nodes) (x ∷ xs) h =
      All-cons (HasWord fn c.f) node nodes (node_word k node x h.0) (all_words (k + 1) nodes xs h.1)
  all_words k [] (x ∷ xs) h = absurd h
  all_words k (node ∷ nodes) [] h = absurd h

  words : All (HasWord fn c.f) (nodes_of fn)
  words = all_words 0 (nodes_of fn) bs (pairs n fn some narrow calm)

-- ---- the same of the numbers and nodes as they are handed on
module _ {n : ℕ} {fn : Function} (some : Contains widths n) (narrow : IsNarrowFunction fn) (calm : IsCalm n fn)
    {m : Numbers} (numbers : m ≡ numbers_of n fn) where
  pub placed : HasPlace m
  placed = subst HasPlace (sym numbers) (place n fn some narrow calm)

  pub all_short : All IsShort (bounds_of m fn)
  all_short = subst (λ (m : Numbers). All IsShort (bounds_of m fn)) (sym numbers) (short n fn some narrow calm)

  pub starts_short : HaveShortStarts fn m.f
  starts_short = subst (λ (m : Numbers). HaveShortStarts fn m.f) (sym numbers) (short_starts n fn some narrow calm)

  pub words_handed : {nodes : List Node} → nodes ≡ nodes_of fn → All (HasWord fn m.f) nodes
  words_handed same =
      subst (λ (nodes : List Node). All (HasWord fn m.f) nodes) (sym same)
      (subst (λ (m : Numbers). All (HasWord fn m.f) (nodes_of fn)) (sym numbers) (words n fn some narrow calm))

  -- the program of codes that are the plan's is the plan's
  pub program_is : (r : Round) (cs : List Code) {nodes : List Node} → nodes ≡ nodes_of fn →
      cs ≡ map (calm_code r fn m.f) nodes → program_for n r fn cs ≡ calm_program n r fn
  program_is r cs same is =
      ap (program_for n r fn) (is ∙ (λ j. map (calm_code r fn (numbers j).f) (same j)))

  pub program_lawful : (r : Round) (cs : List Code) {nodes : List Node} → nodes ≡ nodes_of fn →
      cs ≡ map (calm_code r fn m.f) nodes → IsLawfulProgram (program_for n r fn cs)
  program_lawful r cs same is =
      subst IsLawfulProgram (sym (program_is r cs same is)) (plan_is n r fn some narrow calm).program
