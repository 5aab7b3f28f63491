-- A text can spell the calm program and the calm certificate.
use Rattle.std.proofs.Common.{ℕ, zero, suc, ◌+◌, ◌-◌, ◌^◌, ◌<◌, ◌≤◌, List, [], ◌∷◌, length, map, ℤ, pos, refl, sym, subst, ◌∙◌, arith, pow_pos, pow-add}
use Rattle.std.specs.Prelude.{All, Contains}
use Rattle.std.proofs.lemmas.Int.{ints}
use Rattle.std.proofs.lemmas.List.{length-map}
use Rattle.std.proofs.lemmas.List.Elements.{All-nil, All-cons, All-map, All-append, All-from_get_or}
use Rattle.fx_rational.specs.Dyadic.{IsWritten, zero_dyadic}
use Rattle.fx_rational.specs.Interval.{Interval, IsWrittenInterval}
use Rattle.fx_model.specs.Function.{Function}
use Rattle.fx_model.specs.Machine.{Round, Floor, IsWord, points_of}
use Rattle.fx_model.specs.LawfulProgram.{IsPoint, IsShift, IsCopyShift, IsLawfulCode, IsPlaced, widths, IsLawfulProgram}
use Rattle.fx_model.specs.Nodes.{Node, Input, State, Const, Neg, Add, Sub, Mul, Div, Copy, nodes_of}
use Rattle.fx_model.proofs.Wide.{is_word_from}
use Rattle.fx_inequalities.specs.Accepted.{start_of, no_state}
use Rattle.fx_inequalities.specs.LawfulCertificate.{zeros, unit_vector, AreUnitTemplates, AreWrittenTemplates, IsWrittenTemplate, AreWrittenLines, IsWrittenStep, IsWrittenBox, IsLawfulCertificate}
use Rattle.fx_flat.specs.InPlace.{IsInPlace}
use Rattle.fx_lowering.proofs.CodesBy.{pairs_map}
use Rattle.fx_lowering.proofs.Lowered.{IsLowered, copy_by, lowered_program}
use Rattle.fx_cert.proofs.Units.{unit_length}
use Rattle.fx_plan_laws.specs.Powers.{magnitude}
use Rattle.fx_flat.proofs.Pairs.{ArePairs, pairs_with}
use Rattle.fx_plan_laws.proofs.Powers.{power_more}
use Rattle.fx_plan_laws.proofs.Sizes.{IsUpTo}
use Rattle.fx_plan_laws.proofs.Values.{magnitude_nonneg}
use Rattle.fx_plan_laws.specs.Bounds.{Bound, no_bound, units_up, state_bound}
use Rattle.fx_plan_laws.specs.Calm.{Numbers, numbers_of, IsCalm}
use Rattle.fx_plan_laws.proofs.Factors.{box_is}
use Rattle.fx_plan_laws.proofs.Rounded.{units_above}
use Rattle.fx_plan_laws.specs.CalmPlan.{node_bound, calm_code, calm_program, units, calm_line, calm_start, unit_templates, calm_certificate}
use Rattle.fx_plan_laws.specs.CalmLaw.{IsNarrowFunction}
use Rattle.fx_plan_laws.proofs.Flattened.{IsLimited}
use Rattle.fx_plan_laws.proofs.Folded.{IsNodeBound}
use Rattle.fx_plan_laws.proofs.Limited.{u, spare, space, whole_nodes, limited}
use Rattle.fx_plan_laws.proofs.NodeClaims.{IsSpacious, limit_few}
use Rattle.fx_plan_laws.proofs.Roundings.{shift_rounds, program_rounds}
use Rattle.fx_plan_laws.proofs.Templates.{unit_templates_long}
use Rattle.fx_plan_laws.proofs.Units.{units_written}
use Rattle.fx_plan_laws.proofs.PlanValues.{word_up_to}
use Rattle.fx_plan_laws.proofs.Whole.{c, i, k, codes, bounds, list, pairs, long, counted, pointed, start_limited}
use Rattle.fx_plan_laws.proofs.NodeFaults.{IsUndivided}

-- ---- words and shifts
no_shift : (n : ℕ) → IsShift n (pos 0)
no_shift n = record { low = omega (arith, ints); high = omega (arith, ints) }

no_copy_shift : (n : ℕ) → IsCopyShift Floor n (pos 0)
no_copy_shift n = record { low = omega (arith, ints); high = omega (arith, ints) }

-- what is at most 2^(m + f) is a word
word_fits : (n : ℕ) (c : Numbers) (z : ℤ) (r : ℕ) → IsSpacious n c → r ≤ 2 ^ (c.m + c.f) → IsUpTo r z → IsWord n z
word_fits n c z r space l h =
    let w = space.width in let low = h.low in let high = h.high in
    let d = pow-add 2 (c.m + c.f) 1 in let m = power_more {a = (c.m + c.f) + 1} {b = n - 1} (omega (arith, w)) in
    let p = pow_pos (c.m + c.f) in
    is_word_from n z (record { low = omega (arith, ints, low, l, m, d); high = omega (arith, ints, high, l, m, d, p) })

-- ---- unit vectors
zero_written : IsWritten zero_dyadic
zero_written = record { small = omega arith; places = omega arith; one_spelling = λ l. absurd (omega (arith, l)) }

one_written : IsWritten (record { m = pos 1; e = 0 })
one_written = record { small = omega arith; places = omega arith; one_spelling = λ l. absurd (omega (arith, l)) }

zeros_written : (n : ℕ) → All IsWritten (zeros n)
zeros_written zero = All-nil IsWritten
zeros_written (suc n) = All-cons IsWritten zero_dyadic (zeros n) zero_written (zeros_written n)

unit_written : (k i : ℕ) → All IsWritten (unit_vector k i)
unit_written k i =
    All-append IsWritten (zeros i) (record { m = pos 1; e = 0 } ∷ zeros (k - (i + 1))) (zeros_written i)
    (All-cons IsWritten (record { m = pos 1; e = 0 }) (zeros (k - (i + 1))) one_written (zeros_written (k - (i + 1))))

-- ---- unit templates
are_units : (states i k : ℕ) (bound : Interval) → AreUnitTemplates states i (unit_templates states bound i k)
are_units states i zero bound = tt
are_units states i (suc k) bound = ((λ lt. refl), are_units states (i + 1) k bound)

each_written : (states count i k : ℕ) (bound : Interval) → i + k ≤ states → IsWrittenInterval bound →
    All (IsWrittenTemplate states count) (unit_templates states bound i k)
each_written states count i zero bound l h = All-nil (IsWrittenTemplate states count)
each_written states count i (suc k) bound l h =
    All-cons (IsWrittenTemplate states count) (record { coefs = unit_vector states i; bound = bound; shares = [] })
    (unit_templates states bound (i + 1) k)
    (record {
      coefs = unit_length states i (omega (arith, l));
      written = unit_written states i;
      bound = h;
      shares = tt;
    }) (each_written states count (i + 1) k bound (omega (arith, l)) h)

templates_written : (states : ℕ) (bound : Interval) → states ≤ 32 → IsWrittenInterval bound →
    AreWrittenTemplates states (unit_templates states bound 0 states)
templates_written states bound few h =
    let l = unit_templates_long states 0 states bound in record {
      enough = omega (arith, l);
      few = omega (arith, l, few);
      units = are_units states 0 states bound;
      each = each_written states (length (unit_templates states bound 0 states)) 0 states bound (omega arith) h;
    }

-- ---- lines
lines_written : (f v r e j : ℕ) (xs : List Bound) → f ≤ 96 → All (λ b. (b.r < 2 ^ 62) × (b.e < 2 ^ 62)) xs →
    AreWrittenLines v r e j (map (calm_line f) xs)
lines_written f v r e j [] few h = tt
lines_written f v r e j (x ∷ xs) few h =
    let own = h 0 x (omega arith) in (
      (units_written f x.r few own.0, units_written f x.e few own.1, tt),
      lines_written f v r e (j + 1) xs few (λ s d lt. h (suc s) d (omega (arith, lt))),
    )

-- ---- a calm function at a width
module _ (n : ℕ) (fn : Function) (some_width : Contains widths n) (narrow : IsNarrowFunction fn)
    (calm : IsCalm n fn) where
  spacious : IsSpacious n (c n fn some_width narrow calm)
  spacious = space n fn some_width narrow calm

  -- ---- the program, however it rounds
  module _ (r : Round) where
    code_lawful : (j : ℕ) (node : Node) (x : Bound) →
        IsNodeBound (length fn.states) (numbers_of n fn) fn.inputs (bounds n fn some_width narrow calm) j node x →
        IsUndivided node →
        IsLawfulCode n j (calm_code r fn (numbers_of n fn).f node) ×
        IsPlaced (length fn.inputs) (length fn.states) j (calm_code r fn (numbers_of n fn).f node)
    code_lawful j node x h w =
        by node h.ordered w (subst (IsLimited (numbers_of n fn)) (h.at
        ∙ h.is) (limited n fn some_width narrow calm j h.below))
      where
        by : (node : Node) → IsInPlace (length fn.inputs) (length fn.states) j node → IsUndivided node →
            IsLimited (numbers_of n fn)
            (node_bound (numbers_of n fn) fn.inputs (bounds n fn some_width narrow calm) node) →
            IsLawfulCode n j (calm_code r fn (numbers_of n fn).f node) ×
            IsPlaced (length fn.inputs) (length fn.states) j (calm_code r fn (numbers_of n fn).f node)
        by (Input m) o w l = (tt, o)
        by (State m) o w l = (
          word_fits n (numbers_of n fn) _ _ spacious (start_limited n fn some_width narrow calm m o.1)
              (word_up_to (start_of fn m) _ (numbers_of n fn).f
              (units_above (numbers_of n fn).f (magnitude (start_of fn m)) (magnitude_nonneg (start_of fn m)))),
          o,
        )
        by (Const v) o w l = (
          word_fits n (numbers_of n fn) _ _ spacious l.r
              (word_up_to v _ (numbers_of n fn).f (units_above (numbers_of n fn).f (magnitude v) (magnitude_nonneg v))),
          o,
        )
        by (Neg a) o w l = (o.1, o.0)
        by (Add a b) o w l = ((o.1, o.2, no_shift n, no_shift n), o.0)
        by (Sub a b) o w l = ((o.1, o.2, no_shift n, no_shift n), o.0)
        by (Mul a b) o w l = (
          (o.1, o.2, let s = spacious.width in omega (arith, s), shift_rounds r (numbers_of n fn).f spacious.some),
          o.0,
        )
        by (Div a b) o w l = absurd w
        by (Copy a) o w l = ((o.1, no_copy_shift n), o.0)

    lowered : ArePairs (IsLowered n (length fn.inputs) (length fn.states)) 0 (nodes_of fn)
        (codes n fn some_width narrow calm r)
    lowered = pairs_map (λ j node x. IsNodeBound (length fn.states) (numbers_of n fn) fn.inputs
        (bounds n fn some_width narrow calm) j node x × IsUndivided node)
        (IsLowered n (length fn.inputs) (length fn.states)) (calm_code r fn (numbers_of n fn).f)
        (λ j node x h. let l = code_lawful j node x h.0 h.1 in record {
          lawful = l.0;
          placed = l.1;
          copy = copy_by (calm_code r fn (numbers_of n fn).f) (λ a. tt) node;
        }) 0 (nodes_of fn) (bounds n fn some_width narrow calm)
        (pairs_with (IsNodeBound (length fn.states) (numbers_of n fn) fn.inputs (bounds n fn some_width narrow calm))
        IsUndivided 0 (nodes_of fn) (bounds n fn some_width narrow calm) (pairs n fn some_width narrow calm)
        (whole_nodes n fn some_width narrow calm))

    points : All IsPoint (points_of (codes n fn some_width narrow calm r))
    points =
        let h = pointed n fn some_width narrow calm r in
        All-from_get_or IsPoint (points_of (codes n fn some_width narrow calm r)) (pos 0)
        (λ a lt. subst IsPoint (sym (h.points a lt)) (let s = spacious.point in
        record { low = omega (arith, ints); high = omega (arith, ints, s) }))

    pub program_lawful : IsLawfulProgram (calm_program n r fn)
    program_lawful =
        lowered_program n r fn (codes n fn some_width narrow calm r) some_width narrow.lawful lowered points
        (program_rounds n r fn spacious.some).codes

  -- ---- the certificate
  small_written : (r : ℕ) → r ≤ 2 ^ ((numbers_of n fn).m + (numbers_of n fn).f) →
      IsWrittenInterval (units (numbers_of n fn).f r)
  small_written r l =
      let m = limit_few n (numbers_of n fn) spacious in
      let s = spacious.point in
      units_written (numbers_of n fn).f r (omega (arith, s)) (omega (arith, l, m))

  starts_written : All IsWrittenBox (map (calm_start (numbers_of n fn).f) fn.states)
  starts_written = All-map IsWrittenBox (calm_start (numbers_of n fn).f) fn.states
      (All-from_get_or (λ s. IsWrittenBox (calm_start (numbers_of n fn).f s)) fn.states no_state
      (λ j lt. (
        small_written (units_up (numbers_of n fn).f (magnitude (start_of fn j)))
            (start_limited n fn some_width narrow calm j lt),
        small_written 1 (pow_pos ((numbers_of n fn).m + (numbers_of n fn).f)),
      )))

  all_small : All (λ b. (b.r < 2 ^ 62) × (b.e < 2 ^ 62)) (bounds n fn some_width narrow calm)
  all_small = All-from_get_or (λ b. (b.r < 2 ^ 62) × (b.e < 2 ^ 62)) (bounds n fn some_width narrow calm) no_bound
      (λ a lt. (let h = limited n fn some_width narrow calm a lt in let r = h.r in let e = h.e in
      let m = limit_few n (numbers_of n fn) spacious in (omega (arith, r, m), omega (arith, e, m))))

  pub certificate_lawful : IsLawfulCertificate (calm_certificate n fn)
  certificate_lawful =
      let sp = spare n fn some_width narrow calm in let st = sp.states in let er = sp.errors in
      let b = box_is (numbers_of n fn) (u n fn some_width narrow calm) sp in
      let lines = length-map (bounds n fn some_width narrow calm) (calm_line (numbers_of n fn).f) in
      let l = long n fn some_width narrow calm in let t = counted n fn some_width narrow calm in
      let e = (list n fn some_width narrow calm).enough in
      let sizes = narrow.lawful.sizes in let nodes = sizes.nodes in let s = spacious.point in record {
        some_input = sizes.some_input;
        inputs = sizes.inputs;
        states = sizes.states;
        some_lines = omega (arith, lines, l, t, e);
        few_lines = omega (arith, lines, l, nodes);
        few_steps = omega arith;
        steps = All-nil IsWrittenStep;
        starts_count = length-map fn.states (calm_start (numbers_of n fn).f);
        starts = starts_written;
        templates =
            templates_written (length fn.states)
            (units (numbers_of n fn).f (state_bound (numbers_of n fn)).r) sizes.states
            (small_written (state_bound (numbers_of n fn)).r (power_more (omega (arith, st))));
        error_templates =
            templates_written (length fn.states)
            (units (numbers_of n fn).f (state_bound (numbers_of n fn)).e) sizes.states
            (small_written (state_bound (numbers_of n fn)).e (power_more (omega (arith, er, b))));
        lines =
            lines_written (numbers_of n fn).f (length fn.inputs + length fn.states)
            (length (unit_templates (length fn.states) (units (numbers_of n fn).f (state_bound (numbers_of n fn)).r) 0
            (length fn.states))) (length (unit_templates (length fn.states)
            (units (numbers_of n fn).f (state_bound (numbers_of n fn)).e) 0 (length fn.states))) 0
            (bounds n fn some_width narrow calm) (omega (arith, s)) all_small;
      }
