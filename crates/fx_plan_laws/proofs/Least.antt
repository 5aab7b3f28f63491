-- The test for calm functions, whose searches end after 64 steps, is the definition, whose searches don't.
use Rattle.std.proofs.Common.{◌≡◌, ℕ, ◌+◌, ◌-◌, ◌<◌, ◌≤◌, max, nat_le, Bool, true, ◌&&◌, length, ℤ, pos, negsuc, ◌+ℤ◌, ◌-ℤ◌, ◌≤ℤ◌, int_le, refl, sym, ap, subst, ◌∙◌, ⊎_elim, arith}
use Rattle.std.specs.List.{list_all}
use Rattle.std.proofs.lemmas.Int.{ints}
use Rattle.std.proofs.lemmas.Bool.{cases_lt}
use Rattle.fx_fraction.proofs.Ranges.{le_true}
use Rattle.fx_model.specs.Function as function
use Rattle.fx_model.specs.Function.{Function}
use Rattle.fx_model.proofs.Widths.{IsWordWidth, width_of}
use Rattle.fx_plan_laws.specs.Demands.{allows}
use Rattle.fx_plan_laws.proofs.Searches.{first_is_true, first_is_least, first_at_least, first_at_most}
use Rattle.fx_plan_laws.specs.Calm.{Numbers, first_from, bounds_starts, bounds_sizes, bounds_values, bounds_errors, numbers, numbers_of, next_trees, is_short, is_contracting, is_calm_with, IsCalm}
use Rattle.fx_plan_laws.specs.CalmTest.{IsLeastFrom, point_at, IsCalmWith, HasCalmNumbers, CalmTestLaw}
use Rattle.fx_plan_laws.proofs.Calmness.{no_temps, some_state, demands, room, whole_width, starts_true, sizes_true, values_true, errors_true, linear_true, contracting_true}

-- ---- searches
first_least : (i : ℕ) (test : ℕ → Bool) (j : ℕ) → i ≤ j → test j ≡ true → first_from i test ≤ j
unfolding first_from
first_least i test j l e =
    ⊎_elim (λ (near : j < i + 64). first_is_least 64 test i j l near e)
    (λ (far : i + 64 ≤ j). (let h = first_at_most 64 test i in omega (arith, h, far))) (cases_lt j (i + 64))

first_start : (i : ℕ) (test : ℕ → Bool) → i ≤ first_from i test
unfolding first_from
first_start i test = first_at_least 64 test i

first_holds : (i : ℕ) (test : ℕ → Bool) → first_from i test < i + 64 → test (first_from i test) ≡ true
unfolding first_from
first_holds i test l = first_is_true 64 test i l

same_order : (a b : ℕ) → a ≤ b → b ≤ a → a ≡ b
same_order a b h g = omega (arith, h, g)

-- what is least is found, where it is among the first 64
least_is : (i : ℕ) (test : ℕ → Bool) (k : ℕ) → IsLeastFrom i test k → k < i + 64 → first_from i test ≡ k
least_is i test k h l =
    let low = first_least i test k h.from_first h.holds in
    same_order (first_from i test) k low
    (h.least (first_from i test) (first_start i test) (first_holds i test (omega (arith, low, l))))

found_least : (i : ℕ) (test : ℕ → Bool) → test (first_from i test) ≡ true → IsLeastFrom i test (first_from i test)
found_least i test e = record { from_first = first_start i test; holds = e; least = λ j l h. first_least i test j l h }

-- an exponent that isn't below the unit's is some steps above it
offset : (w : ℤ) (f : ℕ) → (pos 1 -ℤ pos f) ≤ℤ w → (d : ℕ) × (w ≡ pos (1 + d) -ℤ pos f)
offset w f l = by (w +ℤ pos f -ℤ pos 1) refl
  where
    by : (x : ℤ) → w +ℤ pos f -ℤ pos 1 ≡ x → (d : ℕ) × (w ≡ pos (1 + d) -ℤ pos f)
    by (pos d) e = (d, omega (arith, ints, e))
    by (negsuc d) e = absurd (omega (arith, ints, e, l))

-- ---- from the test
module _ (n : ℕ) (fn : Function) (width : IsWordWidth n) (calm : IsCalm n fn) where
  abbrev c : Numbers
  c = numbers_of n fn

  abbrev test : ℕ → Bool
  test d = bounds_errors fn (pos (1 + d) -ℤ pos c.f)

  f_is : pos c.f ≡ point_at n c.m
  f_is = let w = whole_width n fn width calm in omega (arith, ints, w)

  pub has_numbers : HasCalmNumbers n fn
  has_numbers = record {
    q = c.q;
    a = c.a;
    m = c.m;
    v = c.v;
    are = record {
      least_q = found_least 0 (bounds_starts fn) (starts_true n fn width calm);
      least_a = found_least 0 (bounds_sizes fn) (sizes_true n fn width calm);
      least_m = found_least (c.q + 3) (bounds_values fn c.q) (values_true n fn width calm);
      from_unit = subst (λ (f : ℤ). (pos 1 -ℤ f) ≤ℤ c.v) f_is (omega (arith, ints));
      errors = errors_true n fn width calm;
      least_error = λ w l e. (let o = offset w c.f (subst (λ (f : ℤ). (pos 1 -ℤ f) ≤ℤ w) (sym f_is) l) in
          let h = first_least 0 test o.0 (omega arith) (subst (λ (x : ℤ). bounds_errors fn x ≡ true) o.1 e) in
          let s = o.1 in subst (λ (x : ℤ). c.v ≤ℤ x) (sym s) (shifted (first_from 0 test) o.0 c.f h));
      temps = ap length (no_temps n fn width calm);
      states = some_state n fn width calm;
      linear = linear_true n fn width calm;
      contracting = contracting_true n fn width calm;
      point =
          subst (λ (f : ℤ). pos (c.p + 2) ≤ℤ f) f_is (let p = (room n fn width calm).point in omega (arith, ints, p));
      room = (let e = (room n fn width calm).errors in within (c.a + c.p + 5) (1 + first_from 0 test) c.f c.m e);
      demands = demands n fn width calm;
    };
  }
    where
      shifted : (a b f : ℕ) → a ≤ b → (pos (1 + a) -ℤ pos f) ≤ℤ (pos (1 + b) -ℤ pos f)
      shifted a b f l = omega (arith, ints, l)

      within : (k y f m : ℕ) → k + y ≤ m + f → (pos k +ℤ (pos y -ℤ pos f)) ≤ℤ pos m
      within k y f m l = omega (arith, ints, l)

-- ---- to the test
zero_test : (n : ℕ) → n ≡ 0 → nat_le n 0 ≡ true
zero_test n e = grind (arith, e)

le_test : (a b : ℕ) → a ≤ b → nat_le a b ≡ true
le_test a b l = grind (arith, l)

seven : (a b c d e f g : Bool) → a ≡ true → b ≡ true → c ≡ true → d ≡ true → e ≡ true → f ≡ true → g ≡ true →
    (a && b && c && d && e && f && g) ≡ true
seven a b c d e f g p q r s t u v = (λ i. p i && q i && r i && s i && t i && u i && v i)

module _ (n : ℕ) (fn : Function) (width : IsWordWidth n) (q a m : ℕ) (v : ℤ) (h : IsCalmWith n fn q a m v) where
  abbrev f : ℕ
  f = n - 3 - m

  few : m ≤ 26
  few = by n a m width.most h.point
    where
      by : (n a m : ℕ) → n ≤ 64 → pos (max a (m + 6) + 2) ≤ℤ (pos n -ℤ pos (3 + m)) → m ≤ 26
      by n a m l p = omega (arith, ints, l, p)

  f_same : pos f ≡ point_at n m
  f_same = by n a m h.point
    where
      by : (n a m : ℕ) → pos (max a (m + 6) + 2) ≤ℤ (pos n -ℤ pos (3 + m)) → pos (n - 3 - m) ≡ pos n -ℤ pos (3 + m)
      by n a m p = omega (arith, ints, p)

  room_f : max a (m + 6) + 2 ≤ f
  room_f = let p = h.point in let e = f_same in omega (arith, ints, p, e)

  d_is : (d : ℕ) × (v ≡ pos (1 + d) -ℤ pos f)
  d_is = offset v f (subst (λ (x : ℤ). (pos 1 -ℤ x) ≤ℤ v) (sym f_same) h.from_unit)

  least_d : IsLeastFrom 0 (λ d. bounds_errors fn (pos (1 + d) -ℤ pos f)) d_is.0
  least_d = record {
    from_first = omega arith;
    holds = subst (λ (x : ℤ). bounds_errors fn x ≡ true) d_is.1 h.errors;
    least =
        λ j l e. back v j (h.least_error (pos (1 + j) -ℤ pos f)
        (subst (λ (x : ℤ). (pos 1 -ℤ x) ≤ℤ (pos (1 + j) -ℤ pos f)) f_same (low j f)) e);
  }
    where
      low : (j f : ℕ) → (pos 1 -ℤ pos f) ≤ℤ (pos (1 + j) -ℤ pos f)
      low j f = omega (arith, ints)

      back : (w : ℤ) (j : ℕ) → v ≤ℤ (pos (1 + j) -ℤ pos f) → d_is.0 ≤ j
      back w j l = let e = d_is.1 in omega (arith, ints, l, e)

  few_d : d_is.0 < 64
  few_d =
      let e = d_is.1 in
      let r = h.room in
      let g = f_same in
      let w = width.most in
      let p = h.point in
      omega (arith, ints, e, r, g, w, p)

  q_found : first_from 0 (bounds_starts fn) ≡ q
  q_found =
      least_is 0 (bounds_starts fn) q h.least_q (let l = h.least_m.from_first in let g = few in omega (arith, l, g))

  a_found : first_from 0 (bounds_sizes fn) ≡ a
  a_found = least_is 0 (bounds_sizes fn) a h.least_a (let r = room_f in let w = width.most in omega (arith, r, w))

  m_found : first_from (first_from 0 (bounds_starts fn) + 3) (bounds_values fn (first_from 0 (bounds_starts fn))) ≡ m
  m_found = ap (λ (k : ℕ). first_from (k + 3) (bounds_values fn k)) q_found
      ∙ least_is (q + 3) (bounds_values fn q) m h.least_m (let g = few in omega (arith, g))

  d_found : first_from 0 (λ d. bounds_errors fn
      (pos (1 + d) -ℤ pos (n - 3 - first_from (first_from 0 (bounds_starts fn) + 3)
      (bounds_values fn (first_from 0 (bounds_starts fn)))))) ≡ d_is.0
  d_found = ap (λ (k : ℕ). first_from 0 (λ d. bounds_errors fn (pos (1 + d) -ℤ pos (n - 3 - k)))) m_found
      ∙ least_is 0 (λ d. bounds_errors fn (pos (1 + d) -ℤ pos f)) d_is.0 least_d (let l = few_d in omega (arith, l))

  all_found : numbers_of n fn ≡ numbers n q a m d_is.0
  all_found = (λ i. numbers n (q_found i) (a_found i) (m_found i) (d_found i))

  z_same : pos (a + max a (m + 6) + 5) +ℤ v ≡ (numbers n q a m d_is.0).z
  z_same = ap (λ (x : ℤ). pos (a + max a (m + 6) + 5) +ℤ x) d_is.1

  pub is_calm_true : IsCalm n fn
  is_calm_true =
      ap (λ (c : Numbers). is_calm_with c fn) all_found
      ∙ seven (nat_le (length fn.temps) 0) (nat_le 1 (length fn.states)) (list_all is_short fn.results)
      (list_all is_contracting (next_trees fn)) (nat_le (max a (m + 6) + 2) f)
      (int_le (numbers n q a m d_is.0).z (pos m))
      (list_all (λ (d : function.Demand). allows d (numbers n q a m d_is.0).z) fn.demands)
      (zero_test (length fn.temps) h.temps) (le_test 1 (length fn.states) h.states) h.linear h.contracting
      (le_test (max a (m + 6) + 2) f room_f)
      (le_true (numbers n q a m d_is.0).z (pos m) (subst (λ (x : ℤ). x ≤ℤ pos m) z_same h.room))
      (subst (λ (x : ℤ). list_all (λ (d : function.Demand). allows d x) fn.demands ≡ true) z_same h.demands)

pub test_is : CalmTestLaw
test_is n fn some =
    (λ calm. has_numbers n fn (width_of n some) calm, λ h. is_calm_true n fn (width_of n some) h.q h.a h.m h.v h.are)
