-- What the searches found are the numbers of a calm function, and where they found none it isn't calm.
use Rattle.std.proofs.Common.{◌≡◌, ℕ, ◌+◌, ◌-◌, ◌<◌, ◌≤◌, max, nat_le, Bool, true, false, ◌&&◌, if◌then◌else◌, length, ℤ, pos, ◌+ℤ◌, ◌-ℤ◌, int_le, Some, None, ⊎_elim, refl, sym, ap, subst, ◌∙◌, arith}
use Rattle.std.specs.Prelude.{Contains}
use Rattle.std.specs.List.{list_all}
use Rattle.std.proofs.lemmas.Bool.{and_parts, cases_lt}
use Rattle.fx_model.specs.Function as function
use Rattle.fx_model.specs.Function.{Function, outputs}
use Rattle.fx_model.specs.LawfulProgram.{widths}
use Rattle.fx_model.proofs.Widths.{width_of}
use Rattle.fx_expr.specs.LawfulFunction.{IsLawfulFunction}
use Rattle.fx_plan_laws.specs.Demands.{allows}
use Rattle.fx_plan_laws.proofs.Searches.{first_is}
use Rattle.fx_plan_laws.specs.Calm.{Numbers, first_from, bounds_starts, bounds_sizes, bounds_values, bounds_errors, numbers, numbers_of, next_trees, is_short, is_contracting, is_calm_with, is_calm, IsCalm}
use Rattle.fx_plan_laws.proofs.Calmness.{room, starts_true, sizes_true, values_true, errors_true, contracting_true}
use Rattle.fx_calm.specs.declared.sum.Sum.TheVariants.{States, Sizes, Adds, Values}
use Rattle.fx_calm.specs.declared.limit.Limit.TheVariants.{Starts, Inputs, Literals, Sums, Errors}
use Rattle.fx_calm.specs.LimitOf.{count_of, IsLeast, IsLeastOfBoth, IsTame}
use Rattle.fx_calm.specs.NumbersOf.{calm_numbers, has_form, HasExponents}
use Rattle.fx_calm.proofs.Limits.{AreAllWithin, within_more, starts_from, starts_give, sizes_from, sizes_give, values_from, values_give, errors_from, errors_give, contracting_from, contracting_give}

-- ---- a first place by what is known of it
same_order : (a b : ℕ) → a ≤ b → b ≤ a → a ≡ b
same_order a b h g = omega (arith, h, g)

first_from_is : (i : ℕ) (test : ℕ → Bool) (k : ℕ) → i ≤ k → k < i + 64 → test k ≡ true →
    ((j : ℕ) → i ≤ j → test j ≡ true → k ≤ j) → first_from i test ≡ k
unfolding first_from
first_from_is i test k le lt e least =
    let h = first_is 64 test i in
    let low = h.least k le lt e in
    same_order _ k low (least _ h.from_first (h.holds (omega (arith, low, lt))))

-- what is least up to a last place is the least of all
beyond : {w last : ℕ} (P : ℕ → Type 0) (first : ℕ) → w ≤ last → ((j : ℕ) → first ≤ j → j ≤ last → P j → w ≤ j) →
    (j : ℕ) → first ≤ j → P j → w ≤ j
beyond {w} {last} P first few h j p q =
    ⊎_elim (λ (far : last < j). omega (arith, far, few)) (λ (near : j ≤ last). h j p near q) (cases_lt last j)

pub enough_results : (fn : Function) → IsLawfulFunction fn → outputs fn ≤ length fn.results
enough_results fn h = let e = h.valid.all_results in omega (arith, e)

-- ---- none
pub none_is : (n : ℕ) (fn : Function) → (IsCalm n fn → ⊥) → None ≡ calm_numbers n fn
none_is n fn h = by (is_calm n fn) refl
  where
    by : (t : Bool) → is_calm n fn ≡ t → None ≡ (if t then Some (numbers_of n fn) else None)
    by true e = absurd (h e)
    by false e = refl

pub some_is : (n : ℕ) (fn : Function) (c : Numbers) → numbers_of n fn ≡ c → is_calm n fn ≡ true →
    Some c ≡ calm_numbers n fn
some_is n fn c e calm = (λ i. Some (sym e i)) ∙ sym (ap (λ (t : Bool). if t then Some (numbers_of n fn) else None) calm)

pub not_both : {b : Bool} → b ≡ true → b ≡ false → ⊥
not_both p q = let z = sym p ∙ q in absurd cc

-- the last four of its conditions
front_of : (a b c d e : Bool) → (a && b && c && d && e) ≡ true → a ≡ true
front_of a b c d e h =
    (and_parts a b (and_parts (a && b) c (and_parts (a && b && c) d (and_parts (a && b && c && d) e h).0).0).0).0

pub formless : (n : ℕ) (fn : Function) → has_form fn ≡ false → IsCalm n fn → ⊥
formless n fn e calm =
    let c = numbers_of n fn in
    not_both (front_of (has_form fn) (list_all is_contracting (next_trees fn)) (nat_le (c.p + 2) c.f)
    (int_le c.z (pos c.m)) (list_all (λ (d : function.Demand). allows d c.z) fn.demands) calm) e

module _ (n : ℕ) (fn : Function) (some : Contains widths n) (lawful : IsLawfulFunction fn) where
  enough : outputs fn ≤ length fn.results
  enough = enough_results fn lawful

  -- ---- inputs and literals
  pub not_low : (low : ℕ) → IsLeastOfBoth fn Inputs Literals 2 25 low → 25 < low → IsCalm n fn → ⊥
  not_low low h far calm =
      let c = numbers_of n fn in let r = room n fn (width_of n some) calm in
      let v = values_give fn c.q (c.m - 1) c.m enough refl (values_true n fn (width_of n some) calm) in
      let s = r.states in let o = r.roundings in let p = r.point in let w = r.width in
      let near = h.least (c.m - 1) (omega (arith, s)) (omega (arith, s, o, p, w)) (v.0, v.1) in
      absurd (omega (arith, near, far, s, o, p, w))

  pub tame : (low : ℕ) → has_form fn ≡ true → IsLeastOfBoth fn Inputs Literals 2 25 low → low ≤ 25 → IsTame fn
  tame low form h few =
      let w = h.holds few in
      record {
        short =
            (and_parts (nat_le (length fn.temps) 0 &&
            nat_le 1 (length fn.states)) (list_all is_short fn.results) form).1;
        inputs = λ i lt. within_more fn Inputs i low 25 few (w.0 i lt);
        literals = λ i lt. within_more fn Literals i low 25 few (w.1 i lt);
      }

  -- ---- states
  pub not_contracting : (w : ℕ) → IsLeast fn (Sums States) 0 0 (count_of fn (Sums States)) w → 0 < w → IsCalm n fn → ⊥
  not_contracting w h far calm =
      let near =
      h.least 0 (omega arith) (omega arith) (contracting_give fn (contracting_true n fn (width_of n some) calm)) in
      absurd (omega (arith, near, far))

  contracting : (w : ℕ) → IsLeast fn (Sums States) 0 0 (count_of fn (Sums States)) w → w ≤ 0 →
      list_all is_contracting (next_trees fn) ≡ true
  contracting w h few =
      let e : w ≡ 0 = omega (arith, few) in
      contracting_from fn (subst (λ (k : ℕ). AreAllWithin fn (Sums States) k) e (h.holds few))

  -- ---- starts
  pub not_started : (q : ℕ) → IsLeastOfBoth fn Starts (Sums Adds) 0 23 q → 23 < q → IsCalm n fn → ⊥
  not_started q h far calm =
      let c = numbers_of n fn in let r = room n fn (width_of n some) calm in
      let s = r.states in let o = r.roundings in let p = r.point in let w = r.width in
      let near =
      h.least c.q (omega arith) (omega (arith, s, o, p, w))
      (starts_give fn c.q (starts_true n fn (width_of n some) calm)) in
      absurd (omega (arith, near, far, s, o, p, w))

  pub starts_are : (q : ℕ) → IsLeastOfBoth fn Starts (Sums Adds) 0 23 q → q ≤ 23 → first_from 0 (bounds_starts fn) ≡ q
  starts_are q h few =
      let w = h.holds few in
      first_from_is 0 (bounds_starts fn) q (omega arith) (omega (arith, few)) (starts_from fn q w.0 w.1)
      (λ j p e. beyond (λ (k : ℕ). bounds_starts fn k ≡ true) 0 few
      (λ k a b g. h.least k a b (starts_give fn k g)) j p e)

  -- ---- sizes
  pub not_sized : (a : ℕ) → IsLeast fn (Sums Sizes) 0 56 (count_of fn (Sums Sizes)) a → 56 < a → IsCalm n fn → ⊥
  not_sized a h far calm =
      let c = numbers_of n fn in let r = room n fn (width_of n some) calm in
      let s = r.states in let o = r.roundings in let p = r.point in let w = r.width in let z = r.sizes in
      let near =
      h.least c.a (omega arith) (omega (arith, s, z, p, w))
      (sizes_give fn c.a (sizes_true n fn (width_of n some) calm)) in
      absurd (omega (arith, near, far, s, z, p, w))

  sizes_are : (a : ℕ) → IsLeast fn (Sums Sizes) 0 56 (count_of fn (Sums Sizes)) a → a ≤ 56 →
      first_from 0 (bounds_sizes fn) ≡ a
  sizes_are a h few =
      first_from_is 0 (bounds_sizes fn) a (omega arith) (omega (arith, few)) (sizes_from fn a (h.holds few))
      (λ j p e. beyond (λ (k : ℕ). bounds_sizes fn k ≡ true) 0 few (λ k b g e. h.least k b g (sizes_give fn k e)) j p e)

  -- ---- values
  pub not_valued : (q low w : ℕ) → first_from 0 (bounds_starts fn) ≡ q → IsLeastOfBoth fn Inputs Literals 2 25 low →
      IsLeast fn (Sums (Values (q + 2))) (max low (q + 2)) 25 (count_of fn (Sums (Values (q + 2)))) w → 25 < w →
      IsCalm n fn → ⊥
  not_valued q low w start h g far calm =
      let c = numbers_of n fn in let r = room n fn (width_of n some) calm in
      let v =
      values_give fn q (c.m - 1) c.m enough refl
      (subst (λ (k : ℕ). bounds_values fn k c.m ≡ true) start (values_true n fn (width_of n some) calm)) in
      let s = r.states in let o = r.roundings in let p = r.point in let d = r.width in
      let near = h.least (c.m - 1) (omega (arith, s)) (omega (arith, s, o, p, d)) (v.0, v.1) in
      let next = g.least (c.m - 1) (omega (arith, near, s, start)) (omega (arith, s, o, p, d)) v.2 in
      absurd (omega (arith, next, far, s, o, p, d))

  values_are : (q low w : ℕ) → IsLeastOfBoth fn Inputs Literals 2 25 low →
      IsLeast fn (Sums (Values (q + 2))) (max low (q + 2)) 25 (count_of fn (Sums (Values (q + 2)))) w → w ≤ 25 →
      first_from (q + 3) (bounds_values fn q) ≡ w + 1
  values_are q low w h g few =
      let f = g.from_first in let b = h.holds (omega (arith, f, few)) in
      first_from_is (q + 3) (bounds_values fn q) (w + 1) (omega (arith, f)) (omega (arith, few))
      (values_from fn q w (w + 1) enough (omega arith)
      (λ i lt. within_more fn Inputs i low w (omega (arith, f)) (b.0 i lt))
      (λ i lt. within_more fn Literals i low w (omega (arith, f)) (b.1 i lt)) (g.holds few))
      (λ j p e. least j p e)
    where
      least : (j : ℕ) → q + 3 ≤ j → bounds_values fn q j ≡ true → w + 1 ≤ j
      least j p e =
          let v = values_give fn q (j - 1) j enough refl e in
          ⊎_elim (λ (far : 25 < j - 1). omega (arith, far, few))
          (λ (near : j - 1 ≤ 25).
          let l = h.least (j - 1) (omega (arith, p)) near (v.0, v.1) in
          let k = g.least (j - 1) (omega (arith, l, p)) near v.2 in omega (arith, k, p))
          (cases_lt 25 (j - 1))

  pub exponents : (low z q a w : ℕ) → has_form fn ≡ true → IsLeastOfBoth fn Inputs Literals 2 25 low →
      IsLeast fn (Sums States) 0 0 (count_of fn (Sums States)) z → z ≤ 0 → IsLeastOfBoth fn Starts (Sums Adds) 0 23 q →
      q ≤ 23 →
      IsLeast fn (Sums Sizes) 0 56 (count_of fn (Sums Sizes)) a → a ≤ 56 →
      IsLeast fn (Sums (Values (q + 2))) (max low (q + 2)) 25 (count_of fn (Sums (Values (q + 2)))) w → w ≤ 25 →
      HasExponents fn q a (w + 1)
  exponents low z q a w form h s few_s t few_q g few_a v few_w = record {
    form = form;
    contracting = contracting z s few_s;
    starts = starts_are q t few_q;
    sizes = sizes_are a g few_a;
    values = values_are q low w h v few_w;
    room = let f = v.from_first in omega (arith, f);
    few_values = omega (arith, few_w);
    few_sizes = few_a;
  }

  -- ---- with all exponents but those of errors
  module _ (q a m : ℕ) (h : HasExponents fn q a m) where
    abbrev last : ℕ → ℕ
    last k = first_from 0 (λ d. bounds_errors fn (pos (1 + d) -ℤ pos (n - 3 - k)))

    shape : numbers_of n fn ≡ numbers n q a m (last m)
    shape =
        (λ i. numbers n (h.starts i) (h.sizes i) (first_from (h.starts i + 3) (bounds_values fn (h.starts i)))
        (last (first_from (h.starts i + 3) (bounds_values fn (h.starts i)))))
        ∙ (λ i. numbers n q a (h.values i) (last (h.values i)))

    pub no_point : (p f : ℕ) → p ≡ max a (m + 6) → f ≡ n - 3 - m → f < p + 2 → IsCalm n fn → ⊥
    no_point p f is at far calm =
        let r = (room n fn (width_of n some) calm).point in
        let cp = ap (λ (c : Numbers). c.p) shape in let cf = ap (λ (c : Numbers). c.f) shape in
        absurd (go (numbers_of n fn).p (numbers_of n fn).f p f (cp ∙ sym is) (cf ∙ sym at) r far)
      where
        go : (x y p f : ℕ) → x ≡ p → y ≡ f → x + 2 ≤ y → f < p + 2 → ⊥
        go x y p f a b c d = absurd (omega (arith, a, b, c, d))

    pub no_errors : (f d : ℕ) → f ≡ n - 3 - m → IsLeast fn (Errors f) 0 60 (count_of fn (Errors f)) d → 60 < d →
        IsCalm n fn → ⊥
    no_errors f d at g far calm =
        let c = numbers_of n fn in let r = room n fn (width_of n some) calm in
        let cf = ap (λ (c : Numbers). c.f) shape in
        let e : bounds_errors fn
        (pos (1 + last (first_from (first_from 0 (bounds_starts fn) + 3)
        (bounds_values fn (first_from 0 (bounds_starts fn))))) -ℤ pos c.f) ≡ true =
        errors_true n fn (width_of n some) calm in
        let k =
        last (first_from (first_from 0 (bounds_starts fn) + 3)
        (bounds_values fn (first_from 0 (bounds_starts fn)))) in
        let more = r.errors in let w = r.width in
        let few : k ≤ 60 = omega (arith, more, w) in
        let near =
        g.least k (omega arith) few
        (errors_give fn f k (subst (λ (x : ℕ). bounds_errors fn (pos (1 + k) -ℤ pos x) ≡ true) (cf ∙ sym at) e)) in
        absurd (omega (arith, near, few, far))

    -- ---- with errors
    module _ (f p d : ℕ) (at : f ≡ n - 3 - m) (is : p ≡ max a (m + 6))
        (g : IsLeast fn (Errors f) 0 60 (count_of fn (Errors f)) d) (few : d ≤ 60) where
      last_is : last m ≡ d
      last_is =
          first_from_is 0 (λ k. bounds_errors fn (pos (1 + k) -ℤ pos (n - 3 - m))) d (omega arith) (omega (arith, few))
          (subst (λ (x : ℕ). bounds_errors fn (pos (1 + d) -ℤ pos x) ≡ true) at (errors_from fn f d (g.holds few)))
          (λ j l e. beyond (λ (k : ℕ). bounds_errors fn (pos (1 + k) -ℤ pos (n - 3 - m)) ≡ true) 0 few
          (λ k b c e. g.least k b c
          (errors_give fn f k (subst (λ (x : ℕ). bounds_errors fn (pos (1 + k) -ℤ pos x) ≡ true)
          (sym at) e))) j l e)

      abbrev z : ℤ
      z = pos (a + p + 5) +ℤ (pos (1 + d) -ℤ pos f)

      pub numbers_are : numbers_of n fn ≡ record {
        q = q;
        a = a;
        m = m;
        f = f;
        p = p;
        v = pos (1 + d) -ℤ pos f;
        z = pos (a + p + 5) +ℤ (pos (1 + d) -ℤ pos f);
      }
      numbers_are = shape ∙ ap (numbers n q a m) last_is
          ∙ (λ i. record {
            q = q;
            a = a;
            m = m;
            f = sym at i;
            p = sym is i;
            v = pos (1 + d) -ℤ pos (sym at i);
            z = pos (a + sym is i + 5) +ℤ (pos (1 + d) -ℤ pos (sym at i));
          })

      -- what is left to be asked
      pub calm_is : p + 2 ≤ f →
          is_calm n fn ≡ (int_le z (pos m) && list_all (λ (x : function.Demand). allows x z) fn.demands)
      calm_is le =
          ap (λ (c : Numbers). is_calm_with c fn) numbers_are
          ∙ (λ i. h.form i && h.contracting i && test i && int_le z (pos m) &&
          list_all (λ (x : function.Demand). allows x z) fn.demands)
        where
          test : nat_le (p + 2) f ≡ true
          test = tested (p + 2) f le
            where
              tested : (a b : ℕ) → a ≤ b → nat_le a b ≡ true
              tested a b l = grind (arith, l)

-- ---- the form
pub form_is : (fn : Function) (r : Bool) → length fn.temps ≤ 0 → 0 < length fn.states →
    r ≡ list_all is_short fn.results → r ≡ has_form fn
form_is fn r t s e =
    let a = none (length fn.temps) t in
    let b = some (length fn.states) s in
    e ∙ (λ i. sym a i && sym b i && list_all is_short fn.results)
  where
    none : (n : ℕ) → n ≤ 0 → nat_le n 0 ≡ true
    none n l = grind (arith, l)

    some : (n : ℕ) → 0 < n → nat_le 1 n ≡ true
    some n l = grind (arith, l)
