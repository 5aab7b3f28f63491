-- Lists by their indexes: one member more, and what each member is.
use Rattle.std.proofs.Common.{◌≡◌, ℕ, zero, suc, ◌+◌, ◌<◌, ◌≤◌, Bool, true, false, if◌then◌else◌, List, [], ◌∷◌, ◌++◌, length, Option, Some, None, Result, Ok, Err, inl, inr, refl, sym, ap, subst, ◌∙◌, arith}
use Rattle.std.proofs.lemmas.Bool.{cases_lt}
use Rattle.std.proofs.lemmas.List.{get_or_append_left, get_or_push, get_or_past, length_push}
use Rattle.std.proofs.lemmas.List.FromFn.{get_or-map-range_with_len, length-map-range_with_len, map-range_with_len_more}
use Rattle.std.proofs.lemmas.Option.{same_Some}
use Rattle.fx_model.specs.Tree.{at}
use Rattle.fx_template.specs.Listed.{and_one, each_below, first_untrue, or_else, tabulate}

pub tabulate_more : {A : Type 0} (f : ℕ → A) (xs : List A) (n : ℕ) (x : A) → xs ≡ tabulate n f → x ≡ f n →
    xs ++ x ∷ [] ≡ tabulate (n + 1) f
tabulate_more f xs n x e is = (λ i. e i ++ is i ∷ []) ∙ sym (map-range_with_len_more f 0 n n (omega arith))

pub tabulate_length : {A : Type 0} (f : ℕ → A) (n : ℕ) → length (tabulate n f) ≡ n
tabulate_length f n = length-map-range_with_len f 0 n

pub tabulate_at : {A : Type 0} (f : ℕ → A) (n i : ℕ) (d : A) → i < n → at d (tabulate n f) i ≡ f i
tabulate_at f n i d lt = get_or-map-range_with_len f 0 n i i d lt (omega arith)

pub tabulate_past : {A : Type 0} (f : ℕ → A) (n i : ℕ) (d : A) → n ≤ i → at d (tabulate n f) i ≡ d
tabulate_past f n i d le = get_or_past (tabulate n f) i d (rw (tabulate_length f n) le)

-- what all members have, and what stands past them
pub tabulate_all : {A : Type 0} (P : A → Type 0) (f : ℕ → A) (n : ℕ) (d : A) → P d → ((i : ℕ) → i < n → P (f i)) →
    (i : ℕ) → P (at d (tabulate n f) i)
tabulate_all P f n d none h i = elim (cases_lt i n) [
  | inl less ↦ subst P (sym (tabulate_at f n i d less)) (h i less)
  | inr more ↦ subst P (sym (tabulate_past f n i d more)) none
]

-- ---- each below n
pub each_stops : {A E : Type 0} (f : ℕ → Result A E) (n : ℕ) (xs : List A) (e : E) → each_below n f ≡ Some xs →
    f n ≡ Err e → each_below (n + 1) f ≡ None
each_stops f n xs e h is =
    let next : suc n ≡ n + 1 = omega arith in subst (λ (m : ℕ). each_below m f ≡ None) next (λ i. and_one (h i) (is i))

no_more : {A E : Type 0} (x : Result A E) → and_one None x ≡ None
no_more (Ok x) = refl
no_more (Err e) = refl

pub none_above : {A E : Type 0} (f : ℕ → Result A E) (n m : ℕ) → each_below n f ≡ None → n ≤ m → each_below m f ≡ None
none_above f n zero h le = let same : n ≡ 0 = omega (arith, le) in subst (λ (k : ℕ). each_below k f ≡ None) same h
none_above f n (suc m) h le = elim (cases_lt m n) [
  | inl less ↦ (let same : n ≡ suc m = omega (arith, le, less) in subst (λ (k : ℕ). each_below k f ≡ None) same h)
  | inr more ↦ ap (λ o. and_one o (f m)) (none_above f n m h more) ∙ no_more (f m)
]

-- each member is there, and no more
pub record AreEach {A E : Type 0} (f : ℕ → Result A E) (n : ℕ) (xs : List A) : Type 0 where
  pub count : length xs ≡ n
  pub each : (d : A) (i : ℕ) → i < n → f i ≡ Ok (at d xs i)

one_more_each : {A E : Type 0} (f : ℕ → Result A E) (n : ℕ) (ys : List A) (y : A) → AreEach f n ys → f n ≡ Ok y →
    AreEach f (suc n) (ys ++ y ∷ [])
one_more_each {A} {E} f n ys y h is = record {
  count = let l = length_push ys y in let c = h.count in omega (arith, l, c);
  each = λ d i lt. elim (cases_lt i n) [
    | inl less ↦ (h.each d i less
        ∙ ap (λ (x : A). let r : Result A E = Ok x in
        r) (sym (get_or_append_left ys (y ∷ []) d i (let c = h.count in omega (arith, less, c)))))
    | inr more ↦ (let same : n ≡ i = omega (arith, more, lt) in
        subst (λ (k : ℕ). f k ≡ Ok (at d (ys ++ y ∷ []) i)) same (is
        ∙ ap (λ (x : A). let r : Result A E = Ok x in r) (sym (get_or_push ys y d i (h.count ∙ same)))))
  ];
}

pub each_is : {A E : Type 0} (f : ℕ → Result A E) (n : ℕ) (xs : List A) → each_below n f ≡ Some xs → AreEach f n xs
each_is {A} {E} f zero xs e =
    subst (AreEach f 0) (same_Some _ _ e) (record { count = refl; each = λ d i lt. absurd (omega (arith, lt)) })
each_is {A} {E} f (suc n) xs e = by (λ ys p. each_is f n ys p) (each_below n f) refl (f n) refl e
  where
    by : ((ys : List A) → each_below n f ≡ Some ys → AreEach f n ys) → (o : Option (List A)) → each_below n f ≡ o →
        (x : Result A E) → f n ≡ x → and_one o x ≡ Some xs → AreEach f (suc n) xs
    by before (Some ys) p (Ok y) q e =
        subst (AreEach f (suc n)) (same_Some _ _ e) (one_more_each f n ys y (before ys p) q)
    by before (Some ys) p (Err r) q e = absurd cc
    by before None p (Ok y) q e = absurd cc
    by before None p (Err r) q e = absurd cc

-- ---- the first that isn't true
pub untrue_here : (p : ℕ → Bool) (n : ℕ) → first_untrue n p ≡ None → p n ≡ false → first_untrue (n + 1) p ≡ Some n
untrue_here p n h is =
    let next : suc n ≡ n + 1 = omega arith in
    subst (λ (m : ℕ). first_untrue m p ≡ Some n) next
    (λ i. or_else (h i) (let o : Option ℕ = if is i then None else Some n in o))

pub first_above : (p : ℕ → Bool) (n m i : ℕ) → first_untrue n p ≡ Some i → n ≤ m → first_untrue m p ≡ Some i
first_above p n zero i h le =
    let same : n ≡ 0 = omega (arith, le) in subst (λ (k : ℕ). first_untrue k p ≡ Some i) same h
first_above p n (suc m) i h le = elim (cases_lt m n) [
  | inl less ↦ (let same : n ≡ suc m = omega (arith, le, less) in subst (λ (k : ℕ). first_untrue k p ≡ Some i) same h)
  | inr more ↦ ap (λ o. or_else o (let r : Option ℕ = if p m then None else Some m in r)) (first_above p n m i h more)
]

-- where there is none, each is true
pub all_true : (p : ℕ → Bool) (n : ℕ) → first_untrue n p ≡ None → (i : ℕ) → i < n → p i ≡ true
all_true p zero h i lt = absurd (omega (arith, lt))
all_true p (suc n) h i lt = by (λ e less. all_true p n e i less) (first_untrue n p) refl (p n) refl h
  where
    by : (first_untrue n p ≡ None → i < n → p i ≡ true) → (o : Option ℕ) → first_untrue n p ≡ o → (t : Bool) → p n ≡ t →
        or_else o (if t then None else Some n) ≡ None → p i ≡ true
    by before (Some k) e t is h = absurd cc
    by before None e false is h = absurd cc
    by before None e true is h = elim (cases_lt i n) [
      | inl less ↦ before e less
      | inr more ↦ (let same : n ≡ i = omega (arith, more, lt) in subst (λ (k : ℕ). p k ≡ true) same is)
    ]

-- it is one of them
pub first_within : (p : ℕ → Bool) (n i : ℕ) → first_untrue n p ≡ Some i → i < n
first_within p zero i h = absurd cc
first_within p (suc n) i h = by (λ e. first_within p n i e) (first_untrue n p) refl (p n) h
  where
    by : (first_untrue n p ≡ Some i → i < n) → (o : Option ℕ) → first_untrue n p ≡ o → (t : Bool) →
        or_else o (if t then None else Some n) ≡ Some i → i < suc n
    by before (Some k) e t h = let less = before (e ∙ h) in omega (arith, less)
    by before None e true h = absurd cc
    by before None e false h = let same : n ≡ i = cc in omega (arith, same)
