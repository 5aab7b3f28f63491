-- A dyadic has one spelling, and so has an interval.
use Rattle.std.proofs.Common.{◌≡◌, ℕ, zero, suc, ◌%◌, ◌<◌, ◌≤◌, true, false, eqb, List, [], ◌∷◌, ◌++◌, length, All, Option, Some, None, Ok, ℤ, pos, negsuc, ◌⊎◌, refl, sym, ap, subst, ◌∙◌, inl, inr, arith}
use Rattle.std.specs.Prelude.{nat_lt, nat_le, ◌&&◌, ◌||◌, unsigned_abs}
use Rattle.std.specs.Fmt.{decimal, signed_decimal}
use Rattle.std.specs.Prelude.{map}
use Rattle.std.specs.List.{AllByRecursion, flat_map}
use Rattle.std.proofs.lemmas.List.Concat.{flat_map_single}
use Rattle.std.proofs.lemmas.List.Elements.{All-from_recursion, recursion_from_All}
use Rattle.std.proofs.lemmas.Bool.Decides.{nat_tests}
use Rattle.std.proofs.lemmas.Int.{ints}
use Rattle.std.proofs.lemmas.Bool.{and_parts}
use Rattle.fx_rational.specs.Dyadic.{Dyadic, IsWritten, mantissa_end, exponent_limit}
use Rattle.fx_rational.specs.Interval.{Interval, IsWrittenInterval}
use Rattle.fx_text.specs.declared.fault.TextKind.TheVariants.{OutOfRange}
use Rattle.fx_text.specs.Cutting.{Line, cut_at}
use Rattle.fx_text.specs.Numbers.{whole_of, integer_of, lowest_spelled, dyadic_in, dyadic_of}
use Rattle.fx_text.specs.Reading.{dyadic_at, interval_at}
use Rattle.fx_text.specs.Many.{AreEach, dyadics_at}
use Rattle.fx_model.specs.LineText.{dyadic_text, interval_fields}
use Rattle.fx_text.specs.Spelling.{IsField, IsOneSpelling, Lacks}
use Rattle.fx_text.specs.Laws.{IsNarrow}
use Rattle.fx_model.proofs.Steps.{on_ok}
use Rattle.fx_text.proofs.Choices.{passed, chosen}
use Rattle.fx_text.proofs.NumberLaws.{whole_takes, whole_again, integer_takes, integer_again}
use Rattle.fx_text.proofs.Mantissas.{dyadic_of-odd}
use Rattle.fx_text.proofs.FieldLaws.{field_is, known_is, front}
use Rattle.fx_text.proofs.ManyLaws.{many_spelling}
use Rattle.fx_text.proofs.LineLaws.{Lacks-append, cut_at-takes, cut_at-again, decimal-lacks}

-- a mantissa of a written dyadic is within 64 bits
narrow_mantissa : (m : ℤ) → unsigned_abs m < mantissa_end → IsNarrow m
narrow_mantissa (pos n) lt = (omega (arith, ints), omega (arith, ints))
narrow_mantissa (negsuc n) lt = (omega (arith, ints), omega (arith, ints))

-- the parts that a dyadic was spelled of
spelled_is : (m : Option ℤ) (e : Option ℕ) (d : Dyadic) → lowest_spelled m e ≡ Some d → (m ≡ Some d.m) × (e ≡ Some d.e)
spelled_is None e d h = absurd cc
spelled_is (Some m) None d h = absurd cc
spelled_is (Some m) (Some e) d h =
    elim (chosen (eqb e 0 || eqb (unsigned_abs m % 2) 1) (Some (record { m = m; e = e })) None (Some d) h) [
      | inl k ↦ let same : record { m = m; e = e } ≡ d = cc in
          (ap (λ (y : Dyadic). Some y.m) same, ap (λ (y : Dyadic). Some y.e) same)
      | inr k ↦ absurd cc
    ]

-- the text of a dyadic that a field spells
pub dyadic_of-takes : (f : List ℕ) (d : Dyadic) → unsigned_abs d.m < mantissa_end → d.e ≤ exponent_limit →
    dyadic_of f ≡ Some d → f ≡ dyadic_text d
unfolding dyadic_of
dyadic_of-takes f d small places h = by (cut_at 58 f) refl h
  where
    by : (o : Option (List ℕ × List ℕ)) → cut_at 58 f ≡ o → dyadic_in o ≡ Some d → f ≡ dyadic_text d
    by None o h = absurd cc
    by (Some (a, b)) o h =
        let parts = spelled_is (integer_of a) (whole_of b) d h in
        (cut_at-takes 58 f a b o).0 ∙ ap (λ t. t ++ 58 ∷ b) (integer_takes a d.m (narrow_mantissa d.m small) parts.0)
        ∙ ap (λ t. signed_decimal d.m ++ 58 ∷ t) (whole_takes b d.e (omega arith) parts.1)

-- a number's text has digits and a sign alone
signed_decimal-lacks : (c : ℕ) (z : ℤ) → eqb 45 c ≡ false → (c < 48) ⊎ (57 < c) → IsNarrow z →
    Lacks c (signed_decimal z)
signed_decimal-lacks c (pos n) sign out narrow = decimal-lacks c n out (omega (arith, ints, narrow.1))
signed_decimal-lacks c (negsuc n) sign out narrow = (sign, decimal-lacks c (suc n) out (omega (arith, ints, narrow.0)))

-- so it can stand in a line
pub IsField-signed_decimal : (z : ℤ) → IsNarrow z → IsField (signed_decimal z)
IsField-signed_decimal z narrow = record {
  spaces = signed_decimal-lacks 32 z refl (inl (omega arith)) narrow;
  line_feeds = signed_decimal-lacks 10 z refl (inl (omega arith)) narrow;
}

-- a dyadic in its one spelling is spelled
spelled_again : (m : ℤ) (e : ℕ) → (0 < e → unsigned_abs m % 2 ≡ 1) →
    lowest_spelled (Some m) (Some e) ≡ Some (record { m = m; e = e })
spelled_again m zero odd = refl
spelled_again m (suc e) odd =
    let one = odd (omega arith) in
    let above : eqb (suc e) 0 ≡ false = grind (arith, nat_tests) in
    let test : eqb (unsigned_abs m % 2) 1 ≡ true = grind (arith, nat_tests) in
    rw (above, test) refl

-- a written dyadic is read from its text
pub dyadic_of-again : (d : Dyadic) → IsWritten d → dyadic_of (dyadic_text d) ≡ Some d
unfolding dyadic_of
dyadic_of-again d w =
    let narrow = narrow_mantissa d.m w.small in
    let cut =
    cut_at-again 58 (signed_decimal d.m) (decimal d.e)
    (signed_decimal-lacks 58 d.m refl (inr (omega arith)) narrow) in
    ap dyadic_in cut ∙ rw (
      integer_again d.m narrow,
      whole_again d.e (omega (arith, w.places)),
    ) (spelled_again d.m d.e w.one_spelling)

-- a dyadic
pub dyadic_takes : (line : Line) (x : Dyadic × Line) → dyadic_at line ≡ Ok x →
    (line ≡ dyadic_text x.0 ∷ x.1) × IsWritten x.0
unfolding dyadic_at
dyadic_takes line x e =
    on_ok _ _ x e (λ f hf e.
    on_ok _ _ x e (λ d hd e.
    let t = passed (nat_lt (unsigned_abs d.m) mantissa_end && nat_le d.e exponent_limit) OutOfRange (d, f.1) x e in
    let tests = and_parts (nat_lt (unsigned_abs d.m) mantissa_end) (nat_le d.e exponent_limit) t.0 in
    let small : unsigned_abs d.m < mantissa_end = grind (arith, nat_tests, tests.0) in
    let places : d.e ≤ exponent_limit = grind (arith, nat_tests, tests.1) in
    let is = known_is (dyadic_of f.0) d hd in
    subst (λ (y : Dyadic × Line). (line ≡ dyadic_text y.0 ∷ y.1) × IsWritten y.0) t.1 (
      field_is line f hf ∙ ap (λ g. g ∷ f.1) (dyadic_of-takes f.0 d small places is),
      record { small = small; places = places; one_spelling = dyadic_of-odd f.0 d is },
    )))

pub dyadic_again : (d : Dyadic) (rest : Line) → IsWritten d → dyadic_at (dyadic_text d ∷ rest) ≡ Ok (d, rest)
unfolding dyadic_at
dyadic_again d rest w =
    let small : nat_lt (unsigned_abs d.m) mantissa_end ≡ true = grind (arith, nat_tests, w.small) in
    let places : nat_le d.e exponent_limit ≡ true = grind (arith, nat_tests, w.places) in
    rw (dyadic_of-again d w, small, places) refl

-- an interval
pub interval_takes : (line : Line) (x : Interval × Line) → interval_at line ≡ Ok x →
    (line ≡ interval_fields x.0 ++ x.1) × IsWrittenInterval x.0
unfolding interval_at
interval_takes line x e =
    on_ok _ _ x e (λ lo hlo e.
    on_ok _ _ x e (λ hi hhi e.
    let a = dyadic_takes line lo hlo in
    let b = dyadic_takes lo.1 hi hhi in
    let made : (record { lo = lo.0; hi = hi.0 }, hi.1) ≡ x = cc in
    subst (λ (y : Interval × Line). (line ≡ interval_fields y.0 ++ y.1) ×
    IsWrittenInterval y.0) made (front a.0 b.0, (a.1, b.1))))

pub interval_again : (i : Interval) (rest : Line) → IsWrittenInterval i →
    interval_at (interval_fields i ++ rest) ≡ Ok (i, rest)
unfolding interval_at
interval_again i rest (lo, hi) = rw (dyadic_again i.lo (dyadic_text i.hi ∷ rest) lo, dyadic_again i.hi rest hi) refl

-- what holds of each value whatever stands before it holds of all
pub All-from_each : {I A : Type 0} (P : A → Type 0) (next : I → A → I) (i : I) (xs : List A) →
    AreEach (λ _ x. P x) next i xs → AllByRecursion P xs
All-from_each P next i [] h = tt
All-from_each P next i (x ∷ xs) (h, hs) = (h, All-from_each P next (next i x) xs hs)

pub each-from_All : {I A : Type 0} (P : A → Type 0) (next : I → A → I) (i : I) (xs : List A) → AllByRecursion P xs →
    AreEach (λ _ x. P x) next i xs
each-from_All P next i [] h = tt
each-from_All P next i (x ∷ xs) (h, hs) = (h, each-from_All P next (next i x) xs hs)

-- so many dyadics
dyadics_many : (count : ℕ) →
    IsOneSpelling (dyadics_at count) (flat_map (λ d. dyadic_text d ∷ [])) (λ ds. (length ds ≡ count) ×
    AreEach (λ _ d. IsWritten d) (λ _ _. tt {0}) tt ds)
dyadics_many count =
    many_spelling {I = Unit {0}} (λ _ fields. dyadic_at fields) (λ _ _. tt) (λ d. dyadic_text d ∷ []) (λ _ _. Unit {0})
    (λ _ d. IsWritten d)
    (record {
      one = λ k i _. record { takes = dyadic_takes; again = dyadic_again };
      keeps = λ k i a _ _. tt;
    }) count tt tt

pub dyadics_spelling : (count : ℕ) →
    IsOneSpelling (dyadics_at count) (map dyadic_text) (λ ds. (length ds ≡ count) × All IsWritten ds)
dyadics_spelling count = record {
  takes = λ line x e.
      let t = (dyadics_many count).takes line x e in (
        t.0 ∙ ap (λ l. l ++ x.1) (flat_map_single dyadic_text x.0),
        (t.1.0, All-from_recursion IsWritten x.0 (All-from_each IsWritten (λ _ _. tt) tt x.0 t.1.1)),
      );
  again = λ ds rest h.
      ap (λ l. dyadics_at count (l ++ rest)) (sym (flat_map_single dyadic_text ds))
      ∙ (dyadics_many count).again ds rest (
        h.0,
        each-from_All IsWritten (λ _ _. tt) tt ds (recursion_from_All IsWritten ds h.1),
      );
}

-- ---- their texts are fields

pub IsField-dyadic_text : (d : Dyadic) → IsWritten d → IsField (dyadic_text d)
IsField-dyadic_text d w =
    let m = IsField-signed_decimal d.m (narrow_mantissa d.m w.small) in
    record {
      spaces =
          Lacks-append 32 (signed_decimal d.m) (58 ∷ decimal d.e) m.spaces (
            refl,
            decimal-lacks 32 d.e (inl (omega arith)) (omega (arith, w.places)),
          );
      line_feeds =
          Lacks-append 10 (signed_decimal d.m) (58 ∷ decimal d.e) m.line_feeds (
            refl,
            decimal-lacks 10 d.e (inl (omega arith)) (omega (arith, w.places)),
          );
    }
