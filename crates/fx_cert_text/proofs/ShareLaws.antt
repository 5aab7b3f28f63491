-- Shares have one spelling, and so has a minus in their place.
use Rattle.std.proofs.Common.{◌≡◌, ℕ, ◌+◌, ◌-◌, ◌^◌, ◌<◌, ◌≤◌, Bool, true, false, List, [], ◌∷◌, ◌++◌, length, Option, Some, None, Ok, ℤ, pos, negsuc, ◌≤ℤ◌, refl, sym, ap, subst, ◌∙◌, inl, inr, arith, rules, codes}
use Rattle.std.specs.Prelude.{int_le, unsigned_abs}
use Rattle.std.specs.Fmt.{decimal}
use Rattle.std.specs.Str.{bytes_eq}
use Rattle.std.specs.List.{AllByRecursion, flat_map}
use Rattle.std.proofs.lemmas.Int.{ints}
use Rattle.std.proofs.lemmas.List.Concat.{flat_map-cons}
use Rattle.std.proofs.lemmas.Slice.Eq.{bytes_eq-Decides}
use Rattle.fx_inequalities.specs.Certificate.{Share}
use Rattle.fx_inequalities.specs.CertificateText.{share_fields, by_fields}
use Rattle.fx_inequalities.specs.LawfulCertificate.{AreShares, AreSharesIfAny}
use Rattle.fx_text.specs.declared.fault.TextKind.TheVariants.{OutOfRange}
use Rattle.fx_text.specs.Cutting.{Line}
use Rattle.fx_text.specs.Numbers.{integer_of}
use Rattle.fx_text.specs.Many.{AreEach}
use Rattle.fx_text.specs.Laws.{IsNarrow}
use Rattle.fx_text.specs.Spelling.{IsField, IsOneSpelling, Lacks}
use Rattle.fx_model.proofs.Steps.{on_ok}
use Rattle.fx_text.proofs.Choices.{passed, chosen}
use Rattle.fx_text.proofs.NumberLaws.{integer_takes, integer_again}
use Rattle.fx_text.proofs.FieldLaws.{done, field_is, known_is}
use Rattle.fx_text.proofs.ManyLaws.{HasOneSpelling, many_takes, many_again}
use Rattle.fx_text.proofs.LineLaws.{IsField-decimal, decimal-lacks}
use Rattle.fx_text.proofs.DyadicLaws.{IsField-dyadic_text}
use Rattle.fx_cert_text.proofs.Printed.{pairs}
use Rattle.fx_cert_text.specs.FieldReading.{size_at, share_at, above, shares_at, is_dash, no_shares_at, some_shares_at, by_at}
use Rattle.fx_cert_text.proofs.Shares.{IsShare, share_takes, share_again, sized}

-- ---- a count
narrow : (n : ℕ) → n < 2 ^ 32 → IsNarrow (pos n)
narrow n small = (omega (arith, ints), omega (arith, ints))

size_takes : (line : Line) (x : ℕ × Line) → x.0 < 2 ^ 32 → size_at line ≡ Ok x → line ≡ decimal x.0 ∷ x.1
unfolding size_at
size_takes line x small e =
    on_ok _ _ x e (λ f hf e.
    on_ok _ _ x e (λ z hz e. by z f.0 f.1 (field_is line f hf) (known_is (integer_of f.0) z hz) e))
  where
    by : (z : ℤ) (g : List ℕ) (rest : Line) → line ≡ g ∷ rest → integer_of g ≡ Some z → sized z rest ≡ done x →
        line ≡ decimal x.0 ∷ x.1
    by z g rest l i e =
        let t = passed (int_le (pos 0) z) OutOfRange (unsigned_abs z, rest) x e in
        let low : pos 0 ≤ℤ z = grind (arith, ints, t.0) in
        at z i low t.1
      where
        at : (z : ℤ) → integer_of g ≡ Some z → pos 0 ≤ℤ z → (unsigned_abs z, rest) ≡ x → line ≡ decimal x.0 ∷ x.1
        at (pos n) i low made =
            let is : n ≡ x.0 = ap (λ (y : ℕ × Line). y.0) made in
            subst (λ (y : ℕ × Line). line ≡ decimal y.0 ∷ y.1) made (l
            ∙ ap (λ h. h ∷ rest) (integer_takes g (pos n) (narrow n (omega (arith, small, is))) i))
        at (negsuc n) i low made = absurd (omega (arith, ints, low))

size_again : (n : ℕ) (rest : Line) → n < 2 ^ 32 → size_at (decimal n ∷ rest) ≡ Ok (n, rest)
unfolding size_at
size_again n rest small =
    let a : int_le (pos 0) (pos n) ≡ true = grind (arith, ints) in rw (integer_again (pos n) (narrow n small), a) refl

-- ---- shares
one_spelling : (end : ℕ) → end < 2 ^ 32 → HasOneSpelling (share_at end) above pairs (λ _ _. Unit {0}) (IsShare end)
one_spelling end small =
    record {
      one = λ k i _. record {
        takes = λ line x e. share_takes end i line x small e;
        again = λ s rest h. share_again end i s rest small h;
      };
      keeps = λ k i a _ _. tt;
    }

are_shares : (end least : ℕ) (shares : List Share) → AreEach (IsShare end) above least shares →
    AreShares end least shares
are_shares end least [] h = tt
are_shares end least (s ∷ shares) (h, hs) = (h.low, h.high, h.times, are_shares end (s.template + 1) shares hs)

each_share : (end least : ℕ) (shares : List Share) → AreShares end least shares →
    AreEach (IsShare end) above least shares
each_share end least [] h = tt
each_share end least (s ∷ shares) h =
    (record { low = h.0; high = h.1; times = h.2 }, each_share end (s.template + 1) shares h.3)

-- there are no more of them than templates
are_few : (end least : ℕ) (shares : List Share) → AreShares end least shares → length shares ≤ end - least
are_few end least [] h = omega arith
are_few end least (s ∷ shares) h = let more = are_few end (s.template + 1) shares h.3 in omega (arith, more, h.0, h.1)

pub shares_law : (end : ℕ) → end < 2 ^ 32 → IsOneSpelling (shares_at end) share_fields (AreShares end 0)
unfolding shares_at
shares_law end small = record { takes = takes; again = again }
  where
    takes : (line : Line) (x : List Share × Line) → shares_at end line ≡ Ok x →
        (line ≡ share_fields x.0 ++ x.1) × AreShares end 0 x.0
    takes line x e =
        on_ok _ _ x e (λ count hc e.
        let t =
        many_takes (share_at end) above pairs (λ _ _. Unit {0}) (IsShare end)
        (one_spelling end small) count.0 0 count.1 x tt e in
        let are = are_shares end 0 x.0 t.2 in
        let few = are_few end 0 x.0 are in
        let counted : count.0 < 2 ^ 32 = omega (arith, few, t.1) in (
          size_takes line count counted hc ∙ ap (λ n. decimal n ∷ count.1) (sym t.1)
              ∙ ap (λ l. decimal (length x.0) ∷ l) t.0,
          are,
        ))

    again : (shares : List Share) (rest : Line) → AreShares end 0 shares →
        shares_at end (share_fields shares ++ rest) ≡ Ok (shares, rest)
    again shares rest h =
        let few = are_few end 0 shares h in
        rw (
          size_again (length shares) (flat_map pairs shares ++ rest) (omega (arith, few)),
          many_again (share_at end) above pairs (λ _ _. Unit {0}) (IsShare end)
              (one_spelling end small) 0 shares rest tt (each_share end 0 shares h),
        ) refl

-- ---- or a minus
not_minus : (n : ℕ) → n < 2 ^ 32 → bytes_eq (decimal n) (codes "-") ≡ false
not_minus n small = by (bytes_eq (decimal n) (codes "-")) refl
  where
    by : (b : Bool) → bytes_eq (decimal n) (codes "-") ≡ b → b ≡ false
    by false e = refl
    by true e =
        let is = (bytes_eq-Decides (decimal n) (codes "-")).0 e in
        let lacks : Lacks 45 (codes "-") = subst (Lacks 45) is (decimal-lacks 45 n (inl (omega arith)) (omega arith)) in
        absurd (search (rules, lacks))

pub by_law : (end : ℕ) → end < 2 ^ 32 → IsOneSpelling (by_at end) by_fields (AreSharesIfAny end)
unfolding by_at no_shares_at some_shares_at
by_law end small = record { takes = takes; again = again }
  where
    none_takes : (line : Line) (x : Option (List Share) × Line) → is_dash line ≡ true → no_shares_at line ≡ Ok x →
        (line ≡ by_fields x.0 ++ x.1) × AreSharesIfAny end x.0
    none_takes line x h e =
        on_ok _ _ x e (λ f hf e.
        let l = field_is line f hf in
        let is = (bytes_eq-Decides f.0 (codes "-")).0 (subst (λ l. is_dash l ≡ true) l h) in
        let made : (None, f.1) ≡ x = cc in
        subst (λ (y : Option (List Share) × Line). (line ≡ by_fields y.0 ++ y.1) × AreSharesIfAny end y.0) made (
          l
              ∙ ap (λ g. g ∷ f.1) is,
          tt,
        ))

    some_takes : (line : Line) (x : Option (List Share) × Line) → some_shares_at end line ≡ Ok x →
        (line ≡ by_fields x.0 ++ x.1) × AreSharesIfAny end x.0
    some_takes line x e =
        on_ok _ _ x e (λ s hs e.
        let t = (shares_law end small).takes line s hs in
        let made : (Some s.0, s.1) ≡ x = cc in
        subst (λ (y : Option (List Share) × Line). (line ≡ by_fields y.0 ++ y.1) × AreSharesIfAny end y.0) made t)

    takes : (line : Line) (x : Option (List Share) × Line) → by_at end line ≡ Ok x →
        (line ≡ by_fields x.0 ++ x.1) × AreSharesIfAny end x.0
    takes line x e =
        elim (chosen (is_dash line) (no_shares_at line) (some_shares_at end line) (Ok x) e) [
          | inl h ↦ none_takes line x h.0 h.1
          | inr h ↦ some_takes line x h.1
        ]

    again : (by : Option (List Share)) (rest : Line) → AreSharesIfAny end by →
        by_at end (by_fields by ++ rest) ≡ Ok (by, rest)
    again None rest h = refl
    again (Some shares) rest h =
        let few = are_few end 0 shares h in
        rw (not_minus (length shares) (omega (arith, few)), (shares_law end small).again shares rest h) refl

-- ---- their texts are fields
pub clean_shares : (end : ℕ) (shares : List Share) → end < 2 ^ 32 → AreShares end 0 shares →
    AllByRecursion IsField (share_fields shares)
clean_shares end shares small h =
    let few = are_few end 0 shares h in (IsField-decimal (length shares) (omega (arith, few)), by 0 shares h)
  where
    by : (least : ℕ) (shares : List Share) → AreShares end least shares → AllByRecursion IsField (flat_map pairs shares)
    by least [] h = tt
    by least (s ∷ shares) h =
        subst (AllByRecursion IsField) (sym (flat_map-cons pairs s shares)) (
          IsField-decimal s.template (omega (arith, h.1)),
          (IsField-dyadic_text s.times h.2, by (s.template + 1) shares h.3),
        )

pub clean_by : (end : ℕ) (by : Option (List Share)) → end < 2 ^ 32 → AreSharesIfAny end by →
    AllByRecursion IsField (by_fields by)
clean_by end None small h = (minus, tt)
  where
    minus : IsField (codes "-")
    minus = record { spaces = search rules; line_feeds = search rules }
clean_by end (Some shares) small h = clean_shares end shares small h
