-- The lines of a certificate have one spelling each.
use Rattle.std.proofs.Common.{◌≡◌, ℕ, ◌+◌, ◌≤◌, List, [], ◌∷◌, ◌++◌, map, Ok, ℤ, pos, negsuc, refl, ap, subst, ◌∙◌, arith, rules, codes}
use Rattle.std.specs.Prelude.{unsigned_abs}
use Rattle.std.specs.Fmt.{decimal, signed_decimal}
use Rattle.std.specs.List.{AllByRecursion}
use Rattle.std.proofs.lemmas.Int.{ints}
use Rattle.fx_rational.specs.Dyadic.{Dyadic, IsWritten}
use Rattle.fx_rational.specs.Interval.{Interval, IsWrittenInterval}
use Rattle.fx_model.specs.Limits.{input_limit, state_limit, node_limit, step_limit, place_end, template_limit}
use Rattle.fx_model.specs.Rules.{rule_count}
use Rattle.fx_model.specs.LineText.{dyadic_text, interval_fields}
use Rattle.fx_inequalities.specs.Rewriting.{Rewriting}
use Rattle.fx_inequalities.specs.Certificate.{StartBox}
use Rattle.fx_inequalities.specs.CertificateText.{path_field, step_fields, start_fields}
use Rattle.fx_inequalities.specs.LawfulCertificate.{IsWrittenBox, IsWrittenStep}
use Rattle.fx_text.specs.Cutting.{Line}
use Rattle.fx_text.specs.Reading.{IsWithin}
use Rattle.fx_text.specs.Laws.{AreNarrow}
use Rattle.fx_text.specs.Spelling.{AreFields, IsField}
use Rattle.fx_model.proofs.Steps.{on_ok}
use Rattle.fx_text.proofs.FieldLaws.{front, ended_is, word_takes, word_again, number_takes, number_again, place_takes, place_again, count_takes, count_again}
use Rattle.fx_text.proofs.LineLaws.{IsField-decimal, IsLineOf}
use Rattle.fx_text.proofs.DyadicLaws.{IsField-dyadic_text, interval_takes, interval_again}
use Rattle.fx_cert_text.specs.CountsView.{AreCertificateSizes, AreTemplateCounts}
use Rattle.fx_cert_text.specs.LineReading.{CertificateSizes, TemplateCounts, certificate_headline_at, certificate_sizes_at, step_count_at, step_at, start_at, template_counts_at}
use Rattle.fx_cert_text.proofs.PathLaws.{path_law, clean_path}

-- ---- parts of lines
-- some fields, and then the fields part_behind them
pub part_behind : {a b c : Line} (xs : Line) → a ≡ xs ++ b → b ≡ c → a ≡ xs ++ c
part_behind xs p q = p ∙ ap (λ line. xs ++ line) q

-- two parts of a line are fields
pub clean_append : (xs ys : Line) → AllByRecursion IsField xs → AllByRecursion IsField ys →
    AllByRecursion IsField (xs ++ ys)
clean_append [] ys h k = k
clean_append (x ∷ xs) ys (h, hs) k = (h, clean_append xs ys hs k)

pub clean_interval : (i : Interval) → IsWrittenInterval i → AllByRecursion IsField (interval_fields i)
clean_interval i h = (IsField-dyadic_text i.lo h.0, (IsField-dyadic_text i.hi h.1, tt))

pub clean_dyadics : (ds : List Dyadic) → AllByRecursion IsWritten ds → AllByRecursion IsField (map dyadic_text ds)
clean_dyadics [] h = tt
clean_dyadics (d ∷ ds) (h, hs) = (IsField-dyadic_text d h, clean_dyadics ds hs)

-- ---- the headline
abbrev pub certificate_headline_fields : Unit {0} → Line
certificate_headline_fields _ = codes "fixd" ∷ codes "certificate" ∷ codes "1" ∷ []

pub certificate_headline_law : IsLineOf certificate_headline_at certificate_headline_fields (λ _. Unit {0})
unfolding certificate_headline_at
certificate_headline_law = record {
  takes = λ line x e. (takes line x e, tt);
  again = λ x h. again;
  clean = λ x h. (word_fixd, (word_certificate, (word_1, tt)));
}
  where
    word_fixd : IsField (codes "fixd")
    word_fixd = record { spaces = search rules; line_feeds = search rules }

    word_certificate : IsField (codes "certificate")
    word_certificate = record { spaces = search rules; line_feeds = search rules }

    word_1 : IsField (codes "1")
    word_1 = record { spaces = search rules; line_feeds = search rules }

    takes : (line : Line) (x : Unit {0}) → certificate_headline_at line ≡ Ok x → line ≡ certificate_headline_fields x
    takes line x e =
        on_ok _ _ x e (λ a ha e.
        on_ok _ _ x e (λ b hb e.
        on_ok _ _ x e (λ c hc e.
        on_ok _ _ x e (λ d hd e.
        front (word_takes (codes "fixd") line a ha)
        (front (word_takes (codes "certificate") a b hb)
        (front (word_takes (codes "1") b c hc) (ended_is c d hd)))))))

    again : certificate_headline_at (certificate_headline_fields tt) ≡ Ok tt
    again =
        rw (
          word_again (codes "fixd") (codes "certificate" ∷ codes "1" ∷ []),
          word_again (codes "certificate") (codes "1" ∷ []),
          word_again (codes "1") [],
        ) refl

-- ---- counts
abbrev pub certificate_sizes_fields : CertificateSizes → Line
certificate_sizes_fields s = codes "sizes" ∷ decimal s.inputs ∷ decimal s.states ∷ decimal s.count ∷ []

pub certificate_sizes_law : IsLineOf certificate_sizes_at certificate_sizes_fields AreCertificateSizes
unfolding certificate_sizes_at
certificate_sizes_law = record { takes = takes; again = again; clean = clean }
  where
    takes : (line : Line) (s : CertificateSizes) → certificate_sizes_at line ≡ Ok s →
        (line ≡ certificate_sizes_fields s) × AreCertificateSizes s
    takes line s e =
        on_ok _ _ s e (λ rest hr e.
        on_ok _ _ s e (λ i hi e.
        on_ok _ _ s e (λ k hk e.
        on_ok _ _ s e (λ n hn e.
        on_ok _ _ s e (λ d hd e.
        let pi = count_takes 1 input_limit rest i (omega arith) hi in
        let pk = count_takes 0 state_limit i.1 k (omega arith) hk in
        let pn = count_takes (i.0 + k.0) node_limit k.1 n (omega arith) hn in
        let made : record { inputs = i.0; states = k.0; count = n.0 } ≡ s = cc in
        subst (λ s. (line ≡ certificate_sizes_fields s) × AreCertificateSizes s) made (
          front (word_takes (codes "sizes") line rest hr) (front pi.0 (front pk.0 (front pn.0 (ended_is n.1 d hd)))),
          record { some_input = pi.1; inputs = pi.2; states = pk.2; enough = pn.1; count = pn.2 },
        ))))))

    again : (s : CertificateSizes) → AreCertificateSizes s → certificate_sizes_at (certificate_sizes_fields s) ≡ Ok s
    again s h =
        rw (
          word_again (codes "sizes") (decimal s.inputs ∷ decimal s.states ∷ decimal s.count ∷ []),
          count_again 1 input_limit s.inputs (decimal s.states ∷ decimal s.count ∷ [])
              (omega arith) h.some_input h.inputs,
          count_again 0 state_limit s.states (decimal s.count ∷ []) (omega arith) (omega arith) h.states,
          count_again (s.inputs + s.states) node_limit s.count [] (omega arith) h.enough h.count,
        ) refl

    word_sizes : IsField (codes "sizes")
    word_sizes = record { spaces = search rules; line_feeds = search rules }

    clean : (s : CertificateSizes) → AreCertificateSizes s → AreFields (certificate_sizes_fields s)
    clean s h =
        let i = h.inputs in let k = h.states in let n = h.count in (
          word_sizes,
          (
            IsField-decimal s.inputs (omega arith),
            (IsField-decimal s.states (omega arith), (IsField-decimal s.count (omega arith), tt)),
          ),
        )

abbrev pub step_count_fields : ℕ → Line
step_count_fields n = codes "steps" ∷ decimal n ∷ []

pub step_count_law : IsLineOf step_count_at step_count_fields (λ n. n ≤ step_limit)
unfolding step_count_at
step_count_law = record { takes = takes; again = again; clean = clean }
  where
    takes : (line : Line) (n : ℕ) → step_count_at line ≡ Ok n → (line ≡ step_count_fields n) × (n ≤ step_limit)
    takes line n e =
        on_ok _ _ n e (λ rest hr e.
        on_ok _ _ n e (λ k hk e.
        on_ok _ _ n e (λ d hd e.
        let pk = count_takes 0 step_limit rest k (omega arith) hk in
        let made : k.0 ≡ n = cc in
        subst (λ (n : ℕ). (line ≡ step_count_fields n) ×
        (n ≤ step_limit)) made (
          front (word_takes (codes "steps") line rest hr) (front pk.0 (ended_is k.1 d hd)),
          pk.2,
        ))))

    again : (n : ℕ) → n ≤ step_limit → step_count_at (step_count_fields n) ≡ Ok n
    again n h =
        rw (
          word_again (codes "steps") (decimal n ∷ []),
          count_again 0 step_limit n [] (omega arith) (omega arith) h,
        ) refl

    word_steps : IsField (codes "steps")
    word_steps = record { spaces = search rules; line_feeds = search rules }

    clean : (n : ℕ) → n ≤ step_limit → AreFields (step_count_fields n)
    clean n h = (word_steps, (IsField-decimal n (omega arith), tt))

abbrev pub template_counts_fields : TemplateCounts → Line
template_counts_fields s = codes "rows" ∷ decimal s.templates ∷ decimal s.error_templates ∷ []

pub template_counts_law : (k : ℕ) → IsLineOf (template_counts_at k) template_counts_fields (AreTemplateCounts k)
unfolding template_counts_at
template_counts_law k = record { takes = takes; again = again; clean = clean }
  where
    takes : (line : Line) (s : TemplateCounts) → template_counts_at k line ≡ Ok s →
        (line ≡ template_counts_fields s) × AreTemplateCounts k s
    takes line s e =
        on_ok _ _ s e (λ rest hr e.
        on_ok _ _ s e (λ i hi e.
        on_ok _ _ s e (λ j hj e.
        on_ok _ _ s e (λ d hd e.
        let pi = count_takes k template_limit rest i (omega arith) hi in
        let pj = count_takes k template_limit i.1 j (omega arith) hj in
        let made : record { templates = i.0; error_templates = j.0 } ≡ s = cc in
        subst (λ s. (line ≡ template_counts_fields s) × AreTemplateCounts k s) made (
          front (word_takes (codes "rows") line rest hr) (front pi.0 (front pj.0 (ended_is j.1 d hd))),
          record { enough = pi.1; templates = pi.2; enough_errors = pj.1; error_templates = pj.2 },
        )))))

    again : (s : TemplateCounts) → AreTemplateCounts k s → template_counts_at k (template_counts_fields s) ≡ Ok s
    again s h =
        rw (
          word_again (codes "rows") (decimal s.templates ∷ decimal s.error_templates ∷ []),
          count_again k template_limit s.templates (decimal s.error_templates ∷ []) (omega arith) h.enough h.templates,
          count_again k template_limit s.error_templates [] (omega arith) h.enough_errors h.error_templates,
        ) refl

    word_templates : IsField (codes "rows")
    word_templates = record { spaces = search rules; line_feeds = search rules }

    clean : (s : TemplateCounts) → AreTemplateCounts k s → AreFields (template_counts_fields s)
    clean s h =
        let r = h.templates in
        let e = h.error_templates in (
          word_templates,
          (
            IsField-decimal s.templates (omega arith),
            (IsField-decimal s.error_templates (omega arith), tt),
          ),
        )

-- ---- steps
narrow_rules : AreNarrow (pos 1) (pos rule_count)
narrow_rules = record { least = omega (arith, ints); greatest = omega (arith, ints) }

-- the number of a rule
rule_is : (line rest : Line) (z : ℤ) → (line ≡ signed_decimal z ∷ rest) × IsWithin (pos 1) (pos rule_count) z →
    (line ≡ decimal (unsigned_abs z) ∷ rest) × (1 ≤ unsigned_abs z) × (unsigned_abs z ≤ rule_count)
rule_is line rest (pos n) t = (t.0, omega (arith, ints, t.1.0), omega (arith, ints, t.1.1))
rule_is line rest (negsuc n) t = absurd (omega (arith, ints, t.1.0))

pub step_law : IsLineOf step_at step_fields IsWrittenStep
unfolding step_at
step_law = record { takes = takes; again = again; clean = clean }
  where
    takes : (line : Line) (s : Rewriting) → step_at line ≡ Ok s → (line ≡ step_fields s) × IsWrittenStep s
    takes line s e =
        on_ok _ _ s e (λ rest hr e.
        on_ok _ _ s e (λ p hp e.
        on_ok _ _ s e (λ path hq e.
        on_ok _ _ s e (λ z hz e.
        on_ok _ _ s e (λ d hd e.
        let tp = place_takes place_end rest p (omega arith) hp in
        let tq = path_law.takes p.1 path hq in
        let tz = rule_is path.1 z.1 z.0 (number_takes (pos 1) (pos rule_count) path.1 z narrow_rules hz) in
        let made : record { place = p.0; path = path.0; rule = unsigned_abs z.0 } ≡ s = cc in
        subst (λ s. (line ≡ step_fields s) × IsWrittenStep s) made (
          front (word_takes (codes "step") line rest hr) (front tp.0 (front tq.0 (front tz.0 (ended_is z.1 d hd)))),
          record { place = tp.1; short = tq.1.short; path = tq.1.turns; some_rule = tz.1; rule = tz.2 },
        ))))))

    again : (s : Rewriting) → IsWrittenStep s → step_at (step_fields s) ≡ Ok s
    again s h =
        let within : IsWithin (pos 1) (pos rule_count) (pos s.rule) = (let a = h.some_rule in let b = h.rule in
        (omega (arith, ints), omega (arith, ints))) in
        rw (
          word_again (codes "step") (decimal s.place ∷ path_field s.path ∷ decimal s.rule ∷ []),
          place_again place_end s.place (path_field s.path ∷ decimal s.rule ∷ []) (omega arith) h.place,
          path_law.again s.path (decimal s.rule ∷ []) (record { short = h.short; turns = h.path }),
          number_again (pos 1) (pos rule_count) (pos s.rule) [] narrow_rules within,
        ) refl

    word_step : IsField (codes "step")
    word_step = record { spaces = search rules; line_feeds = search rules }

    clean : (s : Rewriting) → IsWrittenStep s → AreFields (step_fields s)
    clean s h =
        let p = h.place in
        let r = h.rule in (
          word_step,
          (
            IsField-decimal s.place (omega arith),
            (clean_path s.path, (IsField-decimal s.rule (omega arith), tt)),
          ),
        )

-- ---- starts
pub start_law : IsLineOf start_at start_fields IsWrittenBox
unfolding start_at
start_law = record { takes = takes; again = again; clean = clean }
  where
    takes : (line : Line) (b : StartBox) → start_at line ≡ Ok b → (line ≡ start_fields b) × IsWrittenBox b
    takes line b e =
        on_ok _ _ b e (λ rest hr e.
        on_ok _ _ b e (λ g hg e.
        on_ok _ _ b e (λ i hi e.
        on_ok _ _ b e (λ d hd e.
        let tg = interval_takes rest g hg in let ti = interval_takes g.1 i hi in
        let made : record { range = g.0; error = i.0 } ≡ b = cc in
        subst (λ b. (line ≡ start_fields b) × IsWrittenBox b) made (
          front (word_takes (codes "start") line rest hr)
              (part_behind (interval_fields g.0) tg.0 (part_behind (interval_fields i.0) ti.0 (ended_is i.1 d hd))),
          (tg.1, ti.1),
        )))))

    again : (b : StartBox) → IsWrittenBox b → start_at (start_fields b) ≡ Ok b
    again b h =
        rw (
          word_again (codes "start") (interval_fields b.range ++ interval_fields b.error),
          interval_again b.range (interval_fields b.error) h.0,
          interval_again b.error [] h.1,
        ) refl

    word_start : IsField (codes "start")
    word_start = record { spaces = search rules; line_feeds = search rules }

    clean : (b : StartBox) → IsWrittenBox b → AreFields (start_fields b)
    clean b h = (
      word_start,
      clean_append (interval_fields b.range) (interval_fields b.error) (clean_interval b.range h.0)
          (clean_interval b.error h.1),
    )
