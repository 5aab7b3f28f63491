-- Templates have one spelling together: a box for each state, and then the further templates.
use Rattle.std.proofs.Common.{◌≡◌, ℕ, zero, suc, ◌+◌, ◌-◌, ◌^◌, ◌<◌, ◌≤◌, List, [], ◌∷◌, ◌++◌, length, take, drop, Ok, refl, sym, ap, subst, ◌∙◌, append_assoc, arith, length-append}
use Rattle.std.specs.Prelude.{All}
use Rattle.std.specs.List.{AllByRecursion, flat_map}
use Rattle.std.proofs.Math.Seq.{take-append_seam, drop-append_seam}
use Rattle.std.proofs.lemmas.List.{take-append-drop, length-take-le}
use Rattle.std.proofs.lemmas.List.Elements.{All-from_recursion, recursion_from_All, All-append, All-nil, All-cons}
use Rattle.fx_rational.specs.Dyadic.{IsWritten, zero_dyadic}
use Rattle.fx_model.specs.Limits.{template_limit}
use Rattle.fx_model.specs.LineText.{line_text}
use Rattle.fx_inequalities.specs.Certificate.{Template}
use Rattle.fx_inequalities.specs.CertificateText.{box_fields, template_fields, templates_text}
use Rattle.fx_inequalities.specs.LawfulCertificate.{AreUnitTemplates, AreWrittenTemplates, IsWrittenTemplate, unit_vector, zeros}
use Rattle.fx_text.specs.Many.{AreEach, lines_by}
use Rattle.fx_text.specs.Spelling.{IsOneSpelling}
use Rattle.fx_model.proofs.Steps.{on_ok}
use Rattle.fx_text.proofs.DyadicLaws.{All-from_each, each-from_All}
use Rattle.fx_text.proofs.LinesLaws.{following, lines_spelling}
use Rattle.fx_cert.proofs.Units.{unit_length}
use Rattle.fx_cert_text.specs.LineReading.{box_template_at, template_at}
use Rattle.fx_cert_text.specs.CertificateReading.{templates_at}
use Rattle.fx_cert_text.proofs.NodeLines.{IsBox, box_law, template_law}

-- ---- unit vectors
zeros_written : (n : ℕ) → All IsWritten (zeros n)
zeros_written zero = All-nil IsWritten
zeros_written (suc n) =
    let zero : IsWritten zero_dyadic = record {
      small = omega arith;
      places = omega arith;
      one_spelling = λ lt. absurd (omega (arith, lt));
    } in
    All-cons IsWritten zero_dyadic (zeros n) zero (zeros_written n)

unit_written : (k i : ℕ) → All IsWritten (unit_vector k i)
unit_written k i =
    let one : IsWritten (record { m = _; e = 0 }) =
    record { small = omega arith; places = omega arith; one_spelling = λ lt. absurd (omega (arith, lt)) } in
    All-append IsWritten (zeros i) (_ ∷ zeros (k - (i + 1))) (zeros_written i)
    (All-cons IsWritten _ (zeros (k - (i + 1))) one (zeros_written (k - (i + 1))))

-- ---- the unit templates among all
written_boxes : (k end i : ℕ) (boxes : List Template) → i + length boxes ≡ k → AreEach (IsBox k end) following i boxes →
    AllByRecursion (IsWrittenTemplate k end) boxes
written_boxes k end i [] e h = tt
written_boxes k end i (r ∷ boxes) e (h, hs) =
    let more : i + 1 + length boxes ≡ k = omega (arith, e) in (
      record {
        coefs = ap length h.coefs ∙ unit_length k i (omega (arith, e));
        written = subst (All IsWritten) (sym h.coefs) (unit_written k i);
        bound = h.bound;
        shares = h.shares;
      },
      written_boxes k end (i + 1) boxes more hs,
    )

no_units : (k i : ℕ) (templates : List Template) → k ≤ i → AreUnitTemplates k i templates
no_units k i [] le = tt
no_units k i (r ∷ templates) le = (λ lt. absurd (omega arith), no_units k (i + 1) templates (omega arith))

units : (k end i : ℕ) (boxes others : List Template) → i + length boxes ≡ k → AreEach (IsBox k end) following i boxes →
    AreUnitTemplates k i (boxes ++ others)
units k end i [] others e h = no_units k i others (omega (arith, e))
units k end i (r ∷ boxes) others e (h, hs) =
    let more : i + 1 + length boxes ≡ k = omega (arith, e) in (λ lt. h.coefs, units k end (i + 1) boxes others more hs)

-- and back
each_box : (k end i : ℕ) (boxes others : List Template) → i + length boxes ≡ k →
    AreUnitTemplates k i (boxes ++ others) → AllByRecursion (IsWrittenTemplate k end) (boxes ++ others) →
    AreEach (IsBox k end) following i boxes
each_box k end i [] others e u h = tt
each_box k end i (r ∷ boxes) others e (u, us) (h, hs) =
    let more : i + 1 + length boxes ≡ k = omega (arith, e) in (
      record { coefs = u (omega (arith, e)); bound = h.bound; shares = h.shares },
      each_box k end (i + 1) boxes others more us hs,
    )

other_templates : (k end : ℕ) (boxes others : List Template) →
    AllByRecursion (IsWrittenTemplate k end) (boxes ++ others) → AllByRecursion (IsWrittenTemplate k end) others
other_templates k end [] others h = h
other_templates k end (r ∷ boxes) others h = other_templates k end boxes others h.1

-- ---- their texts
parts : (k : ℕ) (boxes others : List Template) → length boxes ≡ k →
    templates_text k (boxes ++ others) ≡ flat_map (λ r. line_text (box_fields r)) boxes
    ++ flat_map (λ r. line_text (template_fields r)) others
parts k boxes others e =
    subst (λ k. templates_text k (boxes ++ others) ≡ flat_map (λ r. line_text (box_fields r)) boxes
    ++ flat_map (λ r. line_text (template_fields r)) others) e (rw (
      take-append_seam boxes others,
      drop-append_seam boxes others,
    ) refl)

boxes_law : (k end n : ℕ) → end < 2 ^ 32 →
    IsOneSpelling (lines_by (box_template_at k end) n k) (flat_map (λ r. line_text (box_fields r)))
    (λ rs. (length rs ≡ k) × AreEach (IsBox k end) following 0 rs)
boxes_law k end n small =
    lines_spelling (box_template_at k end) box_fields (IsBox k end) (λ i. box_law k end i small) n k

others_law : (k end n count : ℕ) → end < 2 ^ 32 →
    IsOneSpelling (lines_by (λ _. template_at k end) n count) (flat_map (λ r. line_text (template_fields r)))
    (λ rs. (length rs ≡ count) × AreEach (λ _ r. IsWrittenTemplate k end r) following 0 rs)
others_law k end n count small =
    lines_spelling (λ _. template_at k end) template_fields (λ _ r. IsWrittenTemplate k end r)
    (λ _. template_law k end small) n count

pub templates_take : (n k count : ℕ) (text : List ℕ) (x : List Template × List ℕ) → k ≤ count → count ≤ template_limit →
    templates_at n k count text ≡ Ok x → (text ≡ templates_text k x.0 ++ x.1) × (length x.0 ≡ count) ×
    AreWrittenTemplates k x.0
unfolding templates_at
templates_take n k count text x enough few e =
    let small : count < 2 ^ 32 = omega arith in
    on_ok _ _ x e (λ boxes hb e.
    on_ok _ _ x e (λ others ho e.
    let tb = (boxes_law k count n small).takes text boxes hb in
    let to = (others_law k count (n + k) (count - k) small).takes boxes.1 others ho in
    let made : (boxes.0 ++ others.0, others.1) ≡ x = cc in
    let counted : length (boxes.0 ++ others.0) ≡ count =
    omega (arith, length-append boxes.0 others.0, tb.1.0, to.1.0) in
    let begun : 0 + length boxes.0 ≡ k = omega (arith, tb.1.0) in
    let whole = tb.0 ∙ ap (λ t. flat_map (λ r. line_text (box_fields r)) boxes.0 ++ t) to.0
    ∙ sym (append_assoc (flat_map (λ r. line_text (box_fields r)) boxes.0)
    (flat_map (λ r. line_text (template_fields r)) others.0) others.1)
    ∙ ap (λ t. t ++ others.1) (sym (parts k boxes.0 others.0 tb.1.0)) in
    let each : All (IsWrittenTemplate k count) (boxes.0 ++ others.0) =
    All-append (IsWrittenTemplate k count) boxes.0 others.0
    (All-from_recursion (IsWrittenTemplate k count) boxes.0 (written_boxes k count 0 boxes.0 begun tb.1.1))
    (All-from_recursion (IsWrittenTemplate k count) others.0
    (All-from_each (IsWrittenTemplate k count) following 0 others.0 to.1.1)) in
    subst (λ (y : List Template × List ℕ). (text ≡ templates_text k y.0 ++ y.1) × (length y.0 ≡ count) ×
    AreWrittenTemplates k y.0) made (
      whole,
      counted,
      record {
        enough = omega (arith, counted);
        few = omega (arith, counted);
        units = units k count 0 boxes.0 others.0 begun tb.1.1;
        each = subst (λ c. All (IsWrittenTemplate k c) (boxes.0 ++ others.0)) (sym counted) each;
      },
    )))

-- the first k templates and the others
again_of : (n k : ℕ) (boxes others : List Template) (rest : List ℕ) → length boxes ≡ k →
    AreWrittenTemplates k (boxes ++ others) →
    templates_at n k (length (boxes ++ others)) (templates_text k (boxes ++ others) ++ rest)
    ≡ Ok (boxes ++ others, rest)
unfolding templates_at
again_of n k boxes others rest e h =
    let count = length (boxes ++ others) in
    let small : count < 2 ^ 32 = omega (arith, h.few) in
    let begun : 0 + length boxes ≡ k = omega (arith, e) in
    let each = recursion_from_All (IsWrittenTemplate k count) (boxes ++ others) h.each in
    let left : length others ≡ count - k = omega (arith, length-append boxes others, e) in
    let behind = flat_map (λ r. line_text (template_fields r)) others ++ rest in
    let texts : templates_text k (boxes ++ others) ++ rest ≡ flat_map (λ r. line_text (box_fields r)) boxes ++ behind =
    ap (λ t. t ++ rest) (parts k boxes others e)
    ∙ append_assoc (flat_map (λ r. line_text (box_fields r)) boxes)
    (flat_map (λ r. line_text (template_fields r)) others) rest in
    rw (
      texts,
      (boxes_law k count n small).again boxes behind (e, each_box k count 0 boxes others begun h.units each),
      (others_law k count (n + k) (count - k) small).again others rest (
        left,
        each-from_All (IsWrittenTemplate k count) following 0 others (other_templates k count boxes others each),
      ),
    ) refl

pub templates_again : (n k : ℕ) (templates : List Template) (rest : List ℕ) → AreWrittenTemplates k templates →
    templates_at n k (length templates) (templates_text k templates ++ rest) ≡ Ok (templates, rest)
templates_again n k templates rest h =
    let whole = take-append-drop k templates in
    subst (λ templates. templates_at n k (length templates) (templates_text k templates ++ rest)
    ≡ Ok (templates, rest)) whole (again_of n k (take k templates) (drop k templates) rest
    (length-take-le k templates h.enough) (subst (AreWrittenTemplates k) (sym whole) h))
