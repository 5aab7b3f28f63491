-- A certificate has one spelling.
use Rattle.std.proofs.Common.{◌≡◌, ℕ, ◌+◌, ◌≤◌, List, [], ◌∷◌, ◌++◌, length, Ok, refl, sym, ap, subst, ◌∙◌, append_assoc, arith}
use Rattle.std.specs.Prelude.{All}
use Rattle.std.specs.List.{flat_map}
use Rattle.std.proofs.lemmas.List.Elements.{All-from_recursion, recursion_from_All}
use Rattle.fx_model.specs.Limits.{step_limit, template_limit}
use Rattle.fx_model.specs.LineText.{line_text}
use Rattle.fx_inequalities.specs.Rewriting.{Rewriting}
use Rattle.fx_inequalities.specs.Certificate.{Certificate, NodeLine, Template, StartBox}
use Rattle.fx_inequalities.specs.CertificateText.{step_fields, start_fields, node_fields, templates_text, certificate_text}
use Rattle.fx_inequalities.specs.LawfulCertificate.{AreWrittenLines, AreWrittenTemplates, IsLawfulCertificate, IsWrittenBox, IsWrittenStep}
use Rattle.fx_text.specs.Many.{AreEach, lines_by}
use Rattle.fx_text.specs.Lines.{line_by}
use Rattle.fx_text.specs.Spelling.{IsOneSpelling}
use Rattle.fx_model.proofs.Steps.{on_ok}
use Rattle.fx_text.proofs.DyadicLaws.{All-from_each, each-from_All}
use Rattle.fx_text.proofs.LineLaws.{line_spelling}
use Rattle.fx_text.proofs.TextLaws.{all_takes, all_again}
use Rattle.fx_text.proofs.LinesLaws.{following, lines_spelling}
use Rattle.fx_cert_text.specs.CountsView.{AreCertificateSizes, AreTemplateCounts}
use Rattle.fx_cert_text.specs.LineReading.{CertificateSizes, TemplateCounts, certificate_headline_at, certificate_sizes_at, step_count_at, step_at, start_at, template_counts_at, node_at}
use Rattle.fx_cert_text.specs.CertificateReading.{steps_at, all_templates_at, certificate_at, certificate_lines, certificate_in}
use Rattle.fx_cert_text.proofs.CertificateLines.{certificate_headline_fields, certificate_headline_law, certificate_sizes_fields, certificate_sizes_law, step_count_fields, step_count_law, step_law, start_law, template_counts_fields, template_counts_law}
use Rattle.fx_cert_text.proofs.NodeLines.{IsNodeLine, node_law}
use Rattle.fx_cert_text.proofs.TemplateLaws.{templates_take, templates_again}

-- ---- steps
abbrev step_lines : List Rewriting → List ℕ
step_lines steps = flat_map (λ s. line_text (step_fields s)) steps

abbrev steps_text : List Rewriting → List ℕ
steps_text steps = line_text (step_count_fields (length steps)) ++ step_lines steps

pub record AreSteps (steps : List Rewriting) : Type 0 where
  pub few : length steps ≤ step_limit
  pub each : All IsWrittenStep steps

step_lines_law : (n count : ℕ) →
    IsOneSpelling (lines_by (λ _. step_at) n count) (flat_map (λ s. line_text (step_fields s)))
    (λ ss. (length ss ≡ count) × AreEach (λ _ s. IsWrittenStep s) following 0 ss)
step_lines_law n count = lines_spelling (λ _. step_at) step_fields (λ _ s. IsWrittenStep s) (λ _. step_law) n count

steps_law : (n : ℕ) → IsOneSpelling (steps_at n) steps_text AreSteps
unfolding steps_at
steps_law n = record { takes = takes; again = again }
  where
    takes : (text : List ℕ) (x : List Rewriting × List ℕ) → steps_at n text ≡ Ok x →
        (text ≡ steps_text x.0 ++ x.1) × AreSteps x.0
    takes text x e =
        on_ok _ _ x e (λ count hc e.
        let tc =
        (line_spelling step_count_at step_count_fields
        (λ n. n ≤ step_limit) step_count_law n).takes text count hc in
        let ts = (step_lines_law (n + 1) count.0).takes count.1 x e in (
          tc.0 ∙ ap (λ k. line_text (step_count_fields k) ++ count.1) (sym ts.1.0)
              ∙ ap (λ t. line_text (step_count_fields (length x.0)) ++ t) ts.0
              ∙ sym (append_assoc (line_text (step_count_fields (length x.0))) (step_lines x.0) x.1),
          record {
            few = omega (arith, ts.1.0, tc.1);
            each = All-from_recursion IsWrittenStep x.0 (All-from_each IsWrittenStep following 0 x.0 ts.1.1);
          },
        ))

    again : (steps : List Rewriting) (rest : List ℕ) → AreSteps steps →
        steps_at n (steps_text steps ++ rest) ≡ Ok (steps, rest)
    again steps rest h =
        rw (
          append_assoc (line_text (step_count_fields (length steps))) (step_lines steps) rest,
          (line_spelling step_count_at step_count_fields (λ n. n ≤ step_limit) step_count_law n).again (length steps)
              (step_lines steps ++ rest) h.few,
          (step_lines_law (n + 1) (length steps)).again steps rest (
            refl,
            each-from_All IsWrittenStep following 0 steps (recursion_from_All IsWrittenStep steps h.each),
          ),
        ) refl

-- ---- starts
starts_law : (n count : ℕ) →
    IsOneSpelling (lines_by (λ _. start_at) n count) (flat_map (λ b. line_text (start_fields b)))
    (λ bs. (length bs ≡ count) × AreEach (λ _ b. IsWrittenBox b) following 0 bs)
starts_law n count = lines_spelling (λ _. start_at) start_fields (λ _ b. IsWrittenBox b) (λ _. start_law) n count

-- ---- templates and error templates
abbrev counts_of : List Template × List Template → TemplateCounts
counts_of p = record { templates = length p.0; error_templates = length p.1 }

abbrev all_templates_text : ℕ → List Template × List Template → List ℕ
all_templates_text k p =
    line_text (template_counts_fields (counts_of p)) ++ (templates_text k p.0 ++ templates_text k p.1)

abbrev AreAllTemplates : ℕ → List Template × List Template → Type 0
AreAllTemplates k p = AreWrittenTemplates k p.0 × AreWrittenTemplates k p.1

-- three texts and a rest
three : (a b c d : List ℕ) → (a ++ (b ++ c)) ++ d ≡ a ++ (b ++ (c ++ d))
three a b c d = simp append_assoc

all_templates_law : (n k : ℕ) → IsOneSpelling (all_templates_at n k) (all_templates_text k) (AreAllTemplates k)
unfolding all_templates_at
all_templates_law n k = record { takes = takes; again = again }
  where
    takes : (text : List ℕ) (x : (List Template × List Template) × List ℕ) → all_templates_at n k text ≡ Ok x →
        (text ≡ all_templates_text k x.0 ++ x.1) × AreAllTemplates k x.0
    takes text x e =
        on_ok _ _ x e (λ counts hc e.
        on_ok _ _ x e (λ templates hr e.
        on_ok _ _ x e (λ errors he e.
        let tc =
        (line_spelling (template_counts_at k) template_counts_fields (AreTemplateCounts k)
        (template_counts_law k) n).takes text counts hc in
        let tr = templates_take (n + 1) k counts.0.templates counts.1 templates tc.1.enough tc.1.templates hr in
        let te =
        templates_take (n + 1 + counts.0.templates) k counts.0.error_templates templates.1 errors tc.1.enough_errors
        tc.1.error_templates he in
        let told : counts.0 ≡ counts_of (templates.0, errors.0) =
        ap (λ r. record { templates = r; error_templates = counts.0.error_templates }) (sym tr.1)
        ∙ ap (λ c. record { templates = length templates.0; error_templates = c }) (sym te.1) in
        let head = line_text (template_counts_fields (counts_of (templates.0, errors.0))) in
        let whole = tc.0 ∙ ap (λ c. line_text (template_counts_fields c) ++ counts.1) told
        ∙ ap (λ t. head ++ t) (tr.0 ∙ ap (λ t. templates_text k templates.0 ++ t) te.0)
        ∙ sym (three head (templates_text k templates.0) (templates_text k errors.0) errors.1) in
        let made : ((templates.0, errors.0), errors.1) ≡ x = cc in
        subst (λ (y : (List Template × List Template) × List ℕ). (text ≡ all_templates_text k y.0 ++ y.1) ×
        AreAllTemplates k y.0) made (whole, (tr.2, te.2)))))

    again : (p : List Template × List Template) (rest : List ℕ) → AreAllTemplates k p →
        all_templates_at n k (all_templates_text k p ++ rest) ≡ Ok (p, rest)
    again p rest h =
        let head = line_text (template_counts_fields (counts_of p)) in let behind = templates_text k p.1 ++ rest in
        rw (
          three head (templates_text k p.0) (templates_text k p.1) rest,
          (line_spelling (template_counts_at k) template_counts_fields (AreTemplateCounts k)
              (template_counts_law k) n).again (counts_of p) (templates_text k p.0 ++ behind)
              (record {
                enough = h.0.enough;
                templates = h.0.few;
                enough_errors = h.1.enough;
                error_templates = h.1.few;
              }),
          templates_again (n + 1) k p.0 behind h.0,
          templates_again (n + 1 + length p.0) k p.1 rest h.1,
        ) refl

-- ---- nodes
nodes_law : (v templates error_templates n count : ℕ) → templates ≤ template_limit → error_templates ≤ template_limit
    → IsOneSpelling (lines_by (node_at v templates error_templates) n count)
    (flat_map (λ l. line_text (node_fields l l.form))) (λ ls. (length ls ≡ count) ×
    AreEach (IsNodeLine v templates error_templates) following 0 ls)
nodes_law v templates error_templates n count few few_errors =
    lines_spelling (node_at v templates error_templates) (λ l. node_fields l l.form)
    (IsNodeLine v templates error_templates)
    (λ i. node_law v templates error_templates i (omega arith) (omega arith)) n count

written_lines : (v templates error_templates n : ℕ) (lines : List NodeLine) →
    AreEach (IsNodeLine v templates error_templates) following n lines → AreWrittenLines v templates error_templates n lines
written_lines v templates error_templates n [] h = tt
written_lines v templates error_templates n (l ∷ lines) (h, hs) =
    ((h.range, h.error, h.form), written_lines v templates error_templates (n + 1) lines hs)

each_node : (v templates error_templates n : ℕ) (lines : List NodeLine) →
    AreWrittenLines v templates error_templates n lines → AreEach (IsNodeLine v templates error_templates) following n lines
each_node v templates error_templates n [] h = tt
each_node v templates error_templates n (l ∷ lines) (h, hs) =
    (record { range = h.0; error = h.1; form = h.2 }, each_node v templates error_templates (n + 1) lines hs)

-- ---- all of it
abbrev sizes_in : Certificate → CertificateSizes
sizes_in c = record { inputs = c.inputs; states = c.states; count = length c.lines }

-- its text by its parts
regroup : (a b c d e f g h i rest : List ℕ) →
    ((((((((a ++ b) ++ c) ++ d) ++ e) ++ f) ++ g) ++ h) ++ i) ++ rest ≡ a
    ++ (b ++ ((c ++ d) ++ (e ++ ((f ++ (g ++ h)) ++ (i ++ rest)))))
regroup a b c d e f g h i rest = simp append_assoc

abbrev start_lines : Certificate → List ℕ
start_lines c = flat_map (λ b. line_text (start_fields b)) c.starts

abbrev node_lines : Certificate → List ℕ
node_lines c = flat_map (λ l. line_text (node_fields l l.form)) c.lines

in_parts : (c : Certificate) (rest : List ℕ) →
    certificate_text c ++ rest ≡ line_text (certificate_headline_fields tt)
    ++ (line_text (certificate_sizes_fields (sizes_in c))
    ++ (steps_text c.steps ++ (start_lines c
    ++ (all_templates_text c.states (c.templates, c.error_templates) ++ (node_lines c ++ rest)))))
in_parts c rest =
    regroup (line_text (certificate_headline_fields tt)) (line_text (certificate_sizes_fields (sizes_in c)))
    (line_text (step_count_fields (length c.steps))) (step_lines c.steps) (start_lines c)
    (line_text (template_counts_fields (counts_of (c.templates, c.error_templates))))
    (templates_text c.states c.templates) (templates_text c.states c.error_templates) (node_lines c) rest

takes : (n : ℕ) (text : List ℕ) (x : Certificate × List ℕ) → certificate_at n text ≡ Ok x →
    (text ≡ certificate_text x.0 ++ x.1) × IsLawfulCertificate x.0
unfolding certificate_at
takes n text x e =
    on_ok _ _ x e (λ head hh e.
    on_ok {A = CertificateSizes × List ℕ} _ _ x e (λ sizes hs e.
    on_ok {A = List Rewriting × List ℕ} _ _ x e (λ steps ht e.
    on_ok {A = List StartBox × List ℕ} _ _ x e (λ starts hb e.
    on_ok {A = (List Template × List Template) × List ℕ} _ _ x e (λ templates hr e.
    on_ok {A = List NodeLine × List ℕ} _ _ x e (λ lines hl e.
    let i = sizes.0.inputs in let k = sizes.0.states in let s = n + 3 + length steps.0 in
    let r = length templates.0.0 in let f = length templates.0.1 in
    let th =
    (line_spelling certificate_headline_at certificate_headline_fields (λ _. Unit {0}) certificate_headline_law n).takes text head hh in
    let ts =
    (line_spelling certificate_sizes_at certificate_sizes_fields AreCertificateSizes certificate_sizes_law (n + 1)).takes head.1 sizes hs in
    let tt' = (steps_law (n + 2)).takes sizes.1 steps ht in
    let tb = (starts_law s k).takes steps.1 starts hb in
    let tr = (all_templates_law (s + k) k).takes starts.1 templates hr in
    let tl =
    (nodes_law (i + k) r f (s + k + 1 + r + f) sizes.0.count tr.1.0.few tr.1.1.few).takes templates.1 lines hl in
    let c : Certificate = record {
      inputs = i;
      states = k;
      steps = steps.0;
      starts = starts.0;
      templates = templates.0.0;
      error_templates = templates.0.1;
      lines = lines.0;
    } in
    let told : line_text (certificate_sizes_fields sizes.0) ≡ line_text (certificate_sizes_fields (sizes_in c)) =
    ap (λ m. line_text (certificate_sizes_fields (record { inputs = i; states = k; count = m }))) (sym tl.1.0) in
    let whole = th.0 ∙ ap (λ t. line_text (certificate_headline_fields tt) ++ t) (ts.0 ∙ ap (λ l. l ++ sizes.1) told
    ∙ ap (λ t. line_text (certificate_sizes_fields (sizes_in c)) ++ t)
    (tt'.0 ∙ ap (λ t. steps_text steps.0 ++ t) (tb.0
    ∙ ap (λ t. start_lines c ++ t) (tr.0 ∙ ap (λ t. all_templates_text k templates.0 ++ t) tl.0)))) in
    let made : (c, lines.1) ≡ x = cc in
    subst (λ (y : Certificate × List ℕ). (text ≡ certificate_text y.0 ++ y.1) × IsLawfulCertificate y.0) made (
      whole ∙ sym (in_parts c lines.1),
      record {
        some_input = ts.1.some_input;
        inputs = ts.1.inputs;
        states = ts.1.states;
        some_lines = omega (arith, ts.1.enough, tl.1.0);
        few_lines = omega (arith, ts.1.count, tl.1.0);
        few_steps = tt'.1.few;
        steps = tt'.1.each;
        starts_count = tb.1.0;
        starts = All-from_recursion IsWrittenBox starts.0 (All-from_each IsWrittenBox following 0 starts.0 tb.1.1);
        templates = tr.1.0;
        error_templates = tr.1.1;
        lines = written_lines (i + k) r f 0 lines.0 tl.1.1;
      },
    )))))))

-- each part is read behind the one before
one_by_one : (n : ℕ) (c : Certificate) (t t1 t2 t3 t4 t5 rest : List ℕ) →
    line_by certificate_headline_at n t ≡ Ok (tt, t1) → line_by certificate_sizes_at (n + 1) t1 ≡ Ok (sizes_in c, t2) →
    steps_at (n + 2) t2 ≡ Ok (c.steps, t3)
    → lines_by (λ _. start_at) (n + 3 + length c.steps) c.states t3 ≡ Ok (c.starts, t4) →
    all_templates_at (n + 3 + length c.steps + c.states) c.states t4 ≡ Ok ((c.templates, c.error_templates), t5)
    → lines_by (node_at (c.inputs + c.states) (length c.templates) (length c.error_templates))
    (n + 3 + length c.steps + c.states + 1 + length c.templates + length c.error_templates) (length c.lines) t5
    ≡ Ok (c.lines, rest)
    → certificate_at n t ≡ Ok (c, rest)
unfolding certificate_at
one_by_one n c t t1 t2 t3 t4 t5 rest a b d e f g = rw (a, b, d, e, f, g) refl

again : (n : ℕ) (c : Certificate) (rest : List ℕ) → IsLawfulCertificate c →
    certificate_at n (certificate_text c ++ rest) ≡ Ok (c, rest)
again n c rest h =
    let s = n + 3 + length c.steps in let k = c.states in let r = length c.templates in
    let f = length c.error_templates in
    let t5 = node_lines c ++ rest in let t4 = all_templates_text k (c.templates, c.error_templates) ++ t5 in
    let t3 = start_lines c ++ t4 in let t2 = steps_text c.steps ++ t3 in
    let t1 = line_text (certificate_sizes_fields (sizes_in c)) ++ t2 in
    ap (certificate_at n) (in_parts c rest)
    ∙ one_by_one n c (line_text (certificate_headline_fields tt) ++ t1) t1 t2 t3 t4 t5 rest
    ((line_spelling certificate_headline_at certificate_headline_fields (λ _. Unit {0}) certificate_headline_law n).again tt t1 tt)
    ((line_spelling certificate_sizes_at certificate_sizes_fields AreCertificateSizes certificate_sizes_law (n + 1)).again (sizes_in c) t2
    (record {
      some_input = h.some_input;
      inputs = h.inputs;
      states = h.states;
      enough = h.some_lines;
      count = h.few_lines;
    }))
    ((steps_law (n + 2)).again c.steps t3 (record { few = h.few_steps; each = h.steps }))
    ((starts_law s k).again c.starts t4 (
      h.starts_count,
      each-from_All IsWrittenBox following 0 c.starts (recursion_from_All IsWrittenBox c.starts h.starts),
    ))
    ((all_templates_law (s + k) k).again (c.templates, c.error_templates) t5 (h.templates, h.error_templates))
    ((nodes_law (c.inputs + k) r f (s + k + 1 + r + f)
    (length c.lines) h.templates.few h.error_templates.few).again c.lines rest (
      refl,
      each_node (c.inputs + k) r f 0 c.lines h.lines,
    ))

pub certificate_law : (n : ℕ) → IsOneSpelling (certificate_at n) certificate_text IsLawfulCertificate
certificate_law n = record { takes = takes n; again = again n }

-- ---- whole texts
pub text_takes : (text : List ℕ) (c : Certificate) → certificate_in text ≡ Ok c →
    (text ≡ certificate_text c) × IsLawfulCertificate c
unfolding certificate_in
text_takes text c e = all_takes (λ (c : Certificate). 1 + certificate_lines c) (certificate_law 1) text c e

pub text_again : (c : Certificate) → IsLawfulCertificate c → certificate_in (certificate_text c) ≡ Ok c
unfolding certificate_in
text_again c h = all_again (λ (c : Certificate). 1 + certificate_lines c) (certificate_law 1) c h
