-- A lawful certificate is printed as it is.
use Rattle.std.proofs.Common.{◌≡◌, ◌⊎◌, inl, inr, ℕ, zero, suc, ◌<◌, ◌≤◌, List, [], ◌∷◌, ◌++◌, length, map, take, drop, refl, sym, ap, ◌∙◌, arith}
use Rattle.std.specs.Prelude.{min}
use Rattle.std.specs.List.{AllByRecursion, flat_map}
use Rattle.std.proofs.Math.ListN.{drop_of_length-le}
use Rattle.std.proofs.lemmas.List.{take_all}
use Rattle.std.proofs.lemmas.List.Elements.{recursion_from_All}
use Rattle.std.proofs.lemmas.List.Folds.{flat_map-map}
use Rattle.fx_model.specs.LineText.{line_text}
use Rattle.fx_inequalities.specs.Rewriting.{Rewriting}
use Rattle.fx_inequalities.specs.Certificate.{Certificate}
use Rattle.fx_inequalities.specs.CertificateText.{box_fields, template_fields, templates_text}
use Rattle.fx_inequalities.specs.LawfulCertificate.{IsLawfulCertificate, IsWrittenStep}
use Rattle.fx_cert.specs.declared.certificate.Template.{Template}
use Rattle.fx_cert.specs.CertificateView.{template_view, templates_in}
use Rattle.fx_cert_text.specs.Printing.{as_printed, printed_step}

turns_kept : (path : List ℕ) → AllByRecursion (λ d. d < 2) path → map (λ d. min d 1) path ≡ path
turns_kept [] h = refl
turns_kept (d ∷ ds) (h, hs) =
    let one : min d 1 ≡ d = omega (arith, h) in
    ap (λ x. x ∷ map (λ d. min d 1) ds) one ∙ ap (λ xs. d ∷ xs) (turns_kept ds hs)

steps_kept : (steps : List Rewriting) → AllByRecursion IsWrittenStep steps → map printed_step steps ≡ steps
steps_kept [] h = refl
steps_kept (s ∷ steps) (h, hs) =
    let path = turns_kept s.path (recursion_from_All (λ d. d < 2) s.path h.path) in
    ap (λ p. record { place = s.place; path = p; rule = s.rule } ∷ map printed_step steps) path
    ∙ ap (λ rest. s ∷ rest) (steps_kept steps hs)

pub printed_lawful : (c : Certificate) → IsLawfulCertificate c → as_printed c ≡ c
printed_lawful c h =
    ap (λ steps. record {
      inputs = c.inputs;
      states = c.states;
      steps = steps;
      starts = c.starts;
      templates = c.templates;
      error_templates = c.error_templates;
      lines = c.lines;
    }) (steps_kept c.steps (recursion_from_All IsWrittenStep c.steps h.steps))

-- ---- templates
map_take : (k : ℕ) (templates : List Template) → map template_view (take k templates) ≡ take k (templates_in templates)
map_take zero templates = refl
map_take (suc k) [] = refl
map_take (suc k) (r ∷ templates) = ap (λ rs. template_view r ∷ rs) (map_take k templates)

map_drop : (k : ℕ) (templates : List Template) → map template_view (drop k templates) ≡ drop k (templates_in templates)
map_drop zero templates = refl
map_drop (suc k) [] = refl
map_drop (suc k) (r ∷ templates) = map_drop k templates

-- no more of them are unit templates than there are
up_to : (k : ℕ) (templates : List Template) →
    (take (min k (length templates)) templates ≡ take k templates) ×
    (drop (min k (length templates)) templates ≡ drop k templates)
up_to k templates = by (le_or k (length templates))
  where
    by : (k ≤ length templates) ⊎ (length templates ≤ k) →
        (take (min k (length templates)) templates ≡ take k templates) ×
        (drop (min k (length templates)) templates ≡ drop k templates)
    by (inl le) =
        let e : min k (length templates) ≡ k = omega (arith, le) in
        (ap (λ n. take n templates) e, ap (λ n. drop n templates) e)
    by (inr le) =
        let e : min k (length templates) ≡ length templates = omega (arith, le) in (
          ap (λ n. take n templates) e ∙ take_all (length templates) templates (omega arith)
              ∙ sym (take_all k templates le),
          ap (λ n. drop n templates) e ∙ drop_of_length-le templates (omega arith)
              ∙ sym (drop_of_length-le templates le),
        )

    le_or : (a b : ℕ) → (a ≤ b) ⊎ (b ≤ a)
    le_or a b = grind arith

pub templates_text-is : (k : ℕ) (templates : List Template) →
    flat_map (λ r. line_text (box_fields (template_view r))) (take (min k (length templates)) templates)
    ++ flat_map (λ r. line_text (template_fields (template_view r))) (drop (min k (length templates)) templates)
    ≡ templates_text k (templates_in templates)
templates_text-is k templates =
    let u = up_to k templates in
    rw (u.0, u.1) (rw (
      sym (flat_map-map (λ r. line_text (box_fields r)) template_view (take k templates)),
      sym (flat_map-map (λ r. line_text (template_fields r)) template_view (drop k templates)),
      map_take k templates,
      map_drop k templates,
    ) refl)
