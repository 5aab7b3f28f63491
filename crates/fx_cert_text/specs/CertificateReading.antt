-- Reading a certificate from the front of a text, whose first line has a number. The first fault decides.
use Rattle.std.specs.Prelude.{ℕ, ◌+◌, ◌-◌, List, length, Result, Ok}
use Rattle.fx_inequalities.specs.Rewriting.{Rewriting}
use Rattle.fx_inequalities.specs.Certificate.{Certificate, Template}
use Rattle.fx_text.specs.declared.fault.TextFault.{TextFault}
use Rattle.fx_model.specs.Steps.{◌>>=◌}
use Rattle.fx_text.specs.Lines.{line_by, text_ended_at}
use Rattle.fx_text.specs.Many.{lines_by, with_front}
use Rattle.fx_cert_text.specs.LineReading.{certificate_headline_at, certificate_sizes_at, step_count_at, step_at, start_at, template_counts_at, box_template_at, template_at, node_at}

-- so many templates over k states from line n on: a box for each state, and then the further templates
unfoldable pub templates_at : ℕ → ℕ → ℕ → List ℕ → Result (List Template × List ℕ) TextFault
templates_at n k count text = do
  boxes ← lines_by (box_template_at k count) n k text
  with_front boxes.0 (lines_by (λ _. template_at k count) (n + k) (count - k) boxes.1)

-- the count of steps, and the steps
unfoldable pub steps_at : ℕ → List ℕ → Result (List Rewriting × List ℕ) TextFault
steps_at n text = do
  count ← line_by step_count_at n text
  lines_by (λ _. step_at) (n + 1) count.0 count.1

-- the counts of templates and error templates, and both
unfoldable pub all_templates_at : ℕ → ℕ → List ℕ → Result ((List Template × List Template) × List ℕ) TextFault
all_templates_at n k text = do
  counts ← line_by (template_counts_at k) n text
  templates ← templates_at (n + 1) k counts.0.templates counts.1
  error_templates ← templates_at (n + 1 + counts.0.templates) k counts.0.error_templates templates.1
  Ok ((templates.0, error_templates.0), error_templates.1)

-- a certificate from line n on, and the text behind it
unfoldable pub certificate_at : ℕ → List ℕ → Result (Certificate × List ℕ) TextFault
certificate_at n text = do
  head ← line_by certificate_headline_at n text
  sizes ← line_by certificate_sizes_at (n + 1) head.1
  let i = sizes.0.inputs
  let k = sizes.0.states
  steps ← steps_at (n + 2) sizes.1
  let s = n + 3 + length steps.0
  starts ← lines_by (λ _. start_at) s k steps.1
  templates ← all_templates_at (s + k) k starts.1
  let r = length templates.0.0
  let e = length templates.0.1
  lines ← lines_by (node_at (i + k) r e) (s + k + 1 + r + e) sizes.0.count templates.1
  Ok (
    record {
      inputs = i;
      states = k;
      steps = steps.0;
      starts = starts.0;
      templates = templates.0.0;
      error_templates = templates.0.1;
      lines = lines.0;
    },
    lines.1,
  )

-- how many lines a certificate's text has
abbrev pub certificate_lines : Certificate → ℕ
certificate_lines c =
    4 + length c.steps + length c.starts + length c.templates + length c.error_templates + length c.lines

-- all of a text
unfoldable pub certificate_in : List ℕ → Result Certificate TextFault
certificate_in text = do
  c ← certificate_at 1 text
  _ ← text_ended_at (1 + certificate_lines c.0) c.1
  Ok c.0
