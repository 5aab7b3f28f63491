-- What contracts see of the counts that a certificate's text names.
use Rattle.std.specs.Prelude.{ℕ, ◌+◌, ◌≤◌}
use Rattle.fx_model.specs.Limits.{input_limit, state_limit, node_limit, template_limit}
use Rattle.fx_cert_text.specs.LineReading as reading
use Rattle.fx_cert_text.specs.declared.read_line.CertificateSizes.{CertificateSizes}
use Rattle.fx_cert_text.specs.declared.read_line.TemplateCounts.{TemplateCounts}

-- the counts of inputs, states and nodes
abbrev pub certificate_sizes_of : CertificateSizes → reading.CertificateSizes
certificate_sizes_of s = record { inputs = s.inputs; states = s.states; count = s.count }

-- those of templates and error templates
abbrev pub template_counts_of : TemplateCounts → reading.TemplateCounts
template_counts_of s = record { templates = s.templates; error_templates = s.error_templates }

-- within their limits
pub record AreCertificateSizes (s : reading.CertificateSizes) : Type 0 where
  pub some_input : 1 ≤ s.inputs
  pub inputs : s.inputs ≤ input_limit
  pub states : s.states ≤ state_limit
  pub enough : s.inputs + s.states ≤ s.count
  pub count : s.count ≤ node_limit

-- within theirs, with at least one of either for each of k states
pub record AreTemplateCounts (k : ℕ) (s : reading.TemplateCounts) : Type 0 where
  pub enough : k ≤ s.templates
  pub templates : s.templates ≤ template_limit
  pub enough_errors : k ≤ s.error_templates
  pub error_templates : s.error_templates ≤ template_limit
