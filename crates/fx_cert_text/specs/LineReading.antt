-- Reading the lines of a certificate: the fields from left to right.
use Rattle.std.specs.Prelude.{ℕ, pos, ◌+◌, ◌&&◌, Some, None, Result, Ok, Err, if◌then◌else◌, nat_le, unsigned_abs, codes}
use Rattle.std.specs.Str.{bytes_eq}
use Rattle.fx_model.specs.Limits.{input_limit, state_limit, node_limit, step_limit, place_end, template_limit}
use Rattle.fx_model.specs.Rules.{rule_count}
use Rattle.fx_inequalities.specs.Rewriting.{Rewriting}
use Rattle.fx_inequalities.specs.Certificate.{Form, NodeLine, Template, StartBox}
use Rattle.fx_inequalities.specs.LawfulCertificate.{unit_vector}
use Rattle.fx_text.specs.declared.fault.TextKind.{TextKind}
use Rattle.fx_text.specs.declared.fault.TextKind.TheVariants.{BadLine}
use Rattle.fx_text.specs.Cutting.{Line}
use Rattle.fx_model.specs.Steps.{◌>>=◌}
use Rattle.fx_text.specs.Reading.{field_at, keyword_at, number_at, place_at, count_at, dyadic_at, interval_at, ended_at}
use Rattle.fx_text.specs.Many.{dyadics_at}
use Rattle.fx_cert_text.specs.FieldReading.{shares_at, by_at, path_at}

-- the counts that the second line names: inputs, states and nodes
pub record CertificateSizes : Type 0 where
  pub inputs : ℕ
  pub states : ℕ
  pub count : ℕ

-- those of templates and of error templates
pub record TemplateCounts : Type 0 where
  pub templates : ℕ
  pub error_templates : ℕ

-- fixd certificate 1
unfoldable pub certificate_headline_at : Line → Result (Unit {0}) TextKind
certificate_headline_at line = do
  fixd ← keyword_at (codes "fixd") line
  certificate ← keyword_at (codes "certificate") fixd
  version ← keyword_at (codes "1") certificate
  _ ← ended_at version
  Ok tt

-- sizes I K n
unfoldable pub certificate_sizes_at : Line → Result CertificateSizes TextKind
certificate_sizes_at line = do
  rest ← keyword_at (codes "sizes") line
  i ← count_at 1 input_limit rest
  k ← count_at 0 state_limit i.1
  n ← count_at (i.0 + k.0) node_limit k.1
  _ ← ended_at n.1
  Ok (record { inputs = i.0; states = k.0; count = n.0 })

-- steps S
unfoldable pub step_count_at : Line → Result ℕ TextKind
step_count_at line = do
  rest ← keyword_at (codes "steps") line
  count ← count_at 0 step_limit rest
  _ ← ended_at count.1
  Ok count.0

-- step PLACE PATH RULE
unfoldable pub step_at : Line → Result Rewriting TextKind
step_at line = do
  rest ← keyword_at (codes "step") line
  place ← place_at place_end rest
  path ← path_at place.1
  rule ← number_at (pos 1) (pos rule_count) path.1
  _ ← ended_at rule.1
  Ok (record { place = place.0; path = path.0; rule = unsigned_abs rule.0 })

-- start LO HI ELO EHI
unfoldable pub start_at : Line → Result StartBox TextKind
start_at line = do
  rest ← keyword_at (codes "start") line
  range ← interval_at rest
  error ← interval_at range.1
  _ ← ended_at error.1
  Ok (record { range = range.0; error = error.0 })

-- rows R E, at least one of either for each of k states
unfoldable pub template_counts_at : ℕ → Line → Result TemplateCounts TextKind
template_counts_at k line = do
  rest ← keyword_at (codes "rows") line
  r ← count_at k template_limit rest
  e ← count_at k template_limit r.1
  _ ← ended_at e.1
  Ok (record { templates = r.0; error_templates = e.0 })

-- box LO HI SHARES, the unit template i of k, among templates up to the end
unfoldable pub box_template_at : ℕ → ℕ → ℕ → Line → Result Template TextKind
box_template_at k end i line = do
  rest ← keyword_at (codes "box") line
  bound ← interval_at rest
  shares ← shares_at end bound.1
  _ ← ended_at shares.1
  Ok (record { coefs = unit_vector k i; bound = bound.0; shares = shares.0 })

-- row C1 to CK LO HI SHARES
unfoldable pub template_at : ℕ → ℕ → Line → Result Template TextKind
template_at k end line = do
  rest ← keyword_at (codes "row") line
  coefs ← dyadics_at k rest
  bound ← interval_at coefs.1
  shares ← shares_at end bound.1
  _ ← ended_at shares.1
  Ok (record { coefs = coefs.0; bound = bound.0; shares = shares.0 })

-- behind plain: LO HI ELO EHI
unfoldable pub plain_at : Line → Result NodeLine TextKind
plain_at line = do
  range ← interval_at line
  error ← interval_at range.1
  _ ← ended_at error.1
  Ok (record { range = range.0; error = error.0; form = None })

-- MA MB C1 to CV PLO PHI QLO QHI BY BY, over v variables, among so many templates and error templates
unfoldable pub form_at : ℕ → ℕ → ℕ → Line → Result Form TextKind
form_at v templates error_templates line = do
  centre_a ← dyadic_at line
  centre_b ← dyadic_at centre_a.1
  coefs ← dyadics_at v centre_b.1
  rest ← interval_at coefs.1
  error_rest ← interval_at rest.1
  range_by ← by_at templates error_rest.1
  error_by ← by_at error_templates range_by.1
  _ ← ended_at error_by.1
  Ok (record {
    centre_a = centre_a.0;
    centre_b = centre_b.0;
    coefs = coefs.0;
    rest = rest.0;
    error_rest = error_rest.0;
    range_by = range_by.0;
    error_by = error_by.0;
  })

-- behind form: LO HI ELO EHI, and the form
unfoldable pub formed_at : ℕ → ℕ → ℕ → Line → Result NodeLine TextKind
formed_at v templates error_templates line = do
  range ← interval_at line
  error ← interval_at range.1
  form ← form_at v templates error_templates error.1
  Ok (record { range = range.0; error = error.0; form = Some form })

-- the line of node n, which may have a form behind the v variables
unfoldable pub node_at : ℕ → ℕ → ℕ → ℕ → Line → Result NodeLine TextKind
node_at v templates error_templates n line = do
  kind ← field_at line
  if bytes_eq kind.0 (codes "plain") then plain_at kind.1
      else if nat_le v n && bytes_eq kind.0 (codes "form") then formed_at v templates error_templates kind.1
      else Err BadLine
