-- The conditions of the start and of templates, by value and by error.
use Rattle.std.specs.Prelude.{ℕ, ◌+◌, true, List, length, Option}
use Rattle.fx_model.specs.Tree.{at}
use Rattle.fx_model.specs.Function.{Function, free}
use Rattle.fx_model.specs.Machine.{Program}
use Rattle.fx_inequalities.specs.Accepted.{demand_claims, output_code, template_claims, start_claims, start_template_claims}
use Rattle.fx_inequalities.specs.Affine.{error_at, range_at, templates_of}
use Rattle.fx_inequalities.specs.Certificate.{Certificate, Template}
use Rattle.fx_inequalities.specs.Condition as condition
use Rattle.fx_inequalities.specs.Condition.{Condition, Fault, each_index, first_fault_of, first_some}
use Rattle.fx_template_conditions.specs.Boxes.{box_at}
use Rattle.fx_cert.specs.Sides.{side_at, side_rest}
use Rattle.fx_cert.specs.declared.side.Side.{Side}
use Rattle.fx_cert.specs.declared.side.Side.TheVariants.{Value, Error}

abbrev pub templates_by : Side → Certificate → List Template
templates_by Value c = c.templates
templates_by Error c = c.error_templates

-- one step keeps template i
abbrev pub template_condition : Side → Function → Program → Certificate → ℕ → Condition
template_condition Value fn p cert i = record {
  kind = condition.Row;
  part = condition.OfTemplate;
  index = i;
  test = true;
  claims =
      template_claims fn p cert (templates_of (length fn.states) cert.templates) cert.templates
      (side_at Value cert.lines) (side_rest Value) i;
}
template_condition Error fn p cert i = record {
  kind = condition.ErrorRow;
  part = condition.OfErrorTemplate;
  index = i;
  test = true;
  claims =
      template_claims fn p cert (templates_of (length fn.states) cert.error_templates) cert.error_templates
      (side_at Error cert.lines) (side_rest Error) i;
}

-- the start meets template i
abbrev pub start_template_condition : Side → Function → Certificate → ℕ → Condition
start_template_condition Value fn cert i = record {
  kind = condition.Start;
  part = condition.OfTemplate;
  index = i;
  test = true;
  claims =
      start_template_claims (length fn.states) (templates_of (length fn.states) cert.templates)
      (box_at Value cert.starts) i;
}
start_template_condition Error fn cert i = record {
  kind = condition.Start;
  part = condition.OfErrorTemplate;
  index = i;
  test = true;
  claims =
      start_template_claims (length fn.states) (templates_of (length fn.states) cert.error_templates)
      (box_at Error cert.starts) i;
}

-- state k starts in its boxes
abbrev pub start_condition : Function → Program → Certificate → ℕ → Condition
start_condition fn p cert k = record {
  kind = condition.Start;
  part = condition.OfStart;
  index = k;
  test = true;
  claims = start_claims fn p cert k;
}

-- the first fault of the start, else of templates, else of error templates
abbrev pub later_fault : Function → Program → Certificate → Option Fault
later_fault fn p cert =
    first_some (first_fault_of (each_index (length fn.states) (start_condition fn p cert)))
    (first_some (first_fault_of (each_index (length cert.templates) (start_template_condition Value fn cert)))
    (first_some (first_fault_of (each_index (length cert.error_templates) (start_template_condition Error fn cert)))
    (first_some (first_fault_of (each_index (length cert.templates) (template_condition Value fn p cert)))
    (first_fault_of (each_index (length cert.error_templates) (template_condition Error fn p cert))))))

-- what is demanded of output j
abbrev pub demand_condition : Function → Program → Certificate → ℕ → Condition
demand_condition fn p cert j = record {
  kind = condition.Demand;
  part = condition.OfOutput;
  index = j + 1;
  test = true;
  claims =
      demand_claims (at free fn.demands j) (range_at cert.lines (output_code p j))
      (error_at cert.lines (output_code p j));
}
