-- Where a template of the next states lies, and what one step has to meet to keep it.
use Rattle.std.specs.Prelude.{ℕ, ◌+◌, List}
use Rattle.fx_model.specs.Tree.{at}
use Rattle.fx_inequalities.specs.Formula.{Product, Span, zero_span}
use Rattle.fx_inequalities.specs.Certificate.{NodeLine, Template, no_template}
use Rattle.fx_inequalities.specs.Claim.{Claim, inside}
use Rattle.fx_inequalities.specs.Affine.{affine_at, bound_by_templates, templates_of, sum_of, weighted_sum}
use Rattle.fx_cert.specs.Sides.{side_at, side_rest}
use Rattle.fx_cert.specs.declared.side.Side.{Side}

-- where template i lies after one step, over so many inputs and states, and from the node of the first next state on
abbrev pub next_template : ℕ → ℕ → ℕ → List NodeLine → List Template → Side → ℕ → Span
next_template m k next ls written side i =
    let rs = templates_of k written in let form = λ (s : ℕ). affine_at (m + k) ls (next + s) in
    bound_by_templates m k (λ j. sum_of k (λ s. Product (rs.coef i s) ((form s).coef j)))
    (weighted_sum zero_span k (rs.coef i) (λ s. side_rest side (form s))) (side_at side ls) rs
    (at no_template written i).shares

-- it lies in its bound
abbrev pub kept_template : ℕ → ℕ → ℕ → List NodeLine → List Template → Side → ℕ → List Claim
kept_template m k next ls written side i =
    inside (next_template m k next ls written side i) ((templates_of k written).bound i)
