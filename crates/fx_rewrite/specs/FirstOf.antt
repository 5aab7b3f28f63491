-- The first of the steps that are left at a path.
use Rattle.std.specs.Prelude.{◌≡◌, ℕ, ◌+◌, ◌≤◌, List, [], ◌∷◌, Option, Some, None}
use Rattle.fx_model.specs.Function.{Function}
use Rattle.fx_model.specs.Rules.{rule_count}
use Rattle.fx_rules.specs.SingleSteps.{steps_by}
use Rattle.fx_rewrite.specs.Ahead.{rules_from, there}

-- none is there, or one by this rule, and then those by later rules
abbrev pub Begins : Function → ℕ → List ℕ → ℕ → Option ℕ → Type 0
Begins f place path from None = there f (steps_by place path (rules_from from)) ≡ []
Begins f place path from (Some r) =
    (r ≤ rule_count) × (there f (steps_by place path (rules_from from)) ≡ record {
      place = place;
      path = path;
      rule = r;
    } ∷ there f (steps_by place path (rules_from (r + 1))))
