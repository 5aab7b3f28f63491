-- What was found of letters, as the table has it.
use Rattle.std.specs.Prelude.{◌≡◌, Bool, true, false, Option, Some, None}
use Rattle.std.specs.Option.{option_map}
use Rattle.fx_expr.specs.TreeOf.{tree}
use Rattle.fx_rules.specs.Turned as rules
use Rattle.fx_rewrite.specs.declared.found.Found.{Found}

-- trees for expressions
abbrev pub found_of : Found → rules.Found
found_of z = record {
  a = option_map (λ e. tree e.now) z.a;
  b = option_map (λ e. tree e.now) z.b;
  c = option_map (λ e. tree e.now) z.c;
  l = z.l;
  k = z.k;
}

-- true: this was found; false: nothing was
abbrev pub Finds : Bool → Option rules.Found → rules.Found → Type 0
Finds true o n = o ≡ Some n
Finds false o n = o ≡ None
