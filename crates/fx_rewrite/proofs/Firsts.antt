-- The first step that is there at a path.
use Rattle.std.proofs.Common.{◌≡◌, ℕ, suc, ◌+◌, ◌-◌, ◌≤◌, Bool, cond, List, [], ◌∷◌, Option, Some, None, refl, ap, ◌∙◌, arith}
use Rattle.std.specs.Prelude.{is_some}
use Rattle.std.specs.Option.{option_and_then}
use Rattle.fx_model.specs.Function.{Function}
use Rattle.fx_model.specs.Rules.{rule_count}
use Rattle.fx_model.specs.Paths.{found}
use Rattle.fx_rules.specs.Turned.{turned}
use Rattle.fx_rules.specs.Steps.{after, rewrite}
use Rattle.fx_rules.specs.SingleSteps.{numbers_from, steps_by}
use Rattle.fx_rewrite.specs.Ahead.{rules_from, there}
use Rattle.fx_rewrite.specs.FirstOf.{Begins}

rules_split : (r : ℕ) → r ≤ rule_count → rules_from r ≡ r ∷ rules_from (r + 1)
rules_split r h = let e : rule_count + 1 - r ≡ suc (rule_count + 1 - (r + 1)) = omega arith in ap (numbers_from r) e

pub rule_is_there : (f : Function) (place : ℕ) (path : List ℕ) (r : ℕ) (h : Function) → r ≤ rule_count →
    rewrite f (record { place = place; path = path; rule = r }) ≡ Some h → Begins f place path r (Some r)
rule_is_there f place path r h l e = (
  l,
  ap (λ ns. there f (steps_by place path ns)) (rules_split r l)
      ∙ ap (λ (b : Bool). cond b (record {
        place = place;
        path = path;
        rule = r;
      } ∷ there f (steps_by place path (rules_from (r + 1)))) (there f (steps_by place path (rules_from (r + 1)))))
      (ap is_some e),
)

pub rule_is_not : (f : Function) (place : ℕ) (path : List ℕ) (r : ℕ) (o : Option ℕ) → r ≤ rule_count →
    rewrite f (record { place = place; path = path; rule = r }) ≡ None → Begins f place path (r + 1) o →
    Begins f place path r o
rule_is_not f place path r o l e b =
    let same : there f (steps_by place path (rules_from r)) ≡ there f (steps_by place path (rules_from (r + 1))) =
    ap (λ ns. there f (steps_by place path ns)) (rules_split r l)
    ∙ ap (λ (b : Bool). cond b (record {
      place = place;
      path = path;
      rule = r;
    } ∷ there f (steps_by place path (rules_from (r + 1)))) (there f (steps_by place path (rules_from (r + 1)))))
    (ap is_some e) in
    moved o b same
  where
    moved : (o : Option ℕ) → Begins f place path (r + 1) o →
        there f (steps_by place path (rules_from r)) ≡ there f (steps_by place path (rules_from (r + 1))) →
        Begins f place path r o
    moved None b same = same ∙ b
    moved (Some q) b same = (b.0, same ∙ b.1)

-- where no tree is found, no step is there
pub nothing_found : (f : Function) (place : ℕ) (path ns : List ℕ) → found f place path ≡ None →
    there f (steps_by place path ns) ≡ []
nothing_found f place path [] e = refl
nothing_found f place path (n ∷ ns) e =
    let none : rewrite f (record { place = place; path = path; rule = n }) ≡ None =
    ap (option_and_then (λ old. after f (record { place = place; path = path; rule = n }) (turned n old))) e in
    ap (λ (b : Bool). cond b (record { place = place; path = path; rule = n } ∷ there f (steps_by place path ns))
    (there f (steps_by place path ns))) (ap is_some none) ∙ nothing_found f place path ns e
