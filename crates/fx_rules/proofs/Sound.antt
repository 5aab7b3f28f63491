-- Whatever rule is applied, the value is kept, and what a tree refers to.
use Rattle.std.proofs.Common.{◌≡◌, ℕ, zero, suc, List, [], ◌∷◌, Some}
use Rattle.std.specs.Prelude.{slice_get}
use Rattle.fx_model.specs.Tree.{Tree}
use Rattle.fx_model.specs.Rules.{Rule, rules, rule, RewritesTree}
use Rattle.fx_rules.proofs.Rows.{SameTrees, KeepsRefers, IsRule, AreRules}
use Rattle.fx_rules.proofs.EachRule.{all_rules}

rule_at : (rs : List Rule) (n : ℕ) (r : Rule) → AreRules rs → slice_get rs n ≡ Some r → IsRule r
rule_at [] n r all e = absurd cc
rule_at (q ∷ rs) zero r all e = let same : q ≡ r = cc in rw (← same) all.0
rule_at (q ∷ rs) (suc n) r all e = rule_at rs n r all.1 e

-- what stands in the table is a rule
pub is_rule : (n : ℕ) (r : Rule) → rule n ≡ Some r → IsRule r
is_rule zero r e = absurd cc
is_rule (suc n) r e = rule_at rules n r all_rules e

pub rewrites_sound : (n : ℕ) (old new : Tree) → RewritesTree n old new → SameTrees old new × KeepsRefers old new
rewrites_sound zero old new r = let e = r.is in absurd cc
rewrites_sound (suc n) old new r =
    rw (r.left, r.right) ((rule_at rules n r.by all_rules r.is).sound r.letters r.folded)
