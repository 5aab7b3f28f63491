-- Worked refusals of rewriting steps, each told apart from the others: `apply` answers this fault, or that memory is
-- wanting.
use Rattle.std.proofs.Common.{◌≡◌, ◌⊎◌, inl, inr, ℕ, zero, suc, ◌^◌, pos, List, [], ◌∷◌, map, length, replicate, slice_get, codes, Some, None, option_and_then, refl, sym, ap, subst, ◌∙◌}
use Rattle.fx_rational.specs.Gcd.{gcd}
use Rattle.fx_rational.specs.Rational.{over, whole, plus, minus, negative, times, divided, quotient, lowest}
use Rattle.fx_model.specs.Tree.{Tree, Literal, Input, Negation, Sum, Difference, Product, Quotient}
use Rattle.fx_model.specs.Function.{Function}
use Rattle.fx_model.specs.Paths.{found}
use Rattle.fx_model.proofs.Samples.{exact_input, half}
use Rattle.fx_inequalities.specs.Rewriting.{Rewriting}
use Rattle.fx_model.specs.Rules.{Rule, RewritesTree, rules as table}
use Rattle.fx_rules.specs.Turned.{turned_by, turned}
use Rattle.fx_rules.specs.Turned as rules
use Rattle.fx_rules.specs.Steps.{rewrite, after}
use Rattle.fx_rules.proofs.Turns.{turned_judges}
use Rattle.fx_rewrite.specs.Refusals.{IsRefused}
use Rattle.fx_rewrite.specs.declared.fault.StepFault.{StepFault}
use Rattle.fx_rewrite.specs.declared.fault.StepFault.TheVariants.{NoPlace, NoMatch, TooLong, Memory}

-- no step, and of the faults that may be answered there each is this one or want of memory
abbrev IsRefusedBy : StepFault → Function → Rewriting → Type 0
IsRefusedBy fault f s =
    (rewrite f s ≡ None) × ((other : StepFault) → IsRefused other f s → (other ≡ fault) ⊎ (other ≡ Memory))

-- ---- what tells one from the others

-- no tree is there
nowhere : (f : Function) (s : Rewriting) → found f s.place s.path ≡ None → IsRefusedBy NoPlace f s
nowhere f s out = (ap (option_and_then (λ old. after f s (turned s.rule old))) out, told)
  where
    told : (other : StepFault) → IsRefused other f s → (other ≡ NoPlace) ⊎ (other ≡ Memory)
    told NoPlace r = inl refl
    told NoMatch r = absurd (let e : None ≡ Some r.0 = sym out ∙ r.1 in cc)
    told TooLong r = absurd (let e : None ≡ Some r.0 = sym out ∙ r.2 in cc)
    told Memory r = inr refl

same_of_some : (a b : Tree) → Some a ≡ Some b → a ≡ b
same_of_some a b e = cc

-- a tree is there that the rule's left side isn't
unlike : (f : Function) (s : Rewriting) (old : Tree) → found f s.place s.path ≡ Some old →
    turned s.rule old ≡ rules.NoMatch → IsRefusedBy NoMatch f s
unlike f s old there is = (ap (option_and_then (λ e. after f s (turned s.rule e))) there ∙ ap (after f s) is, told)
  where
    told : (other : StepFault) → IsRefused other f s → (other ≡ NoMatch) ⊎ (other ≡ Memory)
    told NoPlace r = absurd (let e : None ≡ Some old = sym r ∙ there in cc)
    told NoMatch r = inl refl
    told TooLong r =
        let same : old ≡ r.0 = same_of_some old r.0 (sym there ∙ r.2) in
        absurd (turned_judges s.rule old rules.NoMatch is r.1 (subst (λ e. RewritesTree s.rule e r.1) (sym same) r.3))
    told Memory r = inr refl

-- the rule's left side is there, and a limit isn't kept
unkept : (f : Function) (s : Rewriting) (old new : Tree) → found f s.place s.path ≡ Some old →
    RewritesTree s.rule old new → rewrite f s ≡ None → IsRefusedBy TooLong f s
unkept f s old new there rewrites out = (out, told)
  where
    told : (other : StepFault) → IsRefused other f s → (other ≡ TooLong) ⊎ (other ≡ Memory)
    told NoPlace r = absurd (let e : None ≡ Some old = sym r ∙ there in cc)
    told NoMatch r =
        let same : old ≡ r.0 = same_of_some old r.0 (sym there ∙ r.1) in
        absurd (r.2 new (subst (λ e. RewritesTree s.rule e new) same rewrites))
    told TooLong r = inl refl
    told Memory r = inr refl

-- that of literals
overlong : (f : Function) (s : Rewriting) (old : Tree) → found f s.place s.path ≡ Some old →
    turned s.rule old ≡ rules.TooLong → IsRefusedBy TooLong f s
overlong f s old there is =
    let j = turned_judges s.rule old rules.TooLong is in
    unkept f s old j.0 there j.1 (ap (option_and_then (λ e. after f s (turned s.rule e))) there ∙ ap (after f s) is)

-- that of nodes or of heights
overfull : (f : Function) (s : Rewriting) (old new : Tree) → found f s.place s.path ≡ Some old →
    turned s.rule old ≡ rules.Becomes new → rewrite f s ≡ None → IsRefusedBy TooLong f s
overfull f s old new there is out =
    let j = turned_judges s.rule old (rules.Becomes new) is in unkept f s old new there j.0 out

-- ---- how the examples are written
abbrev x : Tree
x = Input 0

abbrev y : Tree
y = Input 1

abbrev z : Tree
z = Input 2

abbrev great : Tree
great = Literal (whole (pos (2 ^ 61)))

-- a function of three inputs with this result
abbrev of_three : Tree → Function
of_three result = record half {
  inputs = exact_input (codes "x") (whole (pos 0)) (whole (pos 1))
      ∷ exact_input (codes "y") (whole (pos 0)) (whole (pos 1))
      ∷ exact_input (codes "z") (whole (pos 0)) (whole (pos 1)) ∷ [];
  results = result ∷ [];
}

abbrev step : ℕ → List ℕ → ℕ → Rewriting
step place path rule = record { place = place; path = path; rule = rule }

-- ---- x * y - x * y + x * z, of which the first operand of the sum is a difference
abbrev worked : Function
worked = of_three (Sum (Difference (Product x y) (Product x y)) (Product x z))

a_step : rewrite worked (step 0 (0 ∷ []) 13) ≡ Some (of_three (Sum (Product x (Difference y y)) (Product x z)))
a_step = refl

a_path_past_the_leaves : IsRefusedBy NoPlace worked (step 0 (0 ∷ 0 ∷ 0 ∷ 0 ∷ 0 ∷ 0 ∷ []) 13)
a_path_past_the_leaves = nowhere worked (step 0 (0 ∷ 0 ∷ 0 ∷ 0 ∷ 0 ∷ 0 ∷ []) 13) refl

a_place_past_the_trees : IsRefusedBy NoPlace worked (step 1 [] 13)
a_place_past_the_trees = nowhere worked (step 1 [] 13) refl

a_third_operand : IsRefusedBy NoPlace worked (step 0 (2 ∷ []) 1)
a_third_operand = nowhere worked (step 0 (2 ∷ []) 1) refl

a_product_for_a_difference : IsRefusedBy NoMatch worked (step 0 (0 ∷ 0 ∷ []) 13)
a_product_for_a_difference = unlike worked (step 0 (0 ∷ 0 ∷ []) 13) (Product x y) refl refl

a_rule_past_the_table : IsRefusedBy NoMatch worked (step 0 [] 31)
a_rule_past_the_table =
    unlike worked (step 0 [] 31) (Sum (Difference (Product x y) (Product x y)) (Product x z)) refl refl

-- ---- x / x, of which no rule makes anything, so that none makes 1
-- where none of these rules makes anything of a tree
none_turns : (e : Tree) (rs : List Rule) (n : ℕ) →
    map (λ r. turned_by (Some r) e) rs ≡ replicate (length rs) rules.NoMatch →
    turned_by (slice_get rs n) e ≡ rules.NoMatch
none_turns e [] n all = refl
none_turns e (r ∷ rs) zero all = cc
none_turns e (r ∷ rs) (suc n) all =
    let rest : map (λ r. turned_by (Some r) e) rs ≡ replicate (length rs) rules.NoMatch = cc in none_turns e rs n rest

unturned : (rule : ℕ) → turned rule (Quotient x x) ≡ rules.NoMatch
unturned zero = refl
unturned (suc n) = none_turns (Quotient x x) table n refl

a_tree_by_itself : (rule : ℕ) → IsRefusedBy NoMatch (of_three (Quotient x x)) (step 0 [] rule)
a_tree_by_itself rule = unlike (of_three (Quotient x x)) (step 0 [] rule) (Quotient x x) refl (unturned rule)

-- ---- limits
a_literal_over_its_limit : IsRefusedBy TooLong (of_three (Sum x (Sum great great))) (step 0 (1 ∷ []) 26)
unfolding quotient divided over plus minus negative times lowest gcd
a_literal_over_its_limit =
    overlong (of_three (Sum x (Sum great great))) (step 0 (1 ∷ []) 26) (Sum great great) refl refl

-- a sum is not what the rule of products folds, however great its literals are
a_literal_over_its_limit_by_another_rule : IsRefusedBy NoMatch (of_three (Sum x (Sum great great))) (step 0 (1 ∷ []) 28)
a_literal_over_its_limit_by_another_rule =
    unlike (of_three (Sum x (Sum great great))) (step 0 (1 ∷ []) 28) (Sum great great) refl refl

-- x below so many signs
abbrev signs : ℕ → Tree
signs zero = x
signs (suc n) = Negation (signs n)

-- from 200 to 201
one_too_high : IsRefusedBy TooLong (of_three (Difference x (signs 198))) (step 0 [] 15)
one_too_high =
    overfull (of_three (Difference x (signs 198))) (step 0 [] 15) (Difference x (signs 198))
    (Sum x (Negation (signs 198))) refl refl refl
