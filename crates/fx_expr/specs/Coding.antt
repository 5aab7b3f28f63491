-- How a function is stored, by which a proof tells two functions apart.
use Rattle.std.specs.Prelude.{◌≡◌, ◌⊎◌, refl, ℕ, zero, suc, ℤ, pos, List, [], ◌∷◌, Option}
use Rattle.std.proofs.Common.{◌∙◌, inl, inr}
use Rattle.std.specs.Coded.{Coded, code_by, coded×, coded⊎, coded_ℕ, coded_ℤ, coded_list, coded_option}
use Rattle.fx_rational.specs.Rational.{Rational, whole}
use Rattle.fx_model.specs.Tree.{Tree, Literal, Input, State, Temp, Negation, Sum, Difference, Product, Quotient}
use Rattle.fx_model.specs.Function as source
use Rattle.fx_model.specs.Function.{Function}

abbrev pub Token : Type 0
Token = Rational ⊎ (ℕ × ℕ)

-- a tree in postfix form before the tokens rest
abbrev pub postfix : Tree → List Token → List Token
postfix (Literal c) rest = inl c ∷ rest
postfix (Input k) rest = inr (0, k) ∷ rest
postfix (State k) rest = inr (1, k) ∷ rest
postfix (Temp k) rest = inr (2, k) ∷ rest
postfix (Negation a) rest = postfix a (inr (3, 0) ∷ rest)
postfix (Sum a b) rest = postfix a (postfix b (inr (4, 0) ∷ rest))
postfix (Difference a b) rest = postfix a (postfix b (inr (5, 0) ∷ rest))
postfix (Product a b) rest = postfix a (postfix b (inr (6, 0) ∷ rest))
postfix (Quotient a b) rest = postfix a (postfix b (inr (7, 0) ∷ rest))

abbrev pub joined : (Tree → Tree → Tree) → List Tree → List Tree
joined op (b ∷ a ∷ stack) = op a b ∷ stack
joined op stack = stack

abbrev pub negated_tree : List Tree → List Tree
negated_tree (a ∷ stack) = Negation a ∷ stack
negated_tree [] = []

abbrev pub acted : ℕ → ℕ → List Tree → List Tree
acted zero k stack = Input k ∷ stack
acted (suc zero) k stack = State k ∷ stack
acted (suc (suc zero)) k stack = Temp k ∷ stack
acted (suc (suc (suc zero))) k stack = negated_tree stack
acted (suc (suc (suc (suc zero)))) k stack = joined Sum stack
acted (suc (suc (suc (suc (suc zero))))) k stack = joined Difference stack
acted (suc (suc (suc (suc (suc (suc zero)))))) k stack = joined Product stack
acted n k stack = joined Quotient stack

abbrev pub pushed : Token → List Tree → List Tree
pushed (inl c) stack = Literal c ∷ stack
pushed (inr p) stack = acted p.0 p.1 stack

abbrev pub built : List Token → List Tree → Tree
built [] [] = Literal (whole (pos 0))
built [] (t ∷ stack) = t
built (token ∷ rest) stack = built rest (pushed token stack)

pub built-postfix : (t : Tree) (rest : List Token) (stack : List Tree) →
    built (postfix t rest) stack ≡ built rest (t ∷ stack)
built-postfix (Literal c) rest stack = refl
built-postfix (Input k) rest stack = refl
built-postfix (State k) rest stack = refl
built-postfix (Temp k) rest stack = refl
built-postfix (Negation a) rest stack = built-postfix a (inr (3, 0) ∷ rest) stack
built-postfix (Sum a b) rest stack =
    built-postfix a (postfix b (inr (4, 0) ∷ rest)) stack ∙ built-postfix b (inr (4, 0) ∷ rest) (a ∷ stack)
built-postfix (Difference a b) rest stack =
    built-postfix a (postfix b (inr (5, 0) ∷ rest)) stack ∙ built-postfix b (inr (5, 0) ∷ rest) (a ∷ stack)
built-postfix (Product a b) rest stack =
    built-postfix a (postfix b (inr (6, 0) ∷ rest)) stack ∙ built-postfix b (inr (6, 0) ∷ rest) (a ∷ stack)
built-postfix (Quotient a b) rest stack =
    built-postfix a (postfix b (inr (7, 0) ∷ rest)) stack ∙ built-postfix b (inr (7, 0) ∷ rest) (a ∷ stack)

abbrev pub rational_code : Coded Rational
rational_code =
    code_by (ℤ × ℕ) (coded× coded_ℤ coded_ℕ) (λ q. (q.top, q.less)) (λ p. record { top = p.0; less = p.1 }) (λ _. refl)

abbrev pub tree_code : Coded Tree
tree_code =
    code_by (List Token) (coded_list (coded⊎ rational_code (coded× coded_ℕ coded_ℕ))) (λ t. postfix t [])
    (λ ts. built ts []) (λ t. built-postfix t [] [])

abbrev pub input_code : Coded source.Input
input_code =
    code_by (List ℕ × (Rational × (Rational × Rational)))
    (coded× (coded_list coded_ℕ) (coded× rational_code (coded× rational_code rational_code)))
    (λ i. (i.name, (i.lo, (i.hi, i.err)))) (λ p. record { name = p.0; lo = p.1.0; hi = p.1.1.0; err = p.1.1.1 })
    (λ _. refl)

abbrev pub state_code : Coded source.State
state_code =
    code_by (List ℕ × Rational) (coded× (coded_list coded_ℕ) rational_code) (λ s. (s.name, s.start))
    (λ p. record { name = p.0; start = p.1 }) (λ _. refl)

abbrev pub temp_code : Coded source.Temp
temp_code =
    code_by (List ℕ × Tree) (coded× (coded_list coded_ℕ) tree_code) (λ t. (t.name, t.tree))
    (λ p. record { name = p.0; tree = p.1 }) (λ _. refl)

abbrev pub demand_code : Coded source.Demand
demand_code =
    code_by (Option Rational × (Option Rational × Option Rational))
    (coded× (coded_option rational_code) (coded× (coded_option rational_code) (coded_option rational_code)))
    (λ d. (d.err, (d.lo, d.hi))) (λ p. record { err = p.0; lo = p.1.0; hi = p.1.1 }) (λ _. refl)

abbrev pub function_code : Coded Function
function_code =
    code_by (List ℕ × (List source.Input × (List source.State × (List source.Temp × (List Tree × List source.Demand)))))
    (coded× (coded_list coded_ℕ)
    (coded× (coded_list input_code)
    (coded× (coded_list state_code)
    (coded× (coded_list temp_code) (coded× (coded_list tree_code) (coded_list demand_code))))))
    (λ f. (f.name, (f.inputs, (f.states, (f.temps, (f.results, f.demands))))))
    (λ p. record {
      name = p.0;
      inputs = p.1.0;
      states = p.1.1.0;
      temps = p.1.1.1.0;
      results = p.1.1.1.1.0;
      demands = p.1.1.1.1.1;
    }) (λ _. refl)
