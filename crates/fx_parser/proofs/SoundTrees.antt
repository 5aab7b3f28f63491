-- Trees that are read are low, refer to what is there, and have the nodes that were counted.
use Rattle.std.proofs.Common.{◌≡◌, ℕ, zero, suc, ◌+◌, ◌-◌, ◌<◌, ◌≤◌, min, max, Bool, true, false, cond, [], ◌∷◌, length, drop, Option, Some, None, Ok, refl, subst, arith, rules, tests}
use Rattle.std.specs.Prelude.{nat_le, nat_lt, bytes_eq}
use Rattle.std.proofs.lemmas.List.Elements.{All-tail}
use Rattle.std.proofs.lemmas.List.Quantifiers.{position-Some}
use Rattle.fx_rational.specs.Decimal.{Decimal}
use Rattle.fx_model.specs.Tree.{Tree, Input, State, Temp, Negation, Sum, Difference, Product, Quotient}
use Rattle.fx_model.specs.Valid.{RefersBelow}
use Rattle.fx_model.specs.Paths.{height}
use Rattle.fx_lexer.specs.Tokens.{Lexeme}
use Rattle.fx_grammar.specs.declared.head.Head.{Head}
use Rattle.fx_grammar.specs.declared.head.Head.TheVariants as heads
use Rattle.fx_grammar.specs.Heads.{head_of, ◌==ₕ◌}
use Rattle.fx_grammar.specs.Steps.{Tokens, name_place, next_head, decimal, negative_decimal}
use Rattle.fx_grammar.specs.Operands.{Operand, leaf, low_tree, negation, negation_of, combined_operand, both, operation, counted_nodes}
use Rattle.fx_grammar.specs.Expressions.{Known, Reader, literal, meant, is_call, found_name, named, closed, opened, atom_by, atom_of, behind_minus, factor_of, one_more, goes_on_product, goes_on_sum, term_of, sum_from, expr_at}
use Rattle.fx_parser.specs.LawfulTokens.{IsSound, AreSound}
use Rattle.fx_model.proofs.Steps.{on_ok}
use Rattle.fx_parser.proofs.Reading.{fine, on_when, refused, same_ok, sound_drop, want_ok, repeat_ok}
use Rattle.fx_model.specs.Counts.{tree_nodes}

-- what is known of a tree with this height and these nodes, where so many inputs, states and temps are there
abbrev pub IsTree : ℕ → ℕ → ℕ → Option Tree → ℕ → ℕ → Type 0
IsTree i k m None h n = h ≡ 201
IsTree i k m (Some t) h n = RefersBelow i k m t × (h ≡ height t) × (h ≤ 200) × (n ≡ counted_nodes (tree_nodes t))

abbrev pub IsOperand : ℕ → ℕ → ℕ → Operand → Type 0
IsOperand i k m x = IsTree i k m x.tree x.height x.nodes

module _ (i k m : ℕ) where
  negated_tree : (t : Option Tree) (h n : ℕ) → IsTree i k m t h n →
      IsTree i k m (low_tree (min 201 (1 + h)) (negation_of t)) (min 201 (1 + h)) (counted_nodes (1 + n))
  negated_tree None h n e = by (nat_le (min 201 (1 + h)) 200) where
    by : (b : Bool) → IsTree i k m (cond b None None) (min 201 (1 + h)) (counted_nodes (1 + n))
    by true = omega (arith, e)
    by false = omega (arith, e)
  negated_tree (Some t) h n e = by (nat_le (min 201 (1 + h)) 200) refl where
    by : (b : Bool) → nat_le (min 201 (1 + h)) 200 ≡ b →
        IsTree i k m (cond b (Some (Negation t)) None) (min 201 (1 + h)) (counted_nodes (1 + n))
    by true q =
        let le : min 201 (1 + h) ≤ 200 = search (rules, tests) in (e.0, omega (arith, le, e.1), le, omega (arith, e.3))
    by false q = let lt : 200 < min 201 (1 + h) = search (rules, tests) in omega (arith, lt)

  pub negation_ok : (x : Operand) → IsOperand i k m x → IsOperand i k m (negation x)
  negation_ok x e = negated_tree x.tree x.height x.nodes e

  -- one of the four operations
  by_sign : (P : Tree → Type 0) (x y : Tree) → P (Sum x y) → P (Difference x y) → P (Product x y) → P (Quotient x y) →
      (sign : Head) → P (operation sign x y)
  by_sign P x y s d p q heads.End = q
  by_sign P x y s d p q heads.Name = q
  by_sign P x y s d p q heads.Number = q
  by_sign P x y s d p q heads.Plus = s
  by_sign P x y s d p q heads.Minus = d
  by_sign P x y s d p q heads.Star = p
  by_sign P x y s d p q heads.Slash = q
  by_sign P x y s d p q heads.Open = q
  by_sign P x y s d p q heads.Close = q
  by_sign P x y s d p q heads.OpenBrace = q
  by_sign P x y s d p q heads.CloseBrace = q
  by_sign P x y s d p q heads.Colon = q
  by_sign P x y s d p q heads.Comma = q
  by_sign P x y s d p q heads.Dot = q
  by_sign P x y s d p q heads.Semicolon = q
  by_sign P x y s d p q heads.Equals = q
  by_sign P x y s d p q heads.Arrow = q
  by_sign P x y s d p q heads.PlusMinus = q
  by_sign P x y s d p q heads.And = q
  by_sign P x y s d p q heads.Below = q
  by_sign P x y s d p q heads.AtMost = q
  by_sign P x y s d p q heads.Above = q
  by_sign P x y s d p q heads.AtLeast = q
  by_sign P x y s d p q heads.Import = q
  by_sign P x y s d p q heads.Object = q
  by_sign P x y s d p q heads.Def = q
  by_sign P x y s d p q heads.Val = q
  by_sign P x y s d p q heads.Require = q
  by_sign P x y s d p q heads.Ensuring = q
  by_sign P x y s d p q heads.Unsupported = q

  joined_tree : (sign : Head) (x y : Option Tree) (a b n l : ℕ) → IsTree i k m x a n → IsTree i k m y b l
      → IsTree i k m (low_tree (min 201 (1 + max a b)) (both sign x y)) (min 201 (1 + max a b))
      (counted_nodes (1 + n + l))
  joined_tree sign None y a b n l e f = by (nat_le (min 201 (1 + max a b)) 200) where
    by : (c : Bool) → IsTree i k m (cond c None None) (min 201 (1 + max a b)) (counted_nodes (1 + n + l))
    by true = omega (arith, e)
    by false = omega (arith, e)
  joined_tree sign (Some x) None a b n l e f = by (nat_le (min 201 (1 + max a b)) 200) where
    by : (c : Bool) → IsTree i k m (cond c None None) (min 201 (1 + max a b)) (counted_nodes (1 + n + l))
    by true = omega (arith, f)
    by false = omega (arith, f)
  joined_tree sign (Some x) (Some y) a b n l e f = by (nat_le (min 201 (1 + max a b)) 200) refl where
    by : (c : Bool) → nat_le (min 201 (1 + max a b)) 200 ≡ c →
        IsTree i k m (cond c (Some (operation sign x y)) None) (min 201 (1 + max a b)) (counted_nodes (1 + n + l))
    by true q =
        let le : min 201 (1 + max a b) ≤ 200 = search (rules, tests) in
        let h : min 201 (1 + max a b) ≡ suc (max (height x) (height y)) = omega (arith, le, e.1, f.1) in
        let c : counted_nodes (1 + n + l) ≡ counted_nodes (tree_nodes x + tree_nodes y + 1) = omega (arith, e.3, f.3) in
        by_sign (λ t. IsTree i k m (Some t) (min 201 (1 + max a b)) (counted_nodes (1 + n + l))) x y
        ((e.0, f.0), h, le, c) ((e.0, f.0), h, le, c) ((e.0, f.0), h, le, c) ((e.0, f.0), h, le, c) sign
    by false q = let lt : 200 < min 201 (1 + max a b) = search (rules, tests) in omega (arith, lt)

  pub joined_ok : (sign : Head) (x y : Operand) → IsOperand i k m x → IsOperand i k m y →
      IsOperand i k m (combined_operand sign x y)
  joined_ok sign x y e f = joined_tree sign x.tree y.tree x.height y.height x.nodes y.nodes e f

  literal_ok : (d : Decimal) → IsOperand i k m (literal d)
  literal_ok d = (tt {0}, refl, omega arith, refl)

module _ (known : Known) (m : ℕ) (size : length known.names ≡ known.inputs + known.states + m) where
  abbrev Good : Operand → Type 0
  Good x = IsOperand known.inputs known.states m x

  -- what holds of all that a reader reads
  abbrev Reads_well : Reader → Type 0
  Reads_well r = (ts : Tokens) (x : Operand × Tokens) → AreSound ts → r ts ≡ Ok x → Good x.0 × AreSound x.1

  abbrev Inner : Option Reader → Type 0
  Inner None = Unit {0}
  Inner (Some r) = Reads_well r

  done : (x : Operand) (ts : Tokens) (y : Operand × Tokens) → fine (x, ts) ≡ Ok y → Good x → AreSound ts →
      Good y.0 × AreSound y.1
  done x ts y e g s = subst (λ (z : Operand × Tokens). Good z.0 × AreSound z.1) (same_ok (x, ts) y e) (g, s)

  meant_ok : (p : ℕ) → p < length known.names → Good (leaf (meant known p) 0)
  meant_ok p lt = by (nat_lt p known.inputs) (nat_lt p (known.inputs + known.states)) refl refl where
    by : (a b : Bool) → nat_lt p known.inputs ≡ a → nat_lt p (known.inputs + known.states) ≡ b
        → Good (leaf (cond a (Input p) (cond b (State (p - known.inputs)) (Temp (p - known.inputs - known.states)))) 0)
    by true b e f = let l : p < known.inputs = search (rules, tests) in (l, refl, omega arith, refl)
    by false true e f =
        let g : known.inputs ≤ p = search (rules, tests) in
        let l : p < known.inputs + known.states = search (rules, tests) in
        (omega (arith, g, l), refl, omega arith, refl)
    by false false e f =
        let g : known.inputs + known.states ≤ p = search (rules, tests) in
        (omega (arith, g, lt, size), refl, omega arith, refl)

  found_ok : (t : Lexeme) (ts : Tokens) (o : Option ℕ) → name_place known.names t.text ≡ o → (x : Operand × Tokens) →
      AreSound ts → found_name known t o ts ≡ Ok x → Good x.0 × AreSound x.1
  found_ok t ts None q x s e = absurd cc
  found_ok t ts (Some p) q x s e =
      done _ ts x e (meant_ok p (position-Some (λ name. bytes_eq name t.text) known.names p [] q).0) s

  named_ok : (t : Lexeme) → Reads_well (named known t)
  named_ok t ts x s e =
      let r = refused (is_call ts) _ (found_name known t (name_place known.names t.text) ts) x e in
      found_ok t ts _ refl x s r.1

  closed_ok : (y : Operand) → Good y → Reads_well (closed known y)
  unfolding closed
  closed_ok y g ts x s e = on_ok _ _ x e (λ c ce e. done y c.1 x e g (want_ok known.end heads.Close ts c s ce).2)

  opened_ok : (inner : Option Reader) → Inner inner → (t : Lexeme) → Reads_well (opened known inner t)
  unfolding opened
  opened_ok None g t ts x s e = absurd cc
  opened_ok (Some r) g t ts x s e = on_ok _ _ x e (λ y ye e. let q = g ts y s ye in closed_ok y.0 q.0 y.1 x q.1 e)

  atom_by_ok : (inner : Option Reader) → Inner inner → (t : Lexeme) (ts : Tokens) (h : Head) (x : Operand × Tokens) →
      AreSound ts → atom_by known inner t ts h ≡ Ok x → Good x.0 × AreSound x.1
  atom_by_ok inner g t ts heads.End x s e = absurd cc
  atom_by_ok inner g t ts heads.Name x s e = named_ok t ts x s e
  atom_by_ok inner g t ts heads.Number x s e = done _ ts x e (literal_ok known.inputs known.states m (decimal t.text)) s
  atom_by_ok inner g t ts heads.Plus x s e = absurd cc
  atom_by_ok inner g t ts heads.Minus x s e = absurd cc
  atom_by_ok inner g t ts heads.Star x s e = absurd cc
  atom_by_ok inner g t ts heads.Slash x s e = absurd cc
  atom_by_ok inner g t ts heads.Open x s e = opened_ok inner g t ts x s e
  atom_by_ok inner g t ts heads.Close x s e = absurd cc
  atom_by_ok inner g t ts heads.OpenBrace x s e = absurd cc
  atom_by_ok inner g t ts heads.CloseBrace x s e = absurd cc
  atom_by_ok inner g t ts heads.Colon x s e = absurd cc
  atom_by_ok inner g t ts heads.Comma x s e = absurd cc
  atom_by_ok inner g t ts heads.Dot x s e = absurd cc
  atom_by_ok inner g t ts heads.Semicolon x s e = absurd cc
  atom_by_ok inner g t ts heads.Equals x s e = absurd cc
  atom_by_ok inner g t ts heads.Arrow x s e = absurd cc
  atom_by_ok inner g t ts heads.PlusMinus x s e = absurd cc
  atom_by_ok inner g t ts heads.And x s e = absurd cc
  atom_by_ok inner g t ts heads.Below x s e = absurd cc
  atom_by_ok inner g t ts heads.AtMost x s e = absurd cc
  atom_by_ok inner g t ts heads.Above x s e = absurd cc
  atom_by_ok inner g t ts heads.AtLeast x s e = absurd cc
  atom_by_ok inner g t ts heads.Import x s e = absurd cc
  atom_by_ok inner g t ts heads.Object x s e = absurd cc
  atom_by_ok inner g t ts heads.Def x s e = absurd cc
  atom_by_ok inner g t ts heads.Val x s e = absurd cc
  atom_by_ok inner g t ts heads.Require x s e = absurd cc
  atom_by_ok inner g t ts heads.Ensuring x s e = absurd cc
  atom_by_ok inner g t ts heads.Unsupported x s e = absurd cc

  atom_ok : (inner : Option Reader) → Inner inner → Reads_well (atom_of known inner)
  unfolding atom_of
  atom_ok inner g [] x s e = absurd cc
  atom_ok inner g (t ∷ ts) x s e = atom_by_ok inner g t ts (head_of t) x (All-tail IsSound t ts s) e

  negated_ok : (inner : Option Reader) → Inner inner → Reads_well (behind_minus known inner)
  unfolding behind_minus
  negated_ok inner g ts x s e = on_when (next_head ts ==ₕ heads.Number) _ _ x e
      (λ on e. on_ok _ _ x e (λ t te e. done _ t.1 x e
      (literal_ok known.inputs known.states m (negative_decimal (decimal t.0.text)))
      (want_ok known.end heads.Number ts t s te).2))
      (λ off e. on_ok _ _ x e (λ y ye e. let q = atom_ok inner g ts y s ye in
      done _ y.1 x e (negation_ok known.inputs known.states m y.0 q.0) q.1))

  factor_ok : (inner : Option Reader) → Inner inner → Reads_well (factor_of known inner)
  unfolding factor_of
  factor_ok inner g ts x s e = on_when (next_head ts ==ₕ heads.Minus) _ _ x e
      (λ on e. negated_ok inner g (drop 1 ts) x (sound_drop 1 ts s) e)
      (λ off e. atom_ok inner g ts x s e)

  more_ok : (r : Reader) → Reads_well r → (left : Operand) (ts : Tokens) (x : Operand × Tokens) → Good left →
      AreSound ts → one_more r left ts ≡ Ok x → Good x.0 × AreSound x.1
  more_ok r g left ts x l s e = on_ok _ _ x e (λ y ye e.
      let q = g (drop 1 ts) y (sound_drop 1 ts s) ye in
      done _ y.1 x e (joined_ok known.inputs known.states m (next_head ts) left y.0 l q.0) q.1)

  term_ok : (inner : Option Reader) → Inner inner → Reads_well (term_of known inner)
  unfolding term_of
  term_ok inner g ts x s e = on_ok _ _ x e (λ y ye e.
      let q = factor_ok inner g ts y s ye in
      repeat_ok Good goes_on_product (one_more (factor_of known inner))
      (more_ok (factor_of known inner) (factor_ok inner g)) (suc (length y.1)) y.0 y.1 x q.0 q.1 e)

  sum_ok : (outside : Bool) (inner : Option Reader) → Inner inner → Reads_well (sum_from known outside inner)
  unfolding sum_from
  sum_ok outside inner g ts x s e = on_ok _ _ x e (λ y ye e.
      let q = term_ok inner g ts y s ye in
      repeat_ok Good (goes_on_sum outside) (one_more (term_of known inner))
      (more_ok (term_of known inner) (term_ok inner g)) (suc (length y.1)) y.0 y.1 x q.0 q.1 e)

  -- what an expression gives is known
  pub expr_ok : (outside : Bool) (room : ℕ) → Reads_well (expr_at known outside room)
  unfolding expr_at
  expr_ok outside zero = sum_ok outside None (tt {0})
  expr_ok outside (suc room) = sum_ok outside (Some (expr_at known false room)) (expr_ok false room)
