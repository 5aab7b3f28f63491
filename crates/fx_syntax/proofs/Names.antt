-- What a name stands for, by its place among all names.
use Rattle.std.proofs.Common.{◌≡◌, ℕ, ◌<◌, ◌≤◌, ◌+◌, ◌-◌, Bool, true, false, cond, eqb, List, ◌++◌, length, Option, Some, None, refl, sym, ap, ◌∙◌, arith, rules, tests, length-append}
use Rattle.std.specs.Prelude.{bytes_eq, nat_lt, not}
use Rattle.std.specs.List.{position_or_len, prefix_len}
use Rattle.std.proofs.lemmas.List.Folds.{prefix_len-append}
use Rattle.std.proofs.lemmas.List.Sums.{prefix_len-le-length}
use Rattle.fx_model.specs.Tree.{Tree, Input, State, Temp}
use Rattle.fx_grammar.specs.Steps.{Text, name_place}
use Rattle.fx_grammar.specs.Operands.{leaf}
use Rattle.fx_grammar.specs.Expressions.{Known, meant}
use Rattle.fx_syntax.specs.Expressions.{Scope, all_names, IsMeant, input, state, temp}
use Rattle.fx_syntax.proofs.Operands.{operand_of}

abbrev pub known_of : ℕ → Scope → Known
known_of end scope =
    record { names = all_names scope; inputs = length scope.inputs; states = length scope.states; end = end }

-- the place in names one behind the other
abbrev pub behind_place : ℕ → Option ℕ → Option ℕ → Option ℕ
behind_place n (Some k) o = Some k
behind_place n None (Some k) = Some (n + k)
behind_place n None None = None

abbrev at_or_none : ℕ → ℕ → Option ℕ
at_or_none a m = cond (nat_lt a m) (Some a) None

numbers : (a b m n : ℕ) → a ≤ m → b ≤ n →
    at_or_none (cond (eqb a m) (m + b) a) (m + n) ≡ behind_place m (at_or_none a m) (at_or_none b n)
numbers a b m n le le' = by (nat_lt a m) (nat_lt b n) refl refl
  where
    by : (p q : Bool) → nat_lt a m ≡ p → nat_lt b n ≡ q →
        at_or_none (cond (eqb a m) (m + b) a) (m + n) ≡ behind_place m (cond p (Some a) None) (cond q (Some b) None)
    by true q e f =
        let lt : a < m = search (rules, tests) in
        let ne : eqb a m ≡ false = search (rules, tests, arith) in
        let more : nat_lt a (m + n) ≡ true = search (rules, tests, arith) in
        rw (ne, more) refl
    by false true e f =
        let ge : m ≤ a = search (rules, tests) in
        let lt : b < n = search (rules, tests) in
        let same : a ≡ m = omega arith in
        let eq : eqb a m ≡ true = search (rules, tests) in
        let more : nat_lt (m + b) (m + n) ≡ true = search (rules, tests, arith) in
        rw (eq, more) refl
    by false false e f =
        let ge : m ≤ a = search (rules, tests) in
        let ge' : n ≤ b = search (rules, tests) in
        let same : a ≡ m = omega arith in
        let eq : eqb a m ≡ true = search (rules, tests) in
        let more : nat_lt (m + b) (m + n) ≡ false = search (rules, tests, arith) in
        rw (eq, more) refl

pub place-append : (xs ys : List Text) (name : Text) →
    name_place (xs ++ ys) name ≡ behind_place (length xs) (name_place xs name) (name_place ys name)
place-append xs ys name =
    let p : Text → Bool = λ x. not (bytes_eq x name) in
    let e = prefix_len-append p xs ys in
    let l = length-append xs ys in
    ap (λ c. at_or_none c (length (xs ++ ys))) e
    ∙ ap (at_or_none (cond (eqb (prefix_len p xs) (length xs)) (length xs + prefix_len p ys) (prefix_len p xs))) l
    ∙ numbers (prefix_len p xs) (prefix_len p ys) (length xs) (length ys) (prefix_len-le-length p xs)
    (prefix_len-le-length p ys)

place_lt : (xs : List Text) (name : Text) (k : ℕ) → name_place xs name ≡ Some k → k < length xs
place_lt xs name k e = by (nat_lt n (length xs)) refl e
  where
    n : ℕ
    n = position_or_len (λ x. bytes_eq x name) xs

    by : (b : Bool) → nat_lt (position_or_len (λ x. bytes_eq x name) xs) (length xs) ≡ b →
        cond b (Some (position_or_len (λ x. bytes_eq x name) xs)) None ≡ Some k → k < length xs
    by true f e =
        let same : position_or_len (λ x. bytes_eq x name) xs ≡ k = cc in
        let lt : position_or_len (λ x. bytes_eq x name) xs < length xs = search (rules, tests) in
        omega arith
    by false f e = absurd cc

-- ---- what a name stands for

all_place : (scope : Scope) (name : Text) → name_place (all_names scope) name
    ≡ behind_place (length (scope.inputs ++ scope.states))
    (behind_place (length scope.inputs) (name_place scope.inputs name) (name_place scope.states name))
    (name_place scope.temps name)
all_place scope name = place-append (scope.inputs ++ scope.states) scope.temps name
    ∙ ap (λ o. behind_place (length (scope.inputs ++ scope.states)) o (name_place scope.temps name))
    (place-append scope.inputs scope.states name)

input_at : (end : ℕ) (scope : Scope) (k : ℕ) → k < length scope.inputs → meant (known_of end scope) k ≡ Input k
input_at end scope k lt = let e : nat_lt k (length scope.inputs) ≡ true = search (rules, tests) in rw e refl

state_at : (end : ℕ) (scope : Scope) (k : ℕ) → k < length scope.states →
    meant (known_of end scope) (length scope.inputs + k) ≡ State k
state_at end scope k lt =
    let e : nat_lt (length scope.inputs + k) (length scope.inputs) ≡ false = search (rules, tests, arith) in
    let f : nat_lt (length scope.inputs + k) (length scope.inputs + length scope.states) ≡ true =
    search (rules, tests, arith) in
    let same : length scope.inputs + k - length scope.inputs ≡ k = omega arith in
    rw (e, f, same) refl

temp_at : (end : ℕ) (scope : Scope) (k : ℕ) →
    meant (known_of end scope) (length (scope.inputs ++ scope.states) + k) ≡ Temp k
temp_at end scope k =
    let e : nat_lt (length scope.inputs + length scope.states + k) (length scope.inputs) ≡ false =
    search (rules, tests, arith) in
    let f : nat_lt (length scope.inputs + length scope.states + k) (length scope.inputs + length scope.states) ≡ false =
    search (rules, tests, arith) in
    let same : length scope.inputs + length scope.states + k - length scope.inputs - length scope.states ≡ k =
    omega arith in
    ap (λ n. meant (known_of end scope) (n + k)) (length-append scope.inputs scope.states) ∙ rw (e, f, same) refl

-- what the definition takes a name for
pub record IsFoundName (end : ℕ) (scope : Scope) (name : Text) (k : ℕ) : Type 0 where
  pub tree : Tree
  pub is : IsMeant scope name tree
  pub same : meant (known_of end scope) k ≡ tree

pub meant_spells : (end : ℕ) (scope : Scope) (name : Text) (k : ℕ) → name_place (all_names scope) name ≡ Some k →
    IsFoundName end scope name k
meant_spells end scope name k e =
    by (name_place scope.inputs name) (name_place scope.states name) (name_place scope.temps name) refl refl refl
    (sym (all_place scope name) ∙ e)
  where
    by : (p q r : Option ℕ) → name_place scope.inputs name ≡ p → name_place scope.states name ≡ q →
        name_place scope.temps name ≡ r
        → behind_place (length (scope.inputs ++ scope.states)) (behind_place (length scope.inputs) p q) r ≡ Some k →
        IsFoundName end scope name k
    by (Some i) q r pe qe re e =
        let same : i ≡ k = cc in
        record {
          tree = Input i;
          is = input i pe;
          same = ap (meant (known_of end scope)) (sym same)
              ∙ input_at end scope i (place_lt scope.inputs name i pe);
        }
    by None (Some i) r pe qe re e =
        let same : length scope.inputs + i ≡ k = cc in
        record {
          tree = State i;
          is = state i pe qe;
          same = ap (meant (known_of end scope)) (sym same) ∙ state_at end scope i (place_lt scope.states name i qe);
        }
    by None None (Some i) pe qe re e =
        let same : length (scope.inputs ++ scope.states) + i ≡ k = cc in
        record {
          tree = Temp i;
          is = temp i pe qe re;
          same = ap (meant (known_of end scope)) (sym same) ∙ temp_at end scope i;
        }
    by None None None pe qe re e = absurd cc

pub meant_reads : (end : ℕ) (scope : Scope) (name : Text) (x : Tree) → IsMeant scope name x →
    (k : ℕ) × (name_place (all_names scope) name ≡ Some k) × (meant (known_of end scope) k ≡ x)
meant_reads end scope name x (input i p) =
    (i, all_place scope name ∙ rw p refl, input_at end scope i (place_lt scope.inputs name i p))
meant_reads end scope name x (state i p q) = (
  length scope.inputs + i,
  all_place scope name
      ∙ rw (p, q) refl,
  state_at end scope i (place_lt scope.states name i q),
)
meant_reads end scope name x (temp i p q r) =
    (length (scope.inputs ++ scope.states) + i, all_place scope name ∙ rw (p, q, r) refl, temp_at end scope i)

pub leaf_is : (scope : Scope) (name : Text) (x : Tree) → IsMeant scope name x → leaf x 0 ≡ operand_of x
leaf_is scope name x (input k p) = refl
leaf_is scope name x (state k p q) = refl
leaf_is scope name x (temp k p q r) = refl
