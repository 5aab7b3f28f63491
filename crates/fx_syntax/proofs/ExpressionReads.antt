-- An expression of the grammar is read, if nothing behind it goes on with it.
use Rattle.std.proofs.Common.{◌≡◌, ℕ, zero, suc, Bool, true, false, length, Option, Ok, refl, sym, ap, subst, ◌∙◌, arith}
use Rattle.std.specs.Prelude.{◌&&◌, ◌||◌, not}
use Rattle.fx_rational.specs.Decimal.{Decimal}
use Rattle.fx_model.specs.Tree.{Tree, Negation, Sum, Difference, Product, Quotient}
use Rattle.fx_lexer.specs.Tokens.{Lexeme}
use Rattle.fx_grammar.specs.declared.head.Head.{Head}
use Rattle.fx_grammar.specs.declared.head.Head.TheVariants as heads
use Rattle.fx_grammar.specs.Heads.{◌==ₕ◌}
use Rattle.fx_grammar.specs.Steps.{Tokens, next_head, is_fresh, negative_decimal}
use Rattle.fx_grammar.specs.Operands.{Operand, leaf, combined_operand}
use Rattle.fx_grammar.specs.Expressions.{Reader, is_call, found_name, named, closed, opened, atom_by, atom_of, behind_minus, factor_of, one_more, goes_on_product, goes_on_sum, term_of, sum_from, expr_at, inner_at}
use Rattle.fx_syntax.specs.Leaves.{IsNext, IsNumber}
use Rattle.fx_syntax.specs.Runs.{GrammarRule, IsRun, over, more}
use Rattle.fx_syntax.specs.Expressions.{Scope, IsMeant, literal_tree, IsExpr, one_term, sum, difference, IsTerm, one_factor, product, quotient, IsFactor, one_atom, negative, negation as negated_atom, IsAtom, number, name, parens}
use Rattle.fx_syntax.proofs.Outcomes.{steps, on_false}
use Rattle.fx_syntax.proofs.Marks.{is_next, not_next, next_head_is, behind_is, want_reads}
use Rattle.fx_syntax.proofs.Repeats.{when_true, when_false, repeat_reads, run_fits, Takes}
use Rattle.fx_syntax.proofs.Operands.{operand_of, negation_is, joined_is}
use Rattle.fx_syntax.proofs.Names.{known_of, meant_reads, leaf_is}
use Rattle.fx_syntax.proofs.Chains.{IsMoreSum, plus, less, IsMoreProduct, times, over', more_sum_shorter, more_product_shorter}
use Rattle.fx_grammar.proofs.Expressions.{expr_is}

-- ---- runs, from their last operand

pub run_snoc : {A : Type 0} {Item : GrammarRule A} {a b c : A} {ts us rest : Tokens} → IsRun Item a ts b us →
    Item b us c rest → IsRun Item a ts c rest
run_snoc over i = more i over
run_snoc (more j others) i = more j (run_snoc others i)

record IsSums (scope : Scope) (outside : Bool) (room : ℕ) (ts : Tokens) (z : Tree) (rest : Tokens) : Type 0 where
  first : Tree
  behind : Tokens
  term : IsTerm scope room ts first behind
  others : IsRun (IsMoreSum scope outside room) first behind z rest

sums : {scope : Scope} {outside : Bool} {room : ℕ} {ts : Tokens} {z : Tree} {rest : Tokens} →
    IsExpr scope outside room ts z rest → IsSums scope outside room ts z rest
sums (one_term {rest = rest} {x = x} i) = record { first = x; behind = rest; term = i; others = over }
sums (sum e n t) =
    let s = sums e in
    record { first = s.first; behind = s.behind; term = s.term; others = run_snoc s.others (plus n t) }
sums (difference e n f t) =
    let s = sums e in
    record { first = s.first; behind = s.behind; term = s.term; others = run_snoc s.others (less n f t) }

record IsProducts (scope : Scope) (room : ℕ) (ts : Tokens) (z : Tree) (rest : Tokens) : Type 0 where
  first : Tree
  behind : Tokens
  factor : IsFactor scope room ts first behind
  others : IsRun (IsMoreProduct scope room) first behind z rest

products : {scope : Scope} {room : ℕ} {ts : Tokens} {z : Tree} {rest : Tokens} → IsTerm scope room ts z rest →
    IsProducts scope room ts z rest
products (one_factor {rest = rest} {x = x} i) = record { first = x; behind = rest; factor = i; others = over }
products (product e n t) =
    let s = products e in
    record { first = s.first; behind = s.behind; factor = s.factor; others = run_snoc s.others (times n t) }
products (quotient e n t) =
    let s = products e in
    record { first = s.first; behind = s.behind; factor = s.factor; others = run_snoc s.others (over' n t) }

-- ---- what doesn't go on

-- no product goes on here
abbrev pub StopsTerm : Tokens → Type 0
StopsTerm ts = ((next_head ts ==ₕ heads.Star) || (next_head ts ==ₕ heads.Slash)) ≡ false

-- no operation goes on here
pub record Stops (outside : Bool) (ts : Tokens) : Type 0 where
  pub term : StopsTerm ts
  pub sum : ((next_head ts ==ₕ heads.Plus) || ((next_head ts ==ₕ heads.Minus) && not (outside && is_fresh ts))) ≡ false

pub stops_at : (outside : Bool) (ts : Tokens) (h : Head) → next_head ts ≡ h →
    ((h ==ₕ heads.Star) || (h ==ₕ heads.Slash)) ≡ false → ((h ==ₕ heads.Plus) || (h ==ₕ heads.Minus)) ≡ false →
    Stops outside ts
stops_at outside ts h e t s = record {
  term = subst (λ g. ((g ==ₕ heads.Star) || (g ==ₕ heads.Slash)) ≡ false) (sym e) t;
  sum =
      subst (λ g. ((g ==ₕ heads.Plus) || ((g ==ₕ heads.Minus) && not (outside && is_fresh ts))) ≡ false) (sym e)
      (by (h ==ₕ heads.Plus) (h ==ₕ heads.Minus) s);
}
  where
    by : (p q : Bool) → (p || q) ≡ false → (p || (q && not (outside && is_fresh ts))) ≡ false
    by true q f = absurd cc
    by false true f = absurd cc
    by false false f = refl

pub stops_next : (outside : Bool) {h : Head} {ts : Tokens} {t : Lexeme} {us : Tokens} → IsNext h ts t us →
    ((h ==ₕ heads.Star) || (h ==ₕ heads.Slash)) ≡ false → ((h ==ₕ heads.Plus) || (h ==ₕ heads.Minus)) ≡ false →
    Stops outside ts
stops_next outside {h} {ts} n = stops_at outside ts h (next_head_is n)

-- ---- rules

-- what may stand in a parenthesis is read
abbrev Below : Scope → ℕ → ℕ → Type 0
Below scope end room = (r : ℕ) → room ≡ suc r → (ts : Tokens) (x : Tree) (rest : Tokens) →
    IsExpr scope false r ts x rest → Stops false rest →
    expr_at (known_of end scope) false r ts ≡ Ok (operand_of x, rest)

named_reads : (scope : Scope) (end : ℕ) (t : Lexeme) (x : Tree) (rest : Tokens) → is_call rest ≡ false →
    IsMeant scope t.text x → named (known_of end scope) t rest ≡ Ok (operand_of x, rest)
named_reads scope end t x rest call m =
    let p = meant_reads end scope t.text x m in
    on_false _ call (ap (λ o. found_name (known_of end scope) t o rest) p.1 ∙ ap (λ (y : Tree). Ok (leaf y 0, rest)) p.2
    ∙ ap (λ (o : Operand). Ok (o, rest)) (leaf_is scope t.text x m))

opened_reads : (scope : Scope) (end room : ℕ) (t c : Lexeme) (us vs rest : Tokens) (x : Tree) →
    expr_at (known_of end scope) false room us ≡ Ok (operand_of x, vs) → IsNext heads.Close vs c rest
    → opened (known_of end scope) (inner_at (known_of end scope) (suc room)) t us ≡ Ok (operand_of x, rest)
unfolding opened inner_at closed
opened_reads scope end room t c us vs rest x e n = steps _ e (steps _ (want_reads end n) refl)

atom_at : (scope : Scope) (end : ℕ) (inner : Option Reader) (h : Head) (ts : Tokens) (t : Lexeme) (us : Tokens) →
    IsNext h ts t us → atom_of (known_of end scope) inner ts ≡ atom_by (known_of end scope) inner t us h
unfolding atom_of
atom_at scope end inner h ts t us n =
    ap (atom_of (known_of end scope) inner) n.tokens ∙ ap (atom_by (known_of end scope) inner t us) n.is

atom_reads : {scope : Scope} {room : ℕ} {ts : Tokens} {x : Tree} {rest : Tokens} → IsAtom scope room ts x rest →
    (end : ℕ) → Below scope end room →
    atom_of (known_of end scope) (inner_at (known_of end scope) room) ts ≡ Ok (operand_of x, rest)
atom_reads {scope} (number {room = room} {ts = ts} {rest = rest} {d = d} i) end below =
    atom_at scope end (inner_at (known_of end scope) room) heads.Number ts i.number rest i.next
    ∙ ap (λ (d : Decimal). Ok (operand_of (literal_tree d), rest)) (sym i.value)
atom_reads {scope} (name {room = room} {ts = ts} {rest = rest} {used = t} {x = x} n c m) end below =
    atom_at scope end (inner_at (known_of end scope) room) heads.Name ts t rest n ∙ named_reads scope end t x rest c m
atom_reads {scope} (parens {room = room} {ts = ts} {us = us} {vs = vs} {rest = rest} {x = x} n e close) end below =
    atom_at scope end (inner_at (known_of end scope) (suc room)) heads.Open ts n.token us n.next
    ∙ opened_reads scope end room n.token close.token us vs rest x
    (below room refl us x vs e (stops_next false close.next refl refl)) close.next

atom_head : {scope : Scope} {room : ℕ} {ts : Tokens} {x : Tree} {rest : Tokens} → IsAtom scope room ts x rest →
    (next_head ts ==ₕ heads.Minus) ≡ false
atom_head (number i) = not_next i.next heads.Minus refl
atom_head (name n c m) = not_next n heads.Minus refl
atom_head (parens n e c) = not_next n.next heads.Minus refl

negated_reads : (scope : Scope) (end room : ℕ) (us : Tokens) (d : Decimal) (rest : Tokens) → IsNumber us d rest →
    behind_minus (known_of end scope) (inner_at (known_of end scope) room) us
    ≡ Ok (operand_of (literal_tree (negative_decimal d)), rest)
unfolding behind_minus
negated_reads scope end room us d rest i = when_true _ _ (is_next i.next)
    ∙ steps _ (want_reads end i.next)
    (ap (λ (d : Decimal). Ok (operand_of (literal_tree (negative_decimal d)), rest)) (sym i.value))

negation_reads : (scope : Scope) (end room : ℕ) (us : Tokens) (x : Tree) (rest : Tokens) →
    (next_head us ==ₕ heads.Number) ≡ false
    → atom_of (known_of end scope) (inner_at (known_of end scope) room) us ≡ Ok (operand_of x, rest) →
    behind_minus (known_of end scope) (inner_at (known_of end scope) room) us ≡ Ok (operand_of (Negation x), rest)
unfolding behind_minus
negation_reads scope end room us x rest f e =
    when_false _ _ f ∙ steps _ e (ap (λ (o : Operand). Ok (o, rest)) (negation_is x))

factor_reads : {scope : Scope} {room : ℕ} {ts : Tokens} {x : Tree} {rest : Tokens} → IsFactor scope room ts x rest →
    (end : ℕ) → Below scope end room →
    factor_of (known_of end scope) (inner_at (known_of end scope) room) ts ≡ Ok (operand_of x, rest)
unfolding factor_of
factor_reads (one_atom i) end below = when_false _ _ (atom_head i) ∙ atom_reads i end below
factor_reads {scope} (negative {room = room} {us = us} {rest = rest} {d = d} n i) end below =
    when_true _ _ (is_next n.next)
    ∙ ap (behind_minus (known_of end scope) (inner_at (known_of end scope) room)) (behind_is n.next)
    ∙ negated_reads scope end room us d rest i
factor_reads {scope} (negated_atom {room = room} {us = us} {rest = rest} {x = x} n f i) end below =
    when_true _ _ (is_next n.next)
    ∙ ap (behind_minus (known_of end scope) (inner_at (known_of end scope) room)) (behind_is n.next)
    ∙ negation_reads scope end room us x rest f (atom_reads i end below)

module _ (scope : Scope) (end room : ℕ) (below : Below scope end room) where
  one_product : (x : Tree) (ts : Tokens) (z : Tree) (us : Tokens) → IsMoreProduct scope room x ts z us →
      one_more (factor_of (known_of end scope) (inner_at (known_of end scope) room)) (operand_of x) ts
      ≡ Ok (operand_of z, us)
  one_product x ts z us (times {y = y} n t) =
      steps _ (ap (factor_of (known_of end scope) (inner_at (known_of end scope) room)) (behind_is n.next)
      ∙ factor_reads t end below)
      (ap (λ (o : Operand). Ok (o, us))
      (ap (λ h. combined_operand h (operand_of x) (operand_of y)) (next_head_is n.next)
      ∙ joined_is heads.Star x y (Product x y) (record { tree = refl; height = refl; size = refl })))
  one_product x ts z us (over' {y = y} n t) =
      steps _ (ap (factor_of (known_of end scope) (inner_at (known_of end scope) room)) (behind_is n.next)
      ∙ factor_reads t end below)
      (ap (λ (o : Operand). Ok (o, us))
      (ap (λ h. combined_operand h (operand_of x) (operand_of y)) (next_head_is n.next)
      ∙ joined_is heads.Slash x y (Quotient x y) (record { tree = refl; height = refl; size = refl })))

  on_product : (x : Tree) (ts : Tokens) (z : Tree) (us : Tokens) → IsMoreProduct scope room x ts z us →
      goes_on_product (operand_of x) ts ≡ true
  on_product x ts z us (times n t) = ap (λ h. (h ==ₕ heads.Star) || (h ==ₕ heads.Slash)) (next_head_is n.next)
  on_product x ts z us (over' n t) = ap (λ h. (h ==ₕ heads.Star) || (h ==ₕ heads.Slash)) (next_head_is n.next)

  product_takes : Takes operand_of (IsMoreProduct scope room) goes_on_product
      (one_more (factor_of (known_of end scope) (inner_at (known_of end scope) room))) (λ ts. Unit {0})
  product_takes = record {
    one = λ x ts z us i fits. one_product x ts z us i;
    on = on_product;
    fits = λ x ts z us i. tt {0};
    shorter = more_product_shorter scope room;
  }

  term_reads : (ts : Tokens) (x : Tree) (rest : Tokens) → IsTerm scope room ts x rest → StopsTerm rest →
      term_of (known_of end scope) (inner_at (known_of end scope) room) ts ≡ Ok (operand_of x, rest)
  unfolding term_of
  term_reads ts x rest i stop =
      let p = products i in
      steps _ (factor_reads p.factor end below)
      (repeat_reads operand_of (IsMoreProduct scope room) goes_on_product
      (one_more (factor_of (known_of end scope) (inner_at (known_of end scope) room)))
      (λ ts. Unit {0}) product_takes p.others (tt {0}) stop (suc (length p.behind)) (omega arith))

  one_sum : (outside : Bool) (x : Tree) (ts : Tokens) (z : Tree) (us : Tokens) →
      IsMoreSum scope outside room x ts z us → StopsTerm us →
      one_more (term_of (known_of end scope) (inner_at (known_of end scope) room)) (operand_of x) ts
      ≡ Ok (operand_of z, us)
  one_sum outside x ts z us (plus {us = vs} {y = y} n t) stop =
      steps _ (ap (term_of (known_of end scope) (inner_at (known_of end scope) room)) (behind_is n.next)
      ∙ term_reads vs y us t stop)
      (ap (λ (o : Operand). Ok (o, us))
      (ap (λ h. combined_operand h (operand_of x) (operand_of y)) (next_head_is n.next)
      ∙ joined_is heads.Plus x y (Sum x y) (record { tree = refl; height = refl; size = refl })))
  one_sum outside x ts z us (less {us = vs} {y = y} n f t) stop =
      steps _ (ap (term_of (known_of end scope) (inner_at (known_of end scope) room)) (behind_is n.next)
      ∙ term_reads vs y us t stop)
      (ap (λ (o : Operand). Ok (o, us))
      (ap (λ h. combined_operand h (operand_of x) (operand_of y)) (next_head_is n.next)
      ∙ joined_is heads.Minus x y (Difference x y) (record { tree = refl; height = refl; size = refl })))

  on_sum : (outside : Bool) (x : Tree) (ts : Tokens) (z : Tree) (us : Tokens) → IsMoreSum scope outside room x ts z us →
      goes_on_sum outside (operand_of x) ts ≡ true
  on_sum outside x ts z us (plus n t) =
      ap (λ h. (h ==ₕ heads.Plus) || ((h ==ₕ heads.Minus) && not (outside && is_fresh ts))) (next_head_is n.next)
  on_sum outside x ts z us (less n f t) =
      ap (λ h. (h ==ₕ heads.Plus) || ((h ==ₕ heads.Minus) && not (outside && is_fresh ts))) (next_head_is n.next)
      ∙ ap not f

  sum_fits : (outside : Bool) (x : Tree) (ts : Tokens) (z : Tree) (us : Tokens) →
      IsMoreSum scope outside room x ts z us → StopsTerm ts
  sum_fits outside x ts z us (plus n t) = ap (λ h. (h ==ₕ heads.Star) || (h ==ₕ heads.Slash)) (next_head_is n.next)
  sum_fits outside x ts z us (less n f t) = ap (λ h. (h ==ₕ heads.Star) || (h ==ₕ heads.Slash)) (next_head_is n.next)

  sum_takes : (outside : Bool) →
      Takes operand_of (IsMoreSum scope outside room) (goes_on_sum outside)
      (one_more (term_of (known_of end scope) (inner_at (known_of end scope) room))) StopsTerm
  sum_takes outside = record {
    one = one_sum outside;
    on = on_sum outside;
    fits = sum_fits outside;
    shorter = more_sum_shorter scope outside room;
  }

  sum_reads : (outside : Bool) (ts : Tokens) (x : Tree) (rest : Tokens) → IsExpr scope outside room ts x rest →
      Stops outside rest → sum_from (known_of end scope) outside (inner_at (known_of end scope) room) ts
      ≡ Ok (operand_of x, rest)
  unfolding sum_from
  sum_reads outside ts x rest i stop =
      let p = sums i in
      steps _ (term_reads ts p.first p.behind p.term
      (run_fits operand_of (IsMoreSum scope outside room) (goes_on_sum outside)
      (one_more (term_of (known_of end scope) (inner_at (known_of end scope) room))) StopsTerm
      (sum_takes outside) p.others stop.term))
      (repeat_reads operand_of (IsMoreSum scope outside room) (goes_on_sum outside)
      (one_more (term_of (known_of end scope) (inner_at (known_of end scope) room))) StopsTerm
      (sum_takes outside) p.others stop.term stop.sum (suc (length p.behind)) (omega arith))

all_below : (scope : Scope) (end room : ℕ) → Below scope end room
all_below scope end zero r e ts x rest i stop = absurd (omega arith)
all_below scope end (suc room) r e ts x rest i stop =
    let same : room ≡ r = omega arith in
    ap (λ (read : Reader). read ts) (expr_is (known_of end scope) false r)
    ∙ sum_reads scope end r (subst (Below scope end) same (all_below scope end room)) false ts x rest i stop

pub expr_reads : (scope : Scope) (end : ℕ) (outside : Bool) (room : ℕ) (ts : Tokens) (x : Tree) (rest : Tokens) →
    IsExpr scope outside room ts x rest → Stops outside rest →
    expr_at (known_of end scope) outside room ts ≡ Ok (operand_of x, rest)
expr_reads scope end outside room ts x rest i stop =
    ap (λ (read : Reader). read ts) (expr_is (known_of end scope) outside room)
    ∙ sum_reads scope end room (all_below scope end room) outside ts x rest i stop
