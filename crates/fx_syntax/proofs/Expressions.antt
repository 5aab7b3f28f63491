-- Expressions, read and spelled.
use Rattle.std.proofs.Common.{◌≡◌, ◌⊎◌, inl, inr, ℕ, zero, suc, Bool, true, false, [], ◌∷◌, length, drop, Option, Some, None, Ok, refl, sym, ap, subst, ◌∙◌, arith}
use Rattle.std.specs.Prelude.{◌&&◌, not}
use Rattle.std.proofs.lemmas.Bool.{and_parts, or_cases, not-true}
use Rattle.fx_model.specs.Tree.{Tree, Negation, Sum, Difference, Product, Quotient}
use Rattle.fx_lexer.specs.declared.fault.SourceFault.{SourceFault}
use Rattle.fx_lexer.specs.Tokens.{Lexeme}
use Rattle.fx_grammar.specs.declared.head.Head.{Head}
use Rattle.fx_grammar.specs.declared.head.Head.TheVariants as heads
use Rattle.fx_grammar.specs.Heads.{head_of, ◌==ₕ◌}
use Rattle.fx_grammar.specs.Steps.{Tokens, next_head, is_fresh, decimal, negative_decimal, name_place, repeated}
use Rattle.fx_grammar.specs.Operands.{Operand, leaf, negation, combined_operand}
use Rattle.fx_grammar.specs.Expressions.{Known, Reader, is_call, found_name, named, closed, opened, atom_by, atom_of, behind_minus, factor_of, one_more, goes_on_product, goes_on_sum, term_of, sum_from, expr_at}
use Rattle.fx_syntax.specs.Expressions.{Scope, all_names, literal_tree, IsExpr, one_term, IsTerm, one_factor, IsFactor, one_atom, negative, negation as negated_atom, IsAtom, number, name, parens}
use Rattle.fx_syntax.proofs.Outcomes.{OnOk, done, failed, and_then, choose, weaken}
use Rattle.fx_syntax.proofs.Marks.{mark, same_head, next_is, want_spells}
use Rattle.fx_syntax.proofs.Repeats.{Seen, Any, keeps_any, when_choose, repeat_spells, repeat_ends}
use Rattle.fx_syntax.proofs.Chains.{IsMoreSum, plus, less, IsMoreProduct, times, over', sums_fold, products_fold, more_sum_shorter}
use Rattle.fx_syntax.proofs.Operands.{operand_of, negation_is, IsOperationOf, joined_is}
use Rattle.fx_syntax.proofs.Names.{known_of, meant_spells, leaf_is}

-- ---- what is read is in the grammar

-- what is read in a parenthesis is
abbrev pub Inner : Scope → ℕ → Known → Option Reader → Type 0
Inner scope room known inner = (expr : Reader) → inner ≡ Some expr →
    (r : ℕ) × (room ≡ suc r) × ((ts : Tokens) → OnOk (Seen operand_of (IsExpr scope false r ts)) (expr ts))

module _ (scope : Scope) (end room : ℕ) (inner : Option Reader)
    (inside : Inner scope room (known_of end scope) inner) where
  known : Known
  known = known_of end scope

  named_spells : (t : Lexeme) (ts : Tokens) → head_of t ≡ heads.Name →
      OnOk (Seen operand_of (IsAtom scope room (t ∷ ts))) (named (known_of end scope) t ts)
  named_spells t ts h = choose (is_call ts) (λ e. failed) (λ e. by (name_place (all_names scope) t.text) refl e)
    where
      by : (o : Option ℕ) → name_place (all_names scope) t.text ≡ o → is_call ts ≡ false →
          OnOk (Seen operand_of (IsAtom scope room (t ∷ ts))) (found_name (known_of end scope) t o ts)
      by None p e = failed
      by (Some k) p e =
          let m = meant_spells end scope t.text k p in
          done (record {
            value = m.tree;
            same = ap (λ x. leaf x 0) m.same ∙ leaf_is scope t.text m.tree m.is;
            is = name (record { tokens = refl; is = h }) e m.is;
          })

  opened_spells : (t : Lexeme) (ts : Tokens) → head_of t ≡ heads.Open →
      OnOk (Seen operand_of (IsAtom scope room (t ∷ ts))) (opened (known_of end scope) inner t ts)
  unfolding opened closed
  opened_spells t ts h = by inner refl
    where
      by : (o : Option Reader) → inner ≡ o →
          OnOk (Seen operand_of (IsAtom scope room (t ∷ ts))) (opened (known_of end scope) o t ts)
      by None p = failed
      by (Some expr) p =
          let i = inside expr p in
          and_then (i.2 ts) (λ x seen.
          and_then (want_spells end heads.Close x.1) (λ c n.
          done (record {
            value = seen.value;
            same = seen.same;
            is =
                subst (λ r. IsAtom scope r (t ∷ ts) seen.value c.1) (sym i.1)
                (parens (mark (record { tokens = refl; is = h })) seen.is (mark n));
          })))

  atom_spells : (ts : Tokens) → OnOk (Seen operand_of (IsAtom scope room ts)) (atom_of (known_of end scope) inner ts)
  unfolding atom_of
  atom_spells [] = failed
  atom_spells (t ∷ ts) = by (head_of t) refl
    where
      by : (h : Head) → head_of t ≡ h →
          OnOk (Seen operand_of (IsAtom scope room (t ∷ ts))) (atom_by (known_of end scope) inner t ts h)
      by heads.Number e =
          done (record {
            value = literal_tree (decimal t.text);
            same = refl;
            is = number (record { number = t; next = record { tokens = refl; is = e }; value = refl });
          })
      by heads.Name e = named_spells t ts e
      by heads.Open e = opened_spells t ts e
      by _ e = failed

  factor_spells : (ts : Tokens) →
      OnOk (Seen operand_of (IsFactor scope room ts)) (factor_of (known_of end scope) inner ts)
  unfolding factor_of behind_minus
  factor_spells ts = when_choose _ _ (next_head ts ==ₕ heads.Minus)
      (λ e. let s = next_is ts heads.Minus (same_head _ _ e) refl in
      when_choose _ _ (next_head (drop 1 ts) ==ₕ heads.Number)
      (λ e. and_then (want_spells end heads.Number (drop 1 ts)) (λ t n.
      done (record {
        value = literal_tree (negative_decimal (decimal t.0.text));
        same = refl;
        is = negative (mark s.1) (record { number = t.0; next = n; value = refl });
      })))
      (λ e. and_then (atom_spells (drop 1 ts)) (λ x seen.
      done (record {
        value = Negation seen.value;
        same = ap negation seen.same ∙ negation_is seen.value;
        is = negated_atom (mark s.1) e seen.is;
      }))))
      (λ e. weaken (λ x seen. record { value = seen.value; same = seen.same; is = one_atom seen.is }) (atom_spells ts))

  -- ---- chains
  -- one operand more behind x, by a sign
  joined_spells : {Is : Tree → Tokens → Type 0} (g sign : Head) (x v z : Tree) (y : Operand × Tokens) → g ≡ sign →
      y.0 ≡ operand_of v → IsOperationOf sign x v z → Is z y.1
      → OnOk {E = SourceFault} (Seen operand_of Is) (Ok (combined_operand g (operand_of x) y.0, y.1))
  joined_spells g sign x v z y h same i is = done (record {
    value = z;
    same = ap (λ g. combined_operand g (operand_of x) y.0) h ∙ ap (combined_operand sign (operand_of x)) same
        ∙ joined_is sign x v z i;
    is = is;
  })

  more_product : (x : Tree) → Any x → (ts : Tokens) → goes_on_product (operand_of x) ts ≡ true →
      OnOk (Seen operand_of (IsMoreProduct scope room x ts))
      (one_more (factor_of (known_of end scope) inner) (operand_of x) ts)
  more_product x any ts on =
      and_then (factor_spells (drop 1 ts))
      (λ y seen. by y seen (or_cases (next_head ts ==ₕ heads.Star) (next_head ts ==ₕ heads.Slash) on))
    where
      by : (y : Operand × Tokens) → Seen operand_of (IsFactor scope room (drop 1 ts)) y →
          ((next_head ts ==ₕ heads.Star) ≡ true) ⊎ ((next_head ts ==ₕ heads.Slash) ≡ true)
          → OnOk {E = SourceFault} (Seen operand_of (IsMoreProduct scope room x ts))
          (Ok (combined_operand (next_head ts) (operand_of x) y.0, y.1))
      by y seen (inl e) =
          joined_spells (next_head ts) heads.Star x seen.value (Product x seen.value) y (same_head _ _ e) seen.same
          (record { tree = refl; height = refl; size = refl })
          (times (mark (next_is ts heads.Star (same_head _ _ e) refl).1) seen.is)
      by y seen (inr e) =
          joined_spells (next_head ts) heads.Slash x seen.value (Quotient x seen.value) y (same_head _ _ e) seen.same
          (record { tree = refl; height = refl; size = refl })
          (over' (mark (next_is ts heads.Slash (same_head _ _ e) refl).1) seen.is)

  term_spells : (ts : Tokens) → OnOk (Seen operand_of (IsTerm scope room ts)) (term_of (known_of end scope) inner ts)
  unfolding term_of
  term_spells ts =
      and_then (factor_spells ts) (λ x first.
      subst (λ s. OnOk (Seen operand_of (IsTerm scope room ts))
      (repeated goes_on_product (one_more (factor_of (known_of end scope) inner)) s x.1)) (sym first.same)
      (weaken (λ y others. record {
        value = others.value;
        same = others.same;
        is = products_fold others.is (one_factor first.is);
      })
      (repeat_spells operand_of Any (IsMoreProduct scope room) goes_on_product
      (one_more (factor_of (known_of end scope) inner)) more_product (keeps_any (IsMoreProduct scope room))
      (suc (length x.1)) first.value (tt {0}) x.1)))

  -- the sign of a sum that goes on
  more_sum : (outside : Bool) (x : Tree) → Any x → (ts : Tokens) → goes_on_sum outside (operand_of x) ts ≡ true →
      OnOk (Seen operand_of (IsMoreSum scope outside room x ts))
      (one_more (term_of (known_of end scope) inner) (operand_of x) ts)
  more_sum outside x any ts on =
      and_then (term_spells (drop 1 ts))
      (λ y seen. by y seen (or_cases (next_head ts ==ₕ heads.Plus) ((next_head ts ==ₕ heads.Minus) &&
      not (outside && is_fresh ts)) on))
    where
      by : (y : Operand × Tokens) → Seen operand_of (IsTerm scope room (drop 1 ts)) y →
          ((next_head ts ==ₕ heads.Plus) ≡ true) ⊎
          (((next_head ts ==ₕ heads.Minus) && not (outside && is_fresh ts)) ≡ true)
          → OnOk {E = SourceFault} (Seen operand_of (IsMoreSum scope outside room x ts))
          (Ok (combined_operand (next_head ts) (operand_of x) y.0, y.1))
      by y seen (inl e) =
          joined_spells (next_head ts) heads.Plus x seen.value (Sum x seen.value) y (same_head _ _ e) seen.same
          (record { tree = refl; height = refl; size = refl })
          (plus (mark (next_is ts heads.Plus (same_head _ _ e) refl).1) seen.is)
      by y seen (inr e) =
          let both = and_parts _ _ e in
          let h = same_head _ _ both.0 in
          joined_spells (next_head ts) heads.Minus x seen.value (Difference x seen.value) y h seen.same
          (record { tree = refl; height = refl; size = refl })
          (less (mark (next_is ts heads.Minus h refl).1) (not-true _ both.1) seen.is)

  sum_spells : (outside : Bool) (ts : Tokens) →
      OnOk (Seen operand_of (IsExpr scope outside room ts)) (sum_from (known_of end scope) outside inner ts)
  unfolding sum_from
  sum_spells outside ts =
      and_then (term_spells ts) (λ x first.
      subst (λ s. OnOk (Seen operand_of (IsExpr scope outside room ts))
      (repeated (goes_on_sum outside) (one_more (term_of (known_of end scope) inner)) s x.1)) (sym first.same)
      (weaken (λ y others. record {
        value = others.value;
        same = others.same;
        is = sums_fold others.is (one_term first.is);
      })
      (repeat_spells operand_of Any (IsMoreSum scope outside room) (goes_on_sum outside)
      (one_more (term_of (known_of end scope) inner)) (more_sum outside) (keeps_any (IsMoreSum scope outside room))
      (suc (length x.1)) first.value (tt {0}) x.1)))

  sum_ends : (outside : Bool) (ts : Tokens) →
      OnOk (λ y. goes_on_sum outside y.0 y.1 ≡ false) (sum_from (known_of end scope) outside inner ts)
  unfolding sum_from
  sum_ends outside ts =
      and_then (term_spells ts) (λ x first.
      subst (λ s. OnOk (λ y. goes_on_sum outside y.0 y.1 ≡ false)
      (repeated (goes_on_sum outside) (one_more (term_of (known_of end scope) inner)) s x.1)) (sym first.same)
      (repeat_ends operand_of Any (IsMoreSum scope outside room) (goes_on_sum outside)
      (one_more (term_of (known_of end scope) inner)) (more_sum outside) (keeps_any (IsMoreSum scope outside room))
      (more_sum_shorter scope outside room) (suc (length x.1)) first.value (tt {0}) x.1 (omega arith)))

some_is : (a b : Reader) → ◌≡◌ {A = Option Reader} (Some a) (Some b) → a ≡ b
some_is a b e = cc

-- what is read in a parenthesis is an expression of less room
inside_is : (scope : Scope) (end room : ℕ) → ((ts : Tokens) →
    OnOk (Seen operand_of (IsExpr scope false room ts)) (expr_at (known_of end scope) false room ts))
    → Inner scope (suc room) (known_of end scope) (Some (expr_at (known_of end scope) false room))
inside_is scope end room read expr e = (
  room,
  refl,
  λ ts. subst (λ (r : Reader). OnOk (Seen operand_of (IsExpr scope false room ts)) (r ts)) (some_is _ expr e) (read ts),
)

pub expr_spells : (scope : Scope) (end : ℕ) (outside : Bool) (room : ℕ) (ts : Tokens) →
    OnOk (Seen operand_of (IsExpr scope outside room ts)) (expr_at (known_of end scope) outside room ts)
unfolding expr_at
expr_spells scope end outside zero ts = sum_spells scope end zero None (λ expr e. absurd cc) outside ts
expr_spells scope end outside (suc room) ts =
    sum_spells scope end (suc room) (Some (expr_at (known_of end scope) false room))
    (inside_is scope end room (expr_spells scope end false room)) outside ts

-- behind what was read nothing goes on
pub expr_ends : (scope : Scope) (end : ℕ) (outside : Bool) (room : ℕ) (ts : Tokens) →
    OnOk (λ y. goes_on_sum outside y.0 y.1 ≡ false) (expr_at (known_of end scope) outside room ts)
unfolding expr_at
expr_ends scope end outside zero ts = sum_ends scope end zero None (λ expr e. absurd cc) outside ts
expr_ends scope end outside (suc room) ts =
    sum_ends scope end (suc room) (Some (expr_at (known_of end scope) false room))
    (inside_is scope end room (expr_spells scope end false room)) outside ts
