-- Operations in a row to the right of a tree; how expressions begin, and that each takes a token.
use Rattle.std.proofs.Common.{◌≡◌, ℕ, ◌<◌, Bool, false, length, refl, sym, subst, arith}
use Rattle.std.specs.Prelude.{◌&&◌, ◌||◌}
use Rattle.fx_model.specs.Tree.{Tree, Sum, Difference, Product, Quotient}
use Rattle.fx_lexer.specs.Tokens.{Lexeme}
use Rattle.fx_grammar.specs.declared.head.Head.{Head}
use Rattle.fx_grammar.specs.declared.head.Head.TheVariants as heads
use Rattle.fx_grammar.specs.Heads.{◌==ₕ◌}
use Rattle.fx_grammar.specs.Steps.{Tokens, next_head, is_fresh}
use Rattle.fx_syntax.specs.Leaves.{IsNext, IsMark}
use Rattle.fx_syntax.specs.Runs.{IsRun, over, more}
use Rattle.fx_syntax.specs.Expressions.{Scope, IsExpr, one_term, sum, difference, IsTerm, one_factor, product, quotient, IsFactor, one_atom, negative, negation as negated_atom, IsAtom, number, name, parens}
use Rattle.fx_syntax.proofs.Marks.{next_head_is, next_shorter}

-- ---- runs of terms and of factors, to the right of a tree

pub data IsMoreSum (scope : Scope) (outside : Bool) (room : ℕ) : Tree → Tokens → Tree → Tokens → Type 0 where
  plus : {ts us rest : Tokens} {x y : Tree} → IsMark heads.Plus ts us → IsTerm scope room us y rest →
      IsMoreSum scope outside room x ts (Sum x y) rest
  less : {ts us rest : Tokens} {x y : Tree} → IsMark heads.Minus ts us → (outside && is_fresh ts) ≡ false →
      IsTerm scope room us y rest → IsMoreSum scope outside room x ts (Difference x y) rest

pub data IsMoreProduct (scope : Scope) (room : ℕ) : Tree → Tokens → Tree → Tokens → Type 0 where
  times : {ts us rest : Tokens} {x y : Tree} → IsMark heads.Star ts us → IsFactor scope room us y rest →
      IsMoreProduct scope room x ts (Product x y) rest
  over' : {ts us rest : Tokens} {x y : Tree} → IsMark heads.Slash ts us → IsFactor scope room us y rest →
      IsMoreProduct scope room x ts (Quotient x y) rest

pub sums_fold : {scope : Scope} {outside : Bool} {room : ℕ} {ts : Tokens} {x z : Tree} {us rest : Tokens} →
    IsRun (IsMoreSum scope outside room) x us z rest → IsExpr scope outside room ts x us →
    IsExpr scope outside room ts z rest
sums_fold over e = e
sums_fold (more (plus n t) others) e = sums_fold others (sum e n t)
sums_fold (more (less n f t) others) e = sums_fold others (difference e n f t)

pub products_fold : {scope : Scope} {room : ℕ} {ts : Tokens} {x z : Tree} {us rest : Tokens} →
    IsRun (IsMoreProduct scope room) x us z rest → IsTerm scope room ts x us → IsTerm scope room ts z rest
products_fold over e = e
products_fold (more (times n t) others) e = products_fold others (product e n t)
products_fold (more (over' n t) others) e = products_fold others (quotient e n t)

-- ---- lengths

mutual
  pub expr_shorter : {scope : Scope} {outside : Bool} {room : ℕ} {ts : Tokens} {x : Tree} {rest : Tokens} →
      IsExpr scope outside room ts x rest → length rest < length ts
  expr_shorter (one_term i) = term_shorter i
  expr_shorter (sum e n t) =
      let a = expr_shorter e in let b = next_shorter n.next in let c = term_shorter t in omega arith
  expr_shorter (difference e n f t) =
      let a = expr_shorter e in let b = next_shorter n.next in let c = term_shorter t in omega arith

  pub term_shorter : {scope : Scope} {room : ℕ} {ts : Tokens} {x : Tree} {rest : Tokens} → IsTerm scope room ts x rest →
      length rest < length ts
  term_shorter (one_factor i) = factor_shorter i
  term_shorter (product e n t) =
      let a = term_shorter e in let b = next_shorter n.next in let c = factor_shorter t in omega arith
  term_shorter (quotient e n t) =
      let a = term_shorter e in let b = next_shorter n.next in let c = factor_shorter t in omega arith

  pub factor_shorter : {scope : Scope} {room : ℕ} {ts : Tokens} {x : Tree} {rest : Tokens} →
      IsFactor scope room ts x rest → length rest < length ts
  factor_shorter (one_atom i) = atom_shorter i
  factor_shorter (negative n i) = let a = next_shorter n.next in let b = next_shorter i.next in omega arith
  factor_shorter (negated_atom n f i) = let a = next_shorter n.next in let b = atom_shorter i in omega arith

  pub atom_shorter : {scope : Scope} {room : ℕ} {ts : Tokens} {x : Tree} {rest : Tokens} → IsAtom scope room ts x rest →
      length rest < length ts
  atom_shorter (number i) = next_shorter i.next
  atom_shorter (name n c m) = next_shorter n
  atom_shorter (parens n e c) =
      let a = next_shorter n.next in let b = expr_shorter e in let d = next_shorter c.next in omega arith

pub more_sum_shorter : (scope : Scope) (outside : Bool) (room : ℕ) (x : Tree) (ts : Tokens) (z : Tree) (us : Tokens) →
    IsMoreSum scope outside room x ts z us → length us < length ts
more_sum_shorter scope outside room x ts z us (plus n t) =
    let a = next_shorter n.next in let b = term_shorter t in omega arith
more_sum_shorter scope outside room x ts z us (less n f t) =
    let a = next_shorter n.next in let b = term_shorter t in omega arith

pub more_product_shorter : (scope : Scope) (room : ℕ) (x : Tree) (ts : Tokens) (z : Tree) (us : Tokens) →
    IsMoreProduct scope room x ts z us → length us < length ts
more_product_shorter scope room x ts z us (times n t) =
    let a = next_shorter n.next in let b = factor_shorter t in omega arith
more_product_shorter scope room x ts z us (over' n t) =
    let a = next_shorter n.next in let b = factor_shorter t in omega arith

-- ---- how an expression begins

-- neither a semicolon nor an operation but a minus stands here
pub record FollowsChain (ts : Tokens) : Type 0 where
  pub semicolon : (next_head ts ==ₕ heads.Semicolon) ≡ false
  pub term : ((next_head ts ==ₕ heads.Star) || (next_head ts ==ₕ heads.Slash)) ≡ false
  pub plus : (next_head ts ==ₕ heads.Plus) ≡ false

pub follows : (ts : Tokens) (h : Head) → next_head ts ≡ h → (h ==ₕ heads.Semicolon) ≡ false →
    ((h ==ₕ heads.Star) || (h ==ₕ heads.Slash)) ≡ false → (h ==ₕ heads.Plus) ≡ false → FollowsChain ts
follows ts h e a b c = record {
  semicolon = subst (λ g. (g ==ₕ heads.Semicolon) ≡ false) (sym e) a;
  term = subst (λ g. ((g ==ₕ heads.Star) || (g ==ₕ heads.Slash)) ≡ false) (sym e) b;
  plus = subst (λ g. (g ==ₕ heads.Plus) ≡ false) (sym e) c;
}

-- an expression begins here: a number, a name, a parenthesis or a minus
pub data BeginsChain (ts : Tokens) : Type 0 where
  begins : (h : Head) → next_head ts ≡ h → (h ==ₕ heads.Val) ≡ false → FollowsChain ts → BeginsChain ts

begin : (h : Head) {ts : Tokens} {t : Lexeme} {us : Tokens} → IsNext h ts t us → (h ==ₕ heads.Val) ≡ false →
    (h ==ₕ heads.Semicolon) ≡ false → ((h ==ₕ heads.Star) || (h ==ₕ heads.Slash)) ≡ false → (h ==ₕ heads.Plus) ≡ false →
    BeginsChain ts
begin h {ts} n v a b c = begins h (next_head_is n) v (follows ts h (next_head_is n) a b c)

atom_begins : {scope : Scope} {room : ℕ} {ts : Tokens} {x : Tree} {rest : Tokens} → IsAtom scope room ts x rest →
    BeginsChain ts
atom_begins (number i) = begin heads.Number i.next refl refl refl refl
atom_begins (name n c m) = begin heads.Name n refl refl refl refl
atom_begins (parens n e c) = begin heads.Open n.next refl refl refl refl

factor_begins : {scope : Scope} {room : ℕ} {ts : Tokens} {x : Tree} {rest : Tokens} → IsFactor scope room ts x rest →
    BeginsChain ts
factor_begins (one_atom i) = atom_begins i
factor_begins (negative n i) = begin heads.Minus n.next refl refl refl refl
factor_begins (negated_atom n f i) = begin heads.Minus n.next refl refl refl refl

term_begins : {scope : Scope} {room : ℕ} {ts : Tokens} {x : Tree} {rest : Tokens} → IsTerm scope room ts x rest →
    BeginsChain ts
term_begins (one_factor i) = factor_begins i
term_begins (product e n t) = term_begins e
term_begins (quotient e n t) = term_begins e

pub expr_begins : {scope : Scope} {outside : Bool} {room : ℕ} {ts : Tokens} {x : Tree} {rest : Tokens} →
    IsExpr scope outside room ts x rest → BeginsChain ts
expr_begins (one_term i) = term_begins i
expr_begins (sum e n t) = expr_begins e
expr_begins (difference e n f t) = expr_begins e

pub open_begins : {ts : Tokens} {t : Lexeme} {us : Tokens} → IsNext heads.Open ts t us → BeginsChain ts
open_begins n = begin heads.Open n refl refl refl refl

pub begins_no_val : {ts : Tokens} → BeginsChain ts → (next_head ts ==ₕ heads.Val) ≡ false
begins_no_val (begins h e v f) = subst (λ g. (g ==ₕ heads.Val) ≡ false) (sym e) v

pub begins_follows : {ts : Tokens} → BeginsChain ts → FollowsChain ts
begins_follows (begins h e v f) = f
