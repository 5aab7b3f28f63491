-- Heights once a tree is exchanged: only the path and the new tree count.
use Rattle.std.proofs.Common.{◌≡◌, ℕ, zero, suc, ◌+◌, ◌<◌, ◌≤◌, List, [], ◌∷◌, Some, ap, arith, length}
use Rattle.fx_model.specs.Tree.{Tree, Literal, Input, State, Temp, Negation, Sum, Difference, Product, Quotient}
use Rattle.fx_model.specs.Paths.{height, child, subtree, child_changed, put}
use Rattle.fx_model.proofs.Options.{some_then}

pub height_above : (e : Tree) → 0 < height e
height_above (Literal c) = omega arith
height_above (Input k) = omega arith
height_above (State k) = omega arith
height_above (Temp k) = omega arith
height_above (Negation a) = omega arith
height_above (Sum a b) = omega arith
height_above (Difference a b) = omega arith
height_above (Product a b) = omega arith
height_above (Quotient a b) = omega arith

-- an operand is lower
child_lower : (d : ℕ) (e a : Tree) → child d e ≡ Some a → height a < height e
child_lower zero (Negation c) a i = let e : c ≡ a = cc in let h : height c ≡ height a = ap height e in omega arith
child_lower zero (Sum c b) a i = let e : c ≡ a = cc in let h : height c ≡ height a = ap height e in omega arith
child_lower zero (Difference c b) a i = let e : c ≡ a = cc in let h : height c ≡ height a = ap height e in omega arith
child_lower zero (Product c b) a i = let e : c ≡ a = cc in let h : height c ≡ height a = ap height e in omega arith
child_lower zero (Quotient c b) a i = let e : c ≡ a = cc in let h : height c ≡ height a = ap height e in omega arith
child_lower (suc zero) (Sum b c) a i = let e : c ≡ a = cc in let h : height c ≡ height a = ap height e in omega arith
child_lower (suc zero) (Difference b c) a i =
    let e : c ≡ a = cc in let h : height c ≡ height a = ap height e in omega arith
child_lower (suc zero) (Product b c) a i =
    let e : c ≡ a = cc in let h : height c ≡ height a = ap height e in omega arith
child_lower (suc zero) (Quotient b c) a i =
    let e : c ≡ a = cc in let h : height c ≡ height a = ap height e in omega arith
child_lower _ e a i = absurd cc

-- a changed operand is lower than the changed tree
changed_lower : (d : ℕ) (e a : Tree) (f : Tree → Tree) → child d e ≡ Some a →
    height (f a) < height (child_changed d f e)
changed_lower zero (Negation c) a f i =
    let e : c ≡ a = cc in let h : height (f c) ≡ height (f a) = ap (λ t. height (f t)) e in omega arith
changed_lower zero (Sum c b) a f i =
    let e : c ≡ a = cc in let h : height (f c) ≡ height (f a) = ap (λ t. height (f t)) e in omega arith
changed_lower zero (Difference c b) a f i =
    let e : c ≡ a = cc in let h : height (f c) ≡ height (f a) = ap (λ t. height (f t)) e in omega arith
changed_lower zero (Product c b) a f i =
    let e : c ≡ a = cc in let h : height (f c) ≡ height (f a) = ap (λ t. height (f t)) e in omega arith
changed_lower zero (Quotient c b) a f i =
    let e : c ≡ a = cc in let h : height (f c) ≡ height (f a) = ap (λ t. height (f t)) e in omega arith
changed_lower (suc zero) (Sum b c) a f i =
    let e : c ≡ a = cc in let h : height (f c) ≡ height (f a) = ap (λ t. height (f t)) e in omega arith
changed_lower (suc zero) (Difference b c) a f i =
    let e : c ≡ a = cc in let h : height (f c) ≡ height (f a) = ap (λ t. height (f t)) e in omega arith
changed_lower (suc zero) (Product b c) a f i =
    let e : c ≡ a = cc in let h : height (f c) ≡ height (f a) = ap (λ t. height (f t)) e in omega arith
changed_lower (suc zero) (Quotient b c) a f i =
    let e : c ≡ a = cc in let h : height (f c) ≡ height (f a) = ap (λ t. height (f t)) e in omega arith
changed_lower _ e a f i = absurd cc

-- a tree with a low operand in place of another stays low
changed_low : (d n : ℕ) (e a : Tree) (f : Tree → Tree) → child d e ≡ Some a → height e ≤ suc n → height (f a) ≤ n →
    height (child_changed d f e) ≤ suc n
changed_low zero n (Negation c) a f i p q =
    let e : c ≡ a = cc in let h : height (f c) ≡ height (f a) = ap (λ t. height (f t)) e in omega arith
changed_low zero n (Sum c b) a f i p q =
    let e : c ≡ a = cc in let h : height (f c) ≡ height (f a) = ap (λ t. height (f t)) e in omega arith
changed_low zero n (Difference c b) a f i p q =
    let e : c ≡ a = cc in let h : height (f c) ≡ height (f a) = ap (λ t. height (f t)) e in omega arith
changed_low zero n (Product c b) a f i p q =
    let e : c ≡ a = cc in let h : height (f c) ≡ height (f a) = ap (λ t. height (f t)) e in omega arith
changed_low zero n (Quotient c b) a f i p q =
    let e : c ≡ a = cc in let h : height (f c) ≡ height (f a) = ap (λ t. height (f t)) e in omega arith
changed_low (suc zero) n (Sum b c) a f i p q =
    let e : c ≡ a = cc in let h : height (f c) ≡ height (f a) = ap (λ t. height (f t)) e in omega arith
changed_low (suc zero) n (Difference b c) a f i p q =
    let e : c ≡ a = cc in let h : height (f c) ≡ height (f a) = ap (λ t. height (f t)) e in omega arith
changed_low (suc zero) n (Product b c) a f i p q =
    let e : c ≡ a = cc in let h : height (f c) ≡ height (f a) = ap (λ t. height (f t)) e in omega arith
changed_low (suc zero) n (Quotient b c) a f i p q =
    let e : c ≡ a = cc in let h : height (f c) ≡ height (f a) = ap (λ t. height (f t)) e in omega arith
changed_low _ n e a f i p q = absurd cc

-- where a low tree was, the new one is low if its path and its own height are
pub low_after : (path : List ℕ) (n : ℕ) (e old new : Tree) → subtree path e ≡ Some old → height e ≤ n →
    length path + height new ≤ n → height (put path new e) ≤ n
low_after [] n e old new i p q = omega arith
low_after (d ∷ ds) zero e old new i p q = absurd (omega arith)
low_after (d ∷ ds) (suc n) e old new i p q =
    let s = some_then (subtree ds) (child d e) old i in
    let l = child_lower d e s.0 s.1 in
    changed_low d n e s.0 (put ds new) s.1 p (low_after ds n s.0 old new s.2 (omega arith) (omega arith))

-- and only then
pub high_after : (path : List ℕ) (e old new : Tree) → subtree path e ≡ Some old →
    length path + height new ≤ height (put path new e)
high_after [] e old new i = omega arith
high_after (d ∷ ds) e old new i =
    let s = some_then (subtree ds) (child d e) old i in
    let h = high_after ds s.0 old new s.2 in let l = changed_lower d e s.0 (put ds new) s.1 in omega arith
