-- The words of the C text, each told by one of its bytes: types, and what stands behind a cast.
use Rattle.std.proofs.Common.{◌≡◌, ℕ, nat_eq, cond, Bool, true, false, List, ◌∷◌, ◌++◌, get_or, refl, sym, ap, ◌∙◌, codes, append_assoc}
use Rattle.std.specs.Char.{is_ascii_digit}
use Rattle.std.proofs.Common.{arith}
use Rattle.fx_statements.specs.Statements.{Size, Operator, Plus, Minus, Times, Over}
use Rattle.fx_statements.specs.RustText.{operator_text}
use Rattle.fx_statements.proofs.Fronts.{told}
use Rattle.fx_statements.proofs.Expressions.{told_size}
use Rattle.fx_c99.specs.CText.{type_text, working_text}

-- ---- the types to compute in
pub data Working : Type 0 where
  In32 In64 In128 : Working

unfoldable pub working : ℕ → Working
working b = cond (nat_eq b 32) In32 (cond (nat_eq b 64) In64 In128)

unfoldable pub text_of : Working → List ℕ
text_of In32 = codes "int32_t"
text_of In64 = codes "int64_t"
text_of In128 = codes "fixd_wide"

pub working_is : (b : ℕ) → working_text b ≡ text_of (working b)
unfolding working text_of
working_is b = by (nat_eq b 32) (nat_eq b 64)
  where
    by : (x y : Bool) → cond x (codes "int32_t") (cond y (codes "int64_t") (codes "fixd_wide"))
        ≡ text_of (cond x In32 (cond y In64 In128))
    by true y = refl
    by false true = refl
    by false false = refl

working_back : ℕ → Working
working_back n = cond (nat_eq n 51) In32 (cond (nat_eq n 54) In64 In128)

working_at : (a : Working) (r : List ℕ) → working_back (get_or (text_of a ++ r) 3 0) ≡ a
unfolding text_of working_back
working_at In32 r = refl
working_at In64 r = refl
working_at In128 r = refl

pub one_working : (b c : ℕ) (r s : List ℕ) → working_text b ++ r ≡ working_text c ++ s → r ≡ s
one_working b c r s h =
    (told text_of working_back 3 working_at (working b) (working c) r s
    (ap (λ t. t ++ r) (sym (working_is b)) ∙ h ∙ ap (λ t. t ++ s) (working_is c))).1

-- ---- the types of names
pub one_type : (a b : Size) (r s : List ℕ) → type_text a ++ r ≡ type_text b ++ s → (a ≡ b) × (r ≡ s)
one_type = told_size type_text 3 (λ r. refl) (λ r. refl) (λ r. refl) (λ r. refl)

-- ---- operators, behind a space
unfoldable pub sign : Operator → ℕ
sign Plus = 43
sign Minus = 45
sign Times = 42
sign Over = 47

pub operator_is : (o : Operator) (r : List ℕ) → operator_text o ++ r ≡ 32 ∷ sign o ∷ 32 ∷ r
unfolding sign
operator_is Plus r = refl
operator_is Minus r = refl
operator_is Times r = refl
operator_is Over r = refl

-- ---- the kind of an expression, by its first bytes: a name, a number, a negation, an operation, a call
unfoldable pub leaf : ℕ → ℕ
leaf c = cond (nat_eq c 119) 0 1

unfoldable pub kind_back : List ℕ → ℕ
kind_back t =
    let a = get_or t 0 0 in let b = get_or t 1 0 in
    cond (nat_eq a 102) 5 (cond (nat_eq b 45) 3 (cond (nat_eq b 105) (leaf (get_or t 9 0))
    (cond (nat_eq b 102) (cond (nat_eq (get_or t 6 0) 119) (leaf (get_or t 11 0)) 4) 4)))

-- behind a cast
pub cast_kind : (a : Working) (x : List ℕ) →
    kind_back (40 ∷ (text_of a ++ (41 ∷ x))) ≡ leaf (get_or x 0 0)
unfolding text_of kind_back leaf
cast_kind In32 x = refl
cast_kind In64 x = refl
cast_kind In128 x = refl

pub digit_leaf : (c : ℕ) → is_ascii_digit c ≡ true → leaf c ≡ 1
unfolding leaf
digit_leaf c h = grind arith

-- behind a parenthesis that no type stands in
pub call_kind : (x : List ℕ) → get_or x 0 0 ≡ 102 → get_or x 5 0 ≡ 102 → kind_back (40 ∷ x) ≡ 4
unfolding kind_back
call_kind x e f =
    ap (λ (b : ℕ). cond (nat_eq b 45) 3 (cond (nat_eq b 105) (leaf (get_or x 8 0))
    (cond (nat_eq b 102) (cond (nat_eq (get_or x 5 0) 119) (leaf (get_or x 10 0)) 4) 4))) e
    ∙ ap (λ (b : ℕ). cond (nat_eq b 119) (leaf (get_or x 10 0)) 4) f

pub paren_kind : (x : List ℕ) → get_or x 0 0 ≡ 40 → kind_back (40 ∷ x) ≡ 4
unfolding kind_back
paren_kind x e =
    ap (λ (b : ℕ). cond (nat_eq b 45) 3 (cond (nat_eq b 105) (leaf (get_or x 8 0))
    (cond (nat_eq b 102) (cond (nat_eq (get_or x 5 0) 119) (leaf (get_or x 10 0)) 4) 4))) e

-- a cast, with what stands behind it
pub cast_is : (b : ℕ) (x r : List ℕ) →
    (codes "(" ++ (working_text b ++ (codes ")" ++ x))) ++ r ≡ 40 ∷ (text_of (working b) ++ (41 ∷ (x ++ r)))
cast_is b x r =
    ap (λ t. 40 ∷ t) (append_assoc (working_text b) (codes ")" ++ x) r
    ∙ ap (λ t. t ++ (41 ∷ (x ++ r))) (working_is b))
