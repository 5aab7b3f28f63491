-- Products and quotients of words of at most 32 bits, which fit 64.
use Rattle.std.proofs.Common.{◌≡◌, ◌≢◌, ℕ, zero, suc, ◌-◌, ◌*◌, ◌^◌, ◌≤◌, List, [], ◌∷◌, length, map, All, refl, sym, ap, ap₂, subst, ◌∙◌, arith, pos, negsuc, ℤ, ◌+ℤ◌, ◌*ℤ◌, int_div, FitsSigned, Some}
use Rattle.std.specs.Int.{w32, w64}
use Rattle.std.specs.Simd.Lanes.{zip2}
use Rattle.std.proofs.lemmas.List.{length-map}
use Rattle.std.proofs.lemmas.List.Elements.{All-head, All-tail, All-weaker, All-nil, All-cons}
use Rattle.fx_model.specs.Machine.{Round, IsWord, half, rounded, floor_divided}
use Rattle.fx_model.proofs.Wide.{product_half_wide}
use Rattle.fx_word.specs.Words.{IsSomeWord}
use Rattle.fx_word.proofs.Fits.{fits_64}
use Rattle.fx_lanes.specs.WordsSideBySide.{IsNarrow, AreLanes, CanDivide, multiplied, divided}
use Rattle.fx_lanes.proofs.Numbers.{word_fits}
use Rattle.fx_lanes.proofs.Lanewise.{Gives, gives, gives_again, both_many}

words_fit : {n : ℕ} {held ws : List ℤ} → n ≤ 32 → Gives n held ws → All (FitsSigned w32) held
words_fit {n} {held} le h = All-weaker (IsWord n) (FitsSigned w32) (λ v. word_fits w32 n v le) held h.are.words

-- ---- products
each_rounded : (r : Round) (s : ℕ) (xs ys : List ℤ) →
    map (λ x. rounded r x (pos s)) (zip2 ◌*ℤ◌ xs ys) ≡ multiplied r s xs ys
each_rounded r s [] ys = refl
each_rounded r s (x ∷ xs) [] = refl
each_rounded r s (x ∷ xs) (y ∷ ys) = ap (λ zs. rounded r (x *ℤ y) (pos s) ∷ zs) (each_rounded r s xs ys)

-- the products p of two vectors, and q, which are these rounded
module _ {n : ℕ} (r : Round) (s : ℕ) {xs vs ys us p q : List ℤ} (e : xs ≡ vs) (k : ys ≡ us) (g : AreLanes n xs)
    (h : AreLanes n ys) (ep : p ≡ zip2 ◌*ℤ◌ xs ys) (eq : q ≡ map (λ x. rounded r x (pos s)) p)
    (all : All (IsWord n) (multiplied r s vs us)) where
  products_are : Gives n q (multiplied r s vs us)
  products_are = gives n q (multiplied r s vs us)
      (eq ∙ ap (map (λ x. rounded r x (pos s))) (ep ∙ ap₂ (zip2 ◌*ℤ◌) e k) ∙ each_rounded r s vs us)
      (both_many (λ x y. rounded r (x *ℤ y) (pos s)) e k g.many h.many) all

  pub products_fit : n ≤ 32 → All (FitsSigned w32) q
  products_fit le = words_fit le products_are

  pub products_narrowed : {z : List ℤ} → z ≡ q → Gives n z (multiplied r s vs us)
  products_narrowed ez = gives_again ez products_are

-- room for a half
pub room : {n : ℕ} (s : ℕ) → IsNarrow n → s ≤ 2 * n - 2 → {xs ys p : List ℤ} → p ≡ zip2 ◌*ℤ◌ xs ys → AreLanes n xs →
    AreLanes n ys → All (FitsSigned w64) (map (λ x. x +ℤ half (pos s)) p)
room {n} s width le {xs} {ys} e g h =
    subst (λ zs. All (FitsSigned w64) (map (λ x. x +ℤ half (pos s)) zs)) (sym e) (by xs ys g.words h.words)
  where
    by : (xs ys : List ℤ) → All (IsWord n) xs → All (IsWord n) ys →
        All (FitsSigned w64) (map (λ x. x +ℤ half (pos s)) (zip2 ◌*ℤ◌ xs ys))
    by [] ys g h = All-nil (FitsSigned w64)
    by (x ∷ xs) [] g h = All-nil (FitsSigned w64)
    by (x ∷ xs) (y ∷ ys) g h =
        let double =
        product_half_wide n s x y width.least (All-head (IsWord n) x xs g) (All-head (IsWord n) y ys h) le in
        All-cons (FitsSigned w64) _ _ (fits_64 (2 * n) _ (let l = width.most in omega arith) double)
        (by xs ys (All-tail (IsWord n) x xs g) (All-tail (IsWord n) y ys h))

-- ---- quotients
record Divides (n : ℕ) (p y : ℤ) : Type 0 where
  pub some : y ≢ pos 0
  pub word : IsWord n (int_div p y)
  pub gives : floor_divided p y ≡ Some (int_div p y)

divides : (n : ℕ) (p y : ℤ) → IsSomeWord n (floor_divided p y) → Divides n p y
divides n p (pos zero) h = absurd cc
divides n p (pos (suc m)) h = record { some = λ e. absurd cc; word = h; gives = refl }
divides n p (negsuc m) h = record { some = λ e. absurd cc; word = h; gives = refl }

-- what each division of words gives
divides_first : (n s : ℕ) (x y : ℤ) (xs ys : List ℤ) → All (IsSomeWord n) (divided s (x ∷ xs) (y ∷ ys)) →
    Divides n (x *ℤ pos (2 ^ s)) y
divides_first n s x y xs ys h =
    divides n (x *ℤ pos (2 ^ s)) y (All-head (IsSomeWord n) (floor_divided (x *ℤ pos (2 ^ s)) y) (divided s xs ys) h)

others : (n s : ℕ) (x y : ℤ) (xs ys : List ℤ) → All (IsSomeWord n) (divided s (x ∷ xs) (y ∷ ys)) →
    All (IsSomeWord n) (divided s xs ys)
others n s x y xs ys h = All-tail (IsSomeWord n) (floor_divided (x *ℤ pos (2 ^ s)) y) (divided s xs ys) h

can_divide_lanes : (n s : ℕ) → n ≤ 32 → (xs ys : List ℤ) → All (IsSomeWord n) (divided s xs ys) →
    CanDivide (map (λ x. x *ℤ pos (2 ^ s)) xs) ys
can_divide_lanes n s le [] ys h = tt
can_divide_lanes n s le (x ∷ xs) [] h = tt
can_divide_lanes n s le (x ∷ xs) (y ∷ ys) h =
    let d = divides_first n s x y xs ys h in
    ((d.some, fits_64 n _ (omega arith) d.word), can_divide_lanes n s le xs ys (others n s x y xs ys h))

quotients_are_words : (n s : ℕ) (xs ys : List ℤ) → All (IsSomeWord n) (divided s xs ys) →
    All (IsWord n) (zip2 int_div (map (λ x. x *ℤ pos (2 ^ s)) xs) ys)
quotients_are_words n s [] ys h = All-nil (IsWord n)
quotients_are_words n s (x ∷ xs) [] h = All-nil (IsWord n)
quotients_are_words n s (x ∷ xs) (y ∷ ys) h =
    All-cons (IsWord n) _ _ (divides_first n s x y xs ys h).word
    (quotients_are_words n s xs ys (others n s x y xs ys h))

divided_is : (n s : ℕ) (xs ys : List ℤ) → All (IsSomeWord n) (divided s xs ys) →
    map (λ q. Some q) (zip2 int_div (map (λ x. x *ℤ pos (2 ^ s)) xs) ys) ≡ divided s xs ys
divided_is n s [] ys h = refl
divided_is n s (x ∷ xs) [] h = refl
divided_is n s (x ∷ xs) (y ∷ ys) h =
    ap₂ ◌∷◌ (sym (divides_first n s x y xs ys h).gives) (divided_is n s xs ys (others n s x y xs ys h))

-- the dividends p, that are the words of a vector times 2^s
pub can_divide : (n s : ℕ) → n ≤ 32 → {xs vs ys us p : List ℤ} → xs ≡ vs → ys ≡ us →
    p ≡ map (λ x. x *ℤ pos (2 ^ s)) xs → All (IsSomeWord n) (divided s vs us) → CanDivide p ys
can_divide n s le {xs} {vs} {ys} {us} {p} e k ep h =
    subst (CanDivide p) (sym k)
    (subst (λ zs. CanDivide zs us) (sym (ep ∙ ap (map (λ x. x *ℤ pos (2 ^ s))) e))
    (can_divide_lanes n s le vs us h))

pub record Quotients (n s : ℕ) (vs us q : List ℤ) : Type 0 where
  pub some : map (λ x. Some x) q ≡ divided s vs us
  pub are : AreLanes n q

-- and q, which are the quotients
module _ {n : ℕ} (s : ℕ) {xs vs ys us p q : List ℤ} (e : xs ≡ vs) (k : ys ≡ us) (g : AreLanes n xs) (h : AreLanes n ys)
    (ep : p ≡ map (λ x. x *ℤ pos (2 ^ s)) xs) (eq : q ≡ zip2 int_div p ys) (all : All (IsSomeWord n) (divided s vs us))
  where
    quotients_are : Gives n q (zip2 int_div (map (λ x. x *ℤ pos (2 ^ s)) vs) us)
    quotients_are =
        let f = ep ∙ ap (map (λ x. x *ℤ pos (2 ^ s))) e in
        let many : length p ≡ 16 = ap length ep ∙ length-map xs (λ x. x *ℤ pos (2 ^ s)) ∙ g.many in
        gives n q _ (eq ∙ ap₂ (zip2 int_div) f k) (both_many int_div f k many h.many) (quotients_are_words n s vs us all)

    pub quotients_fit : n ≤ 32 → All (FitsSigned w32) q
    quotients_fit le = words_fit le quotients_are

    pub quotients_narrowed : {z : List ℤ} → z ≡ q → Quotients n s vs us z
    quotients_narrowed ez =
        let again = gives_again ez quotients_are in
        record { some = ap (map (λ x. Some x)) again.is ∙ divided_is n s vs us all; are = again.are }
