-- What the machine's operations give of words side by side, where a vector of w bits holds words of n.
use Rattle.std.proofs.Common.{◌≡◌, ℕ, suc, ◌≤◌, List, [], ◌∷◌, length, map, All, refl, sym, ap, ap₂, subst, ◌∙◌, arith, pos, ℤ, ◌+ℤ◌, ◌-ℤ◌, neg_ℤ, FitsSigned, to_z, of_z}
use Rattle.std.specs.Prelude.{replicate}
use Rattle.std.specs.Int.{Width, w32, int_wrap}
use Rattle.std.specs.Simd.Lanes.{zip2}
use Rattle.std.proofs.lemmas.Int.{ints, to_z-of_z, int_wrap-add_left, int_wrap-add_right, int_wrap-sub_right, int_wrap_fits}
use Rattle.std.proofs.lemmas.Simd.{zip2_splat_left}
use Rattle.std.proofs.lemmas.List.{length-map}
use Rattle.std.proofs.lemmas.List.Elements.{All-head, All-tail, All-replicate}
use Rattle.fx_model.specs.Machine.{Floor, Nearest, IsWord, shifted, rounded}
use Rattle.fx_lanes.specs.WordsSideBySide.{AreLanes, copied}
use Rattle.fx_lanes.proofs.Numbers.{word_fits}
use Rattle.fx_lanes.proofs.Sixteen.{sides_many}
use mir.Val.{hbits}

-- a vector holds these words, sixteen of n bits
pub record Gives (n : ℕ) (held ws : List ℤ) : Type 0 where
  pub is : held ≡ ws
  pub are : AreLanes n held

pub gives : (n : ℕ) (held ws : List ℤ) → held ≡ ws → length ws ≡ 16 → All (IsWord n) ws → Gives n held ws
gives n held ws e many h = record { is = e; are = subst (AreLanes n) (sym e) (record { many = many; words = h }) }

pub same_word : (n : ℕ) (held : List ℤ) (v : ℤ) → held ≡ replicate 16 v → IsWord n v → Gives n held (replicate 16 v)
same_word n held v e h = gives n held (replicate 16 v) e refl (All-replicate (IsWord n) 16 v h)

-- the same words in another vector
pub gives_again : {n : ℕ} {held ws again : List ℤ} → again ≡ held → Gives n held ws → Gives n again ws
gives_again {n} e h = record { is = e ∙ h.is; are = subst (AreLanes n) (sym e) h.are }

-- ---- that there are sixteen
pub both_many : {Z : Type 0} (f : ℤ → ℤ → Z) {xs vs ys us : List ℤ} → xs ≡ vs → ys ≡ us → length xs ≡ 16 →
    length ys ≡ 16 → length (zip2 f vs us) ≡ 16
both_many f {xs} {vs} {ys} {us} e k a b = ap₂ (λ zs ts. length (zip2 f zs ts)) (sym e) (sym k) ∙ sides_many f xs ys a b

pub each_many : (f : ℤ → ℤ) {xs vs : List ℤ} → xs ≡ vs → length xs ≡ 16 → length (map f vs) ≡ 16
each_many f {xs} e a = ap (λ zs. length (map f zs)) (sym e) ∙ length-map xs f ∙ a

-- ---- operations that are made modulo 2^w
-- of numbers that are taken modulo 2^w an operation gives the same
abbrev pub IsWrapped : Width → (ℤ → ℤ → ℤ) → Type 0
IsWrapped w f = (x y : ℤ) → int_wrap w (f (int_wrap w x) (int_wrap w y)) ≡ int_wrap w (f x y)

pub wrapped_sum : (w : Width) → IsWrapped w ◌+ℤ◌
wrapped_sum w x y = int_wrap-add_left w x (int_wrap w y) ∙ int_wrap-add_right w x y

pub wrapped_difference : (w : Width) → IsWrapped w ◌-ℤ◌
wrapped_difference w x y = int_wrap-sub_right w (int_wrap w x) y ∙ int_wrap-add_left w x (neg_ℤ y)

module _ (n : ℕ) (w : Width) (most : n ≤ suc (hbits w)) where
  wrapped_word : (v : ℤ) → IsWord n v → int_wrap w v ≡ v
  wrapped_word v h = int_wrap_fits w v (word_fits w n v most h)

  both_shifted : (f : ℤ → ℤ → ℤ) → IsWrapped w f → (sa sb : ℤ) (xs ys : List ℤ)
      → All (IsWord n) (zip2 (λ x y. f (shifted x sa) (shifted y sb)) xs ys)
      → zip2 (λ x y. int_wrap w (f x y)) (map (λ x. int_wrap w (shifted x sa)) xs)
      (map (λ y. int_wrap w (shifted y sb)) ys) ≡ zip2 (λ x y. f (shifted x sa) (shifted y sb)) xs ys
  both_shifted f wraps sa sb [] ys h = refl
  both_shifted f wraps sa sb (x ∷ xs) [] h = refl
  both_shifted f wraps sa sb (x ∷ xs) (y ∷ ys) h =
      let more = zip2 (λ x y. f (shifted x sa) (shifted y sb)) xs ys in
      let word = f (shifted x sa) (shifted y sb) in
      ap₂ ◌∷◌ (wraps (shifted x sa) (shifted y sb) ∙ wrapped_word word (All-head (IsWord n) word more h))
      (both_shifted f wraps sa sb xs ys (All-tail (IsWord n) word more h))

  copies_of : (s : ℤ) (xs : List ℤ) → All (IsWord n) (copied Floor s xs) →
      map (λ x. int_wrap w (shifted x s)) xs ≡ copied Floor s xs
  copies_of s [] h = refl
  copies_of s (x ∷ xs) h =
      ap₂ ◌∷◌ (wrapped_word _ (All-head (IsWord n) (shifted x s) (copied Floor s xs) h))
      (copies_of s xs (All-tail (IsWord n) (shifted x s) (copied Floor s xs) h))

  opposites : (ys : List ℤ) → All (IsWord n) (map neg_ℤ ys) → map (λ y. int_wrap w (pos 0 -ℤ y)) ys ≡ map neg_ℤ ys
  opposites [] h = refl
  opposites (y ∷ ys) h =
      let e : pos 0 -ℤ y ≡ neg_ℤ y = omega (arith, ints) in
      ap₂ ◌∷◌ (ap (int_wrap w) e
      ∙ wrapped_word _ (All-head (IsWord n) (neg_ℤ y) (map neg_ℤ ys) h)) (opposites ys
      (All-tail (IsWord n) (neg_ℤ y) (map neg_ℤ ys) h))

  -- words that are shifted, by a shift as it is passed on
  shifted_are : {s : ℤ} {xs vs u : List ℤ} → FitsSigned w32 s → xs ≡ vs →
      u ≡ map (λ x. int_wrap w (shifted x (to_z w32 (of_z w32 s)))) xs → u ≡ map (λ x. int_wrap w (shifted x s)) vs
  shifted_are {s} f e eu = eu ∙ ap₂ (λ d zs. map (λ x. int_wrap w (shifted x d)) zs) (to_z-of_z w32 s f) e

-- ---- the same of vectors that are shown to be these
module _ (n : ℕ) (w : Width) (most : n ≤ suc (hbits w)) (f : ℤ → ℤ → ℤ) (wraps : IsWrapped w f) (sa sb : ℤ)
    {xs vs ys us u v r : List ℤ} (er : r ≡ zip2 (λ x y. int_wrap w (f x y)) u v)
    (eu : u ≡ map (λ x. int_wrap w (shifted x (to_z w32 (of_z w32 sa)))) xs)
    (ev : v ≡ map (λ y. int_wrap w (shifted y (to_z w32 (of_z w32 sb)))) ys) (e : xs ≡ vs) (k : ys ≡ us)
    (fa : FitsSigned w32 sa) (fb : FitsSigned w32 sb) (g : AreLanes n xs) (h : AreLanes n ys)
    (all : All (IsWord n) (zip2 (λ x y. f (shifted x sa) (shifted y sb)) vs us)) where
  pub combined_is : r ≡ zip2 (λ x y. f (shifted x sa) (shifted y sb)) vs us
  combined_is =
      er ∙ ap₂ (zip2 (λ x y. int_wrap w (f x y))) (shifted_are n w most fa e eu) (shifted_are n w most fb k ev)
      ∙ both_shifted n w most f wraps sa sb vs us all

  pub combined_are : AreLanes n r
  combined_are =
      (gives n r _ combined_is (both_many (λ x y. f (shifted x sa) (shifted y sb)) e k g.many h.many) all).are

module _ (n : ℕ) (w : Width) (most : n ≤ suc (hbits w)) (s : ℤ) {xs vs r : List ℤ}
    (er : r ≡ map (λ x. int_wrap w (shifted x (to_z w32 (of_z w32 s)))) xs) (e : xs ≡ vs) (f : FitsSigned w32 s)
    (g : AreLanes n xs) (all : All (IsWord n) (copied Floor s vs)) where
  pub copied_is : r ≡ copied Floor s vs
  copied_is = shifted_are n w most f e er ∙ copies_of n w most s vs all

  pub copied_are : AreLanes n r
  copied_are = (gives n r (copied Floor s vs) copied_is (each_many (λ x. shifted x s) e g.many) all).are

module _ (n : ℕ) (w : Width) (most : n ≤ suc (hbits w)) {z xs vs r : List ℤ}
    (er : r ≡ zip2 (λ x y. int_wrap w (x -ℤ y)) z xs) (ez : z ≡ replicate 16 (pos 0)) (e : xs ≡ vs) (g : AreLanes n xs)
    (all : All (IsWord n) (map neg_ℤ vs)) where
  pub negated_is : r ≡ map neg_ℤ vs
  negated_is =
      er ∙ ap (λ zs. zip2 (λ x y. int_wrap w (x -ℤ y)) zs xs) ez
      ∙ zip2_splat_left (λ x y. int_wrap w (x -ℤ y)) (pos 0) 16 xs g.many
      ∙ ap (map (λ y. int_wrap w (pos 0 -ℤ y))) e ∙ opposites n w most vs all

  pub negated_are : AreLanes n r
  negated_are = (gives n r (map neg_ℤ vs) negated_is (each_many neg_ℤ e g.many) all).are

-- ---- to the nearest
pub nearest_is : {n : ℕ} (s : ℕ) {xs vs r : List ℤ} → xs ≡ vs → AreLanes n xs → r ≡ map (λ x. rounded Nearest x (pos s)) xs
    → All (IsWord n) (copied Nearest (pos s) vs) → Gives n r (copied Nearest (pos s) vs)
nearest_is {n} s {vs} e g er all = gives n _ (copied Nearest (pos s) vs)
    (er ∙ ap (map (λ x. rounded Nearest x (pos s))) e) (each_many (λ x. rounded Nearest x (pos s)) e g.many) all
