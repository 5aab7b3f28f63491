-- What a code gives in sixteen rows, where it isn't stuck in any.
use Rattle.std.proofs.Common.{◌≡◌, ◌<◌, ◌+◌, ◌*◌, ◌^◌, ℕ, ℤ, ◌+ℤ◌, ◌-ℤ◌, ◌*ℤ◌, neg_ℤ, pos, List, [], length, map, All, Some, sym, ap, ◌∙◌, arith, lit<, SFits, to_z, of_z}
use Rattle.std.specs.Prelude.{IsSome, replicate, slice_index_or}
use Rattle.std.specs.Int.{w32}
use Rattle.std.specs.Simd.Lanes.{zip2}
use Rattle.std.proofs.lemmas.Int.{to_z-of_z}
use Rattle.std.proofs.lemmas.List.{get_or_default}
use Rattle.fx_rational.specs.Decimal.{Decimal, decimal_value, quantised}
use Rattle.fx_model.specs.Machine as machine
use Rattle.fx_model.specs.Machine.{Round, Code, IsWord, shifted, rounded, floor_divided}
use Rattle.fx_model.specs.Tree.{at}
use Rattle.fx_word.specs.Words.{IsSomeWord}
use Rattle.fx_machine.specs.Codes.{Computes, IsUnstuckCode, word_of}
use Rattle.fx_machine.proofs.Alone.{alone, goes_alone}
use Rattle.fx_machine.proofs.Codes.{RunsCode, runs_neg, runs_add, runs_sub, runs_mul, runs_div, runs_copy, runs_const, runs_input, at_map_any}
use Rattle.fx_lanes.specs.WordsSideBySide.{added, subtracted, multiplied, divided, copied}
use Rattle.fx_lanes.specs.RowsSideBySide.{AreWordsAt, AreWordsOf, GoesInLanes, row_at, lane}
use Rattle.fx_lanes.proofs.Sixteen.{side_at, sides_all, each_all, some_at, row_number, row_length, replicate_at}

-- a shift or a point of a code, as an operation gets it
pub passed : (s : ℤ) → SFits w32 s → to_z w32 (of_z w32 s) ≡ s
passed = to_z-of_z w32

-- the code of each arm that computes with words alone
module _ {n : ℕ} {code : Code} {vs : List (List ℤ)} (goes : GoesInLanes n code vs) where
  here : (k : ℕ) → k < 16 → IsUnstuckCode n code [] [] (lane k vs)
  here k lt = record { some = goes.each k lt }

  -- lane by lane these are the code's words
  pub record Made (ws : List ℤ) : Type 0 where
    pub fits : All (IsWord n) ws
    pub are : {r : List ℤ} → r ≡ ws → AreWordsOf n code vs r

  each : (f : ℤ → ℤ) (x : List ℤ) → length x ≡ 16 →
      ((k : ℕ) → k < 16 → RunsCode n code [] [] (lane k vs) (f (at (pos 0) x k))) → Made (map f x)
  each f x many run = record {
    fits = each_all (IsWord n) f x many (λ k lt. (run k lt).fits);
    are = λ e. record {
      each = λ k lt. (run k lt).gives (ap (λ (v : List ℤ). at (pos 0) v k) e
          ∙ at_map_any f x k (pos 0) (pos 0) (omega (arith, many)));
    };
  }

  both : (f : ℤ → ℤ → ℤ) (x y : List ℤ) → length x ≡ 16 → length y ≡ 16 →
      ((k : ℕ) → k < 16 → RunsCode n code [] [] (lane k vs) (f (at (pos 0) x k) (at (pos 0) y k))) → Made (zip2 f x y)
  both f x y mx my run = record {
    fits = sides_all (IsWord n) f x y mx my (λ k lt. (run k lt).fits);
    are = λ e. record {
      each = λ k lt. (run k lt).gives (ap (λ (v : List ℤ). at (pos 0) v k) e ∙ side_at f x y k (pos 0) mx my lt);
    };
  }

  pub opposites : {a : ℕ} {x : List ℤ} → code ≡ machine.Neg a → AreWordsAt vs a x → Made (map neg_ℤ x)
  opposites {x = x} e p = each neg_ℤ x p.many (λ k lt. runs_neg (here k lt) e (p.each k))

  pub sums : {a b : ℕ} {sa sb s t : ℤ} {x y : List ℤ} → code ≡ machine.Add a b sa sb → AreWordsAt vs a x →
      AreWordsAt vs b y → s ≡ sa → t ≡ sb → Made (added s t x y)
  sums {s = s} {t = t} {x = x} {y = y} e p q es et = both (λ v w. shifted v s +ℤ shifted w t) x y p.many q.many
      (λ k lt. runs_add (here k lt) e (p.each k) (q.each k) es et)

  pub differences : {a b : ℕ} {sa sb s t : ℤ} {x y : List ℤ} → code ≡ machine.Sub a b sa sb → AreWordsAt vs a x →
      AreWordsAt vs b y → s ≡ sa → t ≡ sb → Made (subtracted s t x y)
  differences {s = s} {t = t} {x = x} {y = y} e p q es et =
      both (λ v w. shifted v s -ℤ shifted w t) x y p.many q.many
      (λ k lt. runs_sub (here k lt) e (p.each k) (q.each k) es et)

  pub products : {r : Round} {a b s : ℕ} {x y : List ℤ} → code ≡ machine.Mul r a b s → AreWordsAt vs a x →
      AreWordsAt vs b y → Made (multiplied r s x y)
  products {r = r} {s = s} {x = x} {y = y} e p q = both (λ v w. rounded r (v *ℤ w) (pos s)) x y p.many q.many
      (λ k lt. runs_mul (here k lt) e (p.each k) (q.each k))

  pub copies : {r : Round} {a : ℕ} {s t : ℤ} {x : List ℤ} → code ≡ machine.Copy r a s → AreWordsAt vs a x → t ≡ s →
      Made (copied r t x)
  copies {r = r} {t = t} {x = x} e p et =
      each (λ v. rounded r v t) x p.many (λ k lt. runs_copy (here k lt) e (p.each k) et)

  pub record Divided (s : ℕ) (x y : List ℤ) : Type 0 where
    pub fits : All (IsSomeWord n) (divided s x y)
    pub are : {r : List ℤ} → map (λ q. Some q) r ≡ divided s x y → AreWordsOf n code vs r

  pub quotients : {a b s : ℕ} {x y : List ℤ} → code ≡ machine.Div a b s → AreWordsAt vs a x → AreWordsAt vs b y →
      Divided s x y
  quotients {s = s} {x = x} {y = y} e p q =
      let quotient = λ (v w : ℤ). floor_divided (v *ℤ pos (2 ^ s)) w in
      let run = λ (k : ℕ) (lt : k < 16). runs_div (here k lt) e (p.each k) (q.each k) in record {
        fits = sides_all (IsSomeWord n) quotient x y p.many q.many (λ k lt. (run k lt).fits);
        are = λ {r} er. record {
          each = λ k lt. (run k lt).gives (some_at r quotient x y k er p.many q.many lt);
        };
      }

-- a code that isn't stuck in any of sixteen rows of i numbers
pub record GoesInRows (n i : ℕ) (code : Code) (rows : List Decimal) (vs : List (List ℤ)) : Type 0 where
  pub some : (k : ℕ) → k < 16 → IsSome (word_of n code (map decimal_value (row_at i k rows)) [] (lane k vs))

module _ {n i : ℕ} {code : Code} {rows : List Decimal} {vs : List (List ℤ)} (goes : GoesInRows n i code rows vs) where
  in_row : (k : ℕ) → k < 16 → IsUnstuckCode n code (map decimal_value (row_at i k rows)) [] (lane k vs)
  in_row k lt = record { some = goes.some k lt }

  -- one that computes looks at words alone
  pub lanes_alone : Computes code → GoesInLanes n code vs
  lanes_alone h = record { each = λ k lt. (goes_alone (in_row k lt) h).some }

  pub words_alone : {r : List ℤ} → Computes code → AreWordsOf n code vs r → (k : ℕ) → k < 16 →
      word_of n code (map decimal_value (row_at i k rows)) [] (lane k vs) ≡ Some (at (pos 0) r k)
  words_alone h are k lt = alone (in_row k lt) h ∙ are.each k lt

  -- a constant is the same word in each
  pub record Same (w : ℤ) : Type 0 where
    pub fits : IsWord n w
    pub are : {r : List ℤ} → r ≡ replicate 16 w → (k : ℕ) → k < 16 →
        word_of n code (map decimal_value (row_at i k rows)) [] (lane k vs) ≡ Some (at (pos 0) r k)

  pub constant : {w f v : ℤ} → code ≡ machine.Const w f → v ≡ w → Same v
  constant {v = v} e ev =
      let run = λ (k : ℕ) (lt : k < 16). runs_const (in_row k lt) e ev in record {
        fits = (run 0 (lit< tt)).fits;
        are = λ er k lt. (run k lt).gives (ap (λ (v : List ℤ). at (pos 0) v k) er ∙ replicate_at k v lt);
      }

  -- input j of each row, rounded at the point t
  pub record Input (j : ℕ) (t : ℤ) : Type 0 where
    pub fits : (k : ℕ) (d : Decimal) → k < 16 → IsWord n (quantised (slice_index_or rows (k * i + j) d) t)
    pub are : (r : List ℤ) →
        ((k : ℕ) (d : Decimal) → k < 16 → at (pos 0) r k ≡ quantised (slice_index_or rows (k * i + j) d) t) → (k : ℕ) →
        k < 16 → word_of n code (map decimal_value (row_at i k rows)) [] (lane k vs) ≡ Some (at (pos 0) r k)

  pub inputs : {j : ℕ} {f t : ℤ} → code ≡ machine.Input j f → length rows ≡ 16 * i → j < i → t ≡ f → Input j t
  inputs {j} e many within et =
      let run = λ (k : ℕ) (d : Decimal) (lt : k < 16).
      let row = row_at i k rows in let x = slice_index_or rows (k * i + j) d in
      let inside : j < length row = omega (arith, row_length i k rows many lt) in
      runs_input row (in_row k lt) e inside (sym (row_number i k j rows d within)
      ∙ get_or_default row j d x inside) et in
      let none : Decimal = record { a = pos 0; b = 0 } in
      record {
        fits = λ k d lt. (run k d lt).fits;
        are = λ r er k lt. (run k none lt).gives (er k none lt);
      }
