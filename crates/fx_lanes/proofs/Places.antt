-- Rows one behind the other.
use Rattle.std.proofs.Common.{◌≡◌, ◌≢◌, ℕ, ◌+◌, ◌-◌, ◌*◌, ◌<◌, ◌≤◌, List, length, take, drop, sym, ap, ◌∙◌, arith, inl, inr}
use Rattle.std.proofs.lemmas.Bool.{cases_order}
use Rattle.std.proofs.lemmas.List.{drop-take}
use Rattle.std.proofs.lemmas.Slice.{take-put_mid_below, drop-put_mid}
use Rattle.fx_rational.specs.Decimal.{Decimal}
use Rattle.fx_lanes.specs.RowsSideBySide.{row_at}
use borrow.Rule.Slice.PartMut.{put_mid}

before : (n j k : ℕ) → j < k → j * n + n ≤ k * n
before n j k lt = grind arith

ends : (n k : ℕ) → k < 16 → k * n + n ≤ 16 * n
ends n k lt = grind arith

pub other_row : (n j k : ℕ) (xs ys : List Decimal) → length xs ≡ 16 * n → k < 16 → length ys ≡ n → j ≢ k →
    row_at n j (put_mid (k * n) (k * n + n - k * n) xs ys) ≡ row_at n j xs
other_row n j k xs ys many lt len differ = elim (cases_order j k) [
  | inl e ↦ absurd (differ e)
  | inr o ↦ elim o [
    | inl below ↦
        let b = before n j k below in let e = ends n k lt in
        let within : k * n ≤ length xs = omega (arith, many) in
        sym (drop-take (j * n) n (put_mid (k * n) (k * n + n - k * n) xs ys))
        ∙ ap (drop (j * n)) (take-put_mid_below (k * n) (k * n + n - k * n) xs ys (j * n + n) b within)
        ∙ drop-take (j * n) n xs
    | inr above ↦
        let b = before n k j above in let e = ends n k lt in
        let within : k * n ≤ length xs = omega (arith, many) in
        ap (take n) (drop-put_mid (k * n) (k * n + n - k * n) xs ys (j * n) (omega arith) within (omega (arith, len)))
  ]
]
