-- A word of a bank, by its place and its width.
use Rattle.std.proofs.Common.{◌≡◌, ◌<◌, ◌≤◌, ◌+◌, ◌/◌, ◌++◌, ◌∙◌, ℕ, ℤ, List, length, take, drop, set, sym, ap, subst, arith, le_of_eq}
use Rattle.fx_model.specs.Tree.{at}
use Rattle.fx_model.specs.Machine.{IsWord}
use Rattle.fx_mixed.specs.declared.bank.Bank.TheInside.{Inside}
use Rattle.fx_mixed.specs.Packed.{IsPlaced, PlaceLaw, packed_word, place_of, unpacked}
use Rattle.fx_mixed.specs.Banks.{IsBank, Stored, stored_of}

-- word k of the bank b stands at p, in n bits
pub record IsFoundPlace (b : Inside) (k p n : ℕ) : Type 0 where
  pub place : p ≡ place_of b.widths.items k
  pub width : n ≡ at 0 b.widths.items k
  pub room : p + n / 8 ≤ length b.bytes.items
  pub placed : IsPlaced b.widths.items b.bytes.items k

-- so it is where a bank's contract says it
pub found : {b : Inside} {s : Stored} {k p n : ℕ} → PlaceLaw → IsBank b → stored_of b ≡ s → k < length s.widths →
    p ≡ place_of s.widths k → n ≡ at 0 s.widths k → IsFoundPlace b k p n
found {b} {s} {k} {p} {n} law bank view lt ep en =
    let ns = b.widths.items in let bs = b.bytes.items in
    let inside : k < length ns = subst (λ (t : Stored). k < length t.widths) (sym view) lt in
    let placed = law ns bs k bank.known (le_of_eq bank.size) inside in
    let place : p ≡ place_of ns k = ep ∙ ap (λ (t : Stored). place_of t.widths k) (sym view) in
    let width : n ≡ at 0 ns k = en ∙ ap (λ (t : Stored). at 0 t.widths k) (sym view) in
    let within : place_of ns k + at 0 ns k / 8 ≤ length bs = omega (arith, placed.within, bank.size) in
    let narrow : place_of ns k + n / 8 ≤ length bs =
    subst (λ (m : ℕ). place_of ns k + m / 8 ≤ length bs) (sym width) within in
    record {
      place = place;
      width = width;
      room = subst (λ (m : ℕ). m + n / 8 ≤ length bs) (sym place) narrow;
      placed = placed;
    }

-- what is written there is that word, and no other changes
pub set_there : {b : Inside} {k p n : ℕ} {w v : ℤ} {bs : List ℕ} → IsFoundPlace b k p n → IsWord (at 0 b.widths.items k) w →
    v ≡ w → bs ≡ take p b.bytes.items ++ packed_word n v ++ drop (p + n / 8) b.bytes.items →
    unpacked b.widths.items bs ≡ set (unpacked b.widths.items b.bytes.items) k w
set_there {b} {k} {w = w} f word ev e =
    let bytes = b.bytes.items in
    ap (unpacked b.widths.items) (e
    ∙ (λ i. take (f.place i) bytes ++ packed_word (f.width i) (ev i) ++ drop (f.place i + f.width i / 8) bytes))
    ∙ f.placed.written w word
