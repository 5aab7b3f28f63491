-- What is read of bytes are words in their widths.
use Rattle.std.proofs.Common.{◌≡◌, ℕ, zero, suc, ◌/◌, pos, List, [], ◌∷◌, length, take, drop, refl, ap, arith}
use Rattle.fx_model.proofs.Widths.{width_of}
use Rattle.fx_statements.specs.Laws.{WrappedLaw}
use Rattle.fx_statements.specs.Widths.{FitWidths}
use Rattle.fx_mixed.specs.Packed.{AreKnown, number_of, unpacked}

pub unpacked_counted : (ns bs : List ℕ) → length (unpacked ns bs) ≡ length ns
unpacked_counted [] bs = refl
unpacked_counted (n ∷ ns) bs = ap suc (unpacked_counted ns (drop (n / 8) bs))

pub unpacked_fit : WrappedLaw → (ns bs : List ℕ) → AreKnown ns → FitWidths ns (unpacked ns bs)
unpacked_fit law [] bs known k lt = absurd (omega arith)
unpacked_fit law (n ∷ ns) bs known zero lt =
    let w = (width_of n (known 0 (omega arith))).least in
    (law n (pos (number_of (take (n / 8) bs))) (omega arith)).0.word
unpacked_fit law (n ∷ ns) bs known (suc k) lt =
    unpacked_fit law ns (drop (n / 8) bs) (λ j l. known (suc j) (omega arith)) k (omega arith)
