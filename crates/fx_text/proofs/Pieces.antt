-- A piece of a text that is cut at its comma, and is a number.
use Rattle.std.proofs.Common.{◌≡◌, ℕ, List, length, take, get_or, Some, Ok, sym, ap, ◌∙◌, arith, eqb}
use Rattle.std.specs.List.{position_or_len}
use Rattle.std.proofs.lemmas.List.{take_all, length-take-le}
use Rattle.std.proofs.lemmas.List.Sums.{prefix_len_stops}
use Rattle.std.proofs.lemmas.Bool.{eqb-true, not-false}
use Rattle.fx_rational.specs.Decimal.{Decimal}
use Rattle.fx_fraction.specs.DecimalOf.{decimal_of}
use Rattle.fx_text.specs.Cutting.{cut_at}
use Rattle.fx_text.proofs.Cuts.{cut_at-parts}
use Rattle.fx_text.specs.Leading.{IsLeading}

-- all of it
pub whole_leads : (text : List ℕ) (d : Decimal) → Ok d ≡ decimal_of text → IsLeading text d (length text)
whole_leads text d read = record {
  within = omega arith;
  number = ap decimal_of (take_all (length text) text (omega arith)) ∙ sym read;
  stop = λ lt. absurd (omega arith);
}

pub piece_leads : (text piece rest : List ℕ) (d : Decimal) → cut_at 44 text ≡ Some (piece, rest) →
    Ok d ≡ decimal_of piece → IsLeading text d (length piece)
piece_leads text piece rest d cut read =
    let h = cut_at-parts 44 text piece rest cut in
    let at = position_or_len (λ b. eqb b 44) text in
    let long : length piece ≡ at = ap length (sym h.1) ∙ length-take-le at text (omega (arith, h.0)) in
    record {
      within = omega (arith, long, h.0);
      number = ap decimal_of (ap (λ n. take n text) long ∙ h.1) ∙ sym read;
      stop = λ lt. ap (λ n. get_or text n 0) long ∙ eqb-true _ _ (not-false _ (prefix_len_stops _ text 0 h.0));
    }
