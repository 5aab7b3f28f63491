use Rattle.std.proofs.Common.{◌≡◌, Bor, List, Ok, ℕ, length, sym, subst}
use Rattle.fx_fraction.specs.DecimalOf.{decimal_of}
use Rattle.fx_text.specs.Leading.{IsLeading}
use Rattle.fx_text.proofs.Pieces.{whole_leads, piece_leads}
use Rattle.fx_text.proofs.leading.any_decimal.Goals.{in-Some, in-None}
use Rattle.fx_text.proofs.leading.any_decimal.Goals as goal

pub returns-in-Ok : goal.returns-in-Ok
returns-in-Ok c =
    let text = c.args.text.now in let d = c.in-Ok.value in
    let leads = λ (p : Bor (List ℕ)). Ok d ≡ decimal_of p.now → IsLeading text d (length p.now) in
    let here : leads c.match-cut_at.piece = elim c.match-cut_at.branch [
      | in-Some w ↦ subst leads (sym w.piece-is)
          (piece_leads text w.in-Some.piece.now w.in-Some.field-0-1.now d w.in-Some.ensures)
      | in-None w ↦ subst leads (sym w.piece-is) (whole_leads text d)
    ] in
    here c.in-Ok.ensures
