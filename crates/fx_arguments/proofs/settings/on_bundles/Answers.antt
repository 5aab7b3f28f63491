use Rattle.std.proofs.Common.{◌≡◌, ◌∙◌, ℕ, ◌<◌, ◌+◌, List, Bor, length, take, get_or, sym, ap}
use Rattle.std.specs.List.{fold}
use Rattle.std.proofs.lemmas.List.Sums.{fold_more}
use Rattle.clap.specs.Simple.{App}
use Rattle.fx_arguments.specs.App.{top_app}
use Rattle.fx_arguments.specs.Grammar.{Bytes}
use Rattle.fx_arguments.specs.declared.command.FileCommand.{FileCommand}
use Rattle.fx_arguments.proofs.settings.on_bundles.Invariants.{with_row}
use Rattle.fx_arguments.proofs.settings.on_bundles.Goals as goal

one-row-more : (rows : List (Bor Bytes × FileCommand)) (i : ℕ) (row : Bor Bytes × FileCommand) → i < length rows
    → (app : App) → app ≡ fold with_row top_app (take i rows)
    → with_row app (get_or rows i row) ≡ fold with_row top_app (take (i + 1) rows)
one-row-more rows i row lt app e =
    ap (λ a. with_row a (get_or rows i row)) e ∙ sym (fold_more with_row top_app rows i row lt)

pub loop-name-preserved : goal.loop-name-preserved
loop-name-preserved c =
    c.in_ok-line.ensures
    ∙ one-row-more _ c.loop-name.name-index _ c.loop-name-test.true _ c.loop-name.invariant
