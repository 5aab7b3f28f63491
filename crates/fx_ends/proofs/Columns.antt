-- Which faults of a row name a column.
use Rattle.std.proofs.Common.{◌≡◌, ◌≢◌, refl, ℕ, List, [], ◌∷◌, codes}
use Rattle.fx_model.specs.Tree.{at}
use Rattle.fx_model.specs.Function.{Input}
use Rattle.fx_inequalities.specs.NodeConditions.{no_input}
use Rattle.fx_rows.specs.declared.fault.RowKind.{RowKind}
use Rattle.fx_rows.specs.declared.fault.RowKind.TheVariants.{MissingColumn, TwiceNamed, TooFew, BadNumber, OutOfRange, LineTooLong, StrayReturn, Memory}
use Rattle.fx_ends.specs.Ends.{column_text}

-- all but those of the line as a whole
pub names_column : (inputs : List Input) (k : ℕ) (kind : RowKind) → kind ≢ LineTooLong → kind ≢ StrayReturn →
    column_text inputs k kind ≡ codes " column " ∷ (at no_input inputs k).name ∷ []
names_column inputs k MissingColumn a b = refl
names_column inputs k TwiceNamed a b = refl
names_column inputs k TooFew a b = refl
names_column inputs k BadNumber a b = refl
names_column inputs k OutOfRange a b = refl
names_column inputs k LineTooLong a b = absurd (a refl)
names_column inputs k StrayReturn a b = absurd (b refl)
names_column inputs k Memory a b = refl
