-- Which function is wanted, by its number.
use Rattle.std.specs.Prelude.{◌≡◌, ℕ, List, Option, Result, Ok, Err, slice_index_or}
use Rattle.fx_model.specs.Function.{Function}
use Rattle.fx_lexer.specs.declared.fault.SourceKind.{SourceKind}
use Rattle.fx_model.specs.Steps.{◌>>=◌}
use Rattle.fx_grammar.specs.Steps.{Text, fault}
use Rattle.fx_grammar.specs.Sources.{chosen, functions_of}
use Rattle.fx_lexer.specs.declared.fault.SourceFault.{SourceFault}

abbrev pub IsChoice : Option Text → List Function → Result ℕ SourceKind → Type 0
IsChoice name fs (Ok k) = (d : Function) → chosen name fs ≡ Ok (slice_index_or fs k d)
IsChoice name fs (Err kind) = chosen name fs ≡ Err (fault 0 kind)

-- the wanted function of a text
abbrev pub wanted_in : List ℕ → Option Text → Result Function SourceFault
wanted_in text name = functions_of text >>= λ fs. chosen name fs
