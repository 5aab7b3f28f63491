-- What the calls below `fixd_c` promise. No clause of `fixd_c` rests on this.
use Rattle.std.specs.Prelude.{◌≡◌, ◌⊎◌, Option, Some, option_map}
use Rattle.fx_stream.specs.Promise.{Grows}
use Rattle.fx_ends.specs.Ends.{End}
use Rattle.fx_bundle_commands.specs.Calls.{Desk, beside}
use Rattle.fx_bundle_commands.specs.Opening.{IsOpen}
use Rattle.fx_bundle_commands.specs.OpeningView.{IsSilent}
use Rattle.fx_bundle_commands.specs.Outside.{Asks}
use Rattle.fx_c_command.specs.Words.{TextRequest}
use Rattle.fx_c_command.specs.Promise.{CEnds, empty_input}

-- the call has come to this end, whose line isn't written yet
pub record Printing {K : Type 0} (asks : Option TextRequest) (old new : Desk K) (end : End) : Type 0 where
  pub ended : CEnds (beside empty_input old) (beside empty_input new) asks end
  pub quiet : IsSilent end → new.output ≡ old.output
  pub unopened : (r : TextRequest) → asks ≡ Some r → IsOpen old.shelf.files r.file ⊎ (new.output ≡ old.output)
  pub asked : Asks (option_map (λ r. r.file) asks) old.shelf.asked new.shelf.asked
  pub appended : Grows old.sink.taken new.sink.taken
