-- What `fixd-c` prints of an accepted bundle: its program as C99 text, or the header of that.
use Rattle.std.specs.Prelude.{◌≡◌, ℕ, ℤ, List, All, length, Some}
use Rattle.fx_base.specs.Views.{SinkView}
use Rattle.fx_rational.specs.Rational.{Rational}
use Rattle.fx_model.specs.Function.{Function, Input, Run}
use Rattle.fx_model.specs.Machine.{Program, machine_run}
use Rattle.fx_model.specs.Rows.{IsInRange}
use Rattle.fx_inequalities.specs.Certificate.{Certificate}
use Rattle.fx_cert_text.specs.BundleView.{Parts}
use Rattle.fx_widths.specs.LeastWidths.{least_widths}
use Rattle.fx_c99.specs.OfProgram.{c_text_of}
use Rattle.fx_c99.specs.Runs.{DoesSteps, c_text_run}
use Rattle.fx_c99.specs.CHeader.{c_header_of}
use Rattle.fx_c99.specs.CHeaderMeaning.{SaysHeader}
use Rattle.fx_ends.specs.Ends.{End}
use Rattle.fx_bundle_commands.specs.commands.Sheets.{TextEnds}
use Rattle.fx_c_command.specs.declared.words.Text.{Text}
use Rattle.fx_c_command.specs.declared.words.Text.TheVariants.{Source, Header}

-- the one C text, in which the name of each code has the least type that its least width fits
abbrev pub c_source_of : Program → Certificate → List ℕ
c_source_of p cert = c_text_of p (least_widths p cert)

-- the bytes of each text
abbrev pub printed_text : Text → Parts → Function → List ℕ
printed_text Source b fn = c_source_of b.program b.certificate
printed_text Header b fn = c_header_of fn b.program b.certificate

-- the machine isn't stuck on these rows, and the C text gives its run, whatever stood in the states before the reset
pub record CGivesRun (p : Program) (cert : Certificate) (gs : List (List Rational)) : Type 0 where
  pub run : Run ℤ
  pub own : machine_run p gs ≡ Some run
  pub text : (s : List ℤ) → length s ≡ p.states → c_text_run p (least_widths p cert) gs s ≡ Some run

-- so on any rows in range of these inputs
abbrev pub CRunsLaw : List Input → Program → Certificate → Type 0
CRunsLaw inputs p cert = (gs : List (List Rational)) → All (IsInRange inputs) gs → CGivesRun p cert gs

-- the C text does the machine's step wherever that isn't stuck and each word lies in its width; so over all rows in
-- range it gives the machine's run. Nothing in it is undefined or left to the compiler
pub record IsCFor (fn : Function) (p : Program) (cert : Certificate) : Type 0 where
  pub steps : DoesSteps p (least_widths p cert) (c_source_of p cert)
  pub runs : CRunsLaw fn.inputs p cert

-- what holds of each text: the source does what the program does, and the header says what is certified
abbrev pub TextHolds : Text → Function → Program → Certificate → Type 0
TextHolds Source fn p cert = IsCFor fn p cert
TextHolds Header fn p cert = SaysHeader fn p cert (c_header_of fn p cert)

-- how the printing ends of a bundle whose source means fn
pub record PrintsC (text : Text) (old new : SinkView) (b : Parts) (fn : Function) (end : End) : Type 0 where
  pub ends : TextEnds (printed_text text b fn) old new end
  pub holds : TextHolds text fn b.program b.certificate
