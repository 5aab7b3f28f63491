-- Where a source's first fault stands.
use Rattle.std.specs.Prelude.{◌≡◌, ◌⊎◌, Result, Ok, Err}
use Rattle.fx_lexer.specs.declared.fault.SourceFault.{SourceFault}
use Rattle.fx_lexer.specs.declared.fault.SourceKind.TheVariants.{Memory}

-- want of memory is no fault of a place
abbrev pub source_memory : SourceFault
source_memory = record { at = 0; kind = Memory }

-- what a call that allocates read of a text, seen by view: memory may run out
abbrev pub GivesParsed : {A B : Type 0} → (A → B) → Result A SourceFault → Result B SourceFault → Type 0
GivesParsed view (Ok x) reading = reading ≡ Ok (view x)
GivesParsed view (Err e) reading = (reading ≡ Err e) ⊎ (e ≡ source_memory)
