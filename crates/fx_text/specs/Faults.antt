-- Where a text's first fault stands.
use Rattle.std.specs.Prelude.{ℕ}
use Rattle.fx_text.specs.declared.fault.TextKind.{TextKind}
use Rattle.fx_text.specs.declared.fault.TextKind.TheVariants.{Memory}
use Rattle.fx_text.specs.declared.fault.TextFault.{TextFault}

-- want of memory is no fault of a line
abbrev pub text_memory : TextFault
text_memory = record { line = 0; kind = Memory }

-- a fault of this line
abbrev pub fault_at : ℕ → TextKind → TextFault
fault_at line Memory = text_memory
fault_at line kind = record { line = line; kind = kind }
