-- What is left of a rule of the grammar behind the part of it that was read.
use Rattle.std.specs.Prelude.{◌≡◌, ◌⊎◌, ℕ, length, Result, Ok, Err}
use Rattle.fx_model.specs.Steps.{◌>>=◌}
use Rattle.fx_lexer.specs.declared.fault.SourceFault.{SourceFault}
use Rattle.fx_lexer.specs.Faults.{source_memory}
use Rattle.fx_grammar.specs.declared.head.Head.TheVariants as heads
use Rattle.fx_grammar.specs.Steps.{Text, Tokens, Parsed, want, past_semicolon}
use Rattle.fx_grammar.specs.Fronts.{type_at}
use Rattle.fx_grammar.specs.Bodies.{Body, whole_at, with_temp}
use Rattle.fx_grammar.specs.Functions.{Front}

-- what was read of a text, and what is to be read behind it: memory may run out
abbrev pub GoesOn : {A B : Type 0} → (A → Result B SourceFault) → Result A SourceFault → Result B SourceFault → Type 0
GoesOn behind (Ok x) reading = reading ≡ behind x
GoesOn behind (Err e) reading = (reading ≡ Err e) ⊎ (e ≡ source_memory)

-- expr [ ";" ], behind the sign of the val of this name
abbrev pub val_behind : ℕ → Body → Text → Tokens → Parsed Body
val_behind end b name ts = do
  x ← whole_at end b ts
  Ok (with_temp b name x.0, past_semicolon x.1)

-- a front with so many Real
abbrev pub with_reals : Front → ℕ → Front
with_reals f reals = record f { reals = reals }

-- ":" type "=" "{", behind what is declared
abbrev pub front_behind : ℕ → Front → Tokens → Parsed Front
front_behind end f ts = do
  c ← want end heads.Colon ts
  reals ← type_at end (length f.declared.states) c.1
  e ← want end heads.Equals reals.1
  b ← want end heads.OpenBrace e.1
  Ok (with_reals f reals.0, b.1)
