-- The texts that are printed of an accepted bundle, a row for each, and how the printing of one ends.
use Rattle.std.specs.Prelude.{◌≡◌, ◌≢◌, ⊤, ℕ, List}
use Rattle.std.specs.Io.KnownBytes.{Appends}
use Rattle.fx_base.specs.Calls.{AppendsFront}
use Rattle.fx_base.specs.Causes.{Rose}
use Rattle.fx_base.specs.Views.{SinkView}
use Rattle.fx_model.specs.Function.{Function}
use Rattle.fx_cert_text.specs.BundleView.{Parts, text_of}
use Rattle.fx_ends.specs.Ends.{End, Done, WriteFault, NoMemory}
use Rattle.fx_bundle_commands.specs.declared.commands.sheet.Sheet.{Sheet}
use Rattle.fx_bundle_commands.specs.declared.commands.sheet.Sheet.TheVariants.{Bounds, Table, SecondVersion, Widths, Rust}
use Rattle.fx_bundle_commands.specs.commands.Check.{report}
use Rattle.fx_bundle_commands.specs.commands.Show.{table}
use Rattle.fx_bundle_commands.specs.commands.Migrate.{migrated, IsMigrated}
use Rattle.fx_bundle_commands.specs.commands.Widths.{widths_text}
use Rattle.fx_bundle_commands.specs.commands.Rust.{rust_of, IsRustFor}

-- the bytes of each
abbrev pub sheet_text : Sheet → Parts → List ℕ
sheet_text Bounds b = report b.program b.certificate
sheet_text Table b = table b.program b.certificate
sheet_text SecondVersion b = text_of (migrated b)
sheet_text Widths b = widths_text b.program b.certificate
sheet_text Rust b = rust_of b.program b.certificate

-- what holds besides, where the bundle's source means fn: bounds take no memory, the bundle in its second version is
-- accepted too, and the Rust text does what the program does
abbrev pub SheetHolds : Sheet → Parts → Function → End → Type 0
SheetHolds Bounds b fn end = end ≢ NoMemory
SheetHolds Table b fn end = ⊤
SheetHolds SecondVersion b fn end = IsMigrated b fn
SheetHolds Widths b fn end = ⊤
SheetHolds Rust b fn end = IsRustFor b fn

-- how the printing of a text ends
pub data TextEnds (text : List ℕ) (old new : SinkView) : End → Type 0 where
  written : Appends old.taken new.taken text → TextEnds text old new Done
  unwritten : Rose old.faults new.faults → AppendsFront old.taken new.taken text →
      TextEnds text old new WriteFault
  no_memory : new.taken ≡ old.taken → TextEnds text old new NoMemory

-- what a command that prints this does with an accepted bundle, whose source means fn
pub record PrintsSheet (sheet : Sheet) (old new : SinkView) (b : Parts) (fn : Function) (end : End) : Type 0 where
  pub ends : TextEnds (sheet_text sheet b) old new end
  pub holds : SheetHolds sheet b fn end
