use Rattle.std.proofs.Common.{◌∙◌, sym, subst}
use Rattle.fx_mixed.specs.Packed.{AreKnown}
use Rattle.fx_bundle_commands.proofs.widths.bytes_of.Goals as goal

pub byte_count-requires-clause-known : goal.byte_count-requires-clause-known
byte_count-requires-clause-known c =
    subst AreKnown (sym (c.as_slice.ensures.value ∙ c.in_ok-widths.ensures.value)) c.least_widths.ensures.widths.known
