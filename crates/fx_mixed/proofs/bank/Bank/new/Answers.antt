use Rattle.std.proofs.Common.{ℕ, replicate, ap, sym, subst, ◌∙◌}
use Rattle.fx_mixed.specs.Packed.{AreKnown, size_of, unpacked}
use Rattle.fx_mixed.proofs.Zeros.{zeros_unpacked}
use Rattle.fx_mixed.proofs.bank.Bank.new.Goals as goal

pub places-requires-clause-known : goal.places-requires-clause-known
places-requires-clause-known c = subst AreKnown (sym c.as_slice.ensures.value) c.requires.known

pub byte_count-requires-clause-known : goal.byte_count-requires-clause-known
byte_count-requires-clause-known c = subst AreKnown (sym c.as_slice-2.ensures.value) c.requires.known

pub returns-clause-words : goal.returns-clause-words
returns-clause-words c =
    let ns = c.args.lengths.items in
    let same = c.in_ok-bytes.ensures.items_if_clones_equal (λ byte e. e) in
    ap (unpacked ns) (same ∙ ap (λ (n : ℕ). replicate n 0) (c.byte_count.ensures.size
    ∙ ap size_of c.as_slice-2.ensures.value)) ∙ zeros_unpacked c.packed_law.ensures ns c.requires.known
