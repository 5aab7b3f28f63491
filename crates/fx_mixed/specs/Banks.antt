-- What contracts see of a bank of packed words.
use Rattle.std.specs.Prelude.{◌≡◌, ℕ, ◌^◌, ◌<◌, ℤ, List, length}
use Rattle.fx_model.specs.Tree.{at}
use Rattle.fx_mixed.specs.Packed.{AreKnown, unpacked, place_of, size_of}
use Rattle.fx_mixed.specs.declared.bank.Bank.TheInside.{Inside}

-- the widths, and a word of each
pub record Stored : Type 0 where
  pub widths : List ℕ
  pub words : List ℤ

abbrev pub stored_of : Inside → Stored
stored_of b = record { widths = b.widths.items; words = unpacked b.widths.items b.bytes.items }

-- widths among the eight, where each word begins, and as many bytes as all take
pub record IsBank (b : Inside) : Type 0 where
  pub known : AreKnown b.widths.items
  pub counted : length b.places.items ≡ length b.widths.items
  pub places : (k : ℕ) → k < length b.widths.items → at 0 b.places.items k ≡ place_of b.widths.items k
  pub size : size_of b.widths.items ≡ length b.bytes.items
  pub small : length b.bytes.items < 2 ^ 32
