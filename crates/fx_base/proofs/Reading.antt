-- A lemma on what a call that reads to the end has taken.
use Rattle.std.proofs.Common.{◌≡◌, ℕ, ◌+◌, ◌<◌, ◌≤◌, ◌↔◌, List, ◌++◌, Option, length, take, sym, subst}
use Rattle.std.proofs.KnownBytes.{Consumes-trans}
use Rattle.std.specs.Io.KnownBytes.{Consumes}
use Rattle.fx_base.specs.declared.answers.InFault.{InFault}
use Rattle.fx_base.specs.declared.answers.InFault.TheVariants.{TooLong}
use Rattle.fx_base.specs.Calls.{TakesUpTo}
use Rattle.fx_base.proofs.Lists.{length-append-take}

-- a call that refuses after a piece has taken that piece too
pub takes-piece : (a b c : Option (List ℕ)) (bytes block : List ℕ) (n limit : ℕ) (fault : InFault) →
    Consumes a b bytes → Consumes b c (take n block)
    → n ≤ length block → (fault ≡ TooLong) ↔ (limit < length bytes + n) → TakesUpTo a c limit fault
takes-piece a b c bytes block n limit fault p q within over = (
  bytes ++ take n block,
  Consumes-trans a b c bytes (take n block) p q,
  subst (λ k. (fault ≡ TooLong) ↔ (limit < k)) (sym (length-append-take bytes block n within)) over,
)
