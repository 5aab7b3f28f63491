-- A lemma on what a call that writes a whole list has appended.
use Rattle.std.proofs.Common.{ℕ, ◌+◌, ◌-◌, ◌≤◌, List, ◌++◌, Option, length, take, drop, subst, sym, ap, ◌∙◌}
use Rattle.std.proofs.KnownBytes.{Appends-trans}
use Rattle.std.specs.Io.KnownBytes.{Appends}
use lib.Seq.{take-add, take-take}

-- the front up to a place, and then a front of the rest
pub appends-part : (a b c : Option (List ℕ)) (bytes : List ℕ) (at n : ℕ) → n ≤ length bytes - at →
    Appends a b (take at bytes)
    → Appends b c (take n (take (length bytes - at) (drop at bytes))) → Appends a c (take (at + n) bytes)
appends-part a b c bytes at n within p q =
    subst (Appends a c) (ap (λ t. take at bytes ++ t) (take-take n (length bytes - at) (drop at bytes) within)
    ∙ sym (take-add at n bytes)) (Appends-trans a b c _ _ p q)
