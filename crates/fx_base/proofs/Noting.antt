-- Lemmas on the moments at which a source is asked.
use Rattle.std.proofs.Common.{◌≡◌, ℕ, List, [], ◌∷◌, ◌++◌, Option, refl, sym, ap, subst, ◌∙◌, append_assoc, append-nil, inl, inr}
use Rattle.std.specs.Prelude.{◌==◌, All, None, position}
use Rattle.std.specs.Io.KnownBytes.{Consumes}
use Rattle.std.proofs.lemmas.List.Elements.{All-append, All-cons, All-head, All-nil, All-tail}
use Rattle.fx_base.specs.Moments.{Moment, Notes, HoldsEachTime, IsSought}

-- a source that isn't asked notes nothing
pub none_noted : (P : Moment → Type 0) (old : List Moment) → HoldsEachTime P old old
none_noted P old = ([], sym (append-nil old), All-nil P)

pub same_noted : (P : Moment → Type 0) (old new : List Moment) → new ≡ old → HoldsEachTime P old new
same_noted P old new same = subst (HoldsEachTime P old) (sym same) (none_noted P old)

-- first some moments, and then others
pub noted_on : (P : Moment → Type 0) (a b c : List Moment) → HoldsEachTime P a b → HoldsEachTime P b c →
    HoldsEachTime P a c
noted_on P a b c x y = (x.0 ++ y.0, y.1 ∙ ap (λ t. t ++ y.0) x.1 ∙ append_assoc a x.0 y.0, All-append P x.0 y.0 x.2 y.2)

-- one moment more
pub noted_once : (P : Moment → Type 0) (m : Moment) (a b c : List Moment) → P m → Notes m b c → HoldsEachTime P a b →
    HoldsEachTime P a c
noted_once P m a b c holds (inl same) x = subst (HoldsEachTime P a) (sym same) x
noted_once P m a b c holds (inr more) x = noted_on P a b c x (m ∷ [], more, All-cons P m [] holds (All-nil P))

-- what holds each time holds in other words
pub noted_as : (P Q : Moment → Type 0) (a b : List Moment) → ((m : Moment) → P m → Q m) → HoldsEachTime P a b →
    HoldsEachTime Q a b
noted_as P Q a b f x = (x.0, x.1, each x.0 x.2)
  where
    each : (ms : List Moment) → All P ms → All Q ms
    each [] all = All-nil Q
    each (m ∷ ms) all = All-cons Q m ms (f m (All-head P m ms all)) (each ms (All-tail P m ms all))

-- the bytes behind which a source was asked, told in other words
pub sought_behind : (held bytes : List ℕ) (left taken : Option (List ℕ)) (old new : List Moment) → held ≡ bytes
    → HoldsEachTime (IsSought held left taken) old new → HoldsEachTime (IsSought bytes left taken) old new
sought_behind held bytes left taken old new same = subst (λ h. HoldsEachTime (IsSought h left taken) old new) same

-- a source was asked once more, behind bytes of which none ends a line
pub sought_once : (held now more : List ℕ) (left left' taken : Option (List ℕ)) (a b c : List Moment) →
    Consumes left left' more → now ≡ held ++ more → position (λ x. x == 10) now ≡ None
    → Notes (record { left = left'; taken = taken }) b c → HoldsEachTime (IsSought held left taken) a b →
    HoldsEachTime (IsSought held left taken) a c
sought_once held now more left left' taken a b c took is none notes before =
    noted_once (IsSought held left taken) (record { left = left'; taken = taken }) a b c (
      more,
      took,
      subst (λ h. position (λ x. x == 10) h ≡ None) is none,
      refl,
    ) notes before
