-- What lies in range and error of its copy keeps the ends that are demanded.
use Rattle.std.proofs.Common.{◌≡◌, ℕ, ◌<◌, ℤ, List, [], ◌∷◌, ◌++◌, Option, Some, None, sym, subst}
use Rattle.std.specs.Prelude.{IfSome}
use Rattle.fx_rational.specs.Rational.{Rational, AtMost}
use Rattle.fx_rational.proofs.Laws.{le_trans}
use Rattle.fx_model.specs.Tree.{at}
use Rattle.fx_model.specs.Function.{Function, Demand, free}
use Rattle.fx_model.specs.Machine.{Program}
use Rattle.fx_inequalities.specs.Formula.{Span, span_sum, Within}
use Rattle.fx_inequalities.specs.Claim.{Claim}
use Rattle.fx_inequalities.specs.Certificate.{Certificate}
use Rattle.fx_inequalities.specs.Affine.{range_at, error_at}
use Rattle.fx_inequalities.specs.Accepted.{output_code, error_claims, lower_claims, upper_claims, demand_claims}
use Rattle.fx_bounds.proofs.Claims.{Each, Claimed}
use Rattle.fx_sound.specs.Soundness.{AllWithin, IsInEnds, AllInEnds, output_value}

claimed_left : (ks ls : List Claim) → Each Claimed (ks ++ ls) → Each Claimed ks
claimed_left [] ls h = tt
claimed_left (k ∷ ks) ls h = (h.0, claimed_left ks ls h.1)

claimed_right : (ks ls : List Claim) → Each Claimed (ks ++ ls) → Each Claimed ls
claimed_right [] ls h = h
claimed_right (k ∷ ks) ls h = claimed_right ks ls h.1

above_lower : (lo : Option Rational) (s : Span) (x : Rational) → Within s x → Each Claimed (lower_claims lo s) →
    IfSome lo (λ l. AtMost l x)
above_lower None s x h claims = tt
above_lower (Some l) s x h claims = le_trans claims.0 h.low

below_upper : (hi : Option Rational) (s : Span) (x : Rational) → Within s x → Each Claimed (upper_claims hi s) →
    IfSome hi (λ u. AtMost x u)
below_upper None s x h claims = tt
below_upper (Some u) s x h claims = le_trans h.high claims.0

in_ends : (d : Demand) (g h : Span) (x : Rational) → Within (span_sum g h) x → Each Claimed (demand_claims d g h) →
    IsInEnds d x
in_ends d g h x within claims =
    let s = span_sum g h in
    let ends = claimed_right (error_claims d.err h) (lower_claims d.lo s ++ upper_claims d.hi s) claims in
    record {
      low = above_lower d.lo s x within (claimed_left (lower_claims d.lo s) (upper_claims d.hi s) ends);
      high = below_upper d.hi s x within (claimed_right (lower_claims d.lo s) (upper_claims d.hi s) ends);
    }

-- the demands of f are claimed of the lines
abbrev pub AreDemanded : Function → Program → Certificate → Type 0
AreDemanded fn p cert = (j : ℕ) → j < p.outputs →
    Each Claimed (demand_claims (at free fn.demands j) (range_at cert.lines (output_code p j))
    (error_at cert.lines (output_code p j)))

pub all_in_ends : (fn : Function) (p : Program) (cert : Certificate) → AreDemanded fn p cert → (made : List (List ℤ)) →
    AllWithin p cert made → AllInEnds fn p made
all_in_ends fn p cert demanded [] within = tt
all_in_ends fn p cert demanded (w ∷ ws) within = (
  (λ j l. in_ends (at free fn.demands j) (range_at cert.lines (output_code p j)) (error_at cert.lines (output_code p j))
      (output_value p w j) (within.0 j l) (demanded j l)),
  all_in_ends fn p cert demanded ws within.1,
)
