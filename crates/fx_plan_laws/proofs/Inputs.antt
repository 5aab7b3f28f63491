-- What lawful functions give of their inputs.
use Rattle.std.proofs.Common.{ℕ, zero, suc, ◌<◌, List, [], ◌∷◌, length, get_or, pos, arith}
use Rattle.fx_rational.specs.Rational.{whole, AtMost}
use Rattle.fx_model.specs.Function as function
use Rattle.fx_model.specs.Rows.{AreInputs}

-- each input's error isn't negative
pub error_nonnegative : (is : List function.Input) (k : ℕ) (d : function.Input) → AreInputs is → k < length is →
    AtMost (whole (pos 0)) (get_or is k d).err
error_nonnegative [] k d h lt = absurd (omega (arith, lt))
error_nonnegative (i ∷ is) zero d h lt = h.0.error
error_nonnegative (i ∷ is) (suc k) d h lt = error_nonnegative is k d h.1 (omega (arith, lt))
