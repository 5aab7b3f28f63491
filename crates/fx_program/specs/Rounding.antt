-- How the codes of a program round that was asked for with a way to round.
use Rattle.std.specs.Prelude.{◌≡◌, ℕ, ℤ, ◌&&◌, int_le, nat_le, All, if◌then◌else◌}
use Rattle.fx_model.specs.LawfulProgram.{least_shift, least_copy_shift, greatest_copy_shift, first_version}
use Rattle.fx_model.specs.Machine.{Round, Floor, Code, Program, Mul, Copy}

-- how a product rounds: so where its shift may, and else down
abbrev pub product_round : Round → ℕ → Round
product_round r s = if nat_le (least_shift r) s then r else Floor

-- the same of a copy of words of n bits
abbrev pub copy_round : Round → ℕ → ℤ → Round
copy_round r n s = if int_le (least_copy_shift r n) s && int_le s (greatest_copy_shift r n) then r else Floor

-- a code of words of n bits rounds so
abbrev pub RoundsBy : Round → ℕ → Code → Type 0
RoundsBy r n (Mul r' a b s) = r' ≡ product_round r s
RoundsBy r n (Copy r' a s) = r' ≡ copy_round r n s
RoundsBy r n c = Unit {0}

-- each code of the program does, and its version is the one that this way came with
pub record IsRoundedBy (r : Round) (p : Program) : Type 0 where
  pub version : p.version ≡ first_version r
  pub codes : All (RoundsBy r p.width) p.codes
