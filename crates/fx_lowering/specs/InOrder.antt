-- What is asked of a code of a program, behind codes with given points.
use Rattle.std.specs.Prelude.{ℕ, ℤ, ◌≤◌, List, length}
use Rattle.fx_model.specs.LawfulProgram.{IsPoint, IsLawfulCode, IsPlaced, IsCopy, IsOfVersion}
use Rattle.fx_model.specs.Machine.{Code, point_of}
use Rattle.fx_lowering.specs.declared.lawful.Frame.{Frame}

-- code k of a program with this frame, its point aside
pub record MayStand (h : Frame) (k : ℕ) (c : Code) : Type 0 where
  pub lawful : IsLawfulCode h.width k c
  pub placed : IsPlaced h.inputs h.states k c
  pub of_version : IsOfVersion h.version c
  pub copy : h.first_copy ≤ k → IsCopy c

-- the same behind codes with these points
pub record MayFollow (h : Frame) (ps : List ℤ) (c : Code) : Type 0 where
  pub stands : MayStand h (length ps) c
  pub point : IsPoint (point_of c ps)
