-- What contracts see of the kinds in memory, and what a call leaves of it.
use Rattle.std.specs.Prelude.{ℕ, List, ◌++◌, drop, is_some, if◌then◌else◌, Result, Ok, Err}
use Rattle.fx_base.specs.Causes.{counted}
use Rattle.fx_base.specs.Shelf.{Files, paper_of}
use Rattle.fx_base.specs.declared.answers.Failed.{Failed}

-- the bytes still to come, the longest piece, the numbers of the calls that fail, the calls so far, the faults so far
pub record InputState : Type 0 where
  pub left : List ℕ
  pub piece : ℕ
  pub fails : List ℕ
  pub calls : ℕ
  pub faults : ℕ

-- a read that gave n bytes took them, and one that failed raised the count
abbrev pub after_read : InputState → Result ℕ Failed → InputState
after_read s (Ok n) = record s { left = drop n s.left; calls = counted s.calls }
after_read s (Err e) = record s { calls = counted s.calls; faults = counted s.faults }

-- the bytes written so far, the numbers of the calls that fail, the calls so far, the faults so far
pub record OutputState : Type 0 where
  pub taken : List ℕ
  pub fails : List ℕ
  pub calls : ℕ
  pub faults : ℕ

-- a write appended the piece, and one that failed raised the count
abbrev pub after_write : OutputState → List ℕ → Result ℕ Failed → OutputState
after_write s piece (Ok n) = record s { taken = s.taken ++ piece; calls = counted s.calls }
after_write s piece (Err e) = record s { calls = counted s.calls; faults = counted s.faults }

-- the files, the numbers of the calls that fail, the calls so far, the faults so far
pub record ShelfState : Type 0 where
  pub files : Files
  pub fails : List ℕ
  pub calls : ℕ
  pub faults : ℕ

-- a read that failed raised the count, but for a name that isn't there
abbrev pub after_read_at : ShelfState → List ℕ → Result ℕ Failed → ShelfState
after_read_at s name (Ok n) = record s { calls = counted s.calls }
after_read_at s name (Err e) = record s {
  calls = counted s.calls;
  faults = if is_some (paper_of s.files name) then counted s.faults else s.faults;
}
