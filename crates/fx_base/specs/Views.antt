-- What a source, a sink and a shelf tell of themselves at one time.
use Rattle.std.specs.Prelude.{ℕ, List, Option}
use Rattle.fx_base.specs.Moments.{Moment}
use Rattle.fx_base.specs.Requests.{Request}
use Rattle.fx_base.specs.Shelf.{Files}

pub record SourceView : Type 0 where
  -- the bytes still to come, where the source tells them
  pub left : Option (List ℕ)
  -- the moments at which it was asked for bytes, those that it notes
  pub asked : List Moment
  -- how often a read has failed; it never falls
  pub faults : ℕ

pub record SinkView : Type 0 where
  -- the bytes written so far, where the sink tells them
  pub taken : Option (List ℕ)
  -- how often a write has failed; it never falls
  pub faults : ℕ

pub record ShelfView : Type 0 where
  -- each name with its bytes, where the shelf tells them
  pub files : Option Files
  -- what it was asked for, as far as it notes that
  pub asked : List Request
  -- how often a read has failed; it never falls
  pub faults : ℕ
