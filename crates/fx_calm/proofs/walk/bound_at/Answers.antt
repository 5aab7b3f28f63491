use Rattle.std.proofs.Common.{subst}
use Rattle.std.proofs.lemmas.List.{length-map, get_or-map}
use Rattle.fx_plan_laws.specs.Bounds.{no_bound}
use Rattle.fx_calm.specs.BoundOf.{bound_of, IsShort}
use Rattle.fx_calm.proofs.walk.bound_at.Goals as goal

pub returns-clause-short : goal.returns-clause-short
returns-clause-short c =
    subst IsShort (get_or-map bound_of c.args.bs.now c.args.a _ no_bound c.requires.within)
    (c.requires.short c.args.a no_bound (rw (length-map c.args.bs.now bound_of) c.requires.within))
