-- What is written only grows.
use Rattle.std.proofs.Common.{ℕ, List, [], ◌++◌, take, Option, sym, subst, inl, inr}
use Rattle.std.proofs.KnownBytes.{Appends-nil, Appends-trans}
use Rattle.fx_stream.specs.Promise.{Grows}
use Rattle.fx_stream.specs.Running.{StopsAs}
use Rattle.fx_stream.specs.declared.fault.RunFault.{RunFault}
use Rattle.fx_stream.specs.declared.printer.Stop.{Stop}
use Rattle.fx_stream.specs.declared.printer.Stop.TheVariants.{Bad, Memory}

pub none_grown : (a : Option (List ℕ)) → Grows a a
none_grown a = ([], Appends-nil a)

pub grown_on : (a b c : Option (List ℕ)) → Grows a b → Grows b c → Grows a c
grown_on a b c x y = (x.0 ++ y.0, Appends-trans a b c x.0 y.0 x.1 y.1)

-- so at a line that stops the run
pub stopped_grows : {F : Type 0} (stop : Stop F) (number : ℕ) (a b : Option (List ℕ)) (page : List ℕ) (f : RunFault F) →
    StopsAs stop number a b page f → Grows a b
stopped_grows (Bad fault) number a b page f (inl whole) = (page, whole.1)
stopped_grows (Bad fault) number a b page f (inr cut) = (take cut.1.0 page, cut.1.2)
stopped_grows Memory number a b page f stops = subst (Grows a) (sym stops.1) (none_grown a)
