use Rattle.fx_lexer.proofs.PlaceLaws.{places}
use Rattle.fx_lexer.proofs.law.places_law.Goals as goal

pub returns : goal.returns
returns c = places
