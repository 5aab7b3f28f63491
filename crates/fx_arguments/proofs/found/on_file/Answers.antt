use Rattle.std.proofs.Common.{◌∙◌, rules, tests, sym, ap, refl, map}
use Rattle.std.proofs.lemmas.Iterator.{YieldsList-from_slice}
use Rattle.std.proofs.lemmas.Iterator.Search.{find_from_yields_List}
use Rattle.std.specs.Slice.Iter.{iter_rest}
use Rattle.std.specs.Str.{bytes_eq}
use Rattle.fx_arguments.proofs.OnFile.{in-table, mapped, row_of}
use Rattle.fx_arguments.proofs.found.on_file.Goals as goal

pub returns : goal.returns
returns c =
    mapped (λ row. row.now.1) _ (λ x y e. search rules) c.find.result c.map.result c.map.ensures.cases
    ∙ sym (in-table c.args.name.now (iter_rest c.iter.result) (ap (map row_of) c.iter.ensures.rest) c.find.result
    (find_from_yields_List (λ row. bytes_eq row.0.now c.args.name.now) _ _ c.find.result c.find.ensures.ran
    (YieldsList-from_slice _ refl) (λ x b q k. search (rules, tests))))
