use Rattle.std.proofs.Common.{◌≡◌, ◌<◌, length, refl, ◌∙◌, arith, rules, tests}
use Rattle.std.proofs.lemmas.List.{length-map}
use Rattle.fx_parser.specs.Views.{source_functions_of}
use Rattle.fx_parser.proofs.Choices.{none_there, only_one, several}
use Rattle.fx_parser.proofs.wanted.the_only.Goals as goal

pub returns-then-count-eq0-clause-value : goal.returns-then-count-eq0-clause-value
returns-then-count-eq0-clause-value c =
    let n : length (source_functions_of c.args.source_functions.now) ≡ length c.args.source_functions.now.list.items =
    simp length-map refl in
    let z : length c.args.source_functions.now.list.items ≡ 0 = search (rules, tests) in
    none_there (source_functions_of c.args.source_functions.now) (n ∙ z)

pub returns-then-count-gt1-clause-value : goal.returns-then-count-gt1-clause-value
returns-then-count-gt1-clause-value c =
    let n : length (source_functions_of c.args.source_functions.now) ≡ length c.args.source_functions.now.list.items =
    simp length-map refl in
    let z : 1 < length c.args.source_functions.now.list.items = search (rules, tests) in
    several (source_functions_of c.args.source_functions.now) (omega (arith, n, z))

pub returns-clause-value : goal.returns-clause-value
returns-clause-value c =
    let n : length (source_functions_of c.args.source_functions.now) ≡ length c.args.source_functions.now.list.items =
    simp length-map refl in
    let z : length c.args.source_functions.now.list.items ≡ 1 = search (rules, tests) in
    λ d. only_one (source_functions_of c.args.source_functions.now) d (n ∙ z)
