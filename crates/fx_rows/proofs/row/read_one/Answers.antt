use Rattle.std.proofs.Common.{◌≡◌, [], ◌∷◌, true, Ok, Option, Some, None, length, get_or, ap, sym, subst, ◌∙◌, refl, arith, rules}
use Rattle.std.proofs.lemmas.List.{drop_all}
use Rattle.fx_rows.specs.Line.{line_fields}
use Rattle.fx_rows.specs.Results.{IsRowRead}
use Rattle.fx_rows.specs.Values.{Values, row_of_fields}
use Rattle.fx_rows.proofs.Numbers.{no_special, no_return, no_mark, one_value}
use Rattle.fx_rows.proofs.Read.{place-at}
use Rattle.fx_rows.proofs.Ranges.{as-many-ranges, no_range, range-at}
use Rattle.fx_rows.proofs.row.read_one.Goals as goal

pub unmarked_line_law-requires-clause-plain : goal.unmarked_line_law-requires-clause-plain
unmarked_line_law-requires-clause-plain c = no_special c.args.line.now c.in-Ok.given c.in-Ok.ensures

pub unmarked_line_law-requires-clause-unmarked : goal.unmarked_line_law-requires-clause-unmarked
unmarked_line_law-requires-clause-unmarked c = no_mark c.args.line.now c.in-Ok.given c.in-Ok.ensures

pub returns-clause-no_return : goal.returns-clause-no_return
returns-clause-no_return c = λ _. no_return c.args.line.now c.in-Ok.given c.in-Ok.ensures

pub returns-clause-read : goal.returns-clause-read
returns-clause-read c = λ yes is h.
    let ps = c.args.columns.now.places.now in
    let one : length c.args.columns.now.ranges.now ≡ 1 = omega (arith, c.if-ranges-ne1.false) in
    let x = range-at is c.args.columns.now.ranges.now h 0 no_range (omega arith) in
    let first : get_or ps 0 0 ≡ 0 = omega (arith, c.if-places-ne0.false) in
    let many = as-many-ranges is c.args.columns.now.ranges.now h in
    let inputs : is ≡ x.0 ∷ [] = x.1 ∙ ap (λ l. x.0 ∷ l) (drop_all 1 is (omega arith)) in
    let places : ps ≡ 0 ∷ [] = place-at ps 0 (omega arith) ∙ ap (λ l. get_or ps 0 0 ∷ l) (drop_all 1 ps (omega arith))
    ∙ ap (λ n. n ∷ []) first in
    let items : c.push.new.self.items ≡ c.in-Ok.given ∷ [] = search rules in
    let row : row_of_fields is ps (line_fields c.args.line.now)
    ≡ Some (record { values = c.in-Ok.given ∷ []; fault = None }) =
    ap (λ l. row_of_fields l ps (line_fields c.args.line.now)) inputs
    ∙ ap (λ l. row_of_fields (x.0 ∷ []) l (line_fields c.args.line.now)) places
    ∙ one_value c.args.line.now c.in-Ok.given c.in-Ok.ensures x.0 (sym (x.2 c.in-Ok.given c.contains.ensures.places)
    ∙ sym c.contains.ensures.value ∙ c.if-not-contains.false) c.unmarked_line_law.ensures in
    subst (λ (o : Option Values). IsRowRead (Ok true) c.push.new.self.items o) (sym row) (refl, items)
