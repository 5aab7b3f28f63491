use Rattle.std.proofs.Common.{◌∙◌, pos, sym, ap, subst, arith, drop, le_of_eq, SFits, rules, Contains}
use Rattle.std.specs.Int.{w64}
use Rattle.std.proofs.lemmas.Int.{to_z-of_z}
use Rattle.fx_model.specs.Tree.{at}
use Rattle.fx_model.specs.LawfulProgram.{widths}
use Rattle.fx_mixed.specs.Packed.{first_word}
use Rattle.fx_mixed.proofs.bank.Bank.word.Goals as goal

pub read_word-requires-clause-known : goal.read_word-requires-clause-known
read_word-requires-clause-known c = subst (Contains widths) (sym c.width.ensures.value) c.width.ensures.known

pub read_word-requires-clause-room : goal.read_word-requires-clause-room
read_word-requires-clause-room c =
    let p =
    c.place_law.ensures c.args.self.now.widths c.all.result.now c.args.k c.all.ensures.known
    (le_of_eq c.all.ensures.size) c.requires in
    let w = p.within in omega (arith, c.place.ensures, c.width.ensures.value, c.all.ensures.size)

pub returns : goal.returns
returns c =
    let p =
    c.place_law.ensures c.args.self.now.widths c.all.result.now c.args.k c.all.ensures.known
    (le_of_eq c.all.ensures.size) c.requires in
    (let f : SFits w64 c.read_word.result = search rules in to_z-of_z w64 c.read_word.result f) ∙ c.read_word.ensures
    ∙ (λ i. first_word (c.width.ensures.value i) (drop (c.place.ensures i) c.all.result.now)) ∙ sym p.here
    ∙ ap (λ us. at (pos 0) us c.args.k) (sym c.all.ensures.words)
