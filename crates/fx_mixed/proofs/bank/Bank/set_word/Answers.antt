use Rattle.std.proofs.Common.{◌≡◌, ◌<◌, ◌∙◌, ℕ, length, set, ◌^◌, sym, ap, subst, to_z, of_z, rules, Contains}
use Rattle.std.specs.Int.{w64}
use Rattle.std.proofs.lemmas.Int.{to_z-of_z}
use Rattle.fx_model.specs.Tree.{at}
use Rattle.fx_model.specs.Machine.{IsWord}
use Rattle.fx_model.specs.LawfulProgram.{widths}
use Rattle.fx_mixed.specs.Banks.{Stored}
use Rattle.fx_mixed.proofs.Found.{found, set_there}
use Rattle.fx_mixed.proofs.Places.{written_counted}
use Rattle.fx_mixed.proofs.bank.Bank.set_word.Goals as goal

pub write_in-requires-clause-known : goal.write_in-requires-clause-known
write_in-requires-clause-known c = subst (Contains widths) (sym c.width-width.ensures.value) c.width-width.ensures.known

pub write_in-requires-clause-word : goal.write_in-requires-clause-word
write_in-requires-clause-word c =
    subst (IsWord c.width-width.result) (sym (to_z-of_z w64 c.args.w (search rules)))
    (subst (λ (n : ℕ). IsWord n c.args.w) (sym c.width-width.ensures.value) c.requires.word)

pub write_in-requires-clause-room : goal.write_in-requires-clause-room
write_in-requires-clause-room c =
    let place = c.place-at.ensures in let width = c.width-width.ensures.value in
    (found c.place_law.ensures c.self.invariant c.self.view_is c.requires.within place width).room

pub invariant_of-self : goal.invariant_of-self
invariant_of-self c =
    let place = c.place-at.ensures in let width = c.width-width.ensures.value in let v = c.self.invariant in
    let room = (found c.place_law.ensures v c.self.view_is c.requires.within place width).room in
    let bs = c.self.inside.bytes.items in
    let many : length c.write_in.new.bytes.items ≡ length bs = ap length c.write_in.ensures
    ∙ written_counted c.place-at.result c.width-width.result bs (to_z w64 (of_z w64 c.args.w)) room in
    record {
      known = v.known;
      counted = v.counted;
      places = v.places;
      size = v.size ∙ sym many;
      small = subst (λ (m : ℕ). m < 2 ^ 32) (sym many) v.small;
    }

pub returns-clause-words : goal.returns-clause-words
returns-clause-words c =
    let place = c.place-at.ensures in let width = c.width-width.ensures.value in let k = c.args.k in
    let f = found c.place_law.ensures c.self.invariant c.self.view_is c.requires.within place width in
    let word : IsWord (at 0 c.self.inside.widths.items k) c.args.w =
    subst (λ (s : Stored). IsWord (at 0 s.widths k) c.args.w) (sym c.self.view_is) c.requires.word in
    set_there f word (to_z-of_z w64 c.args.w (search rules)) c.write_in.ensures
    ∙ ap (λ (s : Stored). set s.words k c.args.w) c.self.view_is
