use Rattle.std.proofs.Common.{◌≡◌, ◌∙◌, ◌+◌, ◌<◌, length, take, drop, set, lit<, rules, refl, ap, arith, map, length-drop, length-take-le}
use Rattle.std.specs.Int.{w64}
use Rattle.std.proofs.lemmas.Int.{to_z-of_z}
use Rattle.std.proofs.lemmas.List.{take_more_set}
use Rattle.std.proofs.lemmas.List.Elements.{All-take, All-drop}
use Rattle.fx_rational.specs.Decimal.{decimal_value}
use Rattle.fx_model.specs.Machine.{IsWord, words_after}
use Rattle.fx_program.specs.CodeView.{code_of}
use Rattle.fx_machine.proofs.Next.{next_goes_on, next_lawful, next_runs, code_there}
use Rattle.fx_mixed.proofs.Turns.{states_stay}
use Rattle.fx_mixed.proofs.turn.turn_one.Given.{Over}
use Rattle.fx_mixed.proofs.turn.turn_one.Goals.{After-keeps, After-set_word}
use Rattle.fx_mixed.proofs.turn.turn_one.Goals as goal

-- the words are as many as the codes
counted : (g : Over) (c : After-keeps g) → length c.args.bank.now.words ≡ length c.args.codes.now
counted g c = c.keeps.ensures.counted ∙ c.requires.counted

-- the code's word is put in its place
put : (g : Over) (c : After-set_word g) →
    c.set_word.new.self.words ≡ set c.args.bank.now.words c.args.n c.code_word.result
put g c =
    c.set_word.ensures.words
    ∙ ap (set c.args.bank.now.words c.args.n)
    (to_z-of_z w64 c.get-word.result (search rules) ∙ c.get-word.ensures.value)

pub code_word-requires : goal.code_word-requires
code_word-requires g c =
    let codes = c.args.codes.now in let n = c.args.n in let ws = c.args.bank.now.words in let i = c.args.inputs in
    let s = c.args.states in let row = map decimal_value c.args.row.now in
    let m = counted g (goal.at.code_word-requires g c).After-keeps in let d = length-drop i ws in
    let room = c.requires.room in let lt : n < length codes = c.requires.within in
    let seen = next_lawful g.row.B i s codes n lt c.requires.lawful c.requires.row
    (length-take-le s (drop i ws) (omega arith)) (length-take-le n ws (omega arith)) in
    let states = All-take (IsWord g.row.B) s (drop i ws) (All-drop (IsWord g.row.B) i ws c.requires.words) in
    let words = All-take (IsWord g.row.B) n ws c.requires.words in
    let runs = next_runs g.row.B codes n lt row (take s (drop i ws)) (take n ws) c.requires.runs in
    (lit< tt, (c.requires.width, (seen, (states, (words, runs)))))

pub returns-clause-states : goal.returns-clause-states
returns-clause-states g c =
    let n = c.args.n in let ws = c.args.bank.now.words in let i = c.args.inputs in let s = c.args.states in
    let codes = c.args.codes.now in let here = goal.at.returns-clause-states g c in
    let m = counted g here.After-keeps in let lt : n < length codes = c.requires.within in
    let l = next_lawful g.row.B i s codes n lt c.requires.lawful refl refl refl in
    ap (λ us. take s (drop i us)) (put g here.After-set_word)
    ∙ states_stay g.row.B i s (code_there codes n) (map decimal_value c.args.row.now) ws n c.code_word.result
    (omega arith) l.placed c.code_word.ensures

pub returns-clause-goes_on : goal.returns-clause-goes_on
returns-clause-goes_on g c =
    let n = c.args.n in let ws = c.args.bank.now.words in let w = c.code_word.result in
    let codes = c.args.codes.now in let row = map decimal_value c.args.row.now in
    let z = take c.args.states (drop c.args.inputs ws) in let here = goal.at.returns-clause-goes_on g c in
    let m = counted g here.After-keeps in let lt : n < length codes = c.requires.within in
    let t = ap (take (n + 1)) (put g here.After-set_word) ∙ take_more_set ws n w (omega arith) in
    ap (λ us. words_after g.row.B (map code_of (drop (n + 1) codes)) row z us) t
    ∙ next_goes_on g.row.B codes n lt row z (take n ws) w c.code_word.ensures
