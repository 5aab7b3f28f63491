use Rattle.std.proofs.Common.{◌≡◌, ◌+◌, ◌<◌, ℕ, pos, [], ◌∷◌, ◌++◌, length, take, drop, set, length-take-le, refl, ap, ◌∙◌, arith, map}
use Rattle.fx_rational.specs.Decimal.{decimal_value}
use Rattle.fx_model.specs.Machine.{words_after}
use Rattle.fx_model.specs.Tree.{at}
use Rattle.fx_program.specs.CodeView.{code_of}
use Rattle.fx_machine.proofs.Next.{next_goes_on, next_lawful, next_runs}
use Rattle.fx_lanes.specs.RowsSideBySide.{row_at, lane}
use Rattle.fx_lanes.proofs.Sixteen.{lane_more}
use Rattle.fx_lanes.proofs.run.run_one.Goals as goal

pub code_lanes-word-requires : goal.code_lanes-word-requires
code_lanes-word-requires g c =
    let codes = c.args.codes.now in let i = c.args.i in let n = c.args.inputs in
    let before = take i c.args.words.now in let lt : i < length codes = c.requires.within in
    let len : length before ≡ i = length-take-le i c.args.words.now (omega (arith, c.requires.sizes)) in
    record {
      width = c.requires.width;
      room = c.requires.room;
      many = c.requires.many;
      few = c.requires.few;
      lawful = next_lawful g.row.B n 0 codes i lt c.requires.lawful refl refl len;
      runs = λ (k : ℕ) (low : k < 16).
          next_runs g.row.B codes i lt (map decimal_value (row_at n k c.args.rows.now)) []
          (lane k (map g.L.SideBySide.words before)) (c.requires.runs k low);
    }

pub returns-clause-goes_on : goal.returns-clause-goes_on
returns-clause-goes_on g c = λ (k : ℕ) (low : k < 16).
    let codes = c.args.codes.now in let i = c.args.i in let words = g.L.SideBySide.words in
    let row = map decimal_value (row_at c.args.inputs k c.args.rows.now) in
    let before = lane k (map words (take i c.args.words.now)) in
    let word = at (pos 0) (words c.code_lanes-word.result) k in
    let more : lane k (map words (take (i + 1) (set c.args.words.now i c.code_lanes-word.result))) ≡ before
    ++ word ∷ [] =
    lane_more words k c.args.words.now i c.code_lanes-word.result (omega (arith, c.requires.sizes)) in
    ap (words_after g.row.B (map code_of (drop (i + 1) codes)) row []) more
    ∙ next_goes_on g.row.B codes i c.requires.within row [] before word (c.code_lanes-word.ensures k low)
