use Rattle.std.proofs.Common.{◌≡◌, [], length, map, take, drop, All}
use Rattle.fx_rational.specs.Decimal.{decimal_value}
use Rattle.fx_model.specs.Machine.{IsWord, words_after}
use Rattle.fx_program.specs.CodeView.{code_of}
use Rattle.fx_mixed.specs.Mixing.{states_among}
use Rattle.fx_mixed.proofs.turn.turn_codes.Given as goal

abbrev pub invariant-loop-n : goal.invariant-loop-n
invariant-loop-n g l =
    let p = l.fn.program in let row = map decimal_value l.fn.row in let old = l.initial.bank.words in record {
      widths : l.bank.widths ≡ l.initial.bank.widths;
      counted : length l.bank.words ≡ length l.initial.bank.words;
      words : All (IsWord g.row.B) l.bank.words;
      states : states_among p l.bank.words ≡ states_among p old;
      goes_on : words_after g.row.B (map code_of (drop l.n l.codes)) row (states_among p old) (take l.n l.bank.words)
          ≡ words_after g.row.B (map code_of l.codes) row (states_among p old) [];
    }
