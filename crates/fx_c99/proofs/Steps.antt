-- The whole step, and a run.
use Rattle.std.proofs.Common.{ℕ, ◌≤◌, ℤ, pos, List, sym, ap, ◌∙◌, arith}
use Rattle.std.specs.Option.{option_and_then}
use Rattle.fx_rational.specs.Rational.{Rational}
use Rattle.fx_model.specs.Tree.{at}
use Rattle.fx_model.specs.Function.{run_of}
use Rattle.fx_model.specs.Machine.{start_words}
use Rattle.fx_statements.specs.Meaning.{bits_of, Names}
use Rattle.fx_statements.specs.OfProgram.{least_size, input_words}
use Rattle.fx_statements.proofs.Kept as keep
use Rattle.fx_statements.proofs.Names.{Known}
use Rattle.fx_statements.proofs.Starts.{start_count}
use Rattle.fx_statements.proofs.Lets.{size_holds, CodesGive}
use Rattle.fx_statements.proofs.Ends.{AreWordsOf}
use Rattle.fx_statements.proofs.Frames.{words_give}
use Rattle.fx_statements.proofs.Rows.{rows_give}
use Rattle.fx_statements.proofs.Steps.{step_gives}
use Rattle.fx_c99.specs.CMeaning.{element, c_let_value, element_of, c_step}
use Rattle.fx_c99.specs.OfProgram.{c_value_for, c_routine_of}
use Rattle.fx_c99.specs.Laws.{ResetLaw, StepLaw, RunLaw}
use Rattle.fx_c99.proofs.Codes.{element_kept, code_value}

-- the word of each name, as an element of the arrays
elements : (n : ℕ) → n ≤ 64 → (names : Names) (vs : List ℤ) → Known n names vs → AreWordsOf (element_of n names) vs
elements n hi names vs k c lt =
    ap (option_and_then (element n)) (k.is c lt) ∙ element_kept n (at (pos 0) vs c) hi (k.fits c lt)

-- the statement of a code, of the type that its width asks for
codes_give : (n i : ℕ) (g : List Rational) (z x : List ℤ) → 8 ≤ n → n ≤ 64 →
    CodesGive n i g z x (c_value_for n) (c_let_value n z x)
codes_give n i g z x lo hi m c ws names w known l placed here e le word narrow =
    let size = size_holds m (omega arith) in
    code_value n i (bits_of (least_size m)) c g z x ws names w
    record { least = lo; most = hi; known = known } l placed here e word
    (keep.wider m (bits_of (least_size m)) w size.0 narrow)

pub step_is : StepLaw
step_is p ns g z ws lawful widths states e within =
    let x = input_words p.codes g in
    step_gives (c_value_for p.width) (c_let_value p.width z x) (element_of p.width) p ns g z ws
    (codes_give p.width p.inputs g z x) (elements p.width) lawful widths states e within
    ∙ sym (words_give p g z ws e)

-- ---- a run
pub run_is : ResetLaw → RunLaw
run_is reset p ns rows run s lawful widths states e within =
    ap (option_and_then (run_of (λ g z. c_step (c_routine_of p ns) z (input_words p.codes g)) rows))
    (reset p s lawful states)
    ∙ rows_give p ns (λ g z. c_step (c_routine_of p ns) z (input_words p.codes g))
    (λ g z ws states e within. step_is p ns g z ws lawful widths states e within) rows
    (start_words p.codes) run lawful (start_count p lawful) e within
