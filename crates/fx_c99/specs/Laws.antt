-- The laws of the C text: it can be read in one way, it does what the machine does, and nothing in it is undefined or
-- left to the compiler; and those of its header.
use Rattle.std.specs.Prelude.{◌≡◌, ◌↔◌, ℕ, ◌<◌, ◌^◌, ℤ, pos, ◌≤ℤ◌, List, length, Option, Some}
use Rattle.fx_rational.specs.Rational.{Rational, AtMost, floor_div}
use Rattle.fx_model.specs.Tree.{at, value_at}
use Rattle.fx_model.specs.Function.{Function, Input, Step, Run}
use Rattle.fx_model.specs.Names.{IsName}
use Rattle.fx_model.specs.Rows.{AreTrueOf, IsInput, AreInputs}
use Rattle.fx_model.specs.Machine.{Program, IsWord, words_of, machine_step, machine_run, start_words}
use Rattle.fx_model.specs.LawfulProgram.{IsLawfulProgram}
use Rattle.fx_inequalities.specs.Certificate.{Certificate}
use Rattle.fx_inequalities.specs.Rewriting.{Rewrites}
use Rattle.fx_sound.specs.Soundness.{IsCertified}
use Rattle.fx_statements.specs.OfProgram.{input_words}
use Rattle.fx_statements.specs.Statements.{Routine}
use Rattle.fx_statements.specs.Widths.{AreWidths, FitWidths, RowsFitWidths}
use Rattle.fx_widths.specs.LeastWidths.{least_widths}
use Rattle.fx_c99.specs.CMeaning.{floored, c_step, c_reset}
use Rattle.fx_c99.specs.OfProgram.{c_routine_of, c_text_of}
use Rattle.fx_c99.specs.CText.{c_text}
use Rattle.fx_c99.specs.CWritable.{IsCWritable}
use Rattle.fx_c99.specs.CHeader.{point, input_word, c_header_of}
use Rattle.fx_c99.specs.CHeaderMeaning.{SaysHeader}
use Rattle.fx_c99.specs.Runs.{c_text_run, Does, DoesSteps}

-- the helping function rounds down, below 0 too
abbrev pub FlooredLaw : Type 0
FlooredLaw = (bits s : ℕ) (x : ℤ) → IsWord bits x → s < bits → floored bits x s ≡ Some (floor_div x (2 ^ s))

-- the reset writes the start words, whatever stood there
abbrev pub ResetLaw : Type 0
ResetLaw = (p : Program) (s : List ℤ) → IsLawfulProgram p → length s ≡ p.states →
    c_reset p.width 0 (start_words p.codes) s ≡ Some (start_words p.codes)

-- where the machine's step isn't stuck and each word lies in its width, the text does that step
abbrev pub StepLaw : Type 0
StepLaw = (p : Program) (ns : List ℕ) (g : List Rational) (z ws : List ℤ) → IsLawfulProgram p → AreWidths p ns →
    length z ≡ p.states → words_of p g z ≡ Some ws → FitWidths ns ws →
    c_step (c_routine_of p ns) z (input_words p.codes g) ≡ machine_step p g z

-- over any rows it gives the machine's run
abbrev pub RunLaw : Type 0
RunLaw = (p : Program) (ns : List ℕ) (rows : List (List Rational)) (run : Run ℤ) (s : List ℤ) → IsLawfulProgram p →
    AreWidths p ns → length s ≡ p.states → machine_run p rows ≡ Some run →
    RowsFitWidths p ns rows (start_words p.codes) → c_text_run p ns rows s ≡ Some run

-- so at the least widths of what is certified, on all rows in range
abbrev pub CertifiedLaw : Type 0
CertifiedLaw =
    (rewrite : Rewrites) (fn : Function) (p : Program) (cert : Certificate) (gs ts : List (List Rational))
    (run : Run ℤ) (s : List ℤ) →
    IsCertified rewrite fn p cert → AreTrueOf fn.inputs gs ts → length s ≡ p.states → machine_run p gs ≡ Some run →
    c_text_run p (least_widths p cert) gs s ≡ Some run

-- ---- one reading
-- one text has one list of statements, and one of start words
pub record IsOneReading (q r : Routine) (a b : List ℤ) : Type 0 where
  pub statements : q ≡ r
  pub starts : a ≡ b

abbrev pub OneReadingLaw : Type 0
OneReadingLaw = (q r : Routine) (a b : List ℤ) → IsCWritable q a → IsCWritable r b → c_text q a ≡ c_text r b →
    IsOneReading q r a b

-- so what a text does is one thing
abbrev pub DoesOnceLaw : Type 0
DoesOnceLaw = (text : List ℕ) (s x a b : List ℤ) (d e : Option (Step ℤ)) → Does text s x a d → Does text s x b e →
    (a ≡ b) × (d ≡ e)

-- ---- a text
-- a lawful program's text does the machine's steps
abbrev pub TextLaw : Type 0
TextLaw = (p : Program) (ns : List ℕ) → IsLawfulProgram p → IsName p.name → AreWidths p ns →
    DoesSteps p ns (c_text_of p ns)

-- ---- the header
-- that of what is certified says its numbers
abbrev pub HeaderLaw : Type 0
HeaderLaw = (rewrite : Rewrites) (fn : Function) (p : Program) (cert : Certificate) →
    IsCertified rewrite fn p cert → AreInputs fn.inputs → SaysHeader fn p cert (c_header_of fn p cert)

-- the words that a step is given are its inputs' words
abbrev pub InputWordLaw : Type 0
InputWordLaw = (p : Program) (g : List Rational) (k : ℕ) → IsLawfulProgram p → k < p.inputs →
    at (pos 0) (input_words p.codes g) k ≡ input_word (value_at g k) (point p k)

-- the words from LEAST to GREATEST are those of the values in the range
abbrev pub RangeLaw : Type 0
RangeLaw = (i : Input) (f w : ℤ) → IsInput i →
    ((input_word i.lo f ≤ℤ w) × (w ≤ℤ input_word i.hi f)) ↔
    ((x : Rational) × AtMost i.lo x × AtMost x i.hi × (input_word x f ≡ w))
