-- The statements of a lawful program can be written, and what the text does.
use Rattle.std.proofs.Common.{◌≡◌, ℕ, zero, suc, ◌+◌, ◌^◌, ◌<◌, ◌≤◌, ℤ, pos, negsuc, nat_lt, Bool, true, false, List, [], ◌∷◌, refl, arith}
use Rattle.fx_model.specs.Names.{IsName}
use Rattle.fx_model.specs.Machine.{Round, Floor, Nearest, Code, Program, Const, Neg, Add, Sub, Mul, Div, Copy, start_words}
use Rattle.fx_model.specs.Machine as machine
use Rattle.fx_model.specs.LawfulProgram.{IsLawfulProgram}
use Rattle.fx_model.proofs.Widths.{width_of}
use Rattle.fx_statements.specs.Statements.{Wide, Widened}
use Rattle.fx_statements.specs.OfProgram.{rounded, operand, product, value_for}
use Rattle.fx_statements.specs.Writable.{IsShortWide, IsShortValue}
use Rattle.fx_statements.proofs.Writable.{short_word, short_value, program_writable}
use Rattle.fx_c99.specs.OfProgram.{few, c_rounded, c_operand, c_value_for, c_lets_from, c_routine_of}
use Rattle.fx_c99.specs.CWritable.{IsCWide, IsCValue, AreCLets, AreShortWords, IsCWritable}
use Rattle.fx_c99.specs.Laws.{TextLaw}
use Rattle.fx_c99.proofs.Resets.{AreWords, start_fit}
use Rattle.fx_statements.proofs.Starts.{start_count}
use Rattle.fx_c99.proofs.Steps.{step_is}

-- ---- what is short as Rust has it is so as C has it
short_rounded : (r : Round) (e : Wide) (s : ℕ) → IsShortWide (rounded r e s) → IsShortWide (c_rounded r e s)
short_rounded Floor e zero h = h.0
short_rounded Nearest e zero h = h.0
short_rounded Floor e (suc s) h = h
short_rounded Nearest e (suc s) h = h

short_few : (n s : ℕ) → n ≤ 64 → few n s < 2 ^ 64
short_few n s le = by (nat_lt s n) refl
  where
    by : (b : Bool) → nat_lt s n ≡ b → few n s < 2 ^ 64
    by true e = rw e (grind arith)
    by false e = rw e (omega arith)

short_operand : (n : ℕ) (r : Round) (a : ℕ) (s : ℤ) → n ≤ 64 → IsShortWide (operand r a s) →
    IsShortWide (c_operand n r a s)
short_operand n Floor a (pos s) le h = short_rounded Floor (Widened a) (few n s) (h.0, short_few n s le)
short_operand n Nearest a (pos s) le h = short_rounded Nearest (Widened a) s h
short_operand n Floor a (negsuc s) le h = h
short_operand n Nearest a (negsuc s) le h = h

short_for_c : (n : ℕ) (c : Code) → n ≤ 64 → IsShortValue (value_for c) → IsShortValue (c_value_for n c)
short_for_c n (machine.Input j f) le h = h
short_for_c n (machine.State j f w) le h = h
short_for_c n (Const w f) le h = h
short_for_c n (Neg a) le h = h
short_for_c n (Add a b sa sb) le h = (short_operand n Floor a sa le h.0, short_operand n Floor b sb le h.1)
short_for_c n (Sub a b sa sb) le h = (short_operand n Floor a sa le h.0, short_operand n Floor b sb le h.1)
short_for_c n (Mul r a b s) le h = short_rounded r (product a b) s h
short_for_c n (Div a b s) le h = h
short_for_c n (Copy r a s) le h = short_operand n r a s le h

-- ---- no form that C hasn't
c_rounds : (r : Round) (e : Wide) (s : ℕ) → IsCWide e → IsCWide (c_rounded r e s)
c_rounds Floor e zero h = h
c_rounds Nearest e zero h = h
c_rounds Floor e (suc s) h = h
c_rounds Nearest e (suc s) h = (h, tt)

c_operands : (r : Round) (n a : ℕ) (s : ℤ) → IsCWide (c_operand n r a s)
c_operands Floor n a (pos s) = c_rounds Floor (Widened a) (few n s) tt
c_operands Nearest n a (pos s) = c_rounds Nearest (Widened a) s tt
c_operands Floor n a (negsuc s) = (tt, tt)
c_operands Nearest n a (negsuc s) = (tt, tt)

c_values : (n : ℕ) (c : Code) → IsCValue (c_value_for n c)
c_values n (machine.Input j f) = tt
c_values n (machine.State j f w) = tt
c_values n (Const w f) = tt
c_values n (Neg a) = tt
c_values n (Add a b sa sb) = (c_operands Floor n a sa, c_operands Floor n b sb)
c_values n (Sub a b sa sb) = (c_operands Floor n a sa, c_operands Floor n b sb)
c_values n (Mul r a b s) = c_rounds r (product a b) s (tt, tt)
c_values n (Div a b s) = ((tt, tt), tt)
c_values n (Copy r a s) = c_operands r n a s

c_lets : (n k : ℕ) (ns : List ℕ) (cs : List Code) → AreCLets (c_lets_from n k ns cs)
c_lets n k ns [] = tt
c_lets n k ns (c ∷ cs) = (c_values n c, c_lets n (k + 1) ns cs)

short_words : (n : ℕ) (ws : List ℤ) → n ≤ 64 → AreWords n ws → AreShortWords ws
unfolding AreWords
short_words n [] le h = tt
short_words n (w ∷ ws) le h = (short_word n w le h.0, short_words n ws le h.1)

program_starts : (p : Program) → IsLawfulProgram p → AreShortWords (start_words p.codes)
program_starts p lawful =
    let w = width_of p.width lawful.width in
    short_words p.width (start_words p.codes) w.most
    (start_fit p.width p.inputs p.states 0 p.codes lawful.codes)

pub program_written : (p : Program) (ns : List ℕ) → IsLawfulProgram p → IsName p.name →
    IsCWritable (c_routine_of p ns) (start_words p.codes)
program_written p ns lawful name = record {
  writable = program_writable (c_value_for p.width) p ns
      (λ k c less l placed. let most = (width_of p.width lawful.width).most in
      short_for_c p.width c most (short_value p.width p.inputs p.states k c most less l placed)) lawful name;
  forms = c_lets p.width 0 ns p.codes;
  short = program_starts p lawful;
  counted = start_count p lawful;
}

pub text_is : TextLaw
text_is p ns lawful name widths = record {
  does = λ g z ws states e fits. record {
    routine = c_routine_of p ns;
    writable = program_written p ns lawful name;
    written = refl;
    step = step_is p ns g z ws lawful widths states e fits;
  };
}
