-- The statements of a program for C: those of its Rust text, but that nothing is shifted to the left, since C doesn't
-- define that below 0: a word is multiplied by a power of two; that an operand of n bits is shifted to the right by
-- n - 1 at most, since by more nothing but its sign is left, and C asks for fewer bits than a type has; and that
-- nothing is shifted by 0.
use Rattle.std.specs.Prelude.{ℕ, zero, suc, ◌-◌, nat_lt, ℤ, pos, negsuc, List, if◌then◌else◌}
use Rattle.fx_model.specs.Machine.{Round, Floor, Nearest, Code, Program, Const, Neg, Add, Sub, Mul, Div, Copy, start_words}
use Rattle.fx_model.specs.Machine as machine
use Rattle.fx_statements.specs.Statements.{Plus, Minus, Times, Over, Wide, Widened, Power, Negated, Two, Shifted, Right, Value, Input, State, Number, Narrowed, Let, Routine}
use Rattle.fx_statements.specs.OfProgram.{product, let_by, lets_by, routine_by}
use Rattle.fx_c99.specs.CText.{c_text}

-- n - 1 at most
abbrev pub few : ℕ → ℕ → ℕ
few n s = if nat_lt s n then s else n - 1

-- the word of code a, times 2^s
abbrev pub raised : ℕ → ℕ → Wide
raised a s = Two Times (Widened a) (Power s)

-- shifted to the right, and rounded: to the nearest by half a unit more
abbrev pub c_rounded : Round → Wide → ℕ → Wide
c_rounded r e zero = e
c_rounded Floor e (suc s) = Shifted Right e (suc s)
c_rounded Nearest e (suc s) = Shifted Right (Two Plus e (Power s)) (suc s)

-- the word of code a, shifted to the right and rounded, or to the left by a negative number
abbrev pub c_operand : ℕ → Round → ℕ → ℤ → Wide
c_operand n Floor a (pos s) = c_rounded Floor (Widened a) (few n s)
c_operand n Nearest a (pos s) = c_rounded Nearest (Widened a) s
c_operand n r a (negsuc s) = raised a (suc s)

-- what the word of a code is made of
abbrev pub c_value_for : ℕ → Code → Value
c_value_for n (machine.Input k f) = Input k
c_value_for n (machine.State k f w) = State k
c_value_for n (Const w f) = Number w
c_value_for n (Neg a) = Narrowed (Negated (Widened a))
c_value_for n (Add a b sa sb) = Narrowed (Two Plus (c_operand n Floor a sa) (c_operand n Floor b sb))
c_value_for n (Sub a b sa sb) = Narrowed (Two Minus (c_operand n Floor a sa) (c_operand n Floor b sb))
c_value_for n (Mul r a b s) = Narrowed (c_rounded r (product a b) s)
c_value_for n (Div a b s) = Narrowed (Two Over (raised a s) (Widened b))
c_value_for n (Copy r a s) = Narrowed (c_operand n r a s)

-- the name of a code, of the type that its width asks for; names for codes from code k on
abbrev pub c_let_of : ℕ → ℕ → ℕ → Code → Let
c_let_of n = let_by (c_value_for n)

abbrev pub c_lets_from : ℕ → ℕ → List ℕ → List Code → List Let
c_lets_from n = lets_by (c_value_for n)

-- the whole program
abbrev pub c_routine_of : Program → List ℕ → Routine
c_routine_of p = routine_by (c_value_for p.width) p

-- and its text
abbrev pub c_text_of : Program → List ℕ → List ℕ
c_text_of p widths = c_text (c_routine_of p widths) (start_words p.codes)
