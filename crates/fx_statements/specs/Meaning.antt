-- What statements do alike in every language that they are written in, by cases on their forms and on whole numbers:
-- what a type holds, names, operators, and what goes to the states and the outputs.
use Rattle.std.specs.Prelude.{◌==◌, ℕ, zero, suc, ℤ, pos, ◌+ℤ◌, ◌-ℤ◌, ◌*ℤ◌, int_div, Bool, ◌&&◌, List, [], ◌∷◌, length, Option, Some, None, if◌then◌else◌}
use Rattle.std.specs.Option.{option_map, option_and_then}
use Rattle.fx_model.specs.Function.{Step}
use Rattle.fx_model.specs.Machine.{is_word}
use Rattle.fx_statements.specs.Statements.{Size, I8, I16, I32, I64, Operator, Plus, Minus, Times, Over, Let, Store, Routine}

-- ---- types
abbrev pub bits_of : Size → ℕ
bits_of I8 = 8
bits_of I16 = 16
bits_of I32 = 32
bits_of I64 = 64

-- a number of n bits, and none where it would have to be changed
abbrev pub unchanged : ℕ → ℤ → Option ℤ
unchanged n v = if is_word n v then Some v else None

-- ---- names
-- the names that are known, the last one first
abbrev pub Names : Type 0
Names = List (ℕ × ℤ)

abbrev pub named : ℕ → Names → Option ℤ
named name [] = None
named name ((n, v) ∷ names) = if name == n then Some v else named name names

-- ---- operators
-- rounded toward zero; none at zero
abbrev pub quotient : ℤ → ℤ → Option ℤ
quotient v (pos zero) = None
quotient v w = Some (int_div v w)

-- without bound
abbrev pub result_of : Operator → ℤ → ℤ → Option ℤ
result_of Plus v w = Some (v +ℤ w)
result_of Minus v w = Some (v -ℤ w)
result_of Times v w = Some (v *ℤ w)
result_of Over v w = quotient v w

-- the names behind these statements, where a statement's value is told by the names before it
abbrev pub names_after : (Names → Let → Option ℤ) → List Let → Names → Option Names
names_after value [] names = Some names
names_after value (l ∷ ls) names =
    option_and_then (λ v. names_after value ls ((l.name, v) ∷ names)) (value names l)

-- ---- states and outputs, where a name's value, as an element of an array, is told by the name
-- element k, exchanged for v; none where there is no such element
abbrev pub put : List ℤ → ℕ → ℤ → Option (List ℤ)
put [] k v = None
put (x ∷ xs) zero v = Some (v ∷ xs)
put (x ∷ xs) (suc k) v = option_map (λ ys. x ∷ ys) (put xs k v)

-- the states behind these stores
abbrev pub stored : (ℕ → Option ℤ) → List Store → List ℤ → Option (List ℤ)
stored value [] s = Some s
stored value (t ∷ ts) s =
    option_and_then (λ v. option_and_then (stored value ts) (put s t.place v)) (value t.name)

-- the values of these names
abbrev pub values_of : (ℕ → Option ℤ) → List ℕ → Option (List ℤ)
values_of value [] = Some []
values_of value (n ∷ ns) = option_and_then (λ v. option_map (λ vs. v ∷ vs) (values_of value ns)) (value n)

-- the outputs, and the states behind the stores
abbrev pub ended : (ℕ → Option ℤ) → Routine → List ℤ → Option (Step ℤ)
ended value r s =
    option_and_then
    (λ next. option_map (λ outputs. record { outputs = outputs; next = next }) (values_of value r.results))
    (stored value r.stores s)

-- ---- all of it
-- as many states s, inputs x and outputs as it says
abbrev pub keeps_head : Routine → List ℤ → List ℤ → Bool
keeps_head r s x = length s == r.states && (length x == r.inputs && length r.results == r.outputs)

-- from the states s and the inputs x: the outputs, and the states behind it; none where the head isn't kept, since that
-- doesn't compile
abbrev pub step_by : (Names → Let → Option ℤ) → (Names → ℕ → Option ℤ) → Routine → List ℤ → List ℤ → Option (Step ℤ)
step_by value element r s x =
    if keeps_head r s x
    then option_and_then (λ names. ended (element names) r s) (names_after value r.lets [])
    else None
