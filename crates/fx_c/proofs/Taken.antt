-- The names that a statement takes are the operands of its code, and how many names aren't copies.
use Rattle.std.proofs.Common.{◌≡◌, ℕ, zero, suc, ◌+◌, ◌-◌, ◌<◌, ℤ, pos, negsuc, nat_eq, Bool, true, false, List, [], ◌∷◌, ◌++◌, length, get_or, take, map, refl, sym, ap, ◌∙◌, codes}
use Rattle.std.specs.Prelude.{◌||◌}
use Rattle.std.specs.List.{flat_map, list_any, range_with_len}
use Rattle.std.proofs.lemmas.List.{flat_map_more, length-map}
use Rattle.std.proofs.lemmas.List.FromFn.{length-range_with_len}
use Rattle.fx_model.specs.Machine.{Round, Floor, Nearest, Code, Program, Const, Neg, Add, Sub, Mul, Div, Copy, first_copy}
use Rattle.fx_model.specs.Machine as machine
use Rattle.fx_model.specs.Tree.{at}
use Rattle.fx_statements.specs.Statements.{Wide, Widened, Let}
use Rattle.fx_statements.specs.OfProgram.{product, store_of, stores_of}
use Rattle.fx_program.specs.ProgramView.{program_with}
use Rattle.fx_program.specs.CodeView.{code_of}
use Rattle.fx_program.specs.declared.code.Code as program
use Rattle.fx_c99.specs.CText.{c_let_text, takes, let_takes, unread_text, unreads_text, first_names, assignment_text, placed, body_text}
use Rattle.fx_c.specs.Around.{code_takes}
use Rattle.fx_c99.specs.OfProgram.{few, c_rounded, c_operand, c_value_for, c_let_of, c_lets_from, c_routine_of}
use Rattle.fx_rust.proofs.Appended.{lets_more}
use Rattle.fx_c.proofs.Appended.{four_pieces}

or_false : (b : Bool) → (b || false) ≡ b
or_false true = refl
or_false false = refl

rounded_takes : (m : ℕ) (r : Round) (e : Wide) (s : ℕ) → takes m (c_rounded r e s) ≡ takes m e
rounded_takes m Floor e zero = refl
rounded_takes m Nearest e zero = refl
rounded_takes m Floor e (suc s) = refl
rounded_takes m Nearest e (suc s) = or_false (takes m e)

operand_takes : (m n : ℕ) (r : Round) (a : ℕ) (s : ℤ) → takes m (c_operand n r a s) ≡ nat_eq a m
operand_takes m n Floor a (pos s) = rounded_takes m Floor (Widened a) (few n s)
operand_takes m n Nearest a (pos s) = rounded_takes m Nearest (Widened a) s
operand_takes m n Floor a (negsuc s) = or_false (nat_eq a m)
operand_takes m n Nearest a (negsuc s) = or_false (nat_eq a m)

let_takes_is : (m n k w : ℕ) (c : Code) → let_takes m (c_let_of n k w c) ≡ code_takes m c
let_takes_is m n k w (machine.Input j f) = refl
let_takes_is m n k w (machine.State j f v) = refl
let_takes_is m n k w (Const v f) = refl
let_takes_is m n k w (Neg a) = refl
let_takes_is m n k w (Add a b sa sb) =
    (λ i. operand_takes m n Floor a sa i || operand_takes m n Floor b sb i)
let_takes_is m n k w (Sub a b sa sb) =
    (λ i. operand_takes m n Floor a sa i || operand_takes m n Floor b sb i)
let_takes_is m n k w (Mul r a b s) = rounded_takes m r (product a b) s
let_takes_is m n k w (Div a b s) = ap (λ (x : Bool). x || nat_eq b m) (or_false (nat_eq a m))
let_takes_is m n k w (Copy r a s) = operand_takes m n r a s

-- what any code takes, any statement takes
pub any_takes_is : (m n k : ℕ) (ns : List ℕ) (cs : List Code)
    → list_any (let_takes m) (c_lets_from n k ns cs) ≡ list_any (code_takes m) cs
any_takes_is m n k ns [] = refl
any_takes_is m n k ns (c ∷ cs) =
    λ i. let_takes_is m n k (at 0 ns k) c i || any_takes_is m n (k + 1) ns cs i

-- one more name that may stand unread
pub unread_more : {X : Type 0} (f : X → Code) (ls : List Let) (first n : ℕ) (ns : List ℕ) (xs : List X) (k : ℕ) (d : X)
    (old out new : List ℕ) → k < length xs
    → out ≡ old ++ unreads_text ls first (c_lets_from n 0 ns (map f (take k xs))) →
    new ≡ out ++ unread_text ls first k
    → new ≡ old ++ unreads_text ls first (c_lets_from n 0 ns (map f (take (k + 1) xs)))
unread_more f ls first n ns xs k d old out new lt p q =
    let text : Let → List ℕ = λ l. unread_text ls first l.name in
    let l = c_let_of n k (at 0 ns k) (f (get_or xs k d)) in
    q ∙ ap (λ o. o ++ text l) p ∙ flat_map_more text old (c_lets_from n 0 ns (map f (take k xs))) l
    ∙ ap (λ us. old ++ flat_map text us) (sym (lets_more (c_value_for n) f ns xs k d lt))

lets_length : (n k : ℕ) (ns : List ℕ) (cs : List Code) → length (c_lets_from n k ns cs) ≡ length cs
lets_length n k ns [] = refl
lets_length n k ns (c ∷ cs) = ap suc (lets_length n (k + 1) ns cs)

first_is : (p : Program) (ns : List ℕ) → first_names (c_routine_of p ns) ≡ first_copy p
first_is p ns =
    let a = lets_length p.width 0 ns p.codes in
    let b = length-range_with_len (first_copy p) p.outputs in
    let c = length-map (range_with_len 0 p.states) (λ k. store_of k ((first_copy p + p.outputs) + k)) in
    let d = length-range_with_len 0 p.states in
    λ i. a i - (b i + (c ∙ d) i)

-- the statements of a body, one after the other, of a program with this inside
pub body_is : (q : Program) (version width inputs states outputs : ℕ) (name : List ℕ) (cs : List program.Code)
    (ns : List ℕ) (first : ℕ) (old a b c new : List ℕ) →
    program_with version width name inputs states outputs cs ≡ q → first ≡ length cs - (outputs + states)
    → a ≡ old ++ flat_map (c_let_text width) (c_lets_from width 0 ns (map code_of cs)) →
    b ≡ a ++ flat_map (assignment_text (codes "state") width) (stores_of (first + outputs) states) →
    c ≡ b ++ flat_map (assignment_text (codes "output") width) (placed 0 (range_with_len first outputs)) →
    new ≡ c ++ unreads_text (c_lets_from width 0 ns (map code_of cs)) first (c_lets_from width 0 ns (map code_of cs))
    → new ≡ old ++ body_text (c_routine_of q ns)
body_is q version width inputs states outputs name cs ns first old a b c new view is pa pb pc pn =
    let p = program_with version width name inputs states outputs cs in
    let ls = c_lets_from width 0 ns (map code_of cs) in
    let e : first ≡ first_copy p = is ∙ ap (λ (k : ℕ). k - (outputs + states)) (sym (length-map cs code_of)) in
    let stored : ℕ → List ℕ =
    λ k. flat_map (assignment_text (codes "state") width) (stores_of (k + outputs) states) in
    let given : ℕ → List ℕ =
    λ k. flat_map (assignment_text (codes "output") width) (placed 0 (range_with_len k outputs)) in
    four_pieces (flat_map (c_let_text width) ls) (stored first) (given first) (unreads_text ls first ls) old a b c new
    pa pb pc pn
    ∙ ap (λ (k : ℕ). old ++ (flat_map (c_let_text width) ls ++ (stored k ++ (given k ++ unreads_text ls k ls)))) e
    ∙ ap (λ (k : ℕ). old ++ (flat_map (c_let_text width) ls ++ (stored (first_copy p) ++ (given (first_copy p)
    ++ unreads_text ls k ls)))) (sym (first_is p ns))
    ∙ ap (λ (r : Program). old ++ body_text (c_routine_of r ns)) view
