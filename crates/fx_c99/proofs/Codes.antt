-- What a statement gives where the step isn't stuck at its code.
use Rattle.std.proofs.Common.{◌≡◌, ℕ, zero, suc, ◌+◌, ◌-◌, ◌*◌, ◌^◌, ◌<◌, ◌≤◌, ℤ, pos, negsuc, ◌+ℤ◌, ◌-ℤ◌, ◌*ℤ◌, ◌≤ℤ◌, neg_ℤ}
use Rattle.std.proofs.Common.{List, [], ◌∷◌, length, true, Some, refl, sym, ap, ◌∙◌, arith}
use Rattle.std.proofs.lemmas.Int.{ints}
use Rattle.std.specs.Option.{option_and_then}
use Rattle.std.proofs.lemmas.Option.{slice_get-get_or}
use Rattle.fx_rational.specs.Rational.{Rational, floor, scaled, floor_div}
use Rattle.fx_model.specs.Tree.{at, value_at}
use Rattle.fx_model.specs.Machine.{Round, Floor, Nearest, Code, Const, Neg, Add, Sub, Mul, Div, Copy, IsWord, shifted, half}
use Rattle.fx_model.specs.Machine.{floor_divided, made, kept}
use Rattle.fx_model.specs.Machine as machine
use Rattle.fx_model.specs.LawfulProgram.{IsShift, IsCopyShift, IsLawfulCode, IsPlaced}
use Rattle.fx_model.proofs.Wide.{product_wide, left_wide, word_half_wide, product_half_wide}
use Rattle.fx_model.proofs.Rounds.{copy_is_shift}
use Rattle.fx_statements.specs.Statements.{Plus, Minus, Times, Over, Operator, Wide, Widened, Power, Negated, Two, Narrowed}
use Rattle.fx_statements.specs.Meaning.{bits_of, unchanged, Names, result_of}
use Rattle.fx_statements.specs.OfProgram.{product, least_size}
use Rattle.fx_statements.proofs.Kept as keep
use Rattle.fx_statements.proofs.Names.{Place}
use Rattle.fx_statements.proofs.Inputs.{IsAtHand}
use Rattle.fx_statements.proofs.Lets.{size_holds, word_made, quotient_made}
use Rattle.fx_c99.specs.Working.{is_additive, working_bits, double_bits}
use Rattle.fx_c99.specs.CMeaning.{floored, c_wide_value, element, c_value_in}
use Rattle.fx_c99.specs.OfProgram.{few, c_rounded, c_operand, c_value_for}
use Rattle.fx_c99.specs.OfProgram.{raised as by_power}
use Rattle.fx_c99.proofs.Rounded.{floored_is, floor_one, few_less, few_enough}
use Rattle.fx_c99.proofs.Rooms.{plain_holds, double_holds, power_word, Room, working_rooms, copy_room}

-- ---- expressions, computed in so many bits
widened : {n : ℕ} {names : Names} {ws : List ℤ} → Place n names ws → (bits a : ℕ) → n ≤ bits → a < length ws
    → c_wide_value bits names (Widened a) ≡ Some (at (pos 0) ws a)
widened {n} {names} {ws} p bits a le lt =
    ap (option_and_then (unchanged bits)) (p.known.is a lt)
    ∙ keep.kept_in n bits (at (pos 0) ws a) le (p.known.fits a lt)

on_one : (bits : ℕ) (names : Names) (e : Wide) (v r : ℤ) → c_wide_value bits names e ≡ Some v → neg_ℤ v ≡ r →
    IsWord bits r → c_wide_value bits names (Negated e) ≡ Some r
on_one bits names e v r h same fits =
    ap (option_and_then (λ v. unchanged bits (neg_ℤ v))) h ∙ ap (unchanged bits) same ∙ keep.kept bits r fits

on_two : (bits : ℕ) (names : Names) (operator : Operator) (e f : Wide) (v w r : ℤ) →
    c_wide_value bits names e ≡ Some v → c_wide_value bits names f ≡ Some w
    → result_of operator v w ≡ Some r → IsWord bits r
    → c_wide_value bits names (Two operator e f) ≡ Some r
on_two bits names operator e f v w r h k same fits =
    ap (option_and_then (λ v. option_and_then (λ w. option_and_then (unchanged bits) (result_of operator v w))
    (c_wide_value bits names f))) h
    ∙ ap (option_and_then (λ w. option_and_then (unchanged bits) (result_of operator v w))) k
    ∙ ap (option_and_then (unchanged bits)) same ∙ keep.kept bits r fits

-- what a shift to the right gives
lowered : (bits : ℕ) (names : Names) (e : Wide) (v : ℤ) (s : ℕ) → c_wide_value bits names e ≡ Some v → IsWord bits v →
    s < bits → c_wide_value bits names (c_rounded Floor e s) ≡ Some (floor_div v (2 ^ s))
lowered bits names e v zero h fits lt = h ∙ ap Some (sym (floor_one v))
lowered bits names e v (suc s) h fits lt =
    ap (option_and_then (λ v. floored bits v (suc s))) h ∙ floored_is bits (suc s) v fits lt

-- and a product by a power of two
raised : (bits : ℕ) (names : Names) (a : ℕ) (v : ℤ) (s : ℕ) → c_wide_value bits names (Widened a) ≡ Some v →
    s + 2 ≤ bits → IsWord bits (v *ℤ pos (2 ^ s))
    → c_wide_value bits names (by_power a s) ≡ Some (v *ℤ pos (2 ^ s))
raised bits names a v s h le fits =
    on_two bits names Times (Widened a) (Power s) v (pos (2 ^ s)) (v *ℤ pos (2 ^ s)) h
    (keep.kept bits (pos (2 ^ s)) (power_word bits s le)) refl fits

-- an operand, shifted
shifts : {n : ℕ} {names : Names} {ws : List ℤ} → Place n names ws → (bits a : ℕ) (s : ℤ) → Room n bits s →
    a < length ws → IsShift n s
    → c_wide_value bits names (c_operand n Floor a s) ≡ Some (shifted (at (pos 0) ws a) s)
shifts {n} {names} {ws} p bits a (pos s) room lt h =
    let o = p.least in let v = at (pos 0) ws a in let word = p.known.fits a lt in
    let l = few_less n s (omega arith) in
    lowered bits names (Widened a) v (few n s) (widened p bits a room lt) (keep.wider n bits v room word) (omega arith)
    ∙ ap Some (few_enough n s v (omega arith) word)
shifts {n} {names} {ws} p bits a (negsuc s) room lt h =
    let l = h.low in let o = p.least in let v = at (pos 0) ws a in
    let le : suc s ≤ n = omega (arith, ints) in
    raised bits names a v (suc s) (widened p bits a (omega (arith, room)) lt) (omega (arith, room))
    (keep.wider (2 * n) bits (v *ℤ pos (2 ^ suc s)) room (left_wide n (suc s) v o (p.known.fits a lt) le))

-- either way to round, where the sum with a half has room
rounds : (bits : ℕ) (r : Round) (names : Names) (e : Wide) (v : ℤ) (s : ℕ) → c_wide_value bits names e ≡ Some v →
    IsWord bits v → s + 1 ≤ bits → IsWord bits (v +ℤ half (pos s))
    → c_wide_value bits names (c_rounded r e s) ≡ Some (machine.rounded r v (pos s))
rounds bits Floor names e v s h word le fits = lowered bits names e v s h word (omega arith)
rounds bits Nearest names e v zero h word le fits =
    let none : v ≡ v +ℤ pos 0 = omega (arith, ints) in
    lowered bits names e v 0 h word (omega arith) ∙ ap (λ (u : ℤ). Some (floor_div u (2 ^ 0))) none
rounds bits Nearest names e v (suc s) h word le fits =
    let sum = v +ℤ pos (2 ^ s) in
    lowered bits names (Two Plus e (Power s)) sum (suc s)
    (on_two bits names Plus e (Power s) v (pos (2 ^ s)) sum h
    (keep.kept bits (pos (2 ^ s)) (power_word bits s (omega arith))) refl fits) fits (omega arith)

-- a product and a dividend
products : {n : ℕ} {names : Names} {ws : List ℤ} → Place n names ws → (bits : ℕ) (r : Round) (a b s : ℕ) →
    2 * n ≤ bits → a < length ws → b < length ws → s ≤ 2 * n - 2
    → c_wide_value bits names (c_rounded r (product a b) s)
    ≡ Some (machine.rounded r (at (pos 0) ws a *ℤ at (pos 0) ws b) (pos s))
products {n} {names} {ws} p bits r a b s room la lb le =
    let o = p.least in let v = at (pos 0) ws a in let w = at (pos 0) ws b in
    let va = p.known.fits a la in let wb = p.known.fits b lb in
    let wide = keep.wider (2 * n) bits (v *ℤ w) room (product_wide n v w o va wb) in
    let sum =
    keep.wider (2 * n) bits (v *ℤ w +ℤ half (pos s)) room (product_half_wide n s v w o va wb le) in
    let value = on_two bits names Times (Widened a) (Widened b) v w (v *ℤ w) (widened p bits a (omega arith) la)
    (widened p bits b (omega arith) lb) refl wide in
    rounds bits r names (product a b) (v *ℤ w) s value wide (omega arith) sum

dividends : {n : ℕ} {names : Names} {ws : List ℤ} → Place n names ws → (bits a s : ℕ) → 2 * n ≤ bits → a < length ws →
    s ≤ n
    → c_wide_value bits names (by_power a s) ≡ Some (at (pos 0) ws a *ℤ pos (2 ^ s))
dividends {n} {names} {ws} p bits a s room lt le = let o = p.least in let v = at (pos 0) ws a in
    raised bits names a v s (widened p bits a (omega arith) lt) (omega arith)
    (keep.wider (2 * n) bits (v *ℤ pos (2 ^ s)) room (left_wide n s v o (p.known.fits a lt) le))

-- a copy, in the type that its statement computes in
copies : {n : ℕ} {names : Names} {ws : List ℤ} → Place n names ws → (r : Round) (a : ℕ) (s : ℤ) → a < length ws →
    IsCopyShift r n s
    → c_wide_value (working_bits n (c_operand n r a s)) names (c_operand n r a s)
    ≡ Some (machine.rounded r (at (pos 0) ws a) s)
copies {n} p Floor a s lt h = shifts p (working_bits n (c_operand n Floor a s)) a s (copy_room n a s p.most) lt
    (copy_is_shift Floor n s p.most h)
copies {n} {names} {ws} p Nearest a (pos (suc s)) lt h =
    let o = p.least in let m = p.most in let high = h.high in let v = at (pos 0) ws a in
    let bits = double_bits n in let room = double_holds n m in
    let sum =
    keep.wider (2 * n) bits (v +ℤ half (pos (suc s))) room
    (word_half_wide n v (pos (suc s)) o (p.known.fits a lt) high) in
    rounds bits Nearest names (Widened a) v (suc s) (widened p bits a (omega (arith, room)) lt)
    (keep.wider n bits v (omega (arith, room)) (p.known.fits a lt)) (omega (arith, ints, room)) sum
copies p Nearest a (pos zero) lt h = let low : pos 1 ≤ℤ pos 0 = h.low in absurd (omega (arith, ints))
copies p Nearest a (negsuc s) lt h = let low : pos 1 ≤ℤ negsuc s = h.low in absurd (omega (arith, ints))

-- ---- a code's word
-- an element that a word fits
pub element_kept : (n : ℕ) (w : ℤ) → n ≤ 64 → IsWord n w → element n w ≡ Some w
element_kept n w le h = keep.kept_in n (bits_of (least_size n)) w (size_holds n le).0 h

narrowed : (n : ℕ) (z x : List ℤ) (names : Names) (b : ℕ) (e : Wide) (w : ℤ) →
    c_wide_value (working_bits n e) names e ≡ Some w → IsWord b w
    → c_value_in n z x names b (Narrowed e) ≡ Some w
narrowed n z x names b e w h fits = ap (option_and_then (unchanged b)) h ∙ keep.kept b w fits

-- two shifted operands, at a type of b bits that holds what comes of them
of_two : {n : ℕ} {names : Names} {ws : List ℤ} → Place n names ws → (z x : List ℤ) (b : ℕ) (operator : Operator)
    (a c : ℕ) (sa sc w : ℤ) → is_additive operator ≡ true → a < length ws → c < length ws → IsShift n sa → IsShift n sc →
    result_of operator (shifted (at (pos 0) ws a) sa) (shifted (at (pos 0) ws c) sc) ≡ Some w → IsWord n w → IsWord b w
    → c_value_in n z x names b (Narrowed (Two operator (c_operand n Floor a sa) (c_operand n Floor c sc))) ≡ Some w
of_two {n} {names} {ws} p z x b operator a c sa sc w additive la lc ha hc same word fits =
    let e = Two operator (c_operand n Floor a sa) (c_operand n Floor c sc) in
    let bits = working_bits n e in let rooms = working_rooms n a c operator sa sc additive p.most in
    narrowed n z x names b e w
    (on_two bits names operator (c_operand n Floor a sa) (c_operand n Floor c sc) (shifted (at (pos 0) ws a) sa)
    (shifted (at (pos 0) ws c) sc) w (shifts p bits a sa rooms.first la ha) (shifts p bits c sc rooms.second lc hc) same
    (keep.wider n bits w rooms.result word)) fits

-- at a type of b bits that holds the word
pub code_value : (n i b : ℕ) (c : Code) (g : List Rational) (z x ws : List ℤ) (names : Names) (w : ℤ) →
    Place n names ws
    → IsLawfulCode n (length ws) c → IsPlaced i (length z) (length ws) c → IsAtHand x g c →
    option_and_then (kept n) (made c g z ws) ≡ Some w → IsWord n w → IsWord b w
    → c_value_in n z x names b (c_value_for n c) ≡ Some w
code_value n i b (machine.Input k f) g z x ws names w pl l p here e word fits =
    let same = word_made n record { wide = []; word = floor (scaled (value_at g k) f) } w e in
    ap (option_and_then (unchanged b)) (ap (option_and_then (element n)) (here ∙ ap Some same)
    ∙ element_kept n w pl.most word) ∙ keep.kept b w fits
code_value n i b (machine.State k f v) g z x ws names w pl l p here e word fits =
    let same = word_made n record { wide = []; word = at (pos 0) z k } w e in
    ap (option_and_then (unchanged b)) (ap (option_and_then (element n)) (slice_get-get_or z k (pos 0) p.1
    ∙ ap Some same) ∙ element_kept n w pl.most word) ∙ keep.kept b w fits
code_value n i b (Const v f) g z x ws names w pl l p here e word fits =
    let same = word_made n record { wide = []; word = v } w e in
    ap (unchanged b) same ∙ keep.kept b w fits
code_value n i b (Neg a) g z x ws names w pl l p here e word fits =
    let same = word_made n record { wide = []; word = neg_ℤ (at (pos 0) ws a) } w e in
    let bits = working_bits n (Negated (Widened a)) in let room : n ≤ bits = plain_holds n pl.most in
    narrowed n z x names b (Negated (Widened a)) w
    (on_one bits names (Widened a) (at (pos 0) ws a) w (widened pl bits a room l) same
    (keep.wider n bits w room word)) fits
code_value n i b (Add a c sa sc) g z x ws names w pl l p here e word fits =
    let u = shifted (at (pos 0) ws a) sa in let v = shifted (at (pos 0) ws c) sc in
    of_two pl z x b Plus a c sa sc w refl l.0 l.1 l.2 l.3
    (ap Some (word_made n record { wide = u ∷ v ∷ []; word = u +ℤ v } w e)) word fits
code_value n i b (Sub a c sa sc) g z x ws names w pl l p here e word fits =
    let u = shifted (at (pos 0) ws a) sa in let v = shifted (at (pos 0) ws c) sc in
    of_two pl z x b Minus a c sa sc w refl l.0 l.1 l.2 l.3
    (ap Some (word_made n record { wide = u ∷ v ∷ []; word = u -ℤ v } w e)) word fits
code_value n i b (Mul r a c s) g z x ws names w pl l p here e word fits =
    let u = at (pos 0) ws a *ℤ at (pos 0) ws c in
    let same = word_made n record { wide = u ∷ machine.halved r u (pos s); word = machine.rounded r u (pos s) } w e in
    narrowed n z x names b (c_rounded r (product a c) s) w
    (ap (λ (bits : ℕ). c_wide_value bits names (c_rounded r (product a c) s)) (product_bits n r a c s)
    ∙ products pl (double_bits n) r a c s (double_holds n pl.most) l.0 l.1 l.2 ∙ ap Some same) fits
  where
    product_bits : (n : ℕ) (r : Round) (a c s : ℕ) → working_bits n (c_rounded r (product a c) s) ≡ double_bits n
    product_bits n Floor a c zero = refl
    product_bits n Nearest a c zero = refl
    product_bits n Floor a c (suc s) = refl
    product_bits n Nearest a c (suc s) = refl
code_value n i b (Div a c s) g z x ws names w pl l p here e word fits =
    let u = at (pos 0) ws a *ℤ pos (2 ^ s) in let v = at (pos 0) ws c in
    let same = quotient_made n u (floor_divided u v) w e in
    let bits = double_bits n in let room = double_holds n pl.most in
    narrowed n z x names b (Two Over (by_power a s) (Widened c)) w
    (on_two bits names Over (by_power a s) (Widened c) u v w (dividends pl bits a s room l.0 l.2)
    (widened pl bits c (omega (arith, room)) l.1)
    (keep.same_quotient u v ∙ same) (keep.wider n bits w (omega (arith, room)) word)) fits
code_value n i b (Copy r a s) g z x ws names w pl l p here e word fits =
    let v = at (pos 0) ws a in let u = machine.rounded r v s in
    let same = word_made n record { wide = u ∷ machine.halved r v s; word = u } w e in
    narrowed n z x names b (c_operand n r a s) w (copies pl r a s l.0 l.1 ∙ ap Some same) fits
