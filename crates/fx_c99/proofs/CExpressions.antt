-- An expression of C is told by its text, whatever follows that is no digit; in how many bits it is computed tells
-- nothing more.
use Rattle.std.proofs.Common.{◌≡◌, ◌⊎◌, inl, inr, ℕ, nat_eq, nat_lt, ◌<◌, ◌≤◌, ◌^◌, Bool, true, false, cond, List, ◌∷◌, ◌++◌, get_or, drop, refl, sym, ap, ◌∙◌, arith, append_assoc, codes}
use Rattle.std.specs.Fmt.{decimal, digits}
use Rattle.std.specs.Char.{is_ascii_digit}
use Rattle.std.proofs.Math.Pow.{pow-lt, pow_mono}
use Rattle.fx_statements.specs.Statements.{Operator, Plus, Minus, Times, Over, Left, Right, Wide, Widened, Power, Negated, Two, Shifted}
use Rattle.fx_statements.specs.RustText.{operator_text, name_text}
use Rattle.fx_statements.specs.Writable.{IsShort, IsShortWide}
use Rattle.fx_statements.proofs.Fronts.{differ, number_ends, first_digit}
use Rattle.fx_statements.proofs.Expressions.{one_operator}
use Rattle.fx_c99.specs.CText.{working_text, power_text, c_wide_text}
use Rattle.fx_c99.specs.CWritable.{IsCWide}
use Rattle.fx_c99.proofs.Words.{text_of, working, one_working, working_is, sign, operator_is, leaf, kind_back, cast_kind, digit_leaf, call_kind, paren_kind, cast_is}

-- ---- powers of two
-- less than 63: a literal
literal_is : (b s : ℕ) → nat_lt s 63 ≡ true →
    power_text b s ≡ codes "(" ++ (working_text b ++ (codes ")" ++ decimal (2 ^ s)))
literal_is b s e =
    ap (λ (x : Bool). cond x (codes "(" ++ (working_text b ++ (codes ")" ++ decimal (2 ^ s))))
    (codes "((" ++ (working_text b ++ (codes ")1 << " ++ (decimal s ++ codes ")"))))) e

-- and others: one, shifted
shifted_is : (b s : ℕ) → nat_lt s 63 ≡ false →
    power_text b s ≡ codes "((" ++ (working_text b ++ (codes ")1 << " ++ (decimal s ++ codes ")")))
shifted_is b s e =
    ap (λ (x : Bool). cond x (codes "(" ++ (working_text b ++ (codes ")" ++ decimal (2 ^ s))))
    (codes "((" ++ (working_text b ++ (codes ")1 << " ++ (decimal s ++ codes ")"))))) e

literal_onto : (b s : ℕ) (r : List ℕ) → nat_lt s 63 ≡ true →
    power_text b s ++ r ≡ 40 ∷ (text_of (working b) ++ (41 ∷ (decimal (2 ^ s) ++ r)))
literal_onto b s r e = ap (λ t. t ++ r) (literal_is b s e) ∙ cast_is b (decimal (2 ^ s)) r

shifted_onto : (b s : ℕ) (r : List ℕ) → nat_lt s 63 ≡ false →
    power_text b s ++ r ≡ 40 ∷ 40 ∷ (working_text b ++ (codes ")1 << " ++ (decimal s ++ (41 ∷ r))))
shifted_onto b s r e =
    ap (λ t. t ++ r) (shifted_is b s e)
    ∙ ap (λ t. 40 ∷ 40 ∷ t) (append_assoc (working_text b) (codes ")1 << " ++ (decimal s ++ codes ")")) r
    ∙ ap (λ t. working_text b ++ (codes ")1 << " ++ t)) (append_assoc (decimal s) (codes ")") r))

short_power : (s : ℕ) → nat_lt s 63 ≡ true → 2 ^ s < 2 ^ 64
short_power s e =
    let l : 2 ^ s ≤ 2 ^ 62 = pow_mono (let k : s ≤ 62 = grind arith in k) in omega arith

same_power : (s t : ℕ) → 2 ^ s ≡ 2 ^ t → s ≡ t
same_power s t e = by (compared s t)
  where
    compared : (s t : ℕ) → (s < t) ⊎ ((s ≡ t) ⊎ (t < s))
    compared s t = grind arith

    by : (s < t) ⊎ ((s ≡ t) ⊎ (t < s)) → s ≡ t
    by (inl l) = let p = pow-lt l in absurd (omega (arith, p, e))
    by (inr (inl q)) = q
    by (inr (inr l)) = let p = pow-lt l in absurd (omega (arith, p, e))

-- ---- what each expression_begins with
pub expression_begins : (b : ℕ) (e : Wide) (r : List ℕ) → IsCWide e →
    (get_or (c_wide_text b e ++ r) 0 0 ≡ 40)
    ⊎ ((get_or (c_wide_text b e ++ r) 0 0 ≡ 102) × (get_or (c_wide_text b e ++ r) 5 0 ≡ 102))
expression_begins b (Widened n) r c = inl refl
expression_begins b (Power s) r c = inl (by (nat_lt s 63))
  where
    by : (x : Bool) → get_or (cond x (codes "(" ++ (working_text b ++ (codes ")" ++ decimal (2 ^ s))))
        (codes "((" ++ (working_text b ++ (codes ")1 << " ++ (decimal s ++ codes ")")))) ++ r) 0 0 ≡ 40
    by true = refl
    by false = refl
expression_begins b (Negated e) r c = inl refl
expression_begins b (Two o e f) r c = inl refl
expression_begins b (Shifted Left e s) r c = absurd c
expression_begins b (Shifted Right e s) r c = inr (refl, refl)

kind : Wide → ℕ
kind (Widened n) = 0
kind (Power s) = cond (nat_lt s 63) 1 4
kind (Negated e) = 3
kind (Two o e f) = 4
kind (Shifted d e s) = 5

literal_kind : (s : ℕ) → nat_lt s 63 ≡ true → kind (Power s) ≡ 1
unfolding kind
literal_kind s e = ap (λ (x : Bool). cond x 1 4) e

shifted_kind : (s : ℕ) → nat_lt s 63 ≡ false → kind (Power s) ≡ 4
unfolding kind
shifted_kind s e = ap (λ (x : Bool). cond x 1 4) e

-- an operation, flattened
two_onto : (b : ℕ) (o : Operator) (e f : Wide) (r : List ℕ) → c_wide_text b (Two o e f) ++ r
    ≡ 40 ∷ (c_wide_text b e ++ (operator_text o ++ (c_wide_text b f ++ (41 ∷ r))))
two_onto b o e f r =
    ap (λ t. 40 ∷ t) (append_assoc (c_wide_text b e) (operator_text o ++ (c_wide_text b f ++ codes ")")) r
    ∙ ap (λ t. c_wide_text b e ++ t) (append_assoc (operator_text o) (c_wide_text b f ++ codes ")") r
    ∙ ap (λ t. operator_text o ++ t) (append_assoc (c_wide_text b f) (codes ")") r)))

kind_at : (b : ℕ) (e : Wide) (r : List ℕ) → IsCWide e → kind_back (c_wide_text b e ++ r) ≡ kind e
unfolding kind kind_back leaf
kind_at b (Widened n) r c = ap kind_back (cast_is b (name_text n) r) ∙ cast_kind (working b) (name_text n ++ r)
kind_at b (Power s) r c = by (nat_lt s 63) refl
  where
    by : (x : Bool) → nat_lt s 63 ≡ x → kind_back (power_text b s ++ r) ≡ kind (Power s)
    by true e =
        ap kind_back (literal_onto b s r e) ∙ cast_kind (working b) (decimal (2 ^ s) ++ r)
        ∙ digit_leaf (get_or (decimal (2 ^ s) ++ r) 0 0) (first_digit (2 ^ s) r (short_power s e))
        ∙ sym (literal_kind s e)
    by false e =
        ap kind_back (shifted_onto b s r e)
        ∙ paren_kind (40 ∷ (working_text b ++ (codes ")1 << " ++ (decimal s ++ (41 ∷ r))))) refl
        ∙ sym (shifted_kind s e)
kind_at b (Negated e) r c = refl
kind_at b (Two o e f) r c =
    let t = operator_text o ++ (c_wide_text b f ++ (41 ∷ r)) in
    ap kind_back (two_onto b o e f r) ∙ by (c_wide_text b e ++ t) (expression_begins b e t c.0)
  where
    by : (x : List ℕ) → (get_or x 0 0 ≡ 40) ⊎ ((get_or x 0 0 ≡ 102) × (get_or x 5 0 ≡ 102)) → kind_back (40 ∷ x) ≡ 4
    by x (inl p) = paren_kind x p
    by x (inr p) = call_kind x p.0 p.1
kind_at b (Shifted Left e s) r c = absurd c
kind_at b (Shifted Right e s) r c = refl

kinds : (b c : ℕ) (e f : Wide) (r s : List ℕ) → IsCWide e → IsCWide f → c_wide_text b e ++ r ≡ c_wide_text c f ++ s →
    kind e ≡ kind f
kinds b c e f r s p q h = sym (kind_at b e r p) ∙ ap kind_back h ∙ kind_at c f s q

-- ---- an operation is no shifted one
one_is : decimal 1 ≡ codes "1"
unfolding digits
one_is = refl

-- behind its first operand stands no shift
literal_alone : (b c s : ℕ) (o : Operator) (r t : List ℕ) → nat_lt s 63 ≡ true →
    40 ∷ (text_of (working b) ++ (41 ∷ (decimal (2 ^ s) ++ (operator_text o ++ r))))
    ≡ 40 ∷ (text_of (working c) ++ (41 ∷ (codes "1 << " ++ t))) → ⊥
unfolding sign
literal_alone b c s o r t e h =
    let inside = one_working b c (41 ∷ (decimal (2 ^ s) ++ (operator_text o ++ r))) (41 ∷ (codes "1 << " ++ t))
    (ap (λ x. x ++ (41 ∷ (decimal (2 ^ s) ++ (operator_text o ++ r)))) (working_is b) ∙ ap (drop 1) h
    ∙ ap (λ x. x ++ (41 ∷ (codes "1 << " ++ t))) (sym (working_is c))) in
    let n = number_ends (2 ^ s) 1 32 32 (sign o ∷ 32 ∷ r) (codes "<< " ++ t) (short_power s e) (omega arith) refl refl
    (ap (λ x. decimal (2 ^ s) ++ x) (sym (operator_is o r)) ∙ ap (drop 1) inside
    ∙ ap (λ x. x ++ (codes " << " ++ t)) (sym one_is)) in
    other o (ap (λ l. get_or l 1 0) n.1)
  where
    other : (o : Operator) → sign o ≡ 60 → ⊥
    other Plus h = differ 43 60 refl h
    other Minus h = differ 45 60 refl h
    other Times h = differ 42 60 refl h
    other Over h = differ 47 60 refl h

no_shift : (b c : ℕ) (e : Wide) (o : Operator) (r t : List ℕ) → IsCWide e →
    c_wide_text b e ++ (operator_text o ++ r) ≡ 40 ∷ (working_text c ++ (codes ")1 << " ++ t)) → ⊥
unfolding kind leaf
no_shift b c e o r t p h = by e p (told ∙ cast_kind (working c) (codes "1 << " ++ t)) flat
  where
    onto : 40 ∷ (working_text c ++ (codes ")1 << " ++ t)) ≡ 40 ∷ (text_of (working c) ++ (41 ∷ (codes "1 << " ++ t)))
    onto = ap (λ x. 40 ∷ (x ++ (codes ")1 << " ++ t))) (working_is c)

    flat : c_wide_text b e ++ (operator_text o ++ r) ≡ 40 ∷ (text_of (working c) ++ (41 ∷ (codes "1 << " ++ t)))
    flat = h ∙ onto

    told : kind e ≡ kind_back (40 ∷ (text_of (working c) ++ (41 ∷ (codes "1 << " ++ t))))
    told = sym (kind_at b e (operator_text o ++ r) p) ∙ ap kind_back flat

    by : (e : Wide) → IsCWide e → kind e ≡ 1 →
        c_wide_text b e ++ (operator_text o ++ r) ≡ 40 ∷ (text_of (working c) ++ (41 ∷ (codes "1 << " ++ t))) → ⊥
    by (Widened n) p k h = differ 0 1 refl k
    by (Negated f) p k h = differ 3 1 refl k
    by (Two q f g) p k h = differ 4 1 refl k
    by (Shifted d f n) p k h = differ 5 1 refl k
    by (Power s) p k h = power (nat_lt s 63) refl
      where
        power : (x : Bool) → nat_lt s 63 ≡ x → ⊥
        power true e = literal_alone b c s o r t e (sym (literal_onto b s (operator_text o ++ r) e) ∙ h)
        power false e = differ 4 1 refl (sym (shifted_kind s e) ∙ k)

-- ---- each pair of one kind
one_name : (b c m n : ℕ) (x y : ℕ) (r s : List ℕ) → IsShort m → IsShort n → is_ascii_digit x ≡ false →
    is_ascii_digit y ≡ false → c_wide_text b (Widened m) ++ (x ∷ r) ≡ c_wide_text c (Widened n) ++ (y ∷ s)
    → (Widened m ≡ Widened n) × (x ∷ r ≡ y ∷ s)
one_name b c m n x y r s p q dx dy h =
    let inside = one_working b c (41 ∷ 119 ∷ (decimal m ++ (x ∷ r))) (41 ∷ 119 ∷ (decimal n ++ (y ∷ s)))
    (ap (λ t. t ++ (41 ∷ 119 ∷ (decimal m ++ (x ∷ r)))) (working_is b)
    ∙ ap (drop 1) (sym (cast_is b (name_text m) (x ∷ r)) ∙ h ∙ cast_is c (name_text n) (y ∷ s))
    ∙ ap (λ t. t ++ (41 ∷ 119 ∷ (decimal n ++ (y ∷ s)))) (sym (working_is c))) in
    let k = number_ends m n x y r s p q dx dy (ap (drop 2) inside) in (ap Widened k.0, k.1)

one_literal_power : (b c m n : ℕ) (x y : ℕ) (r s : List ℕ) → nat_lt m 63 ≡ true → nat_lt n 63 ≡ true →
    is_ascii_digit x ≡ false → is_ascii_digit y ≡ false →
    power_text b m ++ (x ∷ r) ≡ power_text c n ++ (y ∷ s) → (Power m ≡ Power n) × (x ∷ r ≡ y ∷ s)
one_literal_power b c m n x y r s p q dx dy h =
    let inside = one_working b c (41 ∷ (decimal (2 ^ m) ++ (x ∷ r))) (41 ∷ (decimal (2 ^ n) ++ (y ∷ s)))
    (ap (λ t. t ++ (41 ∷ (decimal (2 ^ m) ++ (x ∷ r)))) (working_is b)
    ∙ ap (drop 1) (sym (literal_onto b m (x ∷ r) p) ∙ h ∙ literal_onto c n (y ∷ s) q)
    ∙ ap (λ t. t ++ (41 ∷ (decimal (2 ^ n) ++ (y ∷ s)))) (sym (working_is c))) in
    let k = number_ends (2 ^ m) (2 ^ n) x y r s (short_power m p) (short_power n q) dx dy (ap (drop 1) inside) in
    (ap Power (same_power m n k.0), k.1)

one_shifted_power : (b c m n : ℕ) (r s : List ℕ) → IsShort m → IsShort n → nat_lt m 63 ≡ false →
    nat_lt n 63 ≡ false → power_text b m ++ r ≡ power_text c n ++ s → (Power m ≡ Power n) × (r ≡ s)
one_shifted_power b c m n r s sm sn p q h =
    let inside = one_working b c (codes ")1 << " ++ (decimal m ++ (41 ∷ r))) (codes ")1 << " ++ (decimal n ++ (41 ∷ s)))
    (ap (drop 2) (sym (shifted_onto b m r p) ∙ h ∙ shifted_onto c n s q)) in
    let k = number_ends m n 41 41 r s sm sn refl refl (ap (drop 6) inside) in (ap Power k.0, ap (drop 1) k.1)

-- a power is a number or an operation
power_kind : (k n : ℕ) → nat_eq k 1 ≡ false → nat_eq k 4 ≡ false → k ≡ kind (Power n) → ⊥
power_kind k n p q h = by (nat_lt n 63) refl
  where
    by : (x : Bool) → nat_lt n 63 ≡ x → ⊥
    by true x = differ k 1 p (h ∙ literal_kind n x)
    by false x = differ k 4 q (h ∙ shifted_kind n x)

one_power : (b c m n : ℕ) (x y : ℕ) (r s : List ℕ) → IsShort m → IsShort n → is_ascii_digit x ≡ false →
    is_ascii_digit y ≡ false → c_wide_text b (Power m) ++ (x ∷ r) ≡ c_wide_text c (Power n) ++ (y ∷ s)
    → (Power m ≡ Power n) × (x ∷ r ≡ y ∷ s)
one_power b c m n x y r s sm sn dx dy h = by (nat_lt m 63) (nat_lt n 63) refl refl
  where
    by : (u v : Bool) → nat_lt m 63 ≡ u → nat_lt n 63 ≡ v → (Power m ≡ Power n) × (x ∷ r ≡ y ∷ s)
    by true true p q = one_literal_power b c m n x y r s p q dx dy h
    by false false p q = one_shifted_power b c m n (x ∷ r) (y ∷ s) sm sn p q h
    by true false p q = absurd (differ 1 4 refl (sym (literal_kind m p)
        ∙ kinds b c (Power m) (Power n) (x ∷ r) (y ∷ s) tt tt h ∙ shifted_kind n q))
    by false true p q = absurd (differ 4 1 refl (sym (shifted_kind m p)
        ∙ kinds b c (Power m) (Power n) (x ∷ r) (y ∷ s) tt tt h ∙ literal_kind n q))

-- an operation and a power
no_power : (b c : ℕ) (o : Operator) (e f : Wide) (n : ℕ) (r s : List ℕ) → IsCWide e → IsCWide f →
    c_wide_text b (Two o e f) ++ r ≡ c_wide_text c (Power n) ++ s → ⊥
unfolding kind
no_power b c o e f n r s p q h = by (nat_lt n 63) refl
  where
    by : (x : Bool) → nat_lt n 63 ≡ x → ⊥
    by true x = differ 4 1 refl (kinds b c (Two o e f) (Power n) r s (p, q) tt h ∙ literal_kind n x)
    by false x =
        no_shift b c e o (c_wide_text b f ++ (41 ∷ r)) (decimal n ++ (41 ∷ s)) p
        (ap (drop 1) (sym (two_onto b o e f r) ∙ h ∙ shifted_onto c n s x))

negated_onto : (b : ℕ) (e : Wide) (r : List ℕ) →
    c_wide_text b (Negated e) ++ r ≡ 40 ∷ 45 ∷ (c_wide_text b e ++ (41 ∷ r))
negated_onto b e r = ap (λ t. 40 ∷ 45 ∷ t) (append_assoc (c_wide_text b e) (codes ")") r)

right_onto : (b : ℕ) (e : Wide) (s : ℕ) (r : List ℕ) → c_wide_text b (Shifted Right e s) ++ r
    ≡ codes "fixd_floor" ++ (decimal b ++ (40 ∷ (c_wide_text b e ++ (44 ∷ 32 ∷ (decimal s ++ (85 ∷ 41 ∷ r))))))
right_onto b e s r =
    ap (λ t. codes "fixd_floor" ++ t)
    (append_assoc (decimal b) (codes "(" ++ (c_wide_text b e ++ (codes ", " ++ (decimal s ++ codes "U)")))) r
    ∙ ap (λ t. decimal b ++ (40 ∷ t)) (append_assoc (c_wide_text b e) (codes ", " ++ (decimal s ++ codes "U)")) r
    ∙ ap (λ t. c_wide_text b e ++ (44 ∷ 32 ∷ t)) (append_assoc (decimal s) (codes "U)") r)))

-- behind an operand
spaced : (o q : Operator) (r s : List ℕ) → 32 ∷ sign o ∷ 32 ∷ r ≡ 32 ∷ sign q ∷ 32 ∷ s →
    operator_text o ++ r ≡ operator_text q ++ s
spaced o q r s h = operator_is o r ∙ h ∙ sym (operator_is q s)

pub one_c_wide : (b c : ℕ) (e f : Wide) (x y : ℕ) (r s : List ℕ) → IsShort b → IsShort c → IsShortWide e →
    IsShortWide f → IsCWide e → IsCWide f → is_ascii_digit x ≡ false → is_ascii_digit y ≡ false →
    c_wide_text b e ++ (x ∷ r) ≡ c_wide_text c f ++ (y ∷ s) → (e ≡ f) × (x ∷ r ≡ y ∷ s)
unfolding kind
one_c_wide b c (Widened m) (Widened n) x y r s sb sc p q i j dx dy h = one_name b c m n x y r s p q dx dy h
one_c_wide b c (Power m) (Power n) x y r s sb sc p q i j dx dy h = one_power b c m n x y r s p q dx dy h
one_c_wide b c (Negated e) (Negated f) x y r s sb sc p q i j dx dy h =
    let k = one_c_wide b c e f 41 41 (x ∷ r) (y ∷ s) sb sc p q i j refl refl
    (ap (drop 2) (sym (negated_onto b e (x ∷ r)) ∙ h ∙ negated_onto c f (y ∷ s))) in
    (ap Negated k.0, ap (drop 1) k.1)
one_c_wide b c (Two o e f) (Two u g k) x y r s sb sc p q i j dx dy h =
    let er = c_wide_text b f ++ (41 ∷ x ∷ r) in let gs = c_wide_text c k ++ (41 ∷ y ∷ s) in
    let first = one_c_wide b c e g 32 32 (sign o ∷ 32 ∷ er) (sign u ∷ 32 ∷ gs) sb sc p.0 q.0 i.0 j.0 refl refl
    (ap (λ t. c_wide_text b e ++ t) (sym (operator_is o er))
    ∙ ap (drop 1) (sym (two_onto b o e f (x ∷ r)) ∙ h ∙ two_onto c u g k (y ∷ s))
    ∙ ap (λ t. c_wide_text c g ++ t) (operator_is u gs)) in
    let operator = one_operator o u er gs (spaced o u er gs first.1) in
    let second = one_c_wide b c f k 41 41 (x ∷ r) (y ∷ s) sb sc p.1 q.1 i.1 j.1 refl refl operator.1 in
    ((λ t. Two (operator.0 t) (first.0 t) (second.0 t)), ap (drop 1) second.1)
one_c_wide b c (Shifted Right e m) (Shifted Right f n) x y r s sb sc p q i j dx dy h =
    let er = c_wide_text b e ++ (44 ∷ 32 ∷ (decimal m ++ (85 ∷ 41 ∷ x ∷ r))) in
    let fs = c_wide_text c f ++ (44 ∷ 32 ∷ (decimal n ++ (85 ∷ 41 ∷ y ∷ s))) in
    let bits = number_ends b c 40 40 er fs sb sc refl refl
    (ap (drop 10) (sym (right_onto b e m (x ∷ r)) ∙ h ∙ right_onto c f n (y ∷ s))) in
    let inner = one_c_wide b c e f 44 44 (32 ∷ (decimal m ++ (85 ∷ 41 ∷ x ∷ r))) (32 ∷ (decimal n ++ (85 ∷ 41 ∷ y ∷ s)))
    sb sc p.0 q.0 i j refl refl (ap (drop 1) bits.1) in
    let far = number_ends m n 85 85 (41 ∷ x ∷ r) (41 ∷ y ∷ s) p.1 q.1 refl refl (ap (drop 2) inner.1) in
    ((λ t. Shifted Right (inner.0 t) (far.0 t)), ap (drop 2) far.1)
one_c_wide b c (Shifted Left e m) f x y r s sb sc p q i j dx dy h = absurd i
one_c_wide b c e (Shifted Left f m) x y r s sb sc p q i j dx dy h = absurd j
one_c_wide b c (Two o e f) (Power n) x y r s sb sc p q i j dx dy h =
    absurd (no_power b c o e f n (x ∷ r) (y ∷ s) i.0 i.1 h)
one_c_wide b c (Power n) (Two o e f) x y r s sb sc p q i j dx dy h =
    absurd (no_power c b o e f n (y ∷ s) (x ∷ r) j.0 j.1 (sym h))
one_c_wide b c (Widened m) (Power n) x y r s sb sc p q i j dx dy h =
    absurd (power_kind 0 n refl refl (kinds b c (Widened m) (Power n) (x ∷ r) (y ∷ s) i j h))
one_c_wide b c (Widened m) (Negated f) x y r s sb sc p q i j dx dy h =
    absurd (differ 0 3 refl (kinds b c (Widened m) (Negated f) (x ∷ r) (y ∷ s) i j h))
one_c_wide b c (Widened m) (Two u f k) x y r s sb sc p q i j dx dy h =
    absurd (differ 0 4 refl (kinds b c (Widened m) (Two u f k) (x ∷ r) (y ∷ s) i j h))
one_c_wide b c (Widened m) (Shifted Right f n) x y r s sb sc p q i j dx dy h =
    absurd (differ 0 5 refl (kinds b c (Widened m) (Shifted Right f n) (x ∷ r) (y ∷ s) i j h))
one_c_wide b c (Power m) (Widened n) x y r s sb sc p q i j dx dy h =
    absurd (power_kind 0 m refl refl (sym (kinds b c (Power m) (Widened n) (x ∷ r) (y ∷ s) i j h)))
one_c_wide b c (Power m) (Negated f) x y r s sb sc p q i j dx dy h =
    absurd (power_kind 3 m refl refl (sym (kinds b c (Power m) (Negated f) (x ∷ r) (y ∷ s) i j h)))
one_c_wide b c (Power m) (Shifted Right f n) x y r s sb sc p q i j dx dy h =
    absurd (power_kind 5 m refl refl (sym (kinds b c (Power m) (Shifted Right f n) (x ∷ r) (y ∷ s) i j h)))
one_c_wide b c (Negated e) (Widened n) x y r s sb sc p q i j dx dy h =
    absurd (differ 3 0 refl (kinds b c (Negated e) (Widened n) (x ∷ r) (y ∷ s) i j h))
one_c_wide b c (Negated e) (Power n) x y r s sb sc p q i j dx dy h =
    absurd (power_kind 3 n refl refl (kinds b c (Negated e) (Power n) (x ∷ r) (y ∷ s) i j h))
one_c_wide b c (Negated e) (Two u f k) x y r s sb sc p q i j dx dy h =
    absurd (differ 3 4 refl (kinds b c (Negated e) (Two u f k) (x ∷ r) (y ∷ s) i j h))
one_c_wide b c (Negated e) (Shifted Right f n) x y r s sb sc p q i j dx dy h =
    absurd (differ 3 5 refl (kinds b c (Negated e) (Shifted Right f n) (x ∷ r) (y ∷ s) i j h))
one_c_wide b c (Two o e g) (Widened n) x y r s sb sc p q i j dx dy h =
    absurd (differ 4 0 refl (kinds b c (Two o e g) (Widened n) (x ∷ r) (y ∷ s) i j h))
one_c_wide b c (Two o e g) (Negated f) x y r s sb sc p q i j dx dy h =
    absurd (differ 4 3 refl (kinds b c (Two o e g) (Negated f) (x ∷ r) (y ∷ s) i j h))
one_c_wide b c (Two o e g) (Shifted Right f n) x y r s sb sc p q i j dx dy h =
    absurd (differ 4 5 refl (kinds b c (Two o e g) (Shifted Right f n) (x ∷ r) (y ∷ s) i j h))
one_c_wide b c (Shifted Right e m) (Widened n) x y r s sb sc p q i j dx dy h =
    absurd (differ 5 0 refl (kinds b c (Shifted Right e m) (Widened n) (x ∷ r) (y ∷ s) i j h))
one_c_wide b c (Shifted Right e m) (Power n) x y r s sb sc p q i j dx dy h =
    absurd (power_kind 5 n refl refl (kinds b c (Shifted Right e m) (Power n) (x ∷ r) (y ∷ s) i j h))
one_c_wide b c (Shifted Right e m) (Negated f) x y r s sb sc p q i j dx dy h =
    absurd (differ 5 3 refl (kinds b c (Shifted Right e m) (Negated f) (x ∷ r) (y ∷ s) i j h))
one_c_wide b c (Shifted Right e m) (Two u f k) x y r s sb sc p q i j dx dy h =
    absurd (differ 5 4 refl (kinds b c (Shifted Right e m) (Two u f k) (x ∷ r) (y ∷ s) i j h))
