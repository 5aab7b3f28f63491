-- Worked codes and the edges of words and double words, by whole numbers without bound in another language: a wrong
-- definition here is refused.
use Rattle.std.specs.Prelude.{◌≡◌, ℕ, ℤ, pos, negsuc, ◌&&◌, ◌||◌, [], ◌∷◌, Option, Some, None, true, false, refl}
use Rattle.std.specs.Option.{option_and_then}
use Rattle.fx_model.specs.Machine.{Floor, Nearest, Code, Add, Sub, Mul, Div, Neg, Copy, is_word, made, kept}

-- what a code makes of the words v and w of n bits, where all on the way to it is a double word
abbrev word_of : ℕ → Code → ℤ → ℤ → Option ℤ
word_of n c v w = option_and_then (kept n) (made c [] [] (v ∷ w ∷ []))

-- ---- sums and differences of shifted words

sum_1 : (word_of 8 (Add 0 1 (pos 1) (pos 0)) (negsuc 2) (pos 0) ≡ Some (negsuc 1)) ×
    (word_of 8 (Sub 0 1 (pos 1) (pos 0)) (negsuc 2) (pos 0) ≡ Some (negsuc 1))
sum_1 = (refl, refl)

sum_2 : (word_of 8 (Add 0 1 (pos 0) (pos 0)) (pos 127) (pos 1) ≡ None) ×
    (word_of 8 (Sub 0 1 (pos 0) (pos 0)) (pos 127) (pos 1) ≡ Some (pos 126))
sum_2 = (refl, refl)

sum_3 : (word_of 8 (Add 0 1 (pos 0) (pos 1)) (pos 127) (pos 1) ≡ Some (pos 127)) ×
    (word_of 8 (Sub 0 1 (pos 0) (pos 1)) (pos 127) (pos 1) ≡ Some (pos 127))
sum_3 = (refl, refl)

sum_4 : (word_of 8 (Add 0 1 (pos 0) (pos 0)) (negsuc 127) (negsuc 0) ≡ None) ×
    (word_of 8 (Sub 0 1 (pos 0) (pos 0)) (negsuc 127) (negsuc 0) ≡ Some (negsuc 126))
sum_4 = (refl, refl)

sum_5 : (word_of 8 (Add 0 1 (pos 0) (pos 0)) (negsuc 127) (pos 1) ≡ Some (negsuc 126)) ×
    (word_of 8 (Sub 0 1 (pos 0) (pos 0)) (negsuc 127) (pos 1) ≡ None)
sum_5 = (refl, refl)

sum_6 : (word_of 8 (Add 0 1 (pos 0) (pos 8)) (negsuc 127) (negsuc 0) ≡ None) ×
    (word_of 8 (Sub 0 1 (pos 0) (pos 8)) (negsuc 127) (negsuc 0) ≡ Some (negsuc 126))
sum_6 = (refl, refl)

sum_7 : (word_of 8 (Add 0 1 (pos 64) (pos 64)) (negsuc 0) (pos 1) ≡ Some (negsuc 0)) ×
    (word_of 8 (Sub 0 1 (pos 64) (pos 64)) (negsuc 0) (pos 1) ≡ Some (negsuc 0))
sum_7 = (refl, refl)

sum_8 : (word_of 8 (Add 0 1 (negsuc 7) (negsuc 7)) (pos 127) (pos 127) ≡ None) ×
    (word_of 8 (Sub 0 1 (negsuc 7) (negsuc 7)) (pos 127) (pos 127) ≡ Some (pos 0))
sum_8 = (refl, refl)

sum_9 : (word_of 8 (Add 0 1 (negsuc 5) (negsuc 5)) (pos 1) (pos 1) ≡ None) ×
    (word_of 8 (Sub 0 1 (negsuc 5) (negsuc 5)) (pos 1) (pos 1) ≡ Some (pos 0))
sum_9 = (refl, refl)

sum_10 : (word_of 8 (Add 0 1 (negsuc 6) (pos 0)) (pos 1) (pos 0) ≡ None) ×
    (word_of 8 (Sub 0 1 (negsuc 6) (pos 0)) (pos 1) (pos 0) ≡ None)
sum_10 = (refl, refl)

sum_11 : (word_of 8 (Add 0 1 (negsuc 6) (pos 0)) (negsuc 0) (pos 0) ≡ Some (negsuc 127)) ×
    (word_of 8 (Sub 0 1 (negsuc 6) (pos 0)) (negsuc 0) (pos 0) ≡ Some (negsuc 127))
sum_11 = (refl, refl)

sum_12 : (word_of 8 (Add 0 1 (negsuc 7) (negsuc 6)) (pos 0) (negsuc 0) ≡ Some (negsuc 127)) ×
    (word_of 8 (Sub 0 1 (negsuc 7) (negsuc 6)) (pos 0) (negsuc 0) ≡ None)
sum_12 = (refl, refl)

sum_13 : (word_of 32 (Add 0 1 (negsuc 31) (negsuc 31)) (pos 2147483647) (pos 2147483647) ≡ None) ×
    (word_of 32 (Sub 0 1 (negsuc 31) (negsuc 31)) (pos 2147483647) (pos 2147483647) ≡ Some (pos 0))
sum_13 = (refl, refl)

sum_14 : (word_of 32 (Add 0 1 (negsuc 31) (negsuc 31)) (negsuc 2147483647) (negsuc 2147483647) ≡ None) ×
    (word_of 32 (Sub 0 1 (negsuc 31) (negsuc 31)) (negsuc 2147483647) (negsuc 2147483647) ≡ Some (pos 0))
sum_14 = (refl, refl)

sum_15 : (word_of 32 (Add 0 1 (pos 64) (pos 31)) (negsuc 2147483647) (negsuc 2147483647) ≡ Some (negsuc 1)) ×
    (word_of 32 (Sub 0 1 (pos 64) (pos 31)) (negsuc 2147483647) (negsuc 2147483647) ≡ Some (pos 0))
sum_15 = (refl, refl)

sum_16 : (word_of 32 (Add 0 1 (negsuc 31) (negsuc 31)) (negsuc 2147483647) (pos 2147483647) ≡ None) ×
    (word_of 32 (Sub 0 1 (negsuc 31) (negsuc 31)) (negsuc 2147483647) (pos 2147483647) ≡ None)
sum_16 = (refl, refl)

sum_17 : (word_of 40 (Add 0 1 (negsuc 39) (negsuc 39)) (negsuc 549755813887) (pos 549755813887) ≡ None) ×
    (word_of 40 (Sub 0 1 (negsuc 39) (negsuc 39)) (negsuc 549755813887) (pos 549755813887) ≡ None)
sum_17 = (refl, refl)

sum_18 : (word_of 40 (Add 0 1 (negsuc 37) (negsuc 37)) (pos 1) (pos 1) ≡ None) ×
    (word_of 40 (Sub 0 1 (negsuc 37) (negsuc 37)) (pos 1) (pos 1) ≡ Some (pos 0))
sum_18 = (refl, refl)

sum_19 : (word_of 64 (Add 0 1 (pos 0) (pos 0)) (pos 9223372036854775807) (pos 1) ≡ None) ×
    (word_of 64 (Sub 0 1 (pos 0) (pos 0)) (pos 9223372036854775807) (pos 1) ≡ Some (pos 9223372036854775806))
sum_19 = (refl, refl)

sum_20 : (word_of 64 (Add 0 1 (pos 0) (pos 0)) (negsuc 9223372036854775807) (negsuc 0) ≡ None) ×
    (word_of 64 (Sub 0 1 (pos 0) (pos 0)) (negsuc 9223372036854775807) (negsuc 0) ≡ Some (negsuc 9223372036854775806))
sum_20 = (refl, refl)

sum_21 : (word_of 64 (Add 0 1 (pos 64) (pos 63)) (negsuc 9223372036854775807) (pos 9223372036854775807)
    ≡ Some (negsuc 0)) × (word_of 64 (Sub 0 1 (pos 64) (pos 63)) (negsuc 9223372036854775807) (pos 9223372036854775807)
    ≡ Some (negsuc 0))
sum_21 = (refl, refl)

sum_22 : (word_of 64 (Add 0 1 (negsuc 63) (negsuc 63)) (negsuc 9223372036854775807) (negsuc 9223372036854775807)
    ≡ None) × (word_of 64 (Sub 0 1 (negsuc 63) (negsuc 63)) (negsuc 9223372036854775807) (negsuc 9223372036854775807)
    ≡ Some (pos 0))
sum_22 = (refl, refl)

sum_23 : (word_of 64 (Add 0 1 (pos 1) (pos 1)) (negsuc 9223372036854775807) (negsuc 9223372036854775807)
    ≡ Some (negsuc 9223372036854775807)) ×
    (word_of 64 (Sub 0 1 (pos 1) (pos 1)) (negsuc 9223372036854775807) (negsuc 9223372036854775807) ≡ Some (pos 0))
sum_23 = (refl, refl)

sum_24 : (word_of 64 (Add 0 1 (negsuc 63) (negsuc 63)) (pos 9223372036854775807) (pos 9223372036854775807) ≡ None) ×
    (word_of 64 (Sub 0 1 (negsuc 63) (negsuc 63)) (pos 9223372036854775807) (pos 9223372036854775807) ≡ Some (pos 0))
sum_24 = (refl, refl)

-- ---- products, rounded down

product_1 : word_of 8 (Mul Floor 0 1 3) (negsuc 2) (pos 5) ≡ Some (negsuc 1)
product_1 = refl

product_2 : word_of 8 (Mul Floor 0 1 7) (negsuc 127) (negsuc 127) ≡ None
product_2 = refl

product_3 : word_of 8 (Mul Floor 0 1 8) (negsuc 127) (negsuc 127) ≡ Some (pos 64)
product_3 = refl

product_4 : word_of 8 (Mul Floor 0 1 7) (negsuc 127) (pos 127) ≡ Some (negsuc 126)
product_4 = refl

product_5 : word_of 8 (Mul Floor 0 1 14) (pos 127) (pos 127) ≡ Some (pos 0)
product_5 = refl

product_6 : word_of 8 (Mul Floor 0 1 14) (negsuc 0) (pos 1) ≡ Some (negsuc 0)
product_6 = refl

product_7 : word_of 8 (Mul Floor 0 1 0) (pos 16) (pos 8) ≡ None
product_7 = refl

product_8 : word_of 8 (Mul Floor 0 1 0) (negsuc 15) (pos 8) ≡ Some (negsuc 127)
product_8 = refl

product_9 : word_of 16 (Mul Floor 0 1 30) (negsuc 32767) (negsuc 32767) ≡ Some (pos 1)
product_9 = refl

product_10 : word_of 32 (Mul Floor 0 1 62) (negsuc 2147483647) (negsuc 2147483647) ≡ Some (pos 1)
product_10 = refl

product_11 : word_of 32 (Mul Floor 0 1 30) (negsuc 2147483647) (negsuc 2147483647) ≡ None
product_11 = refl

product_12 : word_of 32 (Mul Floor 0 1 31) (negsuc 2147483647) (pos 2147483647) ≡ Some (negsuc 2147483646)
product_12 = refl

product_13 : word_of 40 (Mul Floor 0 1 78) (negsuc 549755813887) (negsuc 549755813887) ≡ Some (pos 1)
product_13 = refl

product_14 : word_of 40 (Mul Floor 0 1 38) (negsuc 549755813887) (negsuc 549755813887) ≡ None
product_14 = refl

product_15 : word_of 56 (Mul Floor 0 1 1) (negsuc 36028797018963967) (pos 3) ≡ None
product_15 = refl

product_16 : word_of 64 (Mul Floor 0 1 126) (negsuc 9223372036854775807) (negsuc 9223372036854775807) ≡ Some (pos 1)
product_16 = refl

product_17 : word_of 64 (Mul Floor 0 1 62) (negsuc 9223372036854775807) (negsuc 9223372036854775807) ≡ None
product_17 = refl

product_18 : word_of 64 (Mul Floor 0 1 64) (negsuc 9223372036854775807) (negsuc 9223372036854775807)
    ≡ Some (pos 4611686018427387904)
product_18 = refl

product_19 : word_of 64 (Mul Floor 0 1 63) (negsuc 9223372036854775807) (pos 9223372036854775807)
    ≡ Some (negsuc 9223372036854775806)
product_19 = refl

product_20 : word_of 64 (Mul Floor 0 1 1) (pos 3) (negsuc 0) ≡ Some (negsuc 1)
product_20 = refl

-- ---- quotients, rounded toward zero

quotient_1 : word_of 8 (Div 0 1 0) (negsuc 6) (pos 2) ≡ Some (negsuc 2)
quotient_1 = refl

quotient_2 : word_of 8 (Div 0 1 0) (pos 7) (negsuc 1) ≡ Some (negsuc 2)
quotient_2 = refl

quotient_3 : word_of 8 (Div 0 1 0) (negsuc 127) (negsuc 0) ≡ None
quotient_3 = refl

quotient_4 : word_of 8 (Div 0 1 0) (negsuc 127) (pos 1) ≡ Some (negsuc 127)
quotient_4 = refl

quotient_5 : word_of 8 (Div 0 1 0) (pos 5) (pos 0) ≡ None
quotient_5 = refl

quotient_6 : word_of 8 (Div 0 1 8) (negsuc 127) (negsuc 127) ≡ None
quotient_6 = refl

quotient_7 : word_of 8 (Div 0 1 7) (pos 127) (negsuc 127) ≡ Some (negsuc 126)
quotient_7 = refl

quotient_8 : word_of 8 (Div 0 1 7) (pos 127) (negsuc 126) ≡ Some (negsuc 127)
quotient_8 = refl

quotient_9 : word_of 8 (Div 0 1 8) (pos 1) (pos 2) ≡ None
quotient_9 = refl

quotient_10 : word_of 32 (Div 0 1 32) (negsuc 2147483647) (negsuc 0) ≡ None
quotient_10 = refl

quotient_11 : word_of 32 (Div 0 1 31) (negsuc 2147483647) (negsuc 2147483647) ≡ None
quotient_11 = refl

quotient_12 : word_of 32 (Div 0 1 30) (negsuc 2147483647) (negsuc 2147483647) ≡ Some (pos 1073741824)
quotient_12 = refl

quotient_13 : word_of 32 (Div 0 1 32) (pos 1) (negsuc 2) ≡ Some (negsuc 1431655764)
quotient_13 = refl

quotient_14 : word_of 32 (Div 0 1 32) (pos 0) (negsuc 2147483647) ≡ Some (pos 0)
quotient_14 = refl

quotient_15 : word_of 40 (Div 0 1 40) (negsuc 549755813887) (negsuc 0) ≡ None
quotient_15 = refl

quotient_16 : word_of 40 (Div 0 1 40) (pos 1) (negsuc 2) ≡ Some (negsuc 366503875924)
quotient_16 = refl

quotient_17 : word_of 64 (Div 0 1 64) (negsuc 9223372036854775807) (negsuc 0) ≡ None
quotient_17 = refl

quotient_18 : word_of 64 (Div 0 1 0) (negsuc 9223372036854775807) (negsuc 0) ≡ None
quotient_18 = refl

quotient_19 : word_of 64 (Div 0 1 0) (pos 5) (pos 0) ≡ None
quotient_19 = refl

quotient_20 : word_of 64 (Div 0 1 64) (pos 0) (pos 0) ≡ None
quotient_20 = refl

quotient_21 : word_of 64 (Div 0 1 64) (pos 1) (negsuc 2) ≡ Some (negsuc 6148914691236517204)
quotient_21 = refl

quotient_22 : word_of 64 (Div 0 1 62) (negsuc 9223372036854775807) (negsuc 9223372036854775807)
    ≡ Some (pos 4611686018427387904)
quotient_22 = refl

quotient_23 : word_of 64 (Div 0 1 63) (negsuc 9223372036854775807) (negsuc 9223372036854775807) ≡ None
quotient_23 = refl

-- ---- copies, rounded down, and opposites

copy_1 : (word_of 8 (Copy Floor 0 (pos 1)) (negsuc 2) (pos 0) ≡ Some (negsuc 1)) ×
    (word_of 8 (Neg 0) (negsuc 2) (pos 0) ≡ Some (pos 3))
copy_1 = (refl, refl)

copy_2 : (word_of 8 (Copy Floor 0 (pos 0)) (negsuc 127) (pos 0) ≡ Some (negsuc 127)) ×
    (word_of 8 (Neg 0) (negsuc 127) (pos 0) ≡ None)
copy_2 = (refl, refl)

copy_3 : (word_of 8 (Copy Floor 0 (pos 0)) (pos 127) (pos 0) ≡ Some (pos 127)) ×
    (word_of 8 (Neg 0) (pos 127) (pos 0) ≡ Some (negsuc 126))
copy_3 = (refl, refl)

copy_4 : (word_of 8 (Copy Floor 0 (pos 64)) (negsuc 0) (pos 0) ≡ Some (negsuc 0)) ×
    (word_of 8 (Neg 0) (negsuc 0) (pos 0) ≡ Some (pos 1))
copy_4 = (refl, refl)

copy_5 : (word_of 8 (Copy Floor 0 (pos 64)) (pos 127) (pos 0) ≡ Some (pos 0)) ×
    (word_of 8 (Neg 0) (pos 127) (pos 0) ≡ Some (negsuc 126))
copy_5 = (refl, refl)

copy_6 : (word_of 8 (Copy Floor 0 (negsuc 5)) (pos 1) (pos 0) ≡ Some (pos 64)) ×
    (word_of 8 (Neg 0) (pos 1) (pos 0) ≡ Some (negsuc 0))
copy_6 = (refl, refl)

copy_7 : (word_of 8 (Copy Floor 0 (negsuc 6)) (pos 1) (pos 0) ≡ None) ×
    (word_of 8 (Neg 0) (pos 1) (pos 0) ≡ Some (negsuc 0))
copy_7 = (refl, refl)

copy_8 : (word_of 8 (Copy Floor 0 (negsuc 6)) (negsuc 0) (pos 0) ≡ Some (negsuc 127)) ×
    (word_of 8 (Neg 0) (negsuc 0) (pos 0) ≡ Some (pos 1))
copy_8 = (refl, refl)

copy_9 : (word_of 8 (Copy Floor 0 (negsuc 7)) (negsuc 0) (pos 0) ≡ None) ×
    (word_of 8 (Neg 0) (negsuc 0) (pos 0) ≡ Some (pos 1))
copy_9 = (refl, refl)

copy_10 : (word_of 32 (Copy Floor 0 (pos 63)) (negsuc 2147483647) (pos 0) ≡ Some (negsuc 0)) ×
    (word_of 32 (Neg 0) (negsuc 2147483647) (pos 0) ≡ None)
copy_10 = (refl, refl)

copy_11 : (word_of 32 (Copy Floor 0 (negsuc 31)) (negsuc 2147483647) (pos 0) ≡ None) ×
    (word_of 32 (Neg 0) (negsuc 2147483647) (pos 0) ≡ None)
copy_11 = (refl, refl)

copy_12 : (word_of 32 (Copy Floor 0 (negsuc 30)) (negsuc 0) (pos 0) ≡ Some (negsuc 2147483647)) ×
    (word_of 32 (Neg 0) (negsuc 0) (pos 0) ≡ Some (pos 1))
copy_12 = (refl, refl)

copy_13 : (word_of 48 (Copy Floor 0 (negsuc 47)) (negsuc 140737488355327) (pos 0) ≡ None) ×
    (word_of 48 (Neg 0) (negsuc 140737488355327) (pos 0) ≡ None)
copy_13 = (refl, refl)

copy_14 : (word_of 48 (Copy Floor 0 (negsuc 0)) (pos 140737488355327) (pos 0) ≡ None) ×
    (word_of 48 (Neg 0) (pos 140737488355327) (pos 0) ≡ Some (negsuc 140737488355326))
copy_14 = (refl, refl)

copy_15 : (word_of 64 (Copy Floor 0 (pos 63)) (negsuc 9223372036854775807) (pos 0) ≡ Some (negsuc 0)) ×
    (word_of 64 (Neg 0) (negsuc 9223372036854775807) (pos 0) ≡ None)
copy_15 = (refl, refl)

copy_16 : (word_of 64 (Copy Floor 0 (pos 64)) (negsuc 9223372036854775807) (pos 0) ≡ Some (negsuc 0)) ×
    (word_of 64 (Neg 0) (negsuc 9223372036854775807) (pos 0) ≡ None)
copy_16 = (refl, refl)

copy_17 : (word_of 64 (Copy Floor 0 (negsuc 62)) (negsuc 0) (pos 0) ≡ Some (negsuc 9223372036854775807)) ×
    (word_of 64 (Neg 0) (negsuc 0) (pos 0) ≡ Some (pos 1))
copy_17 = (refl, refl)

copy_18 : (word_of 64 (Copy Floor 0 (negsuc 63)) (negsuc 0) (pos 0) ≡ None) ×
    (word_of 64 (Neg 0) (negsuc 0) (pos 0) ≡ Some (pos 1))
copy_18 = (refl, refl)

copy_19 : (word_of 64 (Copy Floor 0 (negsuc 62)) (pos 1) (pos 0) ≡ None) ×
    (word_of 64 (Neg 0) (pos 1) (pos 0) ≡ Some (negsuc 0))
copy_19 = (refl, refl)

copy_20 : (word_of 64 (Copy Floor 0 (pos 64)) (pos 9223372036854775807) (pos 0) ≡ Some (pos 0)) ×
    (word_of 64 (Neg 0) (pos 9223372036854775807) (pos 0) ≡ Some (negsuc 9223372036854775806))
copy_20 = (refl, refl)

copy_21 : (word_of 64 (Copy Floor 0 (pos 0)) (negsuc 9223372036854775807) (pos 0) ≡ Some (negsuc 9223372036854775807)) ×
    (word_of 64 (Neg 0) (negsuc 9223372036854775807) (pos 0) ≡ None)
copy_21 = (refl, refl)

-- ---- products, to the nearest

near_product_1 : word_of 8 (Mul Nearest 0 1 3) (negsuc 2) (pos 5) ≡ Some (negsuc 1)
near_product_1 = refl

near_product_2 : word_of 8 (Mul Nearest 0 1 1) (pos 3) (pos 1) ≡ Some (pos 2)
near_product_2 = refl

near_product_3 : word_of 8 (Mul Nearest 0 1 1) (negsuc 2) (pos 1) ≡ Some (negsuc 0)
near_product_3 = refl

near_product_4 : word_of 8 (Mul Nearest 0 1 1) (pos 1) (pos 1) ≡ Some (pos 1)
near_product_4 = refl

near_product_5 : word_of 8 (Mul Nearest 0 1 1) (negsuc 0) (pos 1) ≡ Some (pos 0)
near_product_5 = refl

near_product_6 : word_of 8 (Mul Nearest 0 1 14) (negsuc 127) (negsuc 127) ≡ Some (pos 1)
near_product_6 = refl

near_product_7 : word_of 8 (Mul Nearest 0 1 7) (negsuc 127) (negsuc 127) ≡ None
near_product_7 = refl

near_product_8 : word_of 8 (Mul Nearest 0 1 8) (negsuc 127) (negsuc 127) ≡ Some (pos 64)
near_product_8 = refl

near_product_9 : word_of 8 (Mul Nearest 0 1 14) (pos 127) (pos 127) ≡ Some (pos 1)
near_product_9 = refl

near_product_10 : word_of 8 (Mul Nearest 0 1 1) (pos 17) (pos 15) ≡ None
near_product_10 = refl

near_product_11 : word_of 8 (Mul Nearest 0 1 1) (pos 15) (pos 17) ≡ None
near_product_11 = refl

near_product_12 : word_of 16 (Mul Nearest 0 1 30) (negsuc 32767) (negsuc 32767) ≡ Some (pos 1)
near_product_12 = refl

near_product_13 : word_of 32 (Mul Nearest 0 1 62) (negsuc 2147483647) (negsuc 2147483647) ≡ Some (pos 1)
near_product_13 = refl

near_product_14 : word_of 32 (Mul Nearest 0 1 31) (negsuc 2147483647) (negsuc 2147483647) ≡ None
near_product_14 = refl

near_product_15 : word_of 32 (Mul Nearest 0 1 31) (negsuc 2147483647) (pos 2147483647) ≡ Some (negsuc 2147483646)
near_product_15 = refl

near_product_16 : word_of 32 (Mul Nearest 0 1 32) (pos 2147483647) (pos 2147483647) ≡ Some (pos 1073741823)
near_product_16 = refl

near_product_17 : word_of 40 (Mul Nearest 0 1 78) (negsuc 549755813887) (negsuc 549755813887) ≡ Some (pos 1)
near_product_17 = refl

near_product_18 : word_of 40 (Mul Nearest 0 1 39) (negsuc 549755813887) (pos 549755813887) ≡ Some (negsuc 549755813886)
near_product_18 = refl

near_product_19 : word_of 56 (Mul Nearest 0 1 2) (negsuc 36028797018963967) (pos 3) ≡ Some (negsuc 27021597764222975)
near_product_19 = refl

near_product_20 : word_of 64 (Mul Nearest 0 1 126) (negsuc 9223372036854775807) (negsuc 9223372036854775807)
    ≡ Some (pos 1)
near_product_20 = refl

near_product_21 : word_of 64 (Mul Nearest 0 1 63) (negsuc 9223372036854775807) (pos 9223372036854775807)
    ≡ Some (negsuc 9223372036854775806)
near_product_21 = refl

near_product_22 : word_of 64 (Mul Nearest 0 1 64) (pos 9223372036854775807) (pos 9223372036854775807)
    ≡ Some (pos 4611686018427387903)
near_product_22 = refl

near_product_23 : word_of 64 (Mul Nearest 0 1 1) (pos 3) (negsuc 0) ≡ Some (negsuc 0)
near_product_23 = refl

near_product_24 : word_of 64 (Mul Nearest 0 1 63) (negsuc 9223372036854775807) (negsuc 9223372036854775807) ≡ None
near_product_24 = refl

-- ---- copies, to the nearest

near_copy_1 : word_of 8 (Copy Nearest 0 (pos 1)) (negsuc 2) (pos 0) ≡ Some (negsuc 0)
near_copy_1 = refl

near_copy_2 : word_of 8 (Copy Nearest 0 (pos 1)) (pos 3) (pos 0) ≡ Some (pos 2)
near_copy_2 = refl

near_copy_3 : word_of 8 (Copy Nearest 0 (pos 1)) (pos 1) (pos 0) ≡ Some (pos 1)
near_copy_3 = refl

near_copy_4 : word_of 8 (Copy Nearest 0 (pos 1)) (negsuc 0) (pos 0) ≡ Some (pos 0)
near_copy_4 = refl

near_copy_5 : word_of 8 (Copy Nearest 0 (pos 1)) (pos 127) (pos 0) ≡ Some (pos 64)
near_copy_5 = refl

near_copy_6 : word_of 8 (Copy Nearest 0 (pos 1)) (negsuc 127) (pos 0) ≡ Some (negsuc 63)
near_copy_6 = refl

near_copy_7 : word_of 8 (Copy Nearest 0 (pos 8)) (pos 127) (pos 0) ≡ Some (pos 0)
near_copy_7 = refl

near_copy_8 : word_of 8 (Copy Nearest 0 (pos 8)) (negsuc 127) (pos 0) ≡ Some (pos 0)
near_copy_8 = refl

near_copy_9 : word_of 8 (Copy Nearest 0 (pos 8)) (negsuc 126) (pos 0) ≡ Some (pos 0)
near_copy_9 = refl

near_copy_10 : word_of 8 (Copy Nearest 0 (pos 7)) (pos 64) (pos 0) ≡ Some (pos 1)
near_copy_10 = refl

near_copy_11 : word_of 8 (Copy Nearest 0 (pos 7)) (pos 63) (pos 0) ≡ Some (pos 0)
near_copy_11 = refl

near_copy_12 : word_of 32 (Copy Nearest 0 (pos 1)) (pos 2147483647) (pos 0) ≡ Some (pos 1073741824)
near_copy_12 = refl

near_copy_13 : word_of 32 (Copy Nearest 0 (pos 32)) (negsuc 2147483647) (pos 0) ≡ Some (pos 0)
near_copy_13 = refl

near_copy_14 : word_of 32 (Copy Nearest 0 (pos 32)) (pos 2147483647) (pos 0) ≡ Some (pos 0)
near_copy_14 = refl

near_copy_15 : word_of 48 (Copy Nearest 0 (pos 48)) (pos 140737488355327) (pos 0) ≡ Some (pos 0)
near_copy_15 = refl

near_copy_16 : word_of 48 (Copy Nearest 0 (pos 1)) (negsuc 140737488355327) (pos 0) ≡ Some (negsuc 70368744177663)
near_copy_16 = refl

near_copy_17 : word_of 64 (Copy Nearest 0 (pos 1)) (pos 9223372036854775807) (pos 0) ≡ Some (pos 4611686018427387904)
near_copy_17 = refl

near_copy_18 : word_of 64 (Copy Nearest 0 (pos 1)) (negsuc 9223372036854775807) (pos 0)
    ≡ Some (negsuc 4611686018427387903)
near_copy_18 = refl

near_copy_19 : word_of 64 (Copy Nearest 0 (pos 64)) (pos 9223372036854775807) (pos 0) ≡ Some (pos 0)
near_copy_19 = refl

near_copy_20 : word_of 64 (Copy Nearest 0 (pos 64)) (negsuc 9223372036854775807) (pos 0) ≡ Some (pos 0)
near_copy_20 = refl

near_copy_21 : word_of 64 (Copy Nearest 0 (pos 63)) (pos 9223372036854775807) (pos 0) ≡ Some (pos 1)
near_copy_21 = refl

near_copy_22 : word_of 64 (Copy Nearest 0 (pos 63)) (negsuc 9223372036854775806) (pos 0) ≡ Some (negsuc 0)
near_copy_22 = refl

-- ---- the ends of words

ends_1 : (is_word 8 (negsuc 127) && is_word 8 (pos 127) ≡ true) ×
    (is_word 8 (negsuc 128) || is_word 8 (pos 128) ≡ false)
ends_1 = (refl, refl)

ends_2 : (is_word 16 (negsuc 32767) && is_word 16 (pos 32767) ≡ true) ×
    (is_word 16 (negsuc 32768) || is_word 16 (pos 32768) ≡ false)
ends_2 = (refl, refl)

ends_3 : (is_word 24 (negsuc 8388607) && is_word 24 (pos 8388607) ≡ true) ×
    (is_word 24 (negsuc 8388608) || is_word 24 (pos 8388608) ≡ false)
ends_3 = (refl, refl)

ends_4 : (is_word 32 (negsuc 2147483647) && is_word 32 (pos 2147483647) ≡ true) ×
    (is_word 32 (negsuc 2147483648) || is_word 32 (pos 2147483648) ≡ false)
ends_4 = (refl, refl)

ends_5 : (is_word 40 (negsuc 549755813887) && is_word 40 (pos 549755813887) ≡ true) ×
    (is_word 40 (negsuc 549755813888) || is_word 40 (pos 549755813888) ≡ false)
ends_5 = (refl, refl)

ends_6 : (is_word 48 (negsuc 140737488355327) && is_word 48 (pos 140737488355327) ≡ true) ×
    (is_word 48 (negsuc 140737488355328) || is_word 48 (pos 140737488355328) ≡ false)
ends_6 = (refl, refl)

ends_7 : (is_word 56 (negsuc 36028797018963967) && is_word 56 (pos 36028797018963967) ≡ true) ×
    (is_word 56 (negsuc 36028797018963968) || is_word 56 (pos 36028797018963968) ≡ false)
ends_7 = (refl, refl)

ends_8 : (is_word 64 (negsuc 9223372036854775807) && is_word 64 (pos 9223372036854775807) ≡ true) ×
    (is_word 64 (negsuc 9223372036854775808) || is_word 64 (pos 9223372036854775808) ≡ false)
ends_8 = (refl, refl)
