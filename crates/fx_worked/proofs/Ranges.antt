-- Worked ranges, by fractions in another language: a wrong definition here is refused.
use Rattle.std.specs.Prelude.{◌≡◌, ℕ, ℤ, pos, negsuc, true, false, refl}
use Rattle.fx_rational.specs.Rational.{over, plus, minus, negative, is_at_most}
use Rattle.fx_rational.specs.Decimal.{Decimal, decimal_value, is_within}

abbrev d : ℤ → ℕ → Decimal
d a b = record { a = a; b = b }

-- ---- whether a given number lies in a range widened by an error

range_1 : is_within (d (pos 0) 0) (d (pos 0) 0) (d (pos 0) 0) (d (pos 0) 0) ≡ true
unfolding is_within decimal_value over plus minus negative is_at_most
range_1 = refl

range_2 : is_within (d (pos 1) 1) (d (pos 0) 0) (d (pos 0) 0) (d (pos 1) 1) ≡ true
unfolding is_within decimal_value over plus minus negative is_at_most
range_2 = refl

range_3 : is_within (d (negsuc 0) 1) (d (pos 0) 0) (d (pos 0) 0) (d (pos 1) 1) ≡ true
unfolding is_within decimal_value over plus minus negative is_at_most
range_3 = refl

range_4 : is_within (d (pos 1) 1) (d (pos 0) 0) (d (pos 0) 0) (d (pos 99999999999999999) 18) ≡ false
unfolding is_within decimal_value over plus minus negative is_at_most
range_4 = refl

range_5 : is_within (d (negsuc 0) 1) (d (pos 0) 0) (d (pos 0) 0) (d (pos 99999999999999999) 18) ≡ false
unfolding is_within decimal_value over plus minus negative is_at_most
range_5 = refl

range_6 : is_within (d (pos 1) 0) (d (negsuc 0) 0) (d (pos 1) 0) (d (pos 0) 0) ≡ true
unfolding is_within decimal_value over plus minus negative is_at_most
range_6 = refl

range_7 : is_within (d (negsuc 0) 0) (d (negsuc 0) 0) (d (pos 1) 0) (d (pos 0) 0) ≡ true
unfolding is_within decimal_value over plus minus negative is_at_most
range_7 = refl

range_8 : is_within (d (pos 1000000000000000001) 18) (d (negsuc 0) 0) (d (pos 1) 0) (d (pos 0) 0) ≡ false
unfolding is_within decimal_value over plus minus negative is_at_most
range_8 = refl

range_9 : is_within (d (negsuc 1000000000000000000) 18) (d (negsuc 0) 0) (d (pos 1) 0) (d (pos 0) 0) ≡ false
unfolding is_within decimal_value over plus minus negative is_at_most
range_9 = refl

range_10 : is_within (d (pos 101) 2) (d (negsuc 0) 0) (d (pos 1) 0) (d (pos 1) 2) ≡ true
unfolding is_within decimal_value over plus minus negative is_at_most
range_10 = refl

range_11 : is_within (d (pos 1010001) 6) (d (negsuc 0) 0) (d (pos 1) 0) (d (pos 1) 2) ≡ false
unfolding is_within decimal_value over plus minus negative is_at_most
range_11 = refl

range_12 : is_within (d (negsuc 0) 2) (d (pos 0) 0) (d (pos 1) 0) (d (pos 1) 2) ≡ true
unfolding is_within decimal_value over plus minus negative is_at_most
range_12 = refl

range_13 : is_within (d (pos 4611686018427387903) 0) (d (pos 4611686018427387903) 0) (d (pos 4611686018427387903) 0)
    (d (pos 0) 0) ≡ true
unfolding is_within decimal_value over plus minus negative is_at_most
range_13 = refl

range_14 : is_within (d (pos 4611686018427387903) 0) (d (pos 0) 0) (d (pos 0) 0) (d (pos 4611686018427387903) 0) ≡ true
unfolding is_within decimal_value over plus minus negative is_at_most
range_14 = refl

range_15 : is_within (d (negsuc 4611686018427387902) 0) (d (pos 0) 0) (d (pos 0) 0) (d (pos 4611686018427387903) 0)
    ≡ true
unfolding is_within decimal_value over plus minus negative is_at_most
range_15 = refl

range_16 : is_within (d (pos 4611686018427387903) 0) (d (negsuc 4611686018427387902) 0)
    (d (negsuc 4611686018427387902) 0) (d (pos 4611686018427387903) 0) ≡ false
unfolding is_within decimal_value over plus minus negative is_at_most
range_16 = refl

range_17 : is_within (d (pos 0) 0) (d (negsuc 4611686018427387902) 0) (d (negsuc 4611686018427387902) 0)
    (d (pos 4611686018427387903) 0) ≡ true
unfolding is_within decimal_value over plus minus negative is_at_most
range_17 = refl

range_18 : is_within (d (pos 0) 0) (d (pos 4611686018427387903) 0) (d (pos 4611686018427387903) 0)
    (d (pos 4611686018427387903) 0) ≡ true
unfolding is_within decimal_value over plus minus negative is_at_most
range_18 = refl

range_19 : is_within (d (negsuc 4611686018427387902) 18) (d (pos 4611686018427387903) 0) (d (pos 4611686018427387903) 0)
    (d (pos 4611686018427387903) 0) ≡ false
unfolding is_within decimal_value over plus minus negative is_at_most
range_19 = refl

range_20 : is_within (d (pos 4611686018427387903) 18) (d (negsuc 4611686018427387902) 0)
    (d (negsuc 4611686018427387902) 0) (d (pos 4611686018427387903) 0) ≡ false
unfolding is_within decimal_value over plus minus negative is_at_most
range_20 = refl

range_21 : is_within (d (pos 4611686018427387903) 18) (d (pos 0) 0) (d (pos 4611686018427387903) 18) (d (pos 0) 0)
    ≡ true
unfolding is_within decimal_value over plus minus negative is_at_most
range_21 = refl

range_22 : is_within (d (pos 4611686018427387903) 18) (d (pos 0) 0) (d (pos 0) 0) (d (pos 4611686018427387903) 18)
    ≡ true
unfolding is_within decimal_value over plus minus negative is_at_most
range_22 = refl

range_23 : is_within (d (pos 0) 0) (d (pos 1) 0) (d (negsuc 0) 0) (d (pos 0) 0) ≡ false
unfolding is_within decimal_value over plus minus negative is_at_most
range_23 = refl

range_24 : is_within (d (pos 0) 0) (d (pos 1) 0) (d (negsuc 0) 0) (d (pos 1) 0) ≡ true
unfolding is_within decimal_value over plus minus negative is_at_most
range_24 = refl

range_25 : is_within (d (pos 5) 1) (d (pos 0) 0) (d (pos 1) 0) (d (negsuc 4) 1) ≡ true
unfolding is_within decimal_value over plus minus negative is_at_most
range_25 = refl

range_26 : is_within (d (pos 5) 1) (d (pos 0) 0) (d (pos 1) 0) (d (negsuc 5) 1) ≡ false
unfolding is_within decimal_value over plus minus negative is_at_most
range_26 = refl

range_27 : is_within (d (pos 1) 0) (d (negsuc 2) 1) (d (negsuc 0) 1) (d (pos 1) 1) ≡ false
unfolding is_within decimal_value over plus minus negative is_at_most
range_27 = refl

range_28 : is_within (d (negsuc 5) 18) (d (negsuc 3) 18) (d (pos 0) 0) (d (pos 2) 18) ≡ true
unfolding is_within decimal_value over plus minus negative is_at_most
range_28 = refl

range_29 : is_within (d (pos 1) 1) (d (pos 2) 1) (d (negsuc 1) 1) (d (pos 0) 0) ≡ false
unfolding is_within decimal_value over plus minus negative is_at_most
range_29 = refl

range_30 : is_within (d (pos 5) 18) (d (negsuc 3) 18) (d (pos 0) 0) (d (pos 0) 0) ≡ false
unfolding is_within decimal_value over plus minus negative is_at_most
range_30 = refl

range_31 : is_within (d (pos 3) 1) (d (negsuc 0) 1) (d (pos 3) 1) (d (pos 0) 0) ≡ true
unfolding is_within decimal_value over plus minus negative is_at_most
range_31 = refl

range_32 : is_within (d (negsuc 3) 18) (d (negsuc 1) 18) (d (pos 2) 18) (d (pos 1) 18) ≡ false
unfolding is_within decimal_value over plus minus negative is_at_most
range_32 = refl

range_33 : is_within (d (negsuc 12) 2) (d (pos 4) 2) (d (pos 9) 2) (d (pos 2) 2) ≡ false
unfolding is_within decimal_value over plus minus negative is_at_most
range_33 = refl

range_34 : is_within (d (negsuc 3) 2) (d (negsuc 1) 2) (d (negsuc 0) 1) (d (pos 1) 2) ≡ false
unfolding is_within decimal_value over plus minus negative is_at_most
range_34 = refl

range_35 : is_within (d (negsuc 5) 2) (d (negsuc 4) 2) (d (negsuc 5) 2) (d (pos 0) 0) ≡ false
unfolding is_within decimal_value over plus minus negative is_at_most
range_35 = refl

range_36 : is_within (d (negsuc 6) 2) (d (negsuc 3) 2) (d (pos 5) 2) (d (pos 3) 2) ≡ true
unfolding is_within decimal_value over plus minus negative is_at_most
range_36 = refl

range_37 : is_within (d (pos 3) 1) (d (negsuc 15) 1) (d (negsuc 0) 1) (d (pos 3) 1) ≡ false
unfolding is_within decimal_value over plus minus negative is_at_most
range_37 = refl

range_38 : is_within (d (pos 1) 1) (d (pos 5) 1) (d (negsuc 2) 1) (d (pos 4) 1) ≡ true
unfolding is_within decimal_value over plus minus negative is_at_most
range_38 = refl

range_39 : is_within (d (pos 13) 1) (d (pos 17) 1) (d (pos 14) 1) (d (pos 3) 1) ≡ false
unfolding is_within decimal_value over plus minus negative is_at_most
range_39 = refl

range_40 : is_within (d (pos 16) 18) (d (pos 19) 18) (d (pos 2) 18) (d (pos 3) 18) ≡ false
unfolding is_within decimal_value over plus minus negative is_at_most
range_40 = refl

range_41 : is_within (d (pos 2) 18) (d (pos 4) 18) (d (negsuc 3) 18) (d (pos 1) 18) ≡ false
unfolding is_within decimal_value over plus minus negative is_at_most
range_41 = refl

range_42 : is_within (d (pos 3) 2) (d (pos 3) 2) (d (negsuc 0) 2) (d (pos 3) 2) ≡ false
unfolding is_within decimal_value over plus minus negative is_at_most
range_42 = refl

range_43 : is_within (d (pos 5) 1) (d (pos 5) 1) (d (pos 18) 1) (d (pos 0) 0) ≡ true
unfolding is_within decimal_value over plus minus negative is_at_most
range_43 = refl

range_44 : is_within (d (pos 3) 18) (d (pos 3) 18) (d (pos 19) 18) (d (pos 0) 0) ≡ true
unfolding is_within decimal_value over plus minus negative is_at_most
range_44 = refl

range_45 : is_within (d (negsuc 7) 2) (d (negsuc 0) 2) (d (pos 2) 2) (d (pos 1) 2) ≡ false
unfolding is_within decimal_value over plus minus negative is_at_most
range_45 = refl

range_46 : is_within (d (negsuc 5) 1) (d (negsuc 2) 1) (d (pos 13) 1) (d (pos 2) 1) ≡ false
unfolding is_within decimal_value over plus minus negative is_at_most
range_46 = refl

range_47 : is_within (d (pos 12) 3) (d (negsuc 11) 3) (d (pos 8) 3) (d (pos 4) 3) ≡ true
unfolding is_within decimal_value over plus minus negative is_at_most
range_47 = refl

range_48 : is_within (d (negsuc 21) 1) (d (negsuc 18) 1) (d (negsuc 11) 1) (d (pos 2) 1) ≡ false
unfolding is_within decimal_value over plus minus negative is_at_most
range_48 = refl

range_49 : is_within (d (negsuc 5) 18) (d (negsuc 3) 18) (d (pos 8) 18) (d (pos 2) 18) ≡ true
unfolding is_within decimal_value over plus minus negative is_at_most
range_49 = refl

range_50 : is_within (d (negsuc 1) 18) (d (pos 0) 0) (d (negsuc 4) 18) (d (pos 1) 18) ≡ false
unfolding is_within decimal_value over plus minus negative is_at_most
range_50 = refl

range_51 : is_within (d (pos 7) 2) (d (pos 11) 2) (d (pos 7) 2) (d (pos 0) 0) ≡ false
unfolding is_within decimal_value over plus minus negative is_at_most
range_51 = refl

range_52 : is_within (d (pos 18) 1) (d (pos 2) 1) (d (pos 13) 1) (d (pos 4) 1) ≡ false
unfolding is_within decimal_value over plus minus negative is_at_most
range_52 = refl

range_53 : is_within (d (pos 11) 2) (d (pos 15) 2) (d (pos 13) 2) (d (pos 3) 2) ≡ false
unfolding is_within decimal_value over plus minus negative is_at_most
range_53 = refl

range_54 : is_within (d (pos 17) 3) (d (pos 19) 3) (d (negsuc 13) 3) (d (pos 1) 3) ≡ false
unfolding is_within decimal_value over plus minus negative is_at_most
range_54 = refl

range_55 : is_within (d (pos 2) 2) (d (negsuc 17) 2) (d (negsuc 1) 2) (d (pos 4) 2) ≡ true
unfolding is_within decimal_value over plus minus negative is_at_most
range_55 = refl

range_56 : is_within (d (pos 8) 1) (d (negsuc 15) 1) (d (pos 15) 1) (d (pos 4) 1) ≡ true
unfolding is_within decimal_value over plus minus negative is_at_most
range_56 = refl

range_57 : is_within (d (pos 1) 1) (d (pos 5) 1) (d (pos 19) 1) (d (pos 4) 1) ≡ true
unfolding is_within decimal_value over plus minus negative is_at_most
range_57 = refl

range_58 : is_within (d (pos 3) 3) (d (negsuc 17) 3) (d (negsuc 0) 3) (d (pos 3) 3) ≡ false
unfolding is_within decimal_value over plus minus negative is_at_most
range_58 = refl

range_59 : is_within (d (negsuc 7) 1) (d (pos 4) 1) (d (pos 1) 1) (d (pos 2) 1) ≡ false
unfolding is_within decimal_value over plus minus negative is_at_most
range_59 = refl

range_60 : is_within (d (negsuc 1) 1) (d (negsuc 17) 2) (d (pos 11) 2) (d (pos 2) 2) ≡ true
unfolding is_within decimal_value over plus minus negative is_at_most
range_60 = refl

range_61 : is_within (d (negsuc 5) 3) (d (negsuc 1) 3) (d (pos 12) 3) (d (pos 4) 3) ≡ true
unfolding is_within decimal_value over plus minus negative is_at_most
range_61 = refl

range_62 : is_within (d (negsuc 0) 2) (d (negsuc 4) 2) (d (negsuc 2) 2) (d (pos 1) 2) ≡ false
unfolding is_within decimal_value over plus minus negative is_at_most
range_62 = refl

range_63 : is_within (d (negsuc 4) 3) (d (negsuc 0) 3) (d (negsuc 1) 3) (d (pos 4) 3) ≡ true
unfolding is_within decimal_value over plus minus negative is_at_most
range_63 = refl

range_64 : is_within (d (pos 2) 3) (d (pos 3) 3) (d (negsuc 2) 3) (d (pos 0) 0) ≡ false
unfolding is_within decimal_value over plus minus negative is_at_most
range_64 = refl

range_65 : is_within (d (pos 5) 18) (d (pos 1) 17) (d (negsuc 7) 18) (d (pos 4) 18) ≡ false
unfolding is_within decimal_value over plus minus negative is_at_most
range_65 = refl

range_66 : is_within (d (pos 0) 0) (d (negsuc 17) 2) (d (negsuc 1) 2) (d (pos 2) 2) ≡ true
unfolding is_within decimal_value over plus minus negative is_at_most
range_66 = refl

range_67 : is_within (d (negsuc 0) 2) (d (pos 5) 2) (d (negsuc 0) 2) (d (pos 0) 0) ≡ false
unfolding is_within decimal_value over plus minus negative is_at_most
range_67 = refl

range_68 : is_within (d (pos 9) 1) (d (pos 2) 1) (d (pos 4) 1) (d (pos 4) 1) ≡ false
unfolding is_within decimal_value over plus minus negative is_at_most
range_68 = refl

range_69 : is_within (d (pos 3) 2) (d (negsuc 12) 2) (d (pos 0) 0) (d (pos 2) 2) ≡ false
unfolding is_within decimal_value over plus minus negative is_at_most
range_69 = refl

range_70 : is_within (d (negsuc 3) 3) (d (pos 1) 3) (d (pos 2) 3) (d (pos 4) 3) ≡ false
unfolding is_within decimal_value over plus minus negative is_at_most
range_70 = refl

range_71 : is_within (d (negsuc 7) 3) (d (pos 0) 0) (d (negsuc 11) 3) (d (pos 4) 3) ≡ false
unfolding is_within decimal_value over plus minus negative is_at_most
range_71 = refl

range_72 : is_within (d (pos 4) 1) (d (pos 0) 0) (d (pos 3) 1) (d (pos 0) 0) ≡ false
unfolding is_within decimal_value over plus minus negative is_at_most
range_72 = refl

range_73 : is_within (d (negsuc 1) 2) (d (pos 2) 2) (d (negsuc 4) 2) (d (pos 4) 2) ≡ true
unfolding is_within decimal_value over plus minus negative is_at_most
range_73 = refl

range_74 : is_within (d (pos 1) 3) (d (negsuc 16) 3) (d (negsuc 3) 3) (d (pos 4) 3) ≡ false
unfolding is_within decimal_value over plus minus negative is_at_most
range_74 = refl

range_75 : is_within (d (pos 5) 1) (d (pos 6) 1) (d (pos 2) 0) (d (pos 1) 1) ≡ true
unfolding is_within decimal_value over plus minus negative is_at_most
range_75 = refl

range_76 : is_within (d (pos 3) 3) (d (pos 3) 3) (d (pos 1) 3) (d (pos 0) 0) ≡ false
unfolding is_within decimal_value over plus minus negative is_at_most
range_76 = refl

range_77 : is_within (d (pos 6) 18) (d (pos 9) 18) (d (pos 15) 18) (d (pos 2) 18) ≡ false
unfolding is_within decimal_value over plus minus negative is_at_most
range_77 = refl

range_78 : is_within (d (pos 5) 2) (d (negsuc 4) 2) (d (pos 2) 2) (d (pos 2) 2) ≡ false
unfolding is_within decimal_value over plus minus negative is_at_most
range_78 = refl

range_79 : is_within (d (pos 0) 0) (d (negsuc 2) 2) (d (negsuc 3) 2) (d (pos 4) 2) ≡ true
unfolding is_within decimal_value over plus minus negative is_at_most
range_79 = refl

range_80 : is_within (d (pos 2) 0) (d (pos 2) 0) (d (pos 4) 1) (d (pos 0) 0) ≡ false
unfolding is_within decimal_value over plus minus negative is_at_most
range_80 = refl

range_81 : is_within (d (negsuc 3) 2) (d (negsuc 2) 2) (d (pos 5) 2) (d (pos 1) 2) ≡ true
unfolding is_within decimal_value over plus minus negative is_at_most
range_81 = refl

range_82 : is_within (d (negsuc 7) 18) (d (negsuc 12) 18) (d (negsuc 6) 18) (d (pos 1) 18) ≡ true
unfolding is_within decimal_value over plus minus negative is_at_most
range_82 = refl

range_83 : is_within (d (pos 14) 2) (d (negsuc 4) 2) (d (pos 11) 2) (d (pos 3) 2) ≡ true
unfolding is_within decimal_value over plus minus negative is_at_most
range_83 = refl

range_84 : is_within (d (pos 0) 0) (d (pos 3) 2) (d (pos 2) 2) (d (pos 0) 0) ≡ false
unfolding is_within decimal_value over plus minus negative is_at_most
range_84 = refl

range_85 : is_within (d (pos 1) 18) (d (pos 4) 18) (d (negsuc 1) 18) (d (pos 2) 18) ≡ false
unfolding is_within decimal_value over plus minus negative is_at_most
range_85 = refl

range_86 : is_within (d (pos 8) 3) (d (pos 0) 0) (d (pos 4) 3) (d (pos 2) 3) ≡ false
unfolding is_within decimal_value over plus minus negative is_at_most
range_86 = refl

range_87 : is_within (d (pos 1) 3) (d (pos 2) 3) (d (negsuc 2) 3) (d (pos 3) 3) ≡ false
unfolding is_within decimal_value over plus minus negative is_at_most
range_87 = refl

range_88 : is_within (d (pos 1) 18) (d (negsuc 3) 18) (d (negsuc 1) 18) (d (pos 2) 18) ≡ false
unfolding is_within decimal_value over plus minus negative is_at_most
range_88 = refl

range_89 : is_within (d (pos 5) 1) (d (negsuc 4) 1) (d (pos 5) 1) (d (pos 0) 0) ≡ true
unfolding is_within decimal_value over plus minus negative is_at_most
range_89 = refl

range_90 : is_within (d (pos 0) 0) (d (negsuc 3) 18) (d (negsuc 3) 18) (d (pos 4) 18) ≡ true
unfolding is_within decimal_value over plus minus negative is_at_most
range_90 = refl

range_91 : is_within (d (negsuc 4) 2) (d (pos 0) 0) (d (pos 2) 2) (d (pos 4) 2) ≡ false
unfolding is_within decimal_value over plus minus negative is_at_most
range_91 = refl

range_92 : is_within (d (negsuc 2) 2) (d (negsuc 2) 2) (d (pos 1) 2) (d (pos 0) 0) ≡ true
unfolding is_within decimal_value over plus minus negative is_at_most
range_92 = refl

range_93 : is_within (d (negsuc 18) 18) (d (negsuc 14) 18) (d (negsuc 4) 18) (d (pos 3) 18) ≡ false
unfolding is_within decimal_value over plus minus negative is_at_most
range_93 = refl

range_94 : is_within (d (pos 9) 3) (d (pos 2) 2) (d (pos 11) 3) (d (pos 2) 3) ≡ false
unfolding is_within decimal_value over plus minus negative is_at_most
range_94 = refl

range_95 : is_within (d (pos 4) 3) (d (negsuc 1) 3) (d (negsuc 0) 3) (d (pos 4) 3) ≡ false
unfolding is_within decimal_value over plus minus negative is_at_most
range_95 = refl

range_96 : is_within (d (pos 5) 2) (d (negsuc 18) 2) (d (pos 3) 2) (d (pos 1) 2) ≡ false
unfolding is_within decimal_value over plus minus negative is_at_most
range_96 = refl

range_97 : is_within (d (pos 3) 1) (d (negsuc 3) 1) (d (pos 2) 1) (d (pos 0) 0) ≡ false
unfolding is_within decimal_value over plus minus negative is_at_most
range_97 = refl

range_98 : is_within (d (negsuc 1) 1) (d (pos 17) 1) (d (negsuc 5) 1) (d (pos 4) 1) ≡ false
unfolding is_within decimal_value over plus minus negative is_at_most
range_98 = refl

range_99 : is_within (d (negsuc 7) 18) (d (negsuc 4) 18) (d (negsuc 3) 18) (d (pos 0) 0) ≡ false
unfolding is_within decimal_value over plus minus negative is_at_most
range_99 = refl

range_100 : is_within (d (pos 2) 2) (d (negsuc 3) 2) (d (pos 1) 2) (d (pos 0) 0) ≡ false
unfolding is_within decimal_value over plus minus negative is_at_most
range_100 = refl

range_101 : is_within (d (pos 21) 18) (d (pos 5) 18) (d (pos 17) 18) (d (pos 4) 18) ≡ true
unfolding is_within decimal_value over plus minus negative is_at_most
range_101 = refl

range_102 : is_within (d (negsuc 0) 18) (d (pos 3) 18) (d (negsuc 0) 18) (d (pos 0) 0) ≡ false
unfolding is_within decimal_value over plus minus negative is_at_most
range_102 = refl

range_103 : is_within (d (negsuc 0) 1) (d (pos 3) 1) (d (negsuc 1) 1) (d (pos 1) 1) ≡ false
unfolding is_within decimal_value over plus minus negative is_at_most
range_103 = refl

range_104 : is_within (d (pos 1) 1) (d (pos 9) 2) (d (pos 6) 2) (d (pos 4) 2) ≡ true
unfolding is_within decimal_value over plus minus negative is_at_most
range_104 = refl
