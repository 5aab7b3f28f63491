-- Worked texts that spell no decimal, and why: a wrong definition here is refused.
use Rattle.std.specs.Prelude.{◌≡◌, Err, refl, codes}
use Rattle.fx_fraction.specs.Numeral.{numeral_of}
use Rattle.fx_fraction.specs.DecimalOf.{decimal_of, trimmed}
use Rattle.fx_fraction.specs.declared.fault.NumberFault.TheVariants.{Malformed, TooLong}

-- ---- long numbers, and ones whose power of ten is greater still

reading_1 : decimal_of (codes "1e-19") ≡ Err TooLong
unfolding decimal_of numeral_of trimmed
reading_1 = refl

reading_2 : decimal_of (codes ".") ≡ Err Malformed
unfolding decimal_of numeral_of trimmed
reading_2 = refl

reading_3 : decimal_of (codes "") ≡ Err Malformed
unfolding decimal_of numeral_of trimmed
reading_3 = refl

reading_4 : decimal_of (codes "1e") ≡ Err Malformed
unfolding decimal_of numeral_of trimmed
reading_4 = refl

reading_5 : decimal_of (codes "1e+") ≡ Err Malformed
unfolding decimal_of numeral_of trimmed
reading_5 = refl

reading_6 : decimal_of (codes "1e-") ≡ Err Malformed
unfolding decimal_of numeral_of trimmed
reading_6 = refl

reading_7 : decimal_of (codes "e5") ≡ Err Malformed
unfolding decimal_of numeral_of trimmed
reading_7 = refl

reading_8 : decimal_of (codes ".e5") ≡ Err Malformed
unfolding decimal_of numeral_of trimmed
reading_8 = refl

reading_9 : decimal_of (codes "1.5e") ≡ Err Malformed
unfolding decimal_of numeral_of trimmed
reading_9 = refl

reading_10 : decimal_of (codes "1..5") ≡ Err Malformed
unfolding decimal_of numeral_of trimmed
reading_10 = refl

reading_11 : decimal_of (codes "1.2.3") ≡ Err Malformed
unfolding decimal_of numeral_of trimmed
reading_11 = refl

reading_12 : decimal_of (codes "1e5.0") ≡ Err Malformed
unfolding decimal_of numeral_of trimmed
reading_12 = refl

reading_13 : decimal_of (codes "--1") ≡ Err Malformed
unfolding decimal_of numeral_of trimmed
reading_13 = refl

reading_14 : decimal_of (codes "+-1") ≡ Err Malformed
unfolding decimal_of numeral_of trimmed
reading_14 = refl

reading_15 : decimal_of (codes "1-") ≡ Err Malformed
unfolding decimal_of numeral_of trimmed
reading_15 = refl

reading_16 : decimal_of (codes "1+") ≡ Err Malformed
unfolding decimal_of numeral_of trimmed
reading_16 = refl

reading_17 : decimal_of (codes "1 ") ≡ Err Malformed
unfolding decimal_of numeral_of trimmed
reading_17 = refl

reading_18 : decimal_of (codes " 1") ≡ Err Malformed
unfolding decimal_of numeral_of trimmed
reading_18 = refl

reading_19 : decimal_of (codes "1_0") ≡ Err Malformed
unfolding decimal_of numeral_of trimmed
reading_19 = refl

reading_20 : decimal_of (codes "0x1") ≡ Err Malformed
unfolding decimal_of numeral_of trimmed
reading_20 = refl

reading_21 : decimal_of (codes "1f") ≡ Err Malformed
unfolding decimal_of numeral_of trimmed
reading_21 = refl

reading_22 : decimal_of (codes "inf") ≡ Err Malformed
unfolding decimal_of numeral_of trimmed
reading_22 = refl

reading_23 : decimal_of (codes "nan") ≡ Err Malformed
unfolding decimal_of numeral_of trimmed
reading_23 = refl

reading_24 : decimal_of (codes "1e1e1") ≡ Err Malformed
unfolding decimal_of numeral_of trimmed
reading_24 = refl

reading_25 : decimal_of (codes "+") ≡ Err Malformed
unfolding decimal_of numeral_of trimmed
reading_25 = refl

reading_26 : decimal_of (codes "-") ≡ Err Malformed
unfolding decimal_of numeral_of trimmed
reading_26 = refl

reading_27 : decimal_of (codes "+.") ≡ Err Malformed
unfolding decimal_of numeral_of trimmed
reading_27 = refl

reading_28 : decimal_of (codes "-.") ≡ Err Malformed
unfolding decimal_of numeral_of trimmed
reading_28 = refl

reading_29 : decimal_of (codes "+e1") ≡ Err Malformed
unfolding decimal_of numeral_of trimmed
reading_29 = refl

reading_30 : decimal_of (codes "4611686018427387904") ≡ Err TooLong
unfolding decimal_of numeral_of trimmed
reading_30 = refl

reading_31 : decimal_of (codes "-4611686018427387904") ≡ Err TooLong
unfolding decimal_of numeral_of trimmed
reading_31 = refl

reading_32 : decimal_of (codes "0.0000000000000000001") ≡ Err TooLong
unfolding decimal_of numeral_of trimmed
reading_32 = refl

reading_33 : decimal_of (codes "1e19") ≡ Err TooLong
unfolding decimal_of numeral_of trimmed
reading_33 = refl

reading_34 : decimal_of (codes "5e18") ≡ Err TooLong
unfolding decimal_of numeral_of trimmed
reading_34 = refl

reading_35 : decimal_of (codes "-5e18") ≡ Err TooLong
unfolding decimal_of numeral_of trimmed
reading_35 = refl

reading_36 : decimal_of (codes "47e17") ≡ Err TooLong
unfolding decimal_of numeral_of trimmed
reading_36 = refl

reading_37 : decimal_of (codes "4.611686018427387904") ≡ Err TooLong
unfolding decimal_of numeral_of trimmed
reading_37 = refl

reading_38 : decimal_of (codes "0.4611686018427387903") ≡ Err TooLong
unfolding decimal_of numeral_of trimmed
reading_38 = refl

reading_39 : decimal_of (codes "1000000000000000000001e-21") ≡ Err TooLong
unfolding decimal_of numeral_of trimmed
reading_39 = refl

reading_40 : decimal_of (codes "1.2345678901234567e-05") ≡ Err TooLong
unfolding decimal_of numeral_of trimmed
reading_40 = refl

reading_41 : decimal_of (codes "+4106990852627.31124e+14") ≡ Err TooLong
unfolding decimal_of numeral_of trimmed
reading_41 = refl
