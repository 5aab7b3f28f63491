-- Worked floors and texts that no program of the cases holds: a wrong definition here is refused.
use Rattle.std.specs.Prelude.{◌≡◌, ℕ, ℤ, pos, negsuc, refl, codes}
use Rattle.std.specs.Fmt.{digits}
use Rattle.fx_rational.specs.Rational.{over, scaled, floor}
use Rattle.fx_rational.specs.Decimal.{Decimal, decimal_value, quantised}
use Rattle.fx_model.specs.WordText.{decimal_text, size_text, digits_after}

abbrev d : ℤ → ℕ → Decimal
d a b = record { a = a; b = b }

-- ---- floors at the ends of points, and beyond words

floor_1 : quantised (d (pos 0) 0) (negsuc 63) ≡ pos 0
unfolding quantised scaled floor decimal_value over
floor_1 = refl

floor_2 : quantised (d (pos 0) 0) (negsuc 62) ≡ pos 0
unfolding quantised scaled floor decimal_value over
floor_2 = refl

floor_3 : quantised (d (pos 1) 0) (negsuc 63) ≡ pos 0
unfolding quantised scaled floor decimal_value over
floor_3 = refl

floor_4 : quantised (d (pos 1) 0) (negsuc 62) ≡ pos 0
unfolding quantised scaled floor decimal_value over
floor_4 = refl

floor_5 : quantised (d (negsuc 0) 0) (negsuc 63) ≡ negsuc 0
unfolding quantised scaled floor decimal_value over
floor_5 = refl

floor_6 : quantised (d (negsuc 0) 0) (negsuc 62) ≡ negsuc 0
unfolding quantised scaled floor decimal_value over
floor_6 = refl

floor_7 : quantised (d (pos 1) 18) (negsuc 63) ≡ pos 0
unfolding quantised scaled floor decimal_value over
floor_7 = refl

floor_8 : quantised (d (pos 1) 18) (negsuc 62) ≡ pos 0
unfolding quantised scaled floor decimal_value over
floor_8 = refl

floor_9 : quantised (d (negsuc 0) 18) (negsuc 63) ≡ negsuc 0
unfolding quantised scaled floor decimal_value over
floor_9 = refl

floor_10 : quantised (d (negsuc 0) 18) (negsuc 62) ≡ negsuc 0
unfolding quantised scaled floor decimal_value over
floor_10 = refl

floor_11 : quantised (d (pos 4611686018427387903) 0) (negsuc 63) ≡ pos 0
unfolding quantised scaled floor decimal_value over
floor_11 = refl

floor_12 : quantised (d (pos 4611686018427387903) 0) (negsuc 62) ≡ pos 0
unfolding quantised scaled floor decimal_value over
floor_12 = refl

floor_13 : quantised (d (pos 4611686018427387903) 0) (pos 61) ≡ pos 10633823966279326980924613473029062656
unfolding quantised scaled floor decimal_value over
floor_13 = refl

floor_14 : quantised (d (pos 4611686018427387903) 0) (pos 62) ≡ pos 21267647932558653961849226946058125312
unfolding quantised scaled floor decimal_value over
floor_14 = refl

floor_15 : quantised (d (negsuc 4611686018427387902) 0) (negsuc 63) ≡ negsuc 0
unfolding quantised scaled floor decimal_value over
floor_15 = refl

floor_16 : quantised (d (negsuc 4611686018427387902) 0) (negsuc 62) ≡ negsuc 0
unfolding quantised scaled floor decimal_value over
floor_16 = refl

floor_17 : quantised (d (negsuc 4611686018427387902) 0) (pos 61) ≡ negsuc 10633823966279326980924613473029062655
unfolding quantised scaled floor decimal_value over
floor_17 = refl

floor_18 : quantised (d (negsuc 4611686018427387902) 0) (pos 62) ≡ negsuc 21267647932558653961849226946058125311
unfolding quantised scaled floor decimal_value over
floor_18 = refl

floor_19 : quantised (d (pos 4611686018427387903) 18) (negsuc 63) ≡ pos 0
unfolding quantised scaled floor decimal_value over
floor_19 = refl

floor_20 : quantised (d (pos 4611686018427387903) 18) (negsuc 62) ≡ pos 0
unfolding quantised scaled floor decimal_value over
floor_20 = refl

floor_21 : quantised (d (pos 4611686018427387903) 18) (pos 61) ≡ pos 10633823966279326980
unfolding quantised scaled floor decimal_value over
floor_21 = refl

floor_22 : quantised (d (pos 4611686018427387903) 18) (pos 62) ≡ pos 21267647932558653961
unfolding quantised scaled floor decimal_value over
floor_22 = refl

floor_23 : quantised (d (negsuc 4611686018427387902) 18) (negsuc 63) ≡ negsuc 0
unfolding quantised scaled floor decimal_value over
floor_23 = refl

floor_24 : quantised (d (negsuc 4611686018427387902) 18) (negsuc 62) ≡ negsuc 0
unfolding quantised scaled floor decimal_value over
floor_24 = refl

floor_25 : quantised (d (negsuc 4611686018427387902) 18) (pos 61) ≡ negsuc 10633823966279326980
unfolding quantised scaled floor decimal_value over
floor_25 = refl

floor_26 : quantised (d (negsuc 4611686018427387902) 18) (pos 62) ≡ negsuc 21267647932558653961
unfolding quantised scaled floor decimal_value over
floor_26 = refl

floor_27 : quantised (d (pos 4611686018427387903) 9) (negsuc 63) ≡ pos 0
unfolding quantised scaled floor decimal_value over
floor_27 = refl

floor_28 : quantised (d (pos 4611686018427387903) 9) (negsuc 62) ≡ pos 0
unfolding quantised scaled floor decimal_value over
floor_28 = refl

floor_29 : quantised (d (pos 4611686018427387903) 9) (pos 61) ≡ pos 10633823966279326980924613473
unfolding quantised scaled floor decimal_value over
floor_29 = refl

floor_30 : quantised (d (pos 4611686018427387903) 9) (pos 62) ≡ pos 21267647932558653961849226946
unfolding quantised scaled floor decimal_value over
floor_30 = refl

floor_31 : quantised (d (negsuc 4611686018427387902) 9) (negsuc 63) ≡ negsuc 0
unfolding quantised scaled floor decimal_value over
floor_31 = refl

floor_32 : quantised (d (negsuc 4611686018427387902) 9) (negsuc 62) ≡ negsuc 0
unfolding quantised scaled floor decimal_value over
floor_32 = refl

floor_33 : quantised (d (negsuc 4611686018427387902) 9) (pos 61) ≡ negsuc 10633823966279326980924613473
unfolding quantised scaled floor decimal_value over
floor_33 = refl

floor_34 : quantised (d (negsuc 4611686018427387902) 9) (pos 62) ≡ negsuc 21267647932558653961849226946
unfolding quantised scaled floor decimal_value over
floor_34 = refl

floor_35 : quantised (d (pos 5) 1) (negsuc 63) ≡ pos 0
unfolding quantised scaled floor decimal_value over
floor_35 = refl

floor_36 : quantised (d (pos 5) 1) (negsuc 62) ≡ pos 0
unfolding quantised scaled floor decimal_value over
floor_36 = refl

floor_37 : quantised (d (negsuc 4) 1) (negsuc 63) ≡ negsuc 0
unfolding quantised scaled floor decimal_value over
floor_37 = refl

floor_38 : quantised (d (negsuc 4) 1) (negsuc 62) ≡ negsuc 0
unfolding quantised scaled floor decimal_value over
floor_38 = refl

floor_39 : quantised (d (negsuc 3404738265972739407) 0) (pos 11) ≡ negsuc 6972903968712170307583
unfolding quantised scaled floor decimal_value over
floor_39 = refl

floor_40 : quantised (d (pos 9820784469) 1) (pos 38) ≡ pos 269951667938686245273
unfolding quantised scaled floor decimal_value over
floor_40 = refl

floor_41 : quantised (d (pos 5940638386) 4) (pos 55) ≡ pos 21403405457225971825167
unfolding quantised scaled floor decimal_value over
floor_41 = refl

floor_42 : quantised (d (pos 2037362926339696618) 0) (pos 22) ≡ pos 8545319471398294883663872
unfolding quantised scaled floor decimal_value over
floor_42 = refl

-- ---- texts of words at the ends of points

text_1 : decimal_text (negsuc 9223372036854775807) (negsuc 63) ≡ codes "-170141183460469231731687303715884105728"
unfolding digits size_text digits_after decimal_text
text_1 = refl

text_2 : decimal_text (pos 9223372036854775807) (pos 62)
    ≡ codes "1.99999999999999999978315956550289911319850943982601165771484375"
unfolding digits size_text digits_after decimal_text
text_2 = refl

text_3 : decimal_text (negsuc 9223372036854775807) (pos 62) ≡ codes "-2"
unfolding digits size_text digits_after decimal_text
text_3 = refl

text_4 : decimal_text (pos 9223372036854775807) (negsuc 63) ≡ codes "170141183460469231713240559642174554112"
unfolding digits size_text digits_after decimal_text
text_4 = refl

text_5 : decimal_text (negsuc 0) (negsuc 63) ≡ codes "-18446744073709551616"
unfolding digits size_text digits_after decimal_text
text_5 = refl

text_6 : decimal_text (negsuc 0) (pos 62) ≡ codes "-0.00000000000000000021684043449710088680149056017398834228515625"
unfolding digits size_text digits_after decimal_text
text_6 = refl

text_7 : decimal_text (pos 1) (pos 62) ≡ codes "0.00000000000000000021684043449710088680149056017398834228515625"
unfolding digits size_text digits_after decimal_text
text_7 = refl

text_8 : decimal_text (pos 0) (negsuc 63) ≡ codes "0"
unfolding digits size_text digits_after decimal_text
text_8 = refl

text_9 : decimal_text (negsuc 9223372036854775807) (pos 0) ≡ codes "-9223372036854775808"
unfolding digits size_text digits_after decimal_text
text_9 = refl

text_10 : decimal_text (pos 9223372036854775807) (pos 0) ≡ codes "9223372036854775807"
unfolding digits size_text digits_after decimal_text
text_10 = refl

text_11 : decimal_text (negsuc 9223372036854775807) (pos 62) ≡ codes "-2"
unfolding digits size_text digits_after decimal_text
text_11 = refl

text_12 : decimal_text (pos 4611686018427387903) (pos 62)
    ≡ codes "0.99999999999999999978315956550289911319850943982601165771484375"
unfolding digits size_text digits_after decimal_text
text_12 = refl

text_13 : decimal_text (pos 4611686018427387905) (pos 62)
    ≡ codes "1.00000000000000000021684043449710088680149056017398834228515625"
unfolding digits size_text digits_after decimal_text
text_13 = refl

text_14 : decimal_text (pos 1) (pos 61) ≡ codes "0.0000000000000000004336808689942017736029811203479766845703125"
unfolding digits size_text digits_after decimal_text
text_14 = refl

text_15 : decimal_text (negsuc 0) (pos 61) ≡ codes "-0.0000000000000000004336808689942017736029811203479766845703125"
unfolding digits size_text digits_after decimal_text
text_15 = refl

text_16 : decimal_text (pos 3) (pos 61) ≡ codes "0.0000000000000000013010426069826053208089433610439300537109375"
unfolding digits size_text digits_after decimal_text
text_16 = refl

text_17 : decimal_text (pos 2305843009213693951) (pos 61)
    ≡ codes "0.9999999999999999995663191310057982263970188796520233154296875"
unfolding digits size_text digits_after decimal_text
text_17 = refl

text_18 : decimal_text (pos 9223372036854775807) (pos 61)
    ≡ codes "3.9999999999999999995663191310057982263970188796520233154296875"
unfolding digits size_text digits_after decimal_text
text_18 = refl

text_19 : decimal_text (pos 1142109418419144641) (pos 11) ≡ codes "557670614462472.96923828125"
unfolding digits size_text digits_after decimal_text
text_19 = refl

text_20 : decimal_text (negsuc 7447436679) (negsuc 29) ≡ codes "-7996624244907704320"
unfolding digits size_text digits_after decimal_text
text_20 = refl

text_21 : decimal_text (negsuc 7324581434292535982) (pos 0) ≡ codes "-7324581434292535983"
unfolding digits size_text digits_after decimal_text
text_21 = refl

text_22 : decimal_text (pos 4389154519268000502) (negsuc 5) ≡ codes "280905889233152032128"
unfolding digits size_text digits_after decimal_text
text_22 = refl

text_23 : decimal_text (negsuc 5026988396909352) (negsuc 21) ≡ codes "-21084717541110486925312"
unfolding digits size_text digits_after decimal_text
text_23 = refl

text_24 : decimal_text (negsuc 1897075874121985101) (negsuc 8) ≡ codes "-971302847550456372224"
unfolding digits size_text digits_after decimal_text
text_24 = refl

text_25 : decimal_text (pos 4115283258155270249) (pos 8) ≡ codes "16075325227169024.41015625"
unfolding digits size_text digits_after decimal_text
text_25 = refl

text_26 : decimal_text (pos 5132063641998019213) (negsuc 22) ≡ codes "43050870123773719954325504"
unfolding digits size_text digits_after decimal_text
text_26 = refl

text_27 : decimal_text (pos 724776818) (pos 61) ≡ codes "0.000000000314321840257092421921925051719881594181060791015625"
unfolding digits size_text digits_after decimal_text
text_27 = refl

text_28 : decimal_text (negsuc 4130085082909055610) (pos 45)
    ≡ codes "-117384.078149287222771590677439235150814056396484375"
unfolding digits size_text digits_after decimal_text
text_28 = refl

text_29 : decimal_text (negsuc 2905009064859938764) (pos 1) ≡ codes "-1452504532429969382.5"
unfolding digits size_text digits_after decimal_text
text_29 = refl

text_30 : decimal_text (negsuc 2404087958) (negsuc 53) ≡ codes "-43308198545273185061830656"
unfolding digits size_text digits_after decimal_text
text_30 = refl

text_31 : decimal_text (pos 5089744525112637319) (negsuc 29) ≡ codes "5465071570088457000353529856"
unfolding digits size_text digits_after decimal_text
text_31 = refl

text_32 : decimal_text (negsuc 7610913882567515440) (pos 0) ≡ codes "-7610913882567515441"
unfolding digits size_text digits_after decimal_text
text_32 = refl

text_33 : decimal_text (negsuc 8978325791009875641) (pos 32) ≡ codes "-2090429372.8549675182439386844635009765625"
unfolding digits size_text digits_after decimal_text
text_33 = refl

text_34 : decimal_text (negsuc 8553847216333291065) (pos 16) ≡ codes "-130521350346882.493072509765625"
unfolding digits size_text digits_after decimal_text
text_34 = refl

text_35 : decimal_text (negsuc 9214698365194224627) (pos 10) ≡ codes "-8998728872259984.98828125"
unfolding digits size_text digits_after decimal_text
text_35 = refl

text_36 : decimal_text (negsuc 3499343575980989414) (pos 22) ≡ codes "-834308523173.5681092739105224609375"
unfolding digits size_text digits_after decimal_text
text_36 = refl

text_37 : decimal_text (negsuc 4979008961331153207) (pos 29) ≡ codes "-9274126889.80093823373317718505859375"
unfolding digits size_text digits_after decimal_text
text_37 = refl

text_38 : decimal_text (pos 5907563884505649492) (pos 19) ≡ codes "11267783898364.35221099853515625"
unfolding digits size_text digits_after decimal_text
text_38 = refl

text_39 : decimal_text (negsuc 8822726680511064596) (pos 4) ≡ codes "-551420417531941537.3125"
unfolding digits size_text digits_after decimal_text
text_39 = refl

text_40 : decimal_text (pos 877283502003352) (negsuc 27) ≡ codes "235493996901546707648512"
unfolding digits size_text digits_after decimal_text
text_40 = refl

text_41 : decimal_text (pos 4323296908336211) (negsuc 17) ≡ codes "1133326344738887696384"
unfolding digits size_text digits_after decimal_text
text_41 = refl

text_42 : decimal_text (negsuc 5844898862239385113) (pos 15) ≡ codes "-178372157661114.04766845703125"
unfolding digits size_text digits_after decimal_text
text_42 = refl

text_43 : decimal_text (pos 9159754974316684564) (negsuc 61) ≡ codes "42241913947276971787542007800037113856"
unfolding digits size_text digits_after decimal_text
text_43 = refl
