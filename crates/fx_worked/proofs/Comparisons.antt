-- Worked comparisons of dyadics with fractions, by fractions in another language: a wrong definition here is refused.
use Rattle.std.specs.Prelude.{◌≡◌, pos, negsuc, ◌*ℤ◌, Bool, true, false, if◌then◌else◌, Option, Some, None, refl}
use Rattle.fx_rational.specs.Gcd.{gcd}
use Rattle.fx_rational.specs.Rational.{Rational, over, bottom, is_at_most, lowest}
use Rattle.fx_rational.specs.Dyadic.{Dyadic, dyadic_value, fits_128}
use Rattle.fx_worked.proofs.Shifts.{dy}

-- whether d is at most and at least c, where the products of the comparison fit
abbrev compared : Dyadic → Rational → Option (Bool × Bool)
compared d c =
    let fits = fits_128 (d.m *ℤ pos (bottom c)) in
    if fits then Some (is_at_most (dyadic_value d) c, is_at_most c (dyadic_value d)) else None

-- ---- dyadics and fractions

compared_1 : compared (dy (pos 0) 0) (lowest (over (pos 0) 1)) ≡ Some (true, true)
unfolding fits_128 over is_at_most dyadic_value gcd lowest
compared_1 = refl

compared_2 : compared (dy (pos 1) 0) (lowest (over (pos 1) 1)) ≡ Some (true, true)
unfolding fits_128 over is_at_most dyadic_value gcd lowest
compared_2 = refl

compared_3 : compared (dy (pos 1) 1) (lowest (over (pos 1) 2)) ≡ Some (true, true)
unfolding fits_128 over is_at_most dyadic_value gcd lowest
compared_3 = refl

compared_4 : compared (dy (pos 1) 1) (lowest (over (pos 1) 3)) ≡ Some (false, true)
unfolding fits_128 over is_at_most dyadic_value gcd lowest
compared_4 = refl

compared_5 : compared (dy (negsuc 0) 1) (lowest (over (negsuc 0) 3)) ≡ Some (true, false)
unfolding fits_128 over is_at_most dyadic_value gcd lowest
compared_5 = refl

compared_6 : compared (dy (pos 1) 1) (lowest (over (pos 2) 3)) ≡ Some (true, false)
unfolding fits_128 over is_at_most dyadic_value gcd lowest
compared_6 = refl

compared_7 : compared (dy (pos 170141183460469231731687303715884105727) 0) (lowest (over (pos 1) 1))
    ≡ Some (false, true)
unfolding fits_128 over is_at_most dyadic_value gcd lowest
compared_7 = refl

compared_8 : compared (dy (negsuc 170141183460469231731687303715884105727) 0) (lowest (over (pos 1) 1))
    ≡ Some (true, false)
unfolding fits_128 over is_at_most dyadic_value gcd lowest
compared_8 = refl

compared_9 : compared (dy (pos 170141183460469231731687303715884105727) 0) (lowest (over (pos 1) 2)) ≡ None
unfolding fits_128 over is_at_most dyadic_value gcd lowest
compared_9 = refl

compared_10 : compared (dy (negsuc 170141183460469231731687303715884105727) 0) (lowest (over (pos 1) 2)) ≡ None
unfolding fits_128 over is_at_most dyadic_value gcd lowest
compared_10 = refl

compared_11 : compared (dy (pos 85070591730234615865843651857942052863) 0) (lowest (over (pos 1) 2))
    ≡ Some (false, true)
unfolding fits_128 over is_at_most dyadic_value gcd lowest
compared_11 = refl

compared_12 : compared (dy (pos 85070591730234615865843651857942052864) 0) (lowest (over (pos 1) 2)) ≡ None
unfolding fits_128 over is_at_most dyadic_value gcd lowest
compared_12 = refl

compared_13 : compared (dy (negsuc 85070591730234615865843651857942052863) 0) (lowest (over (pos 1) 2))
    ≡ Some (true, false)
unfolding fits_128 over is_at_most dyadic_value gcd lowest
compared_13 = refl

compared_14 : compared (dy (negsuc 85070591730234615865843651857942052864) 0) (lowest (over (pos 1) 2)) ≡ None
unfolding fits_128 over is_at_most dyadic_value gcd lowest
compared_14 = refl

compared_15 : compared (dy (pos 1) 1000) (lowest (over (pos 1) 4611686018427387903)) ≡ Some (true, false)
unfolding fits_128 over is_at_most dyadic_value gcd lowest
compared_15 = refl

compared_16 : compared (dy (pos 1) 1000) (lowest (over (pos 0) 1)) ≡ Some (false, true)
unfolding fits_128 over is_at_most dyadic_value gcd lowest
compared_16 = refl

compared_17 : compared (dy (negsuc 0) 1000) (lowest (over (pos 0) 1)) ≡ Some (true, false)
unfolding fits_128 over is_at_most dyadic_value gcd lowest
compared_17 = refl

compared_18 : compared (dy (negsuc 0) 1000) (lowest (over (negsuc 0) 4611686018427387903)) ≡ Some (false, true)
unfolding fits_128 over is_at_most dyadic_value gcd lowest
compared_18 = refl

compared_19 : compared (dy (pos 170141183460469231731687303715884105727) 126) (lowest (over (pos 2) 1))
    ≡ Some (true, false)
unfolding fits_128 over is_at_most dyadic_value gcd lowest
compared_19 = refl

compared_20 : compared (dy (pos 170141183460469231731687303715884105727) 126) (lowest (over (pos 1) 1))
    ≡ Some (false, true)
unfolding fits_128 over is_at_most dyadic_value gcd lowest
compared_20 = refl

compared_21 : compared (dy (pos 170141183460469231731687303715884105727) 127) (lowest (over (pos 1) 1))
    ≡ Some (true, false)
unfolding fits_128 over is_at_most dyadic_value gcd lowest
compared_21 = refl

compared_22 : compared (dy (negsuc 170141183460469231731687303715884105727) 127) (lowest (over (negsuc 0) 1))
    ≡ Some (true, true)
unfolding fits_128 over is_at_most dyadic_value gcd lowest
compared_22 = refl

compared_23 : compared (dy (negsuc 170141183460469231731687303715884105727) 127)
    (lowest (over (pos 4611686018427387903) 1)) ≡ Some (true, false)
unfolding fits_128 over is_at_most dyadic_value gcd lowest
compared_23 = refl

compared_24 : compared (dy (pos 4611686018427387904) 62) (lowest (over (pos 1) 1)) ≡ Some (true, true)
unfolding fits_128 over is_at_most dyadic_value gcd lowest
compared_24 = refl

compared_25 : compared (dy (pos 4611686018427387905) 62) (lowest (over (pos 1) 1)) ≡ Some (false, true)
unfolding fits_128 over is_at_most dyadic_value gcd lowest
compared_25 = refl

compared_26 : compared (dy (pos 4611686018427387903) 62) (lowest (over (pos 1) 1)) ≡ Some (true, false)
unfolding fits_128 over is_at_most dyadic_value gcd lowest
compared_26 = refl

compared_27 : compared (dy (pos 0) 0) (lowest (over (pos 4611686018427387903) 4611686018427387902)) ≡ Some (true, false)
unfolding fits_128 over is_at_most dyadic_value gcd lowest
compared_27 = refl

compared_28 : compared (dy (pos 0) 0) (lowest (over (negsuc 4611686018427387902) 4611686018427387902))
    ≡ Some (false, true)
unfolding fits_128 over is_at_most dyadic_value gcd lowest
compared_28 = refl

compared_29 : compared (dy (pos 18446744073709551616) 0) (lowest (over (pos 4611686018427387903) 1))
    ≡ Some (false, true)
unfolding fits_128 over is_at_most dyadic_value gcd lowest
compared_29 = refl

compared_30 : compared (dy (pos 36893488147419103232) 1) (lowest (over (pos 4611686018427387903) 4611686018427387901))
    ≡ Some (false, true)
unfolding fits_128 over is_at_most dyadic_value gcd lowest
compared_30 = refl

compared_31 : compared (dy (pos 36893488147419103231) 70) (lowest (over (pos 1) 4611686018427387903))
    ≡ Some (false, true)
unfolding fits_128 over is_at_most dyadic_value gcd lowest
compared_31 = refl

compared_32 : compared (dy (pos 36893488147419103232) 3) (lowest (over (pos 1) 4611686018427387903))
    ≡ Some (false, true)
unfolding fits_128 over is_at_most dyadic_value gcd lowest
compared_32 = refl

compared_33 : compared (dy (negsuc 36893488147419103231) 3) (lowest (over (pos 1) 4611686018427387903))
    ≡ Some (true, false)
unfolding fits_128 over is_at_most dyadic_value gcd lowest
compared_33 = refl

compared_34 : compared (dy (pos 2592878166994) 40) (lowest (over (pos 158) 67)) ≡ Some (true, false)
unfolding fits_128 over is_at_most dyadic_value gcd lowest
compared_34 = refl

compared_35 : compared (dy (negsuc 1) 0) (lowest (over (negsuc 1020636401) 686280145)) ≡ Some (true, false)
unfolding fits_128 over is_at_most dyadic_value gcd lowest
compared_35 = refl

compared_36 : compared (dy (pos 1138109616430421253) 96) (lowest (over (pos 1) 4)) ≡ Some (true, false)
unfolding fits_128 over is_at_most dyadic_value gcd lowest
compared_36 = refl

compared_37 : compared (dy (negsuc 3249909888707388594) 62) (lowest (over (negsuc 52864) 23152)) ≡ Some (false, true)
unfolding fits_128 over is_at_most dyadic_value gcd lowest
compared_37 = refl

compared_38 : compared (dy (negsuc 358727100890644501947899820912) 1) (lowest (over (negsuc 123319746) 169253241))
    ≡ Some (true, false)
unfolding fits_128 over is_at_most dyadic_value gcd lowest
compared_38 = refl

compared_39 : compared (dy (pos 566526) 5) (lowest (over (negsuc 471853621) 207677035)) ≡ Some (false, true)
unfolding fits_128 over is_at_most dyadic_value gcd lowest
compared_39 = refl

compared_40 : compared (dy (negsuc 1637281569685608585) 40) (lowest (over (pos 181) 135)) ≡ Some (true, false)
unfolding fits_128 over is_at_most dyadic_value gcd lowest
compared_40 = refl

compared_41 : compared (dy (pos 11665) 12) (lowest (over (pos 1521807598) 534359785)) ≡ Some (true, false)
unfolding fits_128 over is_at_most dyadic_value gcd lowest
compared_41 = refl

compared_42 : compared (dy (negsuc 51661) 12) (lowest (over (negsuc 1456303296) 115459765)) ≡ Some (false, true)
unfolding fits_128 over is_at_most dyadic_value gcd lowest
compared_42 = refl

compared_43 : compared (dy (pos 2140062681222604607) 62) (lowest (over (pos 845688354) 1822399499)) ≡ Some (true, false)
unfolding fits_128 over is_at_most dyadic_value gcd lowest
compared_43 = refl

compared_44 : compared (dy (negsuc 440806359312061445364151545550) 0) (lowest (over (pos 17) 8)) ≡ Some (true, false)
unfolding fits_128 over is_at_most dyadic_value gcd lowest
compared_44 = refl

compared_45 : compared (dy (pos 866534) 62) (lowest (over (negsuc 250) 177)) ≡ Some (false, true)
unfolding fits_128 over is_at_most dyadic_value gcd lowest
compared_45 = refl

compared_46 : compared (dy (pos 538451310112429233438322124015) 62)
    (lowest (over (pos 369183705965952605) 4454003899071058812)) ≡ None
unfolding fits_128 over is_at_most dyadic_value gcd lowest
compared_46 = refl

compared_47 : compared (dy (pos 598067) 96) (lowest (over (pos 296822477) 1439120360)) ≡ Some (true, false)
unfolding fits_128 over is_at_most dyadic_value gcd lowest
compared_47 = refl

compared_48 : compared (dy (negsuc 709803661365228059982931152762) 62) (lowest (over (negsuc 156) 78))
    ≡ Some (true, false)
unfolding fits_128 over is_at_most dyadic_value gcd lowest
compared_48 = refl

compared_49 : compared (dy (negsuc 1098770649856747572150596147752) 0) (lowest (over (pos 11297) 164))
    ≡ Some (true, false)
unfolding fits_128 over is_at_most dyadic_value gcd lowest
compared_49 = refl

compared_50 : compared (dy (pos 3187573760124775058) 1) (lowest (over (negsuc 3634) 21443)) ≡ Some (false, true)
unfolding fits_128 over is_at_most dyadic_value gcd lowest
compared_50 = refl

compared_51 : compared (dy (pos 2834991189166456337) 0) (lowest (over (negsuc 544437907570553142) 28833412752375477))
    ≡ Some (false, true)
unfolding fits_128 over is_at_most dyadic_value gcd lowest
compared_51 = refl

compared_52 : compared (dy (pos 4193530225086824825) 62) (lowest (over (pos 5046) 2611)) ≡ Some (true, false)
unfolding fits_128 over is_at_most dyadic_value gcd lowest
compared_52 = refl

compared_53 : compared (dy (negsuc 6) 1) (lowest (over (pos 1252062841187265861) 3912680796206709598))
    ≡ Some (true, false)
unfolding fits_128 over is_at_most dyadic_value gcd lowest
compared_53 = refl

compared_54 : compared (dy (negsuc 1646321365294145410) 12) (lowest (over (pos 11) 14)) ≡ Some (true, false)
unfolding fits_128 over is_at_most dyadic_value gcd lowest
compared_54 = refl

compared_55 : compared (dy (pos 7) 0) (lowest (over (pos 2859866666489476667) 2367948586521673928)) ≡ Some (false, true)
unfolding fits_128 over is_at_most dyadic_value gcd lowest
compared_55 = refl

compared_56 : compared (dy (pos 4334006370024942325) 5) (lowest (over (negsuc 2) 235)) ≡ Some (false, true)
unfolding fits_128 over is_at_most dyadic_value gcd lowest
compared_56 = refl

compared_57 : compared (dy (negsuc 6136) 12) (lowest (over (negsuc 1654155256) 1104209581)) ≡ Some (true, false)
unfolding fits_128 over is_at_most dyadic_value gcd lowest
compared_57 = refl

compared_58 : compared (dy (pos 509565796190429664638162402461) 0) (lowest (over (negsuc 601021988) 564673031)) ≡ None
unfolding fits_128 over is_at_most dyadic_value gcd lowest
compared_58 = refl

compared_59 : compared (dy (pos 8) 0) (lowest (over (pos 11) 9)) ≡ Some (false, true)
unfolding fits_128 over is_at_most dyadic_value gcd lowest
compared_59 = refl

compared_60 : compared (dy (negsuc 943535389942602565886750681272) 96) (lowest (over (negsuc 130) 11))
    ≡ Some (false, true)
unfolding fits_128 over is_at_most dyadic_value gcd lowest
compared_60 = refl

compared_61 : compared (dy (pos 1022134) 12) (lowest (over (pos 1836671696) 187714835)) ≡ Some (false, true)
unfolding fits_128 over is_at_most dyadic_value gcd lowest
compared_61 = refl

compared_62 : compared (dy (pos 1) 0) (lowest (over (pos 966922395) 1429854377)) ≡ Some (false, true)
unfolding fits_128 over is_at_most dyadic_value gcd lowest
compared_62 = refl

compared_63 : compared (dy (negsuc 1) 12) (lowest (over (negsuc 32) 17)) ≡ Some (false, true)
unfolding fits_128 over is_at_most dyadic_value gcd lowest
compared_63 = refl

compared_64 : compared (dy (pos 1153801932711) 40) (lowest (over (pos 738102758) 703372513)) ≡ Some (false, true)
unfolding fits_128 over is_at_most dyadic_value gcd lowest
compared_64 = refl

compared_65 : compared (dy (negsuc 35837671442442227544621941161) 96) (lowest (over (negsuc 462695372) 1022904188))
    ≡ Some (false, true)
unfolding fits_128 over is_at_most dyadic_value gcd lowest
compared_65 = refl

compared_66 : compared (dy (pos 930156) 1) (lowest (over (negsuc 2) 7)) ≡ Some (false, true)
unfolding fits_128 over is_at_most dyadic_value gcd lowest
compared_66 = refl

compared_67 : compared (dy (pos 514399) 12) (lowest (over (negsuc 107025242035368924) 281905550080052653))
    ≡ Some (false, true)
unfolding fits_128 over is_at_most dyadic_value gcd lowest
compared_67 = refl

compared_68 : compared (dy (pos 0) 0) (lowest (over (pos 48363123209510415) 834031563722614711)) ≡ Some (true, false)
unfolding fits_128 over is_at_most dyadic_value gcd lowest
compared_68 = refl

compared_69 : compared (dy (negsuc 1) 5) (lowest (over (negsuc 53) 2503)) ≡ Some (true, false)
unfolding fits_128 over is_at_most dyadic_value gcd lowest
compared_69 = refl

compared_70 : compared (dy (pos 777507) 40) (lowest (over (pos 14146) 2385)) ≡ Some (true, false)
unfolding fits_128 over is_at_most dyadic_value gcd lowest
compared_70 = refl

compared_71 : compared (dy (negsuc 7714) 12) (lowest (over (negsuc 29931) 15893)) ≡ Some (true, false)
unfolding fits_128 over is_at_most dyadic_value gcd lowest
compared_71 = refl

compared_72 : compared (dy (pos 123806) 40) (lowest (over (negsuc 28030) 33214)) ≡ Some (false, true)
unfolding fits_128 over is_at_most dyadic_value gcd lowest
compared_72 = refl

compared_73 : compared (dy (negsuc 3982313675743717677) 0) (lowest (over (pos 193) 59)) ≡ Some (true, false)
unfolding fits_128 over is_at_most dyadic_value gcd lowest
compared_73 = refl

compared_74 : compared (dy (negsuc 3) 0) (lowest (over (pos 202) 13)) ≡ Some (true, false)
unfolding fits_128 over is_at_most dyadic_value gcd lowest
compared_74 = refl

compared_75 : compared (dy (pos 48766949204538895250764482315) 62)
    (lowest (over (negsuc 4607349181404038130) 1126558609912658081)) ≡ None
unfolding fits_128 over is_at_most dyadic_value gcd lowest
compared_75 = refl

compared_76 : compared (dy (pos 1525322174351) 40) (lowest (over (pos 25985) 18731)) ≡ Some (false, true)
unfolding fits_128 over is_at_most dyadic_value gcd lowest
compared_76 = refl

compared_77 : compared (dy (pos 2) 12) (lowest (over (negsuc 69986871447609301) 39591563186402089)) ≡ Some (false, true)
unfolding fits_128 over is_at_most dyadic_value gcd lowest
compared_77 = refl

compared_78 : compared (dy (negsuc 1097259866766942077) 12)
    (lowest (over (pos 1890281352210308506) 2003219867399228663)) ≡ Some (true, false)
unfolding fits_128 over is_at_most dyadic_value gcd lowest
compared_78 = refl

compared_79 : compared (dy (pos 2491521954010825146) 12) (lowest (over (negsuc 0) 1)) ≡ Some (false, true)
unfolding fits_128 over is_at_most dyadic_value gcd lowest
compared_79 = refl

compared_80 : compared (dy (negsuc 834593) 40) (lowest (over (pos 17123) 1996)) ≡ Some (true, false)
unfolding fits_128 over is_at_most dyadic_value gcd lowest
compared_80 = refl

compared_81 : compared (dy (negsuc 124809) 62) (lowest (over (negsuc 4878) 3762)) ≡ Some (false, true)
unfolding fits_128 over is_at_most dyadic_value gcd lowest
compared_81 = refl

compared_82 : compared (dy (pos 127) 1) (lowest (over (pos 64) 1)) ≡ Some (true, false)
unfolding fits_128 over is_at_most dyadic_value gcd lowest
compared_82 = refl

compared_83 : compared (dy (pos 511335235412590605333307831746) 96)
    (lowest (over (negsuc 652342378109239638) 1499469260708977672)) ≡ None
unfolding fits_128 over is_at_most dyadic_value gcd lowest
compared_83 = refl

compared_84 : compared (dy (pos 3556769335844008553) 40) (lowest (over (pos 14) 87)) ≡ Some (false, true)
unfolding fits_128 over is_at_most dyadic_value gcd lowest
compared_84 = refl

compared_85 : compared (dy (pos 3863911383317280791) 1) (lowest (over (negsuc 828925425341831114) 1503896415605695232))
    ≡ Some (false, true)
unfolding fits_128 over is_at_most dyadic_value gcd lowest
compared_85 = refl

compared_86 : compared (dy (pos 3826388796448746591) 62) (lowest (over (pos 200) 7)) ≡ Some (true, false)
unfolding fits_128 over is_at_most dyadic_value gcd lowest
compared_86 = refl

compared_87 : compared (dy (negsuc 4254043114812548754) 40)
    (lowest (over (negsuc 1891791289977296198) 3037319650334006329)) ≡ Some (true, false)
unfolding fits_128 over is_at_most dyadic_value gcd lowest
compared_87 = refl

compared_88 : compared (dy (negsuc 856171) 12) (lowest (over (pos 1096493974548647589) 4608135736783518635))
    ≡ Some (true, false)
unfolding fits_128 over is_at_most dyadic_value gcd lowest
compared_88 = refl

compared_89 : compared (dy (pos 0) 0) (lowest (over (negsuc 6) 11)) ≡ Some (false, true)
unfolding fits_128 over is_at_most dyadic_value gcd lowest
compared_89 = refl

compared_90 : compared (dy (pos 830100125181164178966549159832) 40) (lowest (over (negsuc 32) 65)) ≡ Some (false, true)
unfolding fits_128 over is_at_most dyadic_value gcd lowest
compared_90 = refl

compared_91 : compared (dy (negsuc 819285713309) 40) (lowest (over (negsuc 8463) 11359)) ≡ Some (false, true)
unfolding fits_128 over is_at_most dyadic_value gcd lowest
compared_91 = refl

compared_92 : compared (dy (negsuc 5764607523034234878) 62) (lowest (over (negsuc 4) 4)) ≡ Some (false, true)
unfolding fits_128 over is_at_most dyadic_value gcd lowest
compared_92 = refl

compared_93 : compared (dy (pos 610285083406284026) 12) (lowest (over (negsuc 961290935) 1159917583))
    ≡ Some (false, true)
unfolding fits_128 over is_at_most dyadic_value gcd lowest
compared_93 = refl

compared_94 : compared (dy (pos 3734761571219) 40) (lowest (over (pos 2129441397) 626906305)) ≡ Some (true, false)
unfolding fits_128 over is_at_most dyadic_value gcd lowest
compared_94 = refl

compared_95 : compared (dy (negsuc 2) 40) (lowest (over (negsuc 188) 22)) ≡ Some (false, true)
unfolding fits_128 over is_at_most dyadic_value gcd lowest
compared_95 = refl

compared_96 : compared (dy (negsuc 490140) 0) (lowest (over (pos 11) 15)) ≡ Some (true, false)
unfolding fits_128 over is_at_most dyadic_value gcd lowest
compared_96 = refl

compared_97 : compared (dy (negsuc 17293822569102704640) 62) (lowest (over (negsuc 14) 4)) ≡ Some (true, false)
unfolding fits_128 over is_at_most dyadic_value gcd lowest
compared_97 = refl

compared_98 : compared (dy (negsuc 1) 0) (lowest (over (negsuc 82) 63)) ≡ Some (true, false)
unfolding fits_128 over is_at_most dyadic_value gcd lowest
compared_98 = refl

compared_99 : compared (dy (negsuc 300061486814144374560073747982) 5) (lowest (over (pos 6742) 5763))
    ≡ Some (true, false)
unfolding fits_128 over is_at_most dyadic_value gcd lowest
compared_99 = refl

compared_100 : compared (dy (negsuc 754) 12) (lowest (over (negsuc 375750028) 2038758231)) ≡ Some (true, false)
unfolding fits_128 over is_at_most dyadic_value gcd lowest
compared_100 = refl

compared_101 : compared (dy (negsuc 776026) 0) (lowest (over (negsuc 4) 7)) ≡ Some (true, false)
unfolding fits_128 over is_at_most dyadic_value gcd lowest
compared_101 = refl

compared_102 : compared (dy (negsuc 6) 5) (lowest (over (negsuc 4360) 22340)) ≡ Some (true, false)
unfolding fits_128 over is_at_most dyadic_value gcd lowest
compared_102 = refl
