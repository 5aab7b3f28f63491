-- Worked sums, differences, products and quotients of fractions, by fractions in another language: a wrong definition
-- here is refused.
use Rattle.std.specs.Prelude.{◌≡◌, ◌^◌, ℕ, ℤ, pos, negsuc, ◌&&◌, if◌then◌else◌, unsigned_abs, nat_lt, List, [], ◌∷◌, Option, Some, None, refl}
use Rattle.std.specs.Option.{option_and_then}
use Rattle.fx_rational.specs.Gcd.{gcd}
use Rattle.fx_rational.specs.Rational.{Rational, over, bottom, plus, minus, negative, times, divided, quotient, lowest}

-- a rational in lowest terms, top and bottom, where both are below 2^62
abbrev kept : Rational → Option (ℤ × ℕ)
kept r =
    let l = lowest r in
    if nat_lt (unsigned_abs l.top) (2 ^ 62) && nat_lt (bottom l) (2 ^ 62) then Some (l.top, bottom l) else None

-- sum, difference, product and quotient
abbrev four : Rational → Rational → List (Option (ℤ × ℕ))
four a b = kept (plus a b) ∷ kept (minus a b) ∷ kept (times a b) ∷ option_and_then kept (quotient a b) ∷ []

-- ---- two fractions and the four operations on them

four_1 : four (over (pos 0) 1) (over (pos 0) 1) ≡ Some (pos 0, 1) ∷ Some (pos 0, 1) ∷ Some (pos 0, 1) ∷ None ∷ []
unfolding gcd lowest over plus minus negative times divided quotient
four_1 = refl

four_2 : four (over (pos 0) 1) (over (pos 5) 7) ≡ Some (pos 5, 7) ∷ Some (negsuc 4, 7) ∷ Some (pos 0, 1)
    ∷ Some (pos 0, 1) ∷ []
unfolding gcd lowest over plus minus negative times divided quotient
four_2 = refl

four_3 : four (over (pos 1) 1) (over (pos 1) 1) ≡ Some (pos 2, 1) ∷ Some (pos 0, 1) ∷ Some (pos 1, 1) ∷ Some (pos 1, 1)
    ∷ []
unfolding gcd lowest over plus minus negative times divided quotient
four_3 = refl

four_4 : four (over (pos 1) 2) (over (pos 1) 2) ≡ Some (pos 1, 1) ∷ Some (pos 0, 1) ∷ Some (pos 1, 4) ∷ Some (pos 1, 1)
    ∷ []
unfolding gcd lowest over plus minus negative times divided quotient
four_4 = refl

four_5 : four (over (pos 1) 2) (over (negsuc 0) 2) ≡ Some (pos 0, 1) ∷ Some (pos 1, 1) ∷ Some (negsuc 0, 4)
    ∷ Some (negsuc 0, 1) ∷ []
unfolding gcd lowest over plus minus negative times divided quotient
four_5 = refl

four_6 : four (over (pos 1) 6) (over (pos 1) 10) ≡ Some (pos 4, 15) ∷ Some (pos 1, 15) ∷ Some (pos 1, 60)
    ∷ Some (pos 5, 3) ∷ []
unfolding gcd lowest over plus minus negative times divided quotient
four_6 = refl

four_7 : four (over (pos 1) 3) (over (negsuc 0) 3) ≡ Some (pos 0, 1) ∷ Some (pos 2, 3) ∷ Some (negsuc 0, 9)
    ∷ Some (negsuc 0, 1) ∷ []
unfolding gcd lowest over plus minus negative times divided quotient
four_7 = refl

four_8 : four (over (pos 2) 3) (over (pos 3) 2) ≡ Some (pos 13, 6) ∷ Some (negsuc 4, 6) ∷ Some (pos 1, 1)
    ∷ Some (pos 4, 9) ∷ []
unfolding gcd lowest over plus minus negative times divided quotient
four_8 = refl

four_9 : four (over (negsuc 1) 3) (over (pos 3) 2) ≡ Some (pos 5, 6) ∷ Some (negsuc 12, 6) ∷ Some (negsuc 0, 1)
    ∷ Some (negsuc 3, 9) ∷ []
unfolding gcd lowest over plus minus negative times divided quotient
four_9 = refl

four_10 : four (over (pos 2) 3) (over (negsuc 2) 2) ≡ Some (negsuc 4, 6) ∷ Some (pos 13, 6) ∷ Some (negsuc 0, 1)
    ∷ Some (negsuc 3, 9) ∷ []
unfolding gcd lowest over plus minus negative times divided quotient
four_10 = refl

four_11 : four (over (negsuc 1) 3) (over (negsuc 2) 2) ≡ Some (negsuc 12, 6) ∷ Some (pos 5, 6) ∷ Some (pos 1, 1)
    ∷ Some (pos 4, 9) ∷ []
unfolding gcd lowest over plus minus negative times divided quotient
four_11 = refl

four_12 : four (over (pos 4611686018427387903) 1) (over (pos 1) 1) ≡ None ∷ Some (pos 4611686018427387902, 1)
    ∷ Some (pos 4611686018427387903, 1) ∷ Some (pos 4611686018427387903, 1) ∷ []
unfolding gcd lowest over plus minus negative times divided quotient
four_12 = refl

four_13 : four (over (pos 4611686018427387903) 1) (over (negsuc 0) 1) ≡ Some (pos 4611686018427387902, 1) ∷ None
    ∷ Some (negsuc 4611686018427387902, 1) ∷ Some (negsuc 4611686018427387902, 1) ∷ []
unfolding gcd lowest over plus minus negative times divided quotient
four_13 = refl

four_14 : four (over (negsuc 4611686018427387902) 1) (over (negsuc 0) 1) ≡ None ∷ Some (negsuc 4611686018427387901, 1)
    ∷ Some (pos 4611686018427387903, 1) ∷ Some (pos 4611686018427387903, 1) ∷ []
unfolding gcd lowest over plus minus negative times divided quotient
four_14 = refl

four_15 : four (over (negsuc 4611686018427387902) 1) (over (pos 1) 1) ≡ Some (negsuc 4611686018427387901, 1) ∷ None
    ∷ Some (negsuc 4611686018427387902, 1) ∷ Some (negsuc 4611686018427387902, 1) ∷ []
unfolding gcd lowest over plus minus negative times divided quotient
four_15 = refl

four_16 : four (over (pos 4611686018427387903) 1) (over (pos 4611686018427387903) 1) ≡ None ∷ Some (pos 0, 1) ∷ None
    ∷ Some (pos 1, 1) ∷ []
unfolding gcd lowest over plus minus negative times divided quotient
four_16 = refl

four_17 : four (over (pos 1) 4611686018427387903) (over (pos 1) 4611686018427387903) ≡ Some (pos 2, 4611686018427387903)
    ∷ Some (pos 0, 1) ∷ None ∷ Some (pos 1, 1) ∷ []
unfolding gcd lowest over plus minus negative times divided quotient
four_17 = refl

four_18 : four (over (pos 1) 4611686018427387903) (over (pos 4611686018427387903) 1) ≡ None ∷ None ∷ Some (pos 1, 1)
    ∷ None ∷ []
unfolding gcd lowest over plus minus negative times divided quotient
four_18 = refl

four_19 : four (over (pos 4611686018427387903) 1) (over (pos 1) 4611686018427387903) ≡ None ∷ None ∷ Some (pos 1, 1)
    ∷ None ∷ []
unfolding gcd lowest over plus minus negative times divided quotient
four_19 = refl

four_20 : four (over (pos 4611686018427387903) 4611686018427387902) (over (pos 4611686018427387902) 4611686018427387903)
    ≡ None ∷ None ∷ Some (pos 1, 1) ∷ None ∷ []
unfolding gcd lowest over plus minus negative times divided quotient
four_20 = refl

four_21 : four (over (pos 4611686018427387903) 4611686018427387902) (over (pos 4611686018427387903) 4611686018427387902)
    ≡ Some (pos 4611686018427387903, 2305843009213693951) ∷ Some (pos 0, 1) ∷ None ∷ Some (pos 1, 1) ∷ []
unfolding gcd lowest over plus minus negative times divided quotient
four_21 = refl

four_22 : four (over (negsuc 4611686018427387902) 4611686018427387902)
    (over (pos 4611686018427387902) 4611686018427387903) ≡ None ∷ None ∷ Some (negsuc 0, 1) ∷ None ∷ []
unfolding gcd lowest over plus minus negative times divided quotient
four_22 = refl

four_23 : four (over (pos 1) 4611686018427387903) (over (pos 1) 4611686018427387902) ≡ None ∷ None ∷ None
    ∷ Some (pos 4611686018427387902, 4611686018427387903) ∷ []
unfolding gcd lowest over plus minus negative times divided quotient
four_23 = refl

four_24 : four (over (pos 2305843009213693952) 1) (over (pos 2305843009213693952) 1) ≡ None ∷ Some (pos 0, 1) ∷ None
    ∷ Some (pos 1, 1) ∷ []
unfolding gcd lowest over plus minus negative times divided quotient
four_24 = refl

four_25 : four (over (pos 2305843009213693952) 1) (over (pos 2305843009213693951) 1) ≡ Some (pos 4611686018427387903, 1)
    ∷ Some (pos 1, 1) ∷ None ∷ Some (pos 2305843009213693952, 2305843009213693951) ∷ []
unfolding gcd lowest over plus minus negative times divided quotient
four_25 = refl

four_26 : four (over (negsuc 2305843009213693951) 1) (over (negsuc 2305843009213693951) 1) ≡ None ∷ Some (pos 0, 1)
    ∷ None ∷ Some (pos 1, 1) ∷ []
unfolding gcd lowest over plus minus negative times divided quotient
four_26 = refl

four_27 : four (over (pos 1) 2305843009213693952) (over (pos 1) 2) ≡ Some (pos 1152921504606846977, 2305843009213693952)
    ∷ Some (negsuc 1152921504606846974, 2305843009213693952) ∷ None ∷ Some (pos 1, 1152921504606846976) ∷ []
unfolding gcd lowest over plus minus negative times divided quotient
four_27 = refl

four_28 : four (over (pos 1) 2305843009213693952) (over (pos 1) 1) ≡ Some (pos 2305843009213693953, 2305843009213693952)
    ∷ Some (negsuc 2305843009213693950, 2305843009213693952) ∷ Some (pos 1, 2305843009213693952)
    ∷ Some (pos 1, 2305843009213693952) ∷ []
unfolding gcd lowest over plus minus negative times divided quotient
four_28 = refl

four_29 : four (over (pos 1) 2305843009213693952) (over (pos 2305843009213693952) 1) ≡ None ∷ None ∷ Some (pos 1, 1)
    ∷ None ∷ []
unfolding gcd lowest over plus minus negative times divided quotient
four_29 = refl

four_30 : four (over (pos 2305843009213693952) 1350851717672992089) (over (pos 1350851717672992089) 2305843009213693952)
    ≡ None ∷ None ∷ Some (pos 1, 1) ∷ None ∷ []
unfolding gcd lowest over plus minus negative times divided quotient
four_30 = refl

four_31 : four (over (pos 2147483648) 3) (over (pos 1073741824) 3) ≡ Some (pos 1073741824, 1) ∷ Some (pos 1073741824, 3)
    ∷ Some (pos 2305843009213693952, 9) ∷ Some (pos 2, 1) ∷ []
unfolding gcd lowest over plus minus negative times divided quotient
four_31 = refl

four_32 : four (over (pos 2147483648) 3) (over (pos 2147483648) 3) ≡ Some (pos 4294967296, 3) ∷ Some (pos 0, 1) ∷ None
    ∷ Some (pos 1, 1) ∷ []
unfolding gcd lowest over plus minus negative times divided quotient
four_32 = refl

four_33 : four (over (pos 1000000000000000000) 1000000007) (over (pos 1000000007) 1000000000000000000) ≡ None ∷ None
    ∷ Some (pos 1, 1) ∷ None ∷ []
unfolding gcd lowest over plus minus negative times divided quotient
four_33 = refl

four_34 : four (over (pos 1) 1000000000000000000) (over (pos 1) 1000000000000000000) ≡ Some (pos 1, 500000000000000000)
    ∷ Some (pos 0, 1) ∷ None ∷ Some (pos 1, 1) ∷ []
unfolding gcd lowest over plus minus negative times divided quotient
four_34 = refl

four_35 : four (over (pos 1) 1000000000000000000) (over (pos 3) 1000000000000000000) ≡ Some (pos 1, 250000000000000000)
    ∷ Some (negsuc 0, 500000000000000000) ∷ None ∷ Some (pos 1, 3) ∷ []
unfolding gcd lowest over plus minus negative times divided quotient
four_35 = refl

four_36 : four (over (pos 4611686018427387903) 1000000000) (over (pos 1) 1000000000)
    ≡ Some (pos 9007199254740992, 1953125) ∷ Some (pos 2305843009213693951, 500000000)
    ∷ Some (pos 4611686018427387903, 1000000000000000000) ∷ Some (pos 4611686018427387903, 1) ∷ []
unfolding gcd lowest over plus minus negative times divided quotient
four_36 = refl

four_37 : four (over (pos 2) 1) (over (pos 158) 67) ≡ Some (pos 292, 67) ∷ Some (negsuc 23, 67) ∷ Some (pos 316, 67)
    ∷ Some (pos 67, 79) ∷ []
unfolding gcd lowest over plus minus negative times divided quotient
four_37 = refl

four_38 : four (over (pos 66) 163) (over (pos 285941820849762307) 306686946514946776)
    ≡ Some (pos 410121811463176339, 306686946514946776) ∷ Some (negsuc 161761830236348274, 306686946514946776) ∷ None
    ∷ Some (pos 124179990613414032, 285941820849762307) ∷ []
unfolding gcd lowest over plus minus negative times divided quotient
four_38 = refl

four_39 : four (over (pos 1872369595) 946895132) (over (negsuc 5911) 4395) ≡ Some (pos 8979591637, 14203426980)
    ∷ Some (pos 47191496213, 14203426980) ∷ Some (negsuc 553472452281, 208080205257)
    ∷ Some (negsuc 28085543924, 19105952288) ∷ []
unfolding gcd lowest over plus minus negative times divided quotient
four_39 = refl

four_40 : four (over (negsuc 0) 1) (over (pos 23429) 17279) ≡ Some (pos 6150, 17279) ∷ Some (negsuc 40707, 17279)
    ∷ Some (negsuc 23428, 17279) ∷ Some (negsuc 17278, 23429) ∷ []
unfolding gcd lowest over plus minus negative times divided quotient
four_40 = refl

four_41 : four (over (negsuc 4447403552376397652) 4461237594173117621) (over (pos 1003014738) 369815887) ≡ None ∷ None
    ∷ None ∷ None ∷ []
unfolding gcd lowest over plus minus negative times divided quotient
four_41 = refl

four_42 : four (over (pos 9924) 26057) (over (pos 10) 13) ≡ Some (pos 389582, 338741) ∷ Some (negsuc 131557, 338741)
    ∷ Some (pos 99240, 338741) ∷ Some (pos 64506, 130285) ∷ []
unfolding gcd lowest over plus minus negative times divided quotient
four_42 = refl

four_43 : four (over (negsuc 52864) 23152) (over (negsuc 40147778) 113448163)
    ≡ Some (negsuc 6926938516402, 2626551869776) ∷ Some (negsuc 5067935757586, 2626551869776)
    ∷ Some (pos 2122412336835, 2626551869776) ∷ Some (pos 5997437136995, 929501379408) ∷ []
unfolding gcd lowest over plus minus negative times divided quotient
four_43 = refl

four_44 : four (over (negsuc 0) 3) (over (pos 0) 1) ≡ Some (negsuc 0, 3) ∷ Some (negsuc 0, 3) ∷ Some (pos 0, 1) ∷ None
    ∷ []
unfolding gcd lowest over plus minus negative times divided quotient
four_44 = refl

four_45 : four (over (negsuc 2871400403304401744) 2773414897592458081) (over (negsuc 2) 1) ≡ None ∷ None ∷ None
    ∷ Some (pos 957133467768133915, 2773414897592458081) ∷ []
unfolding gcd lowest over plus minus negative times divided quotient
four_45 = refl

four_46 : four (over (negsuc 437640508613279042) 289794247383979400) (over (pos 99) 194) ≡ None ∷ None ∷ None ∷ None
    ∷ []
unfolding gcd lowest over plus minus negative times divided quotient
four_46 = refl

four_47 : four (over (pos 3294001085298364773) 3919370320970253571) (over (pos 1363477239) 1584706660) ≡ None ∷ None
    ∷ None ∷ None ∷ []
unfolding gcd lowest over plus minus negative times divided quotient
four_47 = refl

four_48 : four (over (negsuc 0) 1) (over (negsuc 19) 77) ≡ Some (negsuc 96, 77) ∷ Some (negsuc 56, 77)
    ∷ Some (pos 20, 77) ∷ Some (pos 77, 20) ∷ []
unfolding gcd lowest over plus minus negative times divided quotient
four_48 = refl

four_49 : four (over (negsuc 2352926231827058152) 2970484008045131834) (over (negsuc 50) 116) ≡ None ∷ None ∷ None
    ∷ None ∷ []
unfolding gcd lowest over plus minus negative times divided quotient
four_49 = refl

four_50 : four (over (pos 908252851) 996305422) (over (negsuc 20091) 30705) ≡ Some (pos 7870135251131, 30591557982510)
    ∷ Some (pos 47905672328779, 30591557982510) ∷ Some (negsuc 9124308141145, 15295778991255)
    ∷ Some (negsuc 27887903789954, 20017768538824) ∷ []
unfolding gcd lowest over plus minus negative times divided quotient
four_50 = refl

four_51 : four (over (pos 522139062425992241) 399746684126577124) (over (pos 55) 63) ≡ None ∷ None ∷ None ∷ None ∷ []
unfolding gcd lowest over plus minus negative times divided quotient
four_51 = refl

four_52 : four (over (pos 48627) 18841) (over (negsuc 1) 3) ≡ Some (pos 108199, 56523) ∷ Some (pos 183563, 56523)
    ∷ Some (negsuc 32417, 18841) ∷ Some (negsuc 145880, 37682) ∷ []
unfolding gcd lowest over plus minus negative times divided quotient
four_52 = refl

four_53 : four (over (negsuc 2005703466416505522) 1970032866985100335) (over (pos 157) 232) ≡ None ∷ None ∷ None ∷ None
    ∷ []
unfolding gcd lowest over plus minus negative times divided quotient
four_53 = refl

four_54 : four (over (pos 2048) 12341) (over (pos 89) 106) ≡ Some (pos 1315437, 1308146) ∷ Some (negsuc 881260, 1308146)
    ∷ Some (pos 91136, 654073) ∷ Some (pos 217088, 1098349) ∷ []
unfolding gcd lowest over plus minus negative times divided quotient
four_54 = refl

four_55 : four (over (negsuc 141) 11) (over (negsuc 22032) 30456) ≡ Some (negsuc 4567114, 335016)
    ∷ Some (negsuc 4082388, 335016) ∷ Some (pos 142213, 15228) ∷ Some (pos 4324752, 242363) ∷ []
unfolding gcd lowest over plus minus negative times divided quotient
four_55 = refl

four_56 : four (over (negsuc 43521) 26029) (over (negsuc 75) 7) ≡ Some (negsuc 2282857, 182203)
    ∷ Some (pos 1673550, 182203) ∷ Some (pos 3307672, 182203) ∷ Some (pos 152327, 989102) ∷ []
unfolding gcd lowest over plus minus negative times divided quotient
four_56 = refl

four_57 : four (over (pos 814255413) 89344219) (over (pos 3) 4) ≡ Some (pos 3525054309, 357376876)
    ∷ Some (pos 2988988995, 357376876) ∷ Some (pos 2442766239, 357376876) ∷ Some (pos 1085673884, 89344219) ∷ []
unfolding gcd lowest over plus minus negative times divided quotient
four_57 = refl

four_58 : four (over (pos 22) 47) (over (negsuc 413335823731763355) 1369557649541502231) ≡ None ∷ None ∷ None ∷ None
    ∷ []
unfolding gcd lowest over plus minus negative times divided quotient
four_58 = refl

four_59 : four (over (negsuc 167813696) 468410789) (over (pos 9) 17) ≡ Some (pos 1362864252, 7962983413)
    ∷ Some (negsuc 7068529949, 7962983413) ∷ Some (negsuc 1510323272, 7962983413) ∷ Some (negsuc 950944282, 1405232367)
    ∷ []
unfolding gcd lowest over plus minus negative times divided quotient
four_59 = refl

four_60 : four (over (pos 17) 8) (over (pos 13) 11) ≡ Some (pos 291, 88) ∷ Some (pos 83, 88) ∷ Some (pos 221, 88)
    ∷ Some (pos 187, 104) ∷ []
unfolding gcd lowest over plus minus negative times divided quotient
four_60 = refl

four_61 : four (over (pos 48) 71) (over (pos 778965737) 1737170590) ≡ Some (pos 138690755647, 123339111890)
    ∷ Some (pos 28077620993, 123339111890) ∷ Some (pos 18695177688, 61669555945) ∷ Some (pos 83384188320, 55306567327)
    ∷ []
unfolding gcd lowest over plus minus negative times divided quotient
four_61 = refl

four_62 : four (over (negsuc 250) 177) (over (pos 1018681463169848309) 180067622165181048) ≡ None ∷ None ∷ None ∷ None
    ∷ []
unfolding gcd lowest over plus minus negative times divided quotient
four_62 = refl

four_63 : four (over (pos 10800) 58103) (over (pos 306880126920752338) 198092905444166985) ≡ None ∷ None ∷ None ∷ None
    ∷ []
unfolding gcd lowest over plus minus negative times divided quotient
four_63 = refl

four_64 : four (over (pos 964990348898511787) 1508109677342602977) (over (pos 1102833560) 994441899) ≡ None ∷ None
    ∷ None ∷ None ∷ []
unfolding gcd lowest over plus minus negative times divided quotient
four_64 = refl

four_65 : four (over (pos 522853554668337103) 2021779740926769537) (over (pos 4182662081714931777) 2226159350067769478)
    ≡ None ∷ None ∷ None ∷ None ∷ []
unfolding gcd lowest over plus minus negative times divided quotient
four_65 = refl

four_66 : four (over (negsuc 0) 1) (over (negsuc 156) 78) ≡ Some (negsuc 234, 78) ∷ Some (pos 79, 78)
    ∷ Some (pos 157, 78) ∷ Some (pos 78, 157) ∷ []
unfolding gcd lowest over plus minus negative times divided quotient
four_66 = refl

four_67 : four (over (negsuc 910551300) 619673974) (over (negsuc 10) 1) ≡ Some (negsuc 7726965014, 619673974)
    ∷ Some (pos 5905862413, 619673974) ∷ Some (pos 10016064311, 619673974) ∷ Some (pos 82777391, 619673974) ∷ []
unfolding gcd lowest over plus minus negative times divided quotient
four_67 = refl

four_68 : four (over (pos 11297) 164) (over (pos 569615263) 688115880) ≡ Some (pos 1966765499873, 28212751080)
    ∷ Some (pos 1920057048307, 28212751080) ∷ Some (pos 6434943626111, 112851004320)
    ∷ Some (pos 1943411274090, 23354225783) ∷ []
unfolding gcd lowest over plus minus negative times divided quotient
four_68 = refl

four_69 : four (over (negsuc 144) 188) (over (negsuc 712056128584291692) 1922125199164626382) ≡ None ∷ None ∷ None
    ∷ None ∷ []
unfolding gcd lowest over plus minus negative times divided quotient
four_69 = refl

four_70 : four (over (pos 230) 179) (over (negsuc 61289) 21409) ≡ Some (negsuc 6046839, 3832211)
    ∷ Some (pos 15894980, 3832211) ∷ Some (negsuc 14096699, 3832211) ∷ Some (negsuc 492406, 1097091) ∷ []
unfolding gcd lowest over plus minus negative times divided quotient
four_70 = refl

four_71 : four (over (pos 34263743) 141316800) (over (negsuc 3) 1) ≡ Some (negsuc 531003456, 141316800)
    ∷ Some (pos 599530943, 141316800) ∷ Some (negsuc 34263742, 35329200) ∷ Some (negsuc 34263742, 565267200) ∷ []
unfolding gcd lowest over plus minus negative times divided quotient
four_71 = refl

four_72 : four (over (negsuc 0) 2) (over (pos 2924198532588144661) 2254755708303353631)
    ≡ Some (pos 3593641356872935691, 4509511416606707262) ∷ None
    ∷ Some (negsuc 2924198532588144660, 4509511416606707262) ∷ None ∷ []
unfolding gcd lowest over plus minus negative times divided quotient
four_72 = refl

four_73 : four (over (pos 1499062913) 783280433) (over (pos 1196293590634822322) 44099125585766625) ≡ None ∷ None ∷ None
    ∷ None ∷ []
unfolding gcd lowest over plus minus negative times divided quotient
four_73 = refl

four_74 : four (over (pos 127) 14) (over (pos 1252062841187265861) 3912680796206709598) ≡ None ∷ None ∷ None ∷ None ∷ []
unfolding gcd lowest over plus minus negative times divided quotient
four_74 = refl

four_75 : four (over (negsuc 1322) 28097) (over (negsuc 216) 211) ≡ Some (negsuc 6376201, 5928467)
    ∷ Some (pos 5817896, 5928467) ∷ Some (pos 287091, 5928467) ∷ Some (pos 39879, 871007) ∷ []
unfolding gcd lowest over plus minus negative times divided quotient
four_75 = refl

four_76 : four (over (pos 3856276815575666971) 381122066710491243) (over (pos 40724672) 776306063) ≡ None ∷ None ∷ None
    ∷ None ∷ []
unfolding gcd lowest over plus minus negative times divided quotient
four_76 = refl

four_77 : four (over (pos 2073672038768349893) 4495362361383350185) (over (pos 1796697410615814676) 1296313065281541975)
    ≡ None ∷ None ∷ None ∷ None ∷ []
unfolding gcd lowest over plus minus negative times divided quotient
four_77 = refl

four_78 : four (over (pos 4287967608850881436) 3866796005273678967) (over (pos 60473) 48030) ≡ None ∷ None ∷ None ∷ None
    ∷ []
unfolding gcd lowest over plus minus negative times divided quotient
four_78 = refl

four_79 : four (over (pos 957159896) 167774657) (over (pos 892843148) 602909185)
    ≡ Some (pos 726876945722544996, 101152881715524545) ∷ Some (pos 427284039901544524, 101152881715524545)
    ∷ Some (pos 854593654683992608, 101152881715524545) ∷ Some (pos 144270123203011190, 37449113227625059) ∷ []
unfolding gcd lowest over plus minus negative times divided quotient
four_79 = refl

four_80 : four (over (negsuc 291091210182350124) 1636450024740572639) (over (pos 151461037) 20154350) ≡ None ∷ None
    ∷ None ∷ None ∷ []
unfolding gcd lowest over plus minus negative times divided quotient
four_80 = refl

four_81 : four (over (negsuc 6) 5) (over (pos 1246321959609714439) 3354514137206033978) ≡ None ∷ None ∷ None ∷ None ∷ []
unfolding gcd lowest over plus minus negative times divided quotient
four_81 = refl

four_82 : four (over (pos 4) 9) (over (negsuc 4110020759183589) 91196126008593829)
    ≡ Some (pos 327794317201723006, 820765134077344461) ∷ Some (pos 401774690867027626, 820765134077344461)
    ∷ Some (negsuc 16440083036734359, 820765134077344461) ∷ Some (negsuc 182392252017187657, 18495093416326155) ∷ []
unfolding gcd lowest over plus minus negative times divided quotient
four_82 = refl

four_83 : four (over (pos 5225) 21744) (over (negsuc 167747414) 535314601) ≡ Some (negsuc 850481001534, 11639880684144)
    ∷ Some (pos 6444518581985, 11639880684144) ∷ Some (negsuc 292160081124, 3879960228048)
    ∷ Some (negsuc 50854887094, 66318178032) ∷ []
unfolding gcd lowest over plus minus negative times divided quotient
four_83 = refl

four_84 : four (over (negsuc 601021988) 564673031) (over (negsuc 833231226) 214657722)
    ≡ Some (negsuc 599517213504588094, 121211426509295382) ∷ Some (pos 341489191443289979, 121211426509295382)
    ∷ Some (pos 55643365483161167, 13467936278810598) ∷ Some (pos 129014011030649058, 470503202473939037) ∷ []
unfolding gcd lowest over plus minus negative times divided quotient
four_84 = refl

four_85 : four (over (pos 7) 9) (over (pos 11) 9) ≡ Some (pos 2, 1) ∷ Some (negsuc 3, 9) ∷ Some (pos 77, 81)
    ∷ Some (pos 7, 11) ∷ []
unfolding gcd lowest over plus minus negative times divided quotient
four_85 = refl

four_86 : four (over (pos 47761087) 1010510066) (over (pos 1456067725242929671) 735430191665460183) ≡ None ∷ None ∷ None
    ∷ None ∷ []
unfolding gcd lowest over plus minus negative times divided quotient
four_86 = refl

four_87 : four (over (negsuc 130) 11) (over (pos 26495) 50972) ≡ Some (negsuc 6385886, 560692)
    ∷ Some (negsuc 6968776, 560692) ∷ Some (negsuc 3470844, 560692) ∷ Some (negsuc 6677331, 291445) ∷ []
unfolding gcd lowest over plus minus negative times divided quotient
four_87 = refl

four_88 : four (over (negsuc 389512840) 352176842) (over (negsuc 291290214) 1992077672)
    ≡ Some (negsuc 439262750768793590, 350781811771835912) ∷ Some (negsuc 336677082744592560, 350781811771835912)
    ∷ Some (pos 113461279200150815, 701563623543671824) ∷ Some (pos 387969916756693076, 51292834012100515) ∷ []
unfolding gcd lowest over plus minus negative times divided quotient
four_88 = refl

four_89 : four (over (negsuc 0) 4) (over (negsuc 2) 1) ≡ Some (negsuc 12, 4) ∷ Some (pos 11, 4) ∷ Some (pos 3, 4)
    ∷ Some (pos 1, 12) ∷ []
unfolding gcd lowest over plus minus negative times divided quotient
four_89 = refl

four_90 : four (over (pos 966922395) 1429854377) (over (negsuc 0) 1) ≡ Some (negsuc 462931981, 1429854377)
    ∷ Some (pos 2396776772, 1429854377) ∷ Some (negsuc 966922394, 1429854377) ∷ Some (negsuc 966922394, 1429854377) ∷ []
unfolding gcd lowest over plus minus negative times divided quotient
four_90 = refl

four_91 : four (over (pos 902269811249543388) 2126868131688017675) (over (negsuc 186) 79) ≡ None ∷ None ∷ None ∷ None
    ∷ []
unfolding gcd lowest over plus minus negative times divided quotient
four_91 = refl

four_92 : four (over (negsuc 19) 199) (over (pos 255921766923883961) 2682031280909100121) ≡ None ∷ None ∷ None ∷ None
    ∷ []
unfolding gcd lowest over plus minus negative times divided quotient
four_92 = refl

four_93 : four (over (pos 49303) 60525) (over (pos 0) 1) ≡ Some (pos 49303, 60525) ∷ Some (pos 49303, 60525)
    ∷ Some (pos 0, 1) ∷ None ∷ []
unfolding gcd lowest over plus minus negative times divided quotient
four_93 = refl

four_94 : four (over (negsuc 7437) 7365) (over (pos 2975852844041577773) 1808272238333128136) ≡ None ∷ None ∷ None
    ∷ None ∷ []
unfolding gcd lowest over plus minus negative times divided quotient
four_94 = refl

four_95 : four (over (pos 59331) 9505) (over (negsuc 0) 3) ≡ Some (pos 168488, 28515) ∷ Some (pos 187498, 28515)
    ∷ Some (negsuc 19776, 9505) ∷ Some (negsuc 177992, 9505) ∷ []
unfolding gcd lowest over plus minus negative times divided quotient
four_95 = refl

four_96 : four (over (pos 81) 194) (over (negsuc 260407823361062384) 1302634130483784733) ≡ None ∷ None ∷ None ∷ None
    ∷ []
unfolding gcd lowest over plus minus negative times divided quotient
four_96 = refl

four_97 : four (over (negsuc 3398679599755574653) 1718509926996358287)
    (over (negsuc 107025242035368924) 281905550080052653) ≡ None ∷ None ∷ None ∷ None ∷ []
unfolding gcd lowest over plus minus negative times divided quotient
four_97 = refl

four_98 : four (over (pos 4037349357342226858) 2378919294863223103) (over (negsuc 1382401873850680456) 9151441892548176)
    ≡ None ∷ None ∷ None ∷ None ∷ []
unfolding gcd lowest over plus minus negative times divided quotient
four_98 = refl

four_99 : four (over (negsuc 216515721836583415) 787541924552850255) (over (pos 243609914) 262735115) ≡ None ∷ None
    ∷ None ∷ None ∷ []
unfolding gcd lowest over plus minus negative times divided quotient
four_99 = refl

four_100 : four (over (negsuc 4188344039126977524) 167381205895709127) (over (negsuc 70) 87) ≡ None ∷ None ∷ None ∷ None
    ∷ []
unfolding gcd lowest over plus minus negative times divided quotient
four_100 = refl

four_101 : four (over (pos 11040) 3379) (over (pos 9) 5) ≡ Some (pos 85611, 16895) ∷ Some (pos 24789, 16895)
    ∷ Some (pos 19872, 3379) ∷ Some (pos 18400, 10137) ∷ []
unfolding gcd lowest over plus minus negative times divided quotient
four_101 = refl

four_102 : four (over (pos 824127939) 377011630) (over (negsuc 290816182) 140628767)
    ≡ Some (pos 6255012728612923, 53018680671560210) ∷ Some (pos 225537179095029503, 53018680671560210)
    ∷ Some (negsuc 239669741523636836, 53018680671560210) ∷ Some (negsuc 115896095911821212, 109641083183208290) ∷ []
unfolding gcd lowest over plus minus negative times divided quotient
four_102 = refl

four_103 : four (over (pos 4272826014003137090) 2668019245588328237) (over (pos 51764151) 39286868) ≡ None ∷ None ∷ None
    ∷ None ∷ []
unfolding gcd lowest over plus minus negative times divided quotient
four_103 = refl

four_104 : four (over (pos 1) 1) (over (negsuc 647277727133925010) 964467208572428342)
    ≡ Some (pos 317189481438503331, 964467208572428342) ∷ Some (pos 1611744935706353353, 964467208572428342)
    ∷ Some (negsuc 647277727133925010, 964467208572428342) ∷ Some (negsuc 964467208572428341, 647277727133925011) ∷ []
unfolding gcd lowest over plus minus negative times divided quotient
four_104 = refl
