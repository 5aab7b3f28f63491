-- Worked shifts and roundings of dyadics, by whole numbers without bound in another language: a wrong definition here
-- is refused.
use Rattle.std.specs.Prelude.{◌≡◌, ◌^◌, ℕ, ℤ, pos, negsuc, ◌*ℤ◌, true, false, refl}
use Rattle.fx_rational.specs.Rational.{floor_div, ceil_div}
use Rattle.fx_rational.specs.Dyadic.{Dyadic, fits_128, rounded_down, rounded_up}

abbrev pub dy : ℤ → ℕ → Dyadic
dy m e = record { m = m; e = e }

-- ---- shifts to the right, down and up, and to the left within 128 bits

shift_1 : (floor_div (pos 0) (2 ^ 0) ≡ pos 0) × (ceil_div (pos 0) (2 ^ 0) ≡ pos 0) ×
    (fits_128 ((pos 0) *ℤ pos (2 ^ 0)) ≡ true)
unfolding fits_128
shift_1 = (refl, refl, refl)

shift_2 : (floor_div (pos 1) (2 ^ 0) ≡ pos 1) × (ceil_div (pos 1) (2 ^ 0) ≡ pos 1) ×
    (fits_128 ((pos 1) *ℤ pos (2 ^ 0)) ≡ true)
unfolding fits_128
shift_2 = (refl, refl, refl)

shift_3 : (floor_div (negsuc 0) (2 ^ 0) ≡ negsuc 0) × (ceil_div (negsuc 0) (2 ^ 0) ≡ negsuc 0) ×
    (fits_128 ((negsuc 0) *ℤ pos (2 ^ 0)) ≡ true)
unfolding fits_128
shift_3 = (refl, refl, refl)

shift_4 : (floor_div (pos 170141183460469231731687303715884105727) (2 ^ 0)
    ≡ pos 170141183460469231731687303715884105727) ×
    (ceil_div (pos 170141183460469231731687303715884105727) (2 ^ 0) ≡ pos 170141183460469231731687303715884105727) ×
    (fits_128 ((pos 170141183460469231731687303715884105727) *ℤ pos (2 ^ 0)) ≡ true)
unfolding fits_128
shift_4 = (refl, refl, refl)

shift_5 : (floor_div (negsuc 170141183460469231731687303715884105727) (2 ^ 0)
    ≡ negsuc 170141183460469231731687303715884105727) ×
    (ceil_div (negsuc 170141183460469231731687303715884105727) (2 ^ 0)
    ≡ negsuc 170141183460469231731687303715884105727) ×
    (fits_128 ((negsuc 170141183460469231731687303715884105727) *ℤ pos (2 ^ 0)) ≡ true)
unfolding fits_128
shift_5 = (refl, refl, refl)

shift_6 : (floor_div (pos 5) (2 ^ 1) ≡ pos 2) × (ceil_div (pos 5) (2 ^ 1) ≡ pos 3) ×
    (fits_128 ((pos 5) *ℤ pos (2 ^ 1)) ≡ true)
unfolding fits_128
shift_6 = (refl, refl, refl)

shift_7 : (floor_div (negsuc 4) (2 ^ 1) ≡ negsuc 2) × (ceil_div (negsuc 4) (2 ^ 1) ≡ negsuc 1) ×
    (fits_128 ((negsuc 4) *ℤ pos (2 ^ 1)) ≡ true)
unfolding fits_128
shift_7 = (refl, refl, refl)

shift_8 : (floor_div (negsuc 5) (2 ^ 1) ≡ negsuc 2) × (ceil_div (negsuc 5) (2 ^ 1) ≡ negsuc 2) ×
    (fits_128 ((negsuc 5) *ℤ pos (2 ^ 1)) ≡ true)
unfolding fits_128
shift_8 = (refl, refl, refl)

shift_9 : (floor_div (pos 5) (2 ^ 2) ≡ pos 1) × (ceil_div (pos 5) (2 ^ 2) ≡ pos 2) ×
    (fits_128 ((pos 5) *ℤ pos (2 ^ 2)) ≡ true)
unfolding fits_128
shift_9 = (refl, refl, refl)

shift_10 : (floor_div (negsuc 4) (2 ^ 2) ≡ negsuc 1) × (ceil_div (negsuc 4) (2 ^ 2) ≡ negsuc 0) ×
    (fits_128 ((negsuc 4) *ℤ pos (2 ^ 2)) ≡ true)
unfolding fits_128
shift_10 = (refl, refl, refl)

shift_11 : (floor_div (pos 18446744073709551617) (2 ^ 64) ≡ pos 1) ×
    (ceil_div (pos 18446744073709551617) (2 ^ 64) ≡ pos 2) ×
    (fits_128 ((pos 18446744073709551617) *ℤ pos (2 ^ 64)) ≡ false)
unfolding fits_128
shift_11 = (refl, refl, refl)

shift_12 : (floor_div (negsuc 18446744073709551616) (2 ^ 64) ≡ negsuc 1) ×
    (ceil_div (negsuc 18446744073709551616) (2 ^ 64) ≡ negsuc 0) ×
    (fits_128 ((negsuc 18446744073709551616) *ℤ pos (2 ^ 64)) ≡ false)
unfolding fits_128
shift_12 = (refl, refl, refl)

shift_13 : (floor_div (pos 1) (2 ^ 126) ≡ pos 0) × (ceil_div (pos 1) (2 ^ 126) ≡ pos 1) ×
    (fits_128 ((pos 1) *ℤ pos (2 ^ 126)) ≡ true)
unfolding fits_128
shift_13 = (refl, refl, refl)

shift_14 : (floor_div (pos 1) (2 ^ 127) ≡ pos 0) × (ceil_div (pos 1) (2 ^ 127) ≡ pos 1) ×
    (fits_128 ((pos 1) *ℤ pos (2 ^ 127)) ≡ false)
unfolding fits_128
shift_14 = (refl, refl, refl)

shift_15 : (floor_div (negsuc 0) (2 ^ 127) ≡ negsuc 0) × (ceil_div (negsuc 0) (2 ^ 127) ≡ pos 0) ×
    (fits_128 ((negsuc 0) *ℤ pos (2 ^ 127)) ≡ true)
unfolding fits_128
shift_15 = (refl, refl, refl)

shift_16 : (floor_div (negsuc 0) (2 ^ 126) ≡ negsuc 0) × (ceil_div (negsuc 0) (2 ^ 126) ≡ pos 0) ×
    (fits_128 ((negsuc 0) *ℤ pos (2 ^ 126)) ≡ true)
unfolding fits_128
shift_16 = (refl, refl, refl)

shift_17 : (floor_div (pos 2) (2 ^ 126) ≡ pos 0) × (ceil_div (pos 2) (2 ^ 126) ≡ pos 1) ×
    (fits_128 ((pos 2) *ℤ pos (2 ^ 126)) ≡ false)
unfolding fits_128
shift_17 = (refl, refl, refl)

shift_18 : (floor_div (negsuc 1) (2 ^ 126) ≡ negsuc 0) × (ceil_div (negsuc 1) (2 ^ 126) ≡ pos 0) ×
    (fits_128 ((negsuc 1) *ℤ pos (2 ^ 126)) ≡ true)
unfolding fits_128
shift_18 = (refl, refl, refl)

shift_19 : (floor_div (negsuc 2) (2 ^ 126) ≡ negsuc 0) × (ceil_div (negsuc 2) (2 ^ 126) ≡ pos 0) ×
    (fits_128 ((negsuc 2) *ℤ pos (2 ^ 126)) ≡ false)
unfolding fits_128
shift_19 = (refl, refl, refl)

shift_20 : (floor_div (pos 170141183460469231731687303715884105727) (2 ^ 1)
    ≡ pos 85070591730234615865843651857942052863) ×
    (ceil_div (pos 170141183460469231731687303715884105727) (2 ^ 1) ≡ pos 85070591730234615865843651857942052864) ×
    (fits_128 ((pos 170141183460469231731687303715884105727) *ℤ pos (2 ^ 1)) ≡ false)
unfolding fits_128
shift_20 = (refl, refl, refl)

shift_21 : (floor_div (negsuc 170141183460469231731687303715884105727) (2 ^ 1)
    ≡ negsuc 85070591730234615865843651857942052863) ×
    (ceil_div (negsuc 170141183460469231731687303715884105727) (2 ^ 1)
    ≡ negsuc 85070591730234615865843651857942052863) ×
    (fits_128 ((negsuc 170141183460469231731687303715884105727) *ℤ pos (2 ^ 1)) ≡ false)
unfolding fits_128
shift_21 = (refl, refl, refl)

shift_22 : (floor_div (pos 85070591730234615865843651857942052863) (2 ^ 1)
    ≡ pos 42535295865117307932921825928971026431) ×
    (ceil_div (pos 85070591730234615865843651857942052863) (2 ^ 1) ≡ pos 42535295865117307932921825928971026432) ×
    (fits_128 ((pos 85070591730234615865843651857942052863) *ℤ pos (2 ^ 1)) ≡ true)
unfolding fits_128
shift_22 = (refl, refl, refl)

shift_23 : (floor_div (pos 85070591730234615865843651857942052864) (2 ^ 1)
    ≡ pos 42535295865117307932921825928971026432) ×
    (ceil_div (pos 85070591730234615865843651857942052864) (2 ^ 1) ≡ pos 42535295865117307932921825928971026432) ×
    (fits_128 ((pos 85070591730234615865843651857942052864) *ℤ pos (2 ^ 1)) ≡ false)
unfolding fits_128
shift_23 = (refl, refl, refl)

shift_24 : (floor_div (negsuc 85070591730234615865843651857942052863) (2 ^ 1)
    ≡ negsuc 42535295865117307932921825928971026431) ×
    (ceil_div (negsuc 85070591730234615865843651857942052863) (2 ^ 1) ≡ negsuc 42535295865117307932921825928971026431) ×
    (fits_128 ((negsuc 85070591730234615865843651857942052863) *ℤ pos (2 ^ 1)) ≡ true)
unfolding fits_128
shift_24 = (refl, refl, refl)

shift_25 : (floor_div (negsuc 85070591730234615865843651857942052864) (2 ^ 1)
    ≡ negsuc 42535295865117307932921825928971026432) ×
    (ceil_div (negsuc 85070591730234615865843651857942052864) (2 ^ 1) ≡ negsuc 42535295865117307932921825928971026431) ×
    (fits_128 ((negsuc 85070591730234615865843651857942052864) *ℤ pos (2 ^ 1)) ≡ false)
unfolding fits_128
shift_25 = (refl, refl, refl)

shift_26 : (floor_div (pos 170141183460469231731687303715884105727) (2 ^ 127) ≡ pos 0) ×
    (ceil_div (pos 170141183460469231731687303715884105727) (2 ^ 127) ≡ pos 1) ×
    (fits_128 ((pos 170141183460469231731687303715884105727) *ℤ pos (2 ^ 127)) ≡ false)
unfolding fits_128
shift_26 = (refl, refl, refl)

shift_27 : (floor_div (negsuc 170141183460469231731687303715884105727) (2 ^ 127) ≡ negsuc 0) ×
    (ceil_div (negsuc 170141183460469231731687303715884105727) (2 ^ 127) ≡ negsuc 0) ×
    (fits_128 ((negsuc 170141183460469231731687303715884105727) *ℤ pos (2 ^ 127)) ≡ false)
unfolding fits_128
shift_27 = (refl, refl, refl)

shift_28 : (floor_div (negsuc 170141183460469231731687303715884105726) (2 ^ 127) ≡ negsuc 0) ×
    (ceil_div (negsuc 170141183460469231731687303715884105726) (2 ^ 127) ≡ pos 0) ×
    (fits_128 ((negsuc 170141183460469231731687303715884105726) *ℤ pos (2 ^ 127)) ≡ false)
unfolding fits_128
shift_28 = (refl, refl, refl)

shift_29 : (floor_div (pos 1) (2 ^ 128) ≡ pos 0) × (ceil_div (pos 1) (2 ^ 128) ≡ pos 1) ×
    (fits_128 ((pos 1) *ℤ pos (2 ^ 128)) ≡ false)
unfolding fits_128
shift_29 = (refl, refl, refl)

shift_30 : (floor_div (negsuc 0) (2 ^ 128) ≡ negsuc 0) × (ceil_div (negsuc 0) (2 ^ 128) ≡ pos 0) ×
    (fits_128 ((negsuc 0) *ℤ pos (2 ^ 128)) ≡ false)
unfolding fits_128
shift_30 = (refl, refl, refl)

shift_31 : (floor_div (pos 170141183460469231731687303715884105727) (2 ^ 128) ≡ pos 0) ×
    (ceil_div (pos 170141183460469231731687303715884105727) (2 ^ 128) ≡ pos 1) ×
    (fits_128 ((pos 170141183460469231731687303715884105727) *ℤ pos (2 ^ 128)) ≡ false)
unfolding fits_128
shift_31 = (refl, refl, refl)

shift_32 : (floor_div (negsuc 170141183460469231731687303715884105727) (2 ^ 128) ≡ negsuc 0) ×
    (ceil_div (negsuc 170141183460469231731687303715884105727) (2 ^ 128) ≡ pos 0) ×
    (fits_128 ((negsuc 170141183460469231731687303715884105727) *ℤ pos (2 ^ 128)) ≡ false)
unfolding fits_128
shift_32 = (refl, refl, refl)

shift_33 : (floor_div (pos 170141183460469231731687303715884105727) (2 ^ 129) ≡ pos 0) ×
    (ceil_div (pos 170141183460469231731687303715884105727) (2 ^ 129) ≡ pos 1) ×
    (fits_128 ((pos 170141183460469231731687303715884105727) *ℤ pos (2 ^ 129)) ≡ false)
unfolding fits_128
shift_33 = (refl, refl, refl)

shift_34 : (floor_div (negsuc 170141183460469231731687303715884105727) (2 ^ 129) ≡ negsuc 0) ×
    (ceil_div (negsuc 170141183460469231731687303715884105727) (2 ^ 129) ≡ pos 0) ×
    (fits_128 ((negsuc 170141183460469231731687303715884105727) *ℤ pos (2 ^ 129)) ≡ false)
unfolding fits_128
shift_34 = (refl, refl, refl)

shift_35 : (floor_div (pos 0) (2 ^ 128) ≡ pos 0) × (ceil_div (pos 0) (2 ^ 128) ≡ pos 0) ×
    (fits_128 ((pos 0) *ℤ pos (2 ^ 128)) ≡ true)
unfolding fits_128
shift_35 = (refl, refl, refl)

shift_36 : (floor_div (pos 154742504910672534362402873) (2 ^ 40) ≡ pos 140737488355328) ×
    (ceil_div (pos 154742504910672534362402873) (2 ^ 40) ≡ pos 140737488355329) ×
    (fits_128 ((pos 154742504910672534362402873) *ℤ pos (2 ^ 40)) ≡ false)
unfolding fits_128
shift_36 = (refl, refl, refl)

shift_37 : (floor_div (negsuc 154742504910672534362402872) (2 ^ 40) ≡ negsuc 140737488355328) ×
    (ceil_div (negsuc 154742504910672534362402872) (2 ^ 40) ≡ negsuc 140737488355327) ×
    (fits_128 ((negsuc 154742504910672534362402872) *ℤ pos (2 ^ 40)) ≡ false)
unfolding fits_128
shift_37 = (refl, refl, refl)

shift_38 : (floor_div (negsuc 77371252455336267181195263) (2 ^ 41) ≡ negsuc 35184372088831) ×
    (ceil_div (negsuc 77371252455336267181195263) (2 ^ 41) ≡ negsuc 35184372088831) ×
    (fits_128 ((negsuc 77371252455336267181195263) *ℤ pos (2 ^ 41)) ≡ true)
unfolding fits_128
shift_38 = (refl, refl, refl)

shift_39 : (floor_div (pos 77371252455336267181195264) (2 ^ 41) ≡ pos 35184372088832) ×
    (ceil_div (pos 77371252455336267181195264) (2 ^ 41) ≡ pos 35184372088832) ×
    (fits_128 ((pos 77371252455336267181195264) *ℤ pos (2 ^ 41)) ≡ false)
unfolding fits_128
shift_39 = (refl, refl, refl)

-- ---- down and up to so many places

rounding_1 : (rounded_down (dy (pos 0) 0) 0 ≡ dy (pos 0) 0) × (rounded_up (dy (pos 0) 0) 0 ≡ dy (pos 0) 0)
unfolding rounded_down rounded_up
rounding_1 = (refl, refl)

rounding_2 : (rounded_down (dy (pos 5) 1) 1 ≡ dy (pos 5) 1) × (rounded_up (dy (pos 5) 1) 1 ≡ dy (pos 5) 1)
unfolding rounded_down rounded_up
rounding_2 = (refl, refl)

rounding_3 : (rounded_down (dy (pos 5) 1) 4294967295 ≡ dy (pos 5) 1) ×
    (rounded_up (dy (pos 5) 1) 4294967295 ≡ dy (pos 5) 1)
unfolding rounded_down rounded_up
rounding_3 = (refl, refl)

rounding_4 : (rounded_down (dy (pos 5) 1) 0 ≡ dy (pos 2) 0) × (rounded_up (dy (pos 5) 1) 0 ≡ dy (pos 3) 0)
unfolding rounded_down rounded_up
rounding_4 = (refl, refl)

rounding_5 : (rounded_down (dy (negsuc 4) 1) 0 ≡ dy (negsuc 2) 0) × (rounded_up (dy (negsuc 4) 1) 0 ≡ dy (negsuc 1) 0)
unfolding rounded_down rounded_up
rounding_5 = (refl, refl)

rounding_6 : (rounded_down (dy (pos 1) 96) 0 ≡ dy (pos 0) 0) × (rounded_up (dy (pos 1) 96) 0 ≡ dy (pos 1) 0)
unfolding rounded_down rounded_up
rounding_6 = (refl, refl)

rounding_7 : (rounded_down (dy (negsuc 0) 96) 0 ≡ dy (negsuc 0) 0) × (rounded_up (dy (negsuc 0) 96) 0 ≡ dy (pos 0) 0)
unfolding rounded_down rounded_up
rounding_7 = (refl, refl)

rounding_8 : (rounded_down (dy (pos 1) 96) 95 ≡ dy (pos 0) 0) × (rounded_up (dy (pos 1) 96) 95 ≡ dy (pos 1) 95)
unfolding rounded_down rounded_up
rounding_8 = (refl, refl)

rounding_9 : (rounded_down (dy (negsuc 0) 96) 95 ≡ dy (negsuc 0) 95) × (rounded_up (dy (negsuc 0) 96) 95 ≡ dy (pos 0) 0)
unfolding rounded_down rounded_up
rounding_9 = (refl, refl)

rounding_10 : (rounded_down (dy (negsuc 1) 96) 95 ≡ dy (negsuc 0) 95) ×
    (rounded_up (dy (negsuc 1) 96) 95 ≡ dy (negsuc 0) 95)
unfolding rounded_down rounded_up
rounding_10 = (refl, refl)

rounding_11 : (rounded_down (dy (pos 170141183460469231731687303715884105727) 1) 0
    ≡ dy (pos 85070591730234615865843651857942052863) 0) ×
    (rounded_up (dy (pos 170141183460469231731687303715884105727) 1) 0
    ≡ dy (pos 85070591730234615865843651857942052864) 0)
unfolding rounded_down rounded_up
rounding_11 = (refl, refl)

rounding_12 : (rounded_down (dy (negsuc 170141183460469231731687303715884105727) 1) 0
    ≡ dy (negsuc 85070591730234615865843651857942052863) 0) ×
    (rounded_up (dy (negsuc 170141183460469231731687303715884105727) 1) 0
    ≡ dy (negsuc 85070591730234615865843651857942052863) 0)
unfolding rounded_down rounded_up
rounding_12 = (refl, refl)

rounding_13 : (rounded_down (dy (negsuc 170141183460469231731687303715884105727) 127) 0 ≡ dy (negsuc 0) 0) ×
    (rounded_up (dy (negsuc 170141183460469231731687303715884105727) 127) 0 ≡ dy (negsuc 0) 0)
unfolding rounded_down rounded_up
rounding_13 = (refl, refl)

rounding_14 : (rounded_down (dy (negsuc 170141183460469231731687303715884105726) 127) 0 ≡ dy (negsuc 0) 0) ×
    (rounded_up (dy (negsuc 170141183460469231731687303715884105726) 127) 0 ≡ dy (pos 0) 0)
unfolding rounded_down rounded_up
rounding_14 = (refl, refl)

rounding_15 : (rounded_down (dy (pos 170141183460469231731687303715884105727) 127) 0 ≡ dy (pos 0) 0) ×
    (rounded_up (dy (pos 170141183460469231731687303715884105727) 127) 0 ≡ dy (pos 1) 0)
unfolding rounded_down rounded_up
rounding_15 = (refl, refl)

rounding_16 : (rounded_down (dy (pos 170141183460469231731687303715884105727) 128) 0 ≡ dy (pos 0) 0) ×
    (rounded_up (dy (pos 170141183460469231731687303715884105727) 128) 0 ≡ dy (pos 1) 0)
unfolding rounded_down rounded_up
rounding_16 = (refl, refl)

rounding_17 : (rounded_down (dy (negsuc 170141183460469231731687303715884105727) 128) 0 ≡ dy (negsuc 0) 0) ×
    (rounded_up (dy (negsuc 170141183460469231731687303715884105727) 128) 0 ≡ dy (pos 0) 0)
unfolding rounded_down rounded_up
rounding_17 = (refl, refl)

rounding_18 : (rounded_down (dy (pos 170141183460469231731687303715884105727) 1000) 872 ≡ dy (pos 0) 0) ×
    (rounded_up (dy (pos 170141183460469231731687303715884105727) 1000) 872 ≡ dy (pos 1) 872)
unfolding rounded_down rounded_up
rounding_18 = (refl, refl)

rounding_19 : (rounded_down (dy (negsuc 170141183460469231731687303715884105727) 1000) 872 ≡ dy (negsuc 0) 872) ×
    (rounded_up (dy (negsuc 170141183460469231731687303715884105727) 1000) 872 ≡ dy (pos 0) 0)
unfolding rounded_down rounded_up
rounding_19 = (refl, refl)

rounding_20 : (rounded_down (dy (pos 31415926535897932384) 64) 20 ≡ dy (pos 1785788) 20) ×
    (rounded_up (dy (pos 31415926535897932384) 64) 20 ≡ dy (pos 1785789) 20)
unfolding rounded_down rounded_up
rounding_20 = (refl, refl)

rounding_21 : (rounded_down (dy (negsuc 31415926535897932383) 64) 20 ≡ dy (negsuc 1785788) 20) ×
    (rounded_up (dy (negsuc 31415926535897932383) 64) 20 ≡ dy (negsuc 1785787) 20)
unfolding rounded_down rounded_up
rounding_21 = (refl, refl)
