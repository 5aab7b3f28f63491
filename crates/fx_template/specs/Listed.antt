-- Lists by their indexes.
use Rattle.std.specs.Prelude.{ℕ, zero, suc, Bool, if◌then◌else◌, List, [], ◌∷◌, ◌++◌, map, Option, Some, None, Result, Ok, Err}
use Rattle.std.specs.List.{range_with_len}

-- one member for each index below n
abbrev pub tabulate : {A : Type 0} → ℕ → (ℕ → A) → List A
tabulate n f = map f (range_with_len 0 n)

-- one more behind those that are there
abbrev pub and_one : {A E : Type 0} → Option (List A) → Result A E → Option (List A)
and_one (Some xs) (Ok x) = Some (xs ++ x ∷ [])
and_one (Some xs) (Err e) = None
and_one None x = None

-- one for each index below n, if each is there
abbrev pub each_below : {A E : Type 0} → ℕ → (ℕ → Result A E) → Option (List A)
each_below zero f = Some []
each_below (suc n) f = and_one (each_below n f) (f n)

-- this, or else that
abbrev pub or_else : {A : Type 0} → Option A → Option A → Option A
or_else (Some x) y = Some x
or_else None y = y

-- the first index below n of which this isn't true
abbrev pub first_untrue : ℕ → (ℕ → Bool) → Option ℕ
first_untrue zero p = None
first_untrue (suc n) p = or_else (first_untrue n p) (if p n then None else Some n)
