-- The values of a whole row are in range.
use Rattle.std.proofs.Common.{◌≡◌, ℕ, ◌+◌, List, [], ◌∷◌, Bool, true, false, Option, Some, None, length, map, refl, arith, sym, subst}
use Rattle.std.specs.Prelude.{Result, Ok, Err, IfOk, IsTrue, if◌then◌else◌}
use Rattle.csv.specs.Records.{field_at}
use Rattle.fx_rational.specs.Decimal.{Decimal, decimal_value}
use Rattle.fx_model.specs.Function.{Input}
use Rattle.fx_model.specs.Rows.{is_given, IsInRange, IsGivenValue}
use Rattle.fx_model.proofs.InRange.{given_is}
use Rattle.fx_fraction.specs.DecimalOf.{decimal_of}
use Rattle.fx_fraction.specs.declared.fault.NumberFault.{NumberFault}
use Rattle.fx_rows.specs.Blanks.{without_blanks}
use Rattle.fx_rows.specs.Results.{IsRowRead}
use Rattle.fx_rows.specs.Values.{after_value, field_value, row_of_fields, value_in_range, values_from}
use Rattle.fx_rows.specs.declared.fault.RowFault.{RowFault}
use Rattle.fx_rows.specs.declared.fault.RowKind.{RowKind}
use Rattle.fx_rows.specs.declared.fault.RowKind.TheVariants.{OutOfRange}

given_value : (i : Input) (r : Result Decimal NumberFault) (v : Decimal) → value_in_range i r ≡ Ok v →
    IsGivenValue i (decimal_value v)
given_value i (Err fault) v e = absurd (cc)
given_value i (Ok d) v e = by (is_given i (decimal_value d)) refl e where
  tested : Bool → Result Decimal RowKind
  tested t = if t then Ok d else Err OutOfRange

  by : (t : Bool) → is_given i (decimal_value d) ≡ t → tested t ≡ Ok v → IsGivenValue i (decimal_value v)
  by true h k =
      let same : d ≡ v = cc in
      subst (λ (x : Decimal). IsGivenValue i (decimal_value x)) same (given_is i (decimal_value d) h)
  by false h k = absurd (cc)

given_field : (i : Input) (o : Option (List ℕ)) (v : Decimal) → field_value i o ≡ Ok v →
    IsGivenValue i (decimal_value v)
given_field i None v e = absurd (cc)
given_field i (Some f) v e = given_value i (decimal_of (without_blanks f)) v e

pub values_in_range : (k : ℕ) (is : List Input) (ps : List ℕ) (fields : List (List ℕ)) → length ps ≡ length is →
    (values_from k is ps fields).fault ≡ None →
    IsInRange is (map decimal_value (values_from k is ps fields).values)
unfolding values_from
values_in_range k [] [] fields many none = tt
values_in_range k [] (p ∷ ps) fields many none = absurd (omega arith)
values_in_range k (i ∷ is) [] fields many none = absurd (omega arith)
values_in_range k (i ∷ is) (p ∷ ps) fields many none =
    by (field_value i (field_at fields p)) refl (values_in_range (k + 1) is ps fields (omega arith)) none where
      by : (r : Result Decimal RowKind) → field_value i (field_at fields p) ≡ r
          → ((values_from (k + 1) is ps fields).fault ≡ None →
          IsInRange is (map decimal_value (values_from (k + 1) is ps fields).values))
          → (after_value k r (values_from (k + 1) is ps fields)).fault ≡ None →
          IsInRange (i ∷ is) (map decimal_value (after_value k r (values_from (k + 1) is ps fields)).values)
      by (Err kind) e later h = absurd (cc)
      by (Ok v) e later h = (given_field i (field_at fields p) v e, later h)

-- after Ok(true) the row is in range
pub row_in_range : (r : Result Bool RowFault) (row : List Decimal) (is : List Input) (ps : List ℕ)
    (o : Option (List (List ℕ))) → length ps ≡ length is →
    IsRowRead r row (row_of_fields is ps o) → IfOk r (λ b. IsTrue b → IsInRange is (map decimal_value row))
row_in_range (Err e) row is ps o many h = tt
row_in_range (Ok false) row is ps o many h = λ t. absurd (cc)
row_in_range (Ok true) row is ps None many h = λ t. absurd h
row_in_range (Ok true) row is ps (Some fields) many h =
    λ t. subst (λ (vs : List Decimal). IsInRange is (map decimal_value vs)) (sym h.1)
    (values_in_range 0 is ps fields many h.0)
