-- How many fields a record has.
use Rattle.std.proofs.Common.{◌≡◌, ℕ, ◌+◌, ◌≤◌, List, [], ◌∷◌, ◌++◌, Option, Some, None, Bool, true, false, length, suc, arith, ap, option_map}
use Rattle.std.proofs.lemmas.Grind.{common_steps}
use Rattle.std.specs.Prelude.{IfSome, if◌then◌else◌}
use Rattle.csv.specs.Machine.{Read, next_record, step, is_end, ends_at_end, fields_after, field_after}
use Rattle.csv.specs.Reading.{default_config, strip_bom, is_bom}
use Rattle.csv.specs.declared.parser.Config.{Config}
use Rattle.csv.specs.declared.parser.State.{State}
use Rattle.csv.specs.declared.parser.State.TheVariants as st
use Rattle.csv.specs.declared.parser.Action.{Action}
use Rattle.csv.specs.declared.parser.Action.TheVariants as act
use Rattle.fx_rows.specs.Line.{line_fields}

after-length : (a : Action) (fields : List (List ℕ)) (field : List ℕ) →
    length (fields_after a fields field) ≤ length fields + 1
after-length act.EndField fields field = grind (arith, common_steps)
after-length act.Skip fields field = omega arith
after-length act.Copy fields field = omega arith
after-length act.EndRecord fields field = grind (arith, common_steps)

-- a record has at most one field more than the text has bytes
pub few-fields : (cfg : Config) (s : State) (fields : List (List ℕ)) (field xs : List ℕ) →
    IfSome (next_record cfg s fields field xs) (λ p. length p.0 ≤ length fields + length xs + 1)
unfolding next_record
few-fields cfg s fields field [] = at_end (ends_at_end s) where
  at_end : (b : Bool) → IfSome {T = Read} (if b then Some (fields ++ (field ∷ []), st.StartRecord, [])
      else None) (λ p. length p.0 ≤ length fields + 0 + 1)
  at_end true = grind (arith, common_steps)
  at_end false = tt
few-fields cfg s fields field (c ∷ rest) =
    let here = after-length (step cfg s c).1 fields field in
    let later =
    few-fields cfg (step cfg s c).0 (fields_after (step cfg s c).1 fields field)
    (field_after (step cfg s c).1 c field) rest in
    more (is_end (step cfg s c).1) _ (fields_after (step cfg s c).1 fields field) (step cfg s c).0 here later where
      more : (b : Bool) (o : Option Read) (fs : List (List ℕ)) (s2 : State) → length fs ≤ length fields + 1 →
          IfSome o (λ p. length p.0 ≤ length fs + length rest + 1)
          → IfSome (if b then Some (fs, s2, rest) else o) (λ p. length p.0 ≤ length fields + suc (length rest) + 1)
      more true o fs s2 h k = omega arith
      more false None fs s2 h k = tt
      more false (Some p) fs s2 h k = omega arith

strip-length : (xs : List ℕ) → length (strip_bom xs) ≤ length xs
unfolding strip_bom
strip-length [] = omega arith
strip-length (a ∷ []) = omega arith
strip-length (a ∷ b ∷ []) = omega arith
strip-length (a ∷ b ∷ c ∷ rest) = either (is_bom a b c) where
  either : (t : Bool) → length (if t then rest else a ∷ b ∷ c ∷ rest) ≤ length (a ∷ b ∷ c ∷ rest)
  either true = omega arith
  either false = omega arith

pub few-line-fields : (line : List ℕ) (fs : List (List ℕ)) → Some fs ≡ line_fields line → length fs ≤ length line + 1
few-line-fields line fs e =
    from (next_record default_config st.StartRecord [] [] (strip_bom line))
    (few-fields default_config st.StartRecord [] [] (strip_bom line)) e where
      from : (o : Option Read) → IfSome o (λ p. length p.0 ≤ 0 + length (strip_bom line) + 1) →
          Some fs ≡ option_map (λ p. p.0) o → length fs ≤ length line + 1
      from None h k = absurd (cc)
      from (Some p) h k =
          let same : length fs ≡ length p.0 = ap length (some-fields p k) in
          let short = strip-length line in omega arith where
            some-fields : (p : Read) → Some fs ≡ option_map (λ q. q.0) (Some p) → fs ≡ p.0
            some-fields p k = cc
