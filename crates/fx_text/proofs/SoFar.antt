-- Reading lines one after the other, as a loop does.
use Rattle.std.proofs.Common.{◌≡◌, ℕ, ◌+◌, ◌-◌, ◌<◌, ◌≤◌, List, [], ◌∷◌, ◌++◌, length, map, Result, Ok, Err, ◌⊎◌, refl, ◌∙◌, arith, length-append}
use Rattle.std.proofs.lemmas.List.{map-append}
use Rattle.fx_text.specs.declared.fault.TextKind.{TextKind}
use Rattle.fx_text.specs.declared.fault.TextFault.{TextFault}
use Rattle.fx_text.specs.Cutting.{Line}
use Rattle.fx_text.specs.Many.{many, with_front, numbered_line, lines_by}
use Rattle.fx_text.proofs.ManyLaws.{with_front_nothing, many_goes_on, many_ends, many_is_done}

-- behind so many values k lines are read, and the text is left
pub record SoFar {A X : Type 0} (view : X → A) (read : ℕ → Line →
    Result A TextKind) (first count : ℕ) (total : Result (List A ×
    List ℕ) TextFault) (before : ℕ) (found : List X) (k : ℕ) (rest : List ℕ) : Type 0 where
  pub so_far : with_front (map view found) (many (numbered_line read first) (λ i _. i + 1) (count - k) k rest) ≡ total
  pub few : length found ≡ before + k
  pub within : k ≤ count

pub begins_behind : {A X : Type 0} (view : X → A) (read : ℕ → Line →
    Result A TextKind) (first count : ℕ) (rows : List X) (text : List ℕ) →
    SoFar view read first count (with_front (map view rows) (lines_by read first count text)) (length rows) rows 0 text
unfolding lines_by
begins_behind view read first count rows text =
    record { so_far = (let e : count - 0 ≡ count = omega arith in rw e refl); few = omega arith; within = omega arith }

begins : {A X : Type 0} (view : X → A) (read : ℕ → Line → Result A TextKind) (first count : ℕ) (text : List ℕ) →
    SoFar view read first count (lines_by read first count text) 0 [] 0 text
unfolding lines_by
begins view read first count text = record {
  so_far = with_front_nothing (many (numbered_line read first) (λ i _. i + 1) (count - 0) 0 text)
      ∙ (let e : count - 0 ≡ count = omega arith in rw e refl);
  few = refl;
  within = omega arith;
}

pub goes_on : {A X : Type 0} {view : X → A} {read : ℕ → Line →
    Result A TextKind} {first count : ℕ} {total : Result (List A ×
    List ℕ) TextFault} {before : ℕ} {found : List X} {k : ℕ} {rest : List ℕ} (x : X) (after : List ℕ)
    → SoFar view read first count total before found k rest → k < count →
    numbered_line read first k rest ≡ Ok (view x, after) →
    SoFar view read first count total before (found ++ x ∷ []) (k + 1) after
goes_on {A} {X} {view} {read} {first} {count} {total} {before} {found} {k} {rest} x after h lt one =
    let seen : map view (found ++ x ∷ []) ≡ map view found ++ view x ∷ [] = map-append view found (x ∷ []) in
    record {
      so_far =
          rw seen (many_goes_on (numbered_line read first) (λ i _. i + 1) (map view found) count k k rest
          (view x) after total lt one h.so_far);
      few = omega (arith, length-append found (x ∷ []), h.few);
      within = omega (arith, h.within);
    }

pub ends : {Other A X : Type 0} {view : X → A} {read : ℕ → Line →
    Result A TextKind} {first count : ℕ} {total : Result (List A ×
    List ℕ) TextFault} {before : ℕ} {found : List X} {k : ℕ} {rest : List ℕ} (e : TextFault)
    → SoFar view read first count total before found k rest → k < count →
    (numbered_line read first k rest ≡ Err e) ⊎ Other → (total ≡ Err e) ⊎ Other
ends {Other} {A} {X} {view} {read} {first} {count} {total} {before} {found} {k} {rest} e h lt one =
    many_ends (numbered_line read first) (λ i _. i + 1) (map view found) count k k rest e total lt one h.so_far

pub is_done : {A X : Type 0} {view : X → A} {read : ℕ → Line →
    Result A TextKind} {first count : ℕ} {total : Result (List A ×
    List ℕ) TextFault} {before : ℕ} {found : List X} {k : ℕ} {rest : List ℕ}
    → SoFar view read first count total before found k rest → count ≤ k → total ≡ Ok (map view found, rest)
is_done {A} {X} {view} {read} {first} {count} {total} {before} {found} {k} {rest} h le =
    many_is_done (numbered_line read first) (λ i _. i + 1) (map view found) count k k rest total le h.so_far

-- and then all are read
pub all_read : {A X : Type 0} {view : X → A} {read : ℕ → Line →
    Result A TextKind} {first count : ℕ} {total : Result (List A ×
    List ℕ) TextFault} {before : ℕ} {found : List X} {k : ℕ} {rest : List ℕ}
    → SoFar view read first count total before found k rest → count ≤ k → length found ≡ before + count
all_read h le = omega (arith, h.few, h.within)
