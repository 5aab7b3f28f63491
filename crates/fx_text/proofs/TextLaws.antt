-- A whole text: a value at its front, and then its end.
use Rattle.std.proofs.Common.{◌≡◌, ℕ, List, [], ◌++◌, Result, Ok, refl, sym, ap, subst, ◌∙◌}
use Rattle.std.proofs.lemmas.List.{append-nil}
use Rattle.fx_text.specs.declared.fault.TextFault.{TextFault}
use Rattle.fx_text.specs.Lines.{text_ended_at}
use Rattle.fx_model.specs.Steps.{◌>>=◌}
use Rattle.fx_text.specs.Spelling.{IsOneSpelling}
use Rattle.fx_model.proofs.Steps.{on_ok}
use Rattle.fx_text.proofs.LineLaws.{text_ended-is}

-- what a reader of the front makes of all of a text; where the text has to be over, the value's own lines say
abbrev pub whole_text_by : {A : Type 0} → (List ℕ → Result (A × List ℕ) TextFault) → (A → ℕ) → List ℕ → Result A TextFault
whole_text_by read end text = read text >>= λ x. text_ended_at (end x.0) x.1 >>= λ _. Ok x.0

-- what is read of a whole text is spelled so
pub all_takes : {A : Type 0} {read : List ℕ → Result (A × List ℕ) TextFault} {write : A → List ℕ} {Is : A →
    Type 0} (end : A → ℕ) → IsOneSpelling read write Is → (text : List ℕ) (a : A) → whole_text_by read end text ≡ Ok a →
    (text ≡ write a) × Is a
all_takes {A} {read} {write} {Is} end law text a e =
    on_ok {A = A × List ℕ} _ _ a e (λ x hx e.
    on_ok {A = List ℕ} _ _ a e (λ d hd e.
    let t = law.takes text x hx in
    let made : x.0 ≡ a = cc in
    subst (λ a. (text ≡ write a) × Is a) made
    (t.0 ∙ ap (λ r. write x.0 ++ r) (text_ended-is (end x.0) x.1 d hd) ∙ append-nil (write x.0), t.1)))

-- what may be spelled is read from its text
pub all_again : {A : Type 0} {read : List ℕ → Result (A × List ℕ) TextFault} {write : A → List ℕ} {Is : A →
    Type 0} (end : A → ℕ) → IsOneSpelling read write Is → (a : A) → Is a → whole_text_by read end (write a) ≡ Ok a
unfolding text_ended_at
all_again {A} {read} {write} {Is} end law a h =
    let e : read (write a) ≡ Ok (a, []) = ap read (sym (append-nil (write a))) ∙ law.again a [] h in rw e refl
