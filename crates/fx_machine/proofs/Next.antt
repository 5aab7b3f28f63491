-- The code that comes next in a list.
use Rattle.std.proofs.Common.{◌≡◌, ℕ, ◌+◌, ◌<◌, ℤ, pos, List, [], ◌∷◌, ◌++◌, length, get_or, drop, map, Some, sym, ap, subst, ◌∙◌}
use Rattle.std.specs.Prelude.{IsSome}
use Rattle.std.proofs.lemmas.List.{length-map}
use Rattle.fx_rational.specs.Rational.{Rational}
use Rattle.fx_model.specs.Machine.{Code, Const, words_after}
use Rattle.fx_program.specs.CodeView.{code_of}
use Rattle.fx_program.specs.declared.code.Code as declared
use Rattle.fx_program.specs.declared.code.Code.TheVariants.{Input}
use Rattle.fx_machine.specs.Codes.{AreCodes, IsCodeAt, word_of}
use Rattle.fx_machine.proofs.Codes.{at_map_any, first_runs, next_code, one_more}

-- code k of a list
abbrev pub code_there : List declared.Code → ℕ → Code
code_there codes k = code_of (get_or codes k (Input 0 (pos 0)))

-- it is lawful where it stands
pub next_lawful : (n i s : ℕ) (codes : List declared.Code) (k : ℕ) → k < length codes →
    AreCodes n i s (map code_of codes) → {a b m : ℕ} → a ≡ i → b ≡ s → m ≡ k → IsCodeAt n a b m (code_there codes k)
next_lawful n i s codes k lt lawful ea eb em =
    let here =
    subst (IsCodeAt n i s k) (at_map_any code_of codes k (Input 0 (pos 0)) (Const (pos 0) (pos 0)) lt)
    (lawful k (rw length-map lt)) in
    rw (ea, eb, em) here

module _ (n : ℕ) (codes : List declared.Code) (k : ℕ) (lt : k < length codes) where
  more : map code_of (drop k codes) ≡ code_there codes k ∷ map code_of (drop (k + 1) codes)
  more = next_code code_of codes k (Input 0 (pos 0)) lt

  -- it isn't stuck where those from it on are not
  pub next_runs : (g : List Rational) (z ws : List ℤ) → IsSome (words_after n (map code_of (drop k codes)) g z ws) →
      IsSome (word_of n (code_there codes k) g z ws)
  next_runs g z ws h =
      first_runs n (code_there codes k) (map code_of (drop (k + 1) codes)) g z ws
      (subst (λ cs. IsSome (words_after n cs g z ws)) more h)

  -- its word is the first of theirs
  pub next_goes_on : (g : List Rational) (z ws : List ℤ) (w : ℤ) → word_of n (code_there codes k) g z ws ≡ Some w →
      words_after n (map code_of (drop (k + 1) codes)) g z (ws ++ w ∷ [])
      ≡ words_after n (map code_of (drop k codes)) g z ws
  next_goes_on g z ws w e =
      one_more n (code_there codes k) (map code_of (drop (k + 1) codes)) g z ws w e
      ∙ ap (λ cs. words_after n cs g z ws) (sym more)
