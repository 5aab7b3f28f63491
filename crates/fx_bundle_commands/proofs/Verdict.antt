-- What the bytes of FILE decide of a call that opens it.
use Rattle.std.proofs.Common.{◌≡◌, ◌≢◌, ◌⊎◌, ◌≤◌, refl, sym, ap, subst, ◌∙◌, ℕ, List, length, nat_lt, if◌then◌else◌, Option, Some, None, Result, Ok, Err, inl, inr}
use Rattle.std.proofs.lemmas.Bool.{lt-ltb, le-ltb}
use Rattle.fx_model.specs.Limits.{bundle_limit}
use Rattle.fx_model.specs.Function.{Function}
use Rattle.fx_inequalities.specs.Accepted.{first_fault}
use Rattle.fx_inequalities.specs.Condition.{Fault}
use Rattle.fx_rules.specs.Steps.{rewrite}
use Rattle.fx_lexer.specs.declared.fault.SourceFault.{SourceFault}
use Rattle.fx_text.specs.declared.fault.TextFault.{TextFault}
use Rattle.fx_cert_text.specs.BundleView.{Parts}
use Rattle.fx_cert_text.specs.BundleReading.{bundle_in}
use Rattle.fx_cert_text.specs.Laws.{BundleAgain}
use Rattle.fx_ends.specs.Ends.{End, NoMemory, OverLimit, BadBundle, Misread, Rejected}
use Rattle.fx_bundle_commands.specs.Outside.{Outside, IfFile}
use Rattle.fx_bundle_commands.specs.Opening.{Spells, meaning_of, IsBundle, IsAcceptedAs, OpeningEnds, unread, long, no_bundle, misread, rejected, no_memory, OpensThen, unopened, opened}
use Rattle.fx_bundle_commands.specs.Exact.{IsFound, OrNoMemory}
use Rattle.fx_bundle_commands.proofs.SameEnd.{ok_inside, same_end}
use Rattle.fx_bundle_commands.proofs.Told.{of_found, not_missing}

-- ---- what bytes come to: an accepted bundle and its function, or the end of a call that opens them
abbrev Verdict : Type 0
Verdict = Result (Parts × Function) End

abbrev judged : Parts → Function → Option Fault → Verdict
judged b fn None = Ok (b, fn)
judged b fn (Some fault) = Err (Rejected fault)

abbrev understood : Parts → Result Function SourceFault → Verdict
understood b (Err fault) = Err (Misread fault)
understood b (Ok fn) = judged b fn (first_fault rewrite fn b.program b.certificate)

abbrev spelled : Result Parts TextFault → Verdict
spelled (Err fault) = Err (BadBundle fault)
spelled (Ok b) = understood b (meaning_of b)

abbrev verdict : List ℕ → Verdict
verdict file = if nat_lt bundle_limit (length file) then Err OverLimit else spelled (bundle_in file)

within : (file : List ℕ) → length file ≤ bundle_limit → verdict file ≡ spelled (bundle_in file)
within file h = ap (λ t. if t then Err OverLimit else spelled (bundle_in file)) (le-ltb bundle_limit (length file) h)

of_bundle : BundleAgain → (file : List ℕ) (b : Parts) → (length file ≤ bundle_limit) × Spells file b →
    verdict file ≡ understood b (meaning_of b)
of_bundle again file b is = within file is.0 ∙ ap spelled (ap bundle_in is.1.text_is ∙ again b is.1.lawful)

accepted_verdict : BundleAgain → (file : List ℕ) (b : Parts) (fn : Function) →
    (length file ≤ bundle_limit) × Spells file b → IsAcceptedAs b fn → verdict file ≡ Ok (b, fn)
accepted_verdict again file b fn is a =
    of_bundle again file b is ∙ ap (understood b) a.meant ∙ ap (judged b fn) a.accepted

-- ---- the end of a call that opens FILE
module _ (again : BundleAgain) (old new : Outside) (name file : List ℕ) (found : IsFound old new name file) where
  told : (P : List ℕ → Type 0) → IfFile old.shelf.files name P → P file
  told = of_found old new name file found

  -- a cause is want of memory, or what the bytes come to
  cause_verdict : (end : End) → OpeningEnds old.shelf new.shelf name end →
      (end ≡ NoMemory) ⊎ (verdict file ≡ Err end)
  cause_verdict end (unread (inl missing)) = absurd (not_missing old new name file found missing)
  cause_verdict end (unread (inr rose)) = absurd (found.unfailing rose)
  cause_verdict end (long over) =
      inr (ap (λ t. if t then Err OverLimit else spelled (bundle_in file))
      (lt-ltb bundle_limit (length file) (told _ over)))
  cause_verdict end (no_bundle fault is) = let h = told _ is in inr (within file h.0 ∙ ap spelled h.1)
  cause_verdict end (misread b fault is meant) = inr (of_bundle again file b (told _ is) ∙ ap (understood b) meant)
  cause_verdict end (rejected b fn fault is meant first) =
      inr (of_bundle again file b (told _ is) ∙ ap (understood b) meant ∙ ap (judged b fn) first)
  cause_verdict end no_memory = inl refl

  module _ (IsEnd : End → Type 0) where
    pub exact_opening : {P : Parts → Function → End → Type 0} (end e : End) → IsEnd end →
        OpensThen old new name P end → e ≢ NoMemory → OpeningEnds old.shelf new.shelf name e →
        OrNoMemory IsEnd e
    exact_opening end e h (unopened end' ends same) other cause =
        same_end IsEnd (verdict file) end e h other (cause_verdict end ends) (cause_verdict e cause)
    exact_opening end e h (opened end' b fn is a ends) other cause =
        same_end IsEnd (verdict file) end e h other (by (cause_verdict e cause)) (cause_verdict e cause)
      where
        by : (e ≡ NoMemory) ⊎ (verdict file ≡ Err e) → (end ≡ NoMemory) ⊎ (verdict file ≡ Err end)
        by (inl none) = absurd (other none)
        by (inr v) = let z = sym (accepted_verdict again file b fn (told _ is) a) ∙ v in absurd cc

  -- an accepted bundle is opened, and then the command does what it does with it
  pub completed : (P : Parts → Function → End → Type 0) (b : Parts) (fn : Function) (end : End) →
      IsBundle old.shelf.files name b → IsAcceptedAs b fn →
      OpensThen old new name P end → (end ≡ NoMemory) ⊎ P b fn end
  completed P b fn end is a (unopened end' ends same) = by (cause_verdict end ends)
    where
      by : (end ≡ NoMemory) ⊎ (verdict file ≡ Err end) → (end ≡ NoMemory) ⊎ P b fn end
      by (inl none) = inl none
      by (inr v) = let z = sym (accepted_verdict again file b fn (told _ is) a) ∙ v in absurd cc
  completed P b fn end is a (opened end' b' fn' is' a' ends) =
      let same =
      ok_inside (verdict file) (b', fn') (
        b,
        fn,
      ) (accepted_verdict again file b' fn' (told _ is') a') (accepted_verdict again file b fn (told _ is) a) in
      inr (subst (λ x. P x.0 x.1 end) same ends)
