use Rattle.std.proofs.Common.{◌≡◌, ◌≢◌, ◌∙◌, [], ◌∷◌, ap, subst, inl, inr}
use Rattle.clap.specs.Kinds.{HasKind, Kinds}
use Rattle.clap.specs.Words.{fault_of, is_simple, is_simple_and_free, kind_of, subcommand_of}
use Rattle.clap.specs.declared.error.Error.{Error}
use Rattle.clap.specs.declared.error.kind.ErrorKind.TheVariants.{OutOfMemory}
use Rattle.fx_arguments.specs.Command.{texts}
use Rattle.fx_arguments.proofs.command.matches_of.Goals as goal

pub returns-in-Ok-try_get_matches_from-clause-passed : goal.returns-in-Ok-try_get_matches_from-clause-passed
returns-in-Ok-try_get_matches_from-clause-passed c =
    subst (λ a. fault_of a (texts c.args.words.now) ≡ []) c.in-Ok.ensures
    (c.in-Ok-try_get_matches_from.ensures.kinds (ap is_simple_and_free c.in-Ok.ensures))

pub returns-in-Ok-try_get_matches_from-clause-found : goal.returns-in-Ok-try_get_matches_from-clause-found
returns-in-Ok-try_get_matches_from-clause-found c =
    (c.in-Ok-try_get_matches_from.ensures.matches (ap is_simple c.in-Ok.ensures)).1
    ∙ ap (λ a. subcommand_of a (texts c.args.words.now)) c.in-Ok.ensures

-- an error that isn't want of memory has a kind among those of the fault, which so isn't empty
no_fault : (kinds : Kinds) (error : Error) → kind_of error ≢ OutOfMemory → HasKind kinds error → kinds ≡ [] → ⊥
no_fault [] error other (inl none) e = other none
no_fault [] error other (inr among) e = among
no_fault (k ∷ ks) error other has e = absurd (cc)

pub returns : goal.returns
returns c = record {
  passed = tt;
  found = tt;
  usage = no_fault _ c.in-Err.error (λ e. c.in_default-kind.not-OutOfMemory (c.kind.ensures ∙ e))
      (subst (λ a. HasKind (fault_of a (texts c.args.words.now)) c.in-Err.error) c.in-Ok.ensures
      (c.in-Err.ensures.kinds (ap is_simple_and_free c.in-Ok.ensures)));
}
