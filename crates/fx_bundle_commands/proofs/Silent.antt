-- A status but 0 and 7 is that of an end at which nothing is printed.
use Rattle.std.proofs.Common.{◌≡◌, ℕ, true, subst}
use Rattle.fx_ends.specs.Ends.{End, Done, Usage, ReadFault, WriteFault, NoMemory, OverLimit, Rejected, Misread, BadBundle, NotFound, BadRow, BadUnit, status_of}
use Rattle.fx_bundle_commands.specs.OpeningView.{IsSilent}
use Rattle.fx_bundle_commands.specs.Tasks.{is_silent}

silent : (end : End) → is_silent (status_of end) ≡ true → IsSilent end
silent Done e = absurd cc
silent Usage e = tt
silent ReadFault e = tt
silent WriteFault e = absurd cc
silent NoMemory e = tt
silent OverLimit e = tt
silent (Rejected fault) e = tt
silent (Misread fault) e = tt
silent (BadBundle fault) e = tt
silent (NotFound outside) e = tt
silent (BadRow inputs line fault) e = tt
silent (BadUnit line kind) e = tt

pub silent_is_silent : (end : End) (status : ℕ) → status ≡ status_of end → is_silent status ≡ true → IsSilent end
silent_is_silent end status is quiet = silent end (subst (λ s. is_silent s ≡ true) is quiet)
