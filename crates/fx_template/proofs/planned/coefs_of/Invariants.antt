use Rattle.std.proofs.Common.{◌≡◌, take}
use Rattle.fx_template.proofs.planned.coefs_of.Given as goal

abbrev pub invariant-loop-j : goal.invariant-loop-j
invariant-loop-j l = l.coefs.items ≡ take l.j l.fn.form.coefs
