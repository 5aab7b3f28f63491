use Rattle.std.proofs.Common.{◌≡◌, ◌∙◌, map, ap, sym, subst}
use Rattle.std.specs.Prelude.{All}
use Rattle.fx_model.specs.LawfulProgram.{first_version}
use Rattle.fx_model.specs.Machine.{Program}
use Rattle.fx_program.specs.CodeView.{round_of, code_of}
use Rattle.fx_program.specs.Rounding.{RoundsBy}
use Rattle.fx_program.specs.declared.code.Code.{Code}
use Rattle.fx_program.proofs.Rounded.{program_rounds, codes_round}
use Rattle.fx_program.proofs.program.Program.is_rounded_by.Goals as goal

pub returns-then-self-first_version : goal.returns-then-self-first_version
returns-then-self-first_version c =
    let p = c.args.self.now in let cs = c.deref.result.now in let r = round_of c.args.round in
    let codes : p.codes ≡ map code_of cs = ap (λ (q : Program). q.codes) (sym c.self.view_is)
    ∙ ap (map code_of) (sym c.deref.ensures.value) in
    let width : c.self.inside.width ≡ p.width = ap (λ (q : Program). q.width) c.self.view_is in
    let version : p.version ≡ first_version r = ap (λ (q : Program). q.version) (sym c.self.view_is)
    ∙ c.if-self-first_version.true ∙ c.first_version.ensures in (
      λ t. program_rounds r p cs codes version
          (subst (λ n. All (λ (code : Code). RoundsBy r n (code_of code)) cs) width (c.all_round_by.ensures.0 t)),
      λ h. c.all_round_by.ensures.1
          (subst (λ n. All (λ (code : Code). RoundsBy r n (code_of code)) cs) (sym width) (codes_round r p cs codes h)),
    )
