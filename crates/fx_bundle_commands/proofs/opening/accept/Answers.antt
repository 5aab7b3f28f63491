use Rattle.std.proofs.Common.{◌≡◌, sym, ap, subst, ◌∙◌, ◌⊎◌, Err}
use Rattle.fx_lexer.specs.Faults as source
use Rattle.fx_cert_text.specs.BundleView.{bundle_of}
use Rattle.fx_bundle_commands.specs.OpeningView.{IsReadAs}
use Rattle.fx_bundle_commands.proofs.Accepting.{text_ends, source_ends, check_ends, meant}
use Rattle.fx_bundle_commands.proofs.opening.accept.Goals as goal

pub returns-in-Err-clause-failed : goal.returns-in-Err-clause-failed
returns-in-Err-clause-failed c =
    text_ends c.args.bytes.now c.in-Err.fault _ c.end_of_text.ensures c.in-Err.ensures.value

pub returns-in-Err-parse-clause-failed : goal.returns-in-Err-parse-clause-failed
returns-in-Err-parse-clause-failed c =
    let b = bundle_of c.in-Ok.bundle in
    let name = c.as_str.ensures.text ∙ ap (λ p. p.name) c.program.view_is in
    let is = meant b _ _ c.as_slice.ensures name in
    source_ends c.args.bytes.now b c.in-Err-parse.fault _
    (record {
      lawful = c.in-Ok.ensures.lawful;
      text_is = (c.bundle_text_law.ensures.takes c.args.bytes.now b c.in-Ok.ensures.value).0;
    }) c.end_of_source.ensures
    (subst (λ r. (r ≡ Err c.in-Err-parse.fault) ⊎
    (c.in-Err-parse.fault ≡ source.source_memory)) is c.in-Err-parse.ensures)

pub returns-in-Ok-check-clause-accepted : goal.returns-in-Ok-check-clause-accepted
returns-in-Ok-check-clause-accepted c =
    let b = bundle_of c.in-Ok.bundle in
    let name = c.as_str.ensures.text ∙ ap (λ p. p.name) c.program.view_is in
    let is = meant b _ _ c.as_slice.ensures name in
    subst (IsReadAs c.args.bytes.now b.source) (sym c.in-Ok-check.ensures.kept) (record {
      spelled = record {
        lawful = c.in-Ok.ensures.lawful;
        text_is = (c.bundle_text_law.ensures.takes c.args.bytes.now b c.in-Ok.ensures.value).0;
      };
      accepted = record { meant = sym is ∙ c.in-Ok-parse.ensures; accepted = c.in-Ok-check.ensures.accepted };
    })

pub returns-clause-failed : goal.returns-clause-failed
returns-clause-failed c =
    let b = bundle_of c.in-Ok.bundle in
    let name = c.as_str.ensures.text ∙ ap (λ p. p.name) c.program.view_is in
    let is = meant b _ _ c.as_slice.ensures name in
    check_ends c.args.bytes.now b c.in-Ok-parse.function c.in-Err-check.fault _
    (record {
      lawful = c.in-Ok.ensures.lawful;
      text_is = (c.bundle_text_law.ensures.takes c.args.bytes.now b c.in-Ok.ensures.value).0;
    })
    (sym is ∙ c.in-Ok-parse.ensures) c.end_of_check.ensures c.in-Err-check.ensures.refused
