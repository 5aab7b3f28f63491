use Rattle.std.proofs.Common.{◌≡◌, ◌∙◌, ap₂, codes}
use Rattle.std.proofs.lemmas.Result.{IfOk-weaker}
use Rattle.clap.specs.Simple.{new_app, with_rule}
use Rattle.clap.specs.Words.{app_of}
use Rattle.fx_arguments.specs.App.{option_rule, required_option_rule, synth_app}
use Rattle.fx_arguments.proofs.settings.synth.Goals as goal

pub returns-clause-app : goal.returns-clause-app
returns-clause-app c =
    let one : app_of c.in_ok-command.command
    ≡ with_rule (new_app (codes "synth")) (required_option_rule (codes "width")) =
    c.in_ok-command.ensures.app ∙ ap₂ with_rule c.new-command.ensures.app c.required_option.ensures.rule in
    let two : app_of c.in_ok-command-2.command
    ≡ with_rule (with_rule (new_app (codes "synth")) (required_option_rule (codes "width")))
    (option_rule (codes "function")) =
    c.in_ok-command-2.ensures.app ∙ ap₂ with_rule one c.option.ensures.rule in
    let three = c.in_ok-command-3.ensures.app ∙ ap₂ with_rule two c.option-2.ensures.rule in
    let four = c.in_ok-command-4.ensures.app ∙ ap₂ with_rule three c.option-3.ensures.rule in
    let five = c.in_ok-command-5.ensures.app ∙ ap₂ with_rule four c.option-4.ensures.rule in
    IfOk-weaker c.with_argument-6.result _ (λ r. app_of r ≡ synth_app) (λ r e. e
    ∙ ap₂ with_rule five c.file.ensures.rule) c.with_argument-6.ensures.app
