use Rattle.std.proofs.Common.{◌≡◌, ◌∙◌, ap₂, codes}
use Rattle.std.proofs.lemmas.Result.{IfOk-weaker}
use Rattle.clap.specs.Simple.{new_app, with_rule}
use Rattle.clap.specs.Words.{app_of}
use Rattle.fx_arguments.specs.App.{node_app, required_option_rule}
use Rattle.fx_arguments.proofs.settings.node.Goals as goal

pub returns-clause-app : goal.returns-clause-app
returns-clause-app c =
    let one : app_of c.in_ok-command.command
    ≡ with_rule (new_app (codes "node")) (required_option_rule (codes "units")) =
    c.in_ok-command.ensures.app ∙ ap₂ with_rule c.new-command.ensures.app c.required_option.ensures.rule in
    IfOk-weaker c.with_argument-2.result _ (λ r. app_of r ≡ node_app) (λ r e. e
    ∙ ap₂ with_rule one c.file.ensures.rule) c.with_argument-2.ensures.app
