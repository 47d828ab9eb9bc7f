use Rattle.std.proofs.Common.{ap₂, ap, ◌≡◌, ◌∙◌, codes, true}
use Rattle.std.proofs.lemmas.Result.{IfOk-weaker}
use Rattle.clap.specs.Words.{App, app_of, shape_of, with_subcommand, new_app}
use Rattle.clap.specs.Simple.{Shape, on_top, app_of_fields}
use Rattle.command_line.specs.Words.{with_inputs, line_app, replay_app}
use Rattle.command_line.proofs.command.line_command.Goals as goal

abbrev without_name : Shape → Shape
without_name s = record s { no_binary_name = true }

abbrev with_required : Shape → Shape
with_required s = record s { subcommand_required = true }

abbrev without_help : Shape → Shape
without_help s = record s { disable_help_subcommand = true }

pub returns : goal.returns
unfolding line_app replay_app
returns c =
    let one : app_of c.no_binary_name.result ≡ on_top without_name (app_of c.new.result) = ap app_of_fields c.no_binary_name.ensures in
    let two : app_of c.subcommand_required.result ≡ on_top with_required (app_of c.no_binary_name.result) = ap app_of_fields c.subcommand_required.ensures in
    let three : app_of c.disable_help_subcommand.result ≡ on_top without_help (app_of c.subcommand_required.result) = ap app_of_fields c.disable_help_subcommand.ensures in
    let base : app_of c.disable_help_subcommand.result ≡ on_top without_help (on_top with_required (on_top without_name (new_app (codes "ids_live")))) =
    three ∙ ap (on_top without_help) (two ∙ ap (on_top with_required) (one ∙ ap (on_top without_name) c.new.ensures.app)) in
    let replay : shape_of c.in_ok-with_inputs.field-0 ≡ replay_app.top =
    ap (λ (a : App). a.top) (c.in_ok-with_inputs.ensures.app ∙ ap with_inputs c.new-2.ensures.app) in
    IfOk-weaker c.subcommand.result _ _
    (λ m h. h.shape (c.in_ok-with_inputs.ensures.local ∙ c.new-2.ensures.local) ∙ ap₂ with_subcommand base replay) c.subcommand.ensures
