use Rattle.std.proofs.Common.{◌∙◌, ap, refl}
use Rattle.std.proofs.lemmas.Result.{IfOk-weaker}
use Rattle.clap.specs.Simple.{app_of_fields}
use Rattle.grubrun.specs.CommandLine.{with_version}
use Rattle.grubrun.proofs.RoundsLemmas.{takes_none, with_other, with_rounds}
use Rattle.grubrun.specs.inside.Rounds.{IsCommand}
use Rattle.grubrun.proofs.command.run_command.Goals as goal

pub returns : goal.returns
returns c =
    let args = ap (λ f. f.args.items) c.version.ensures ∙ c.new.ensures.empty.0 in
    let groups = ap (λ f. f.groups.items) c.version.ensures ∙ c.new.ensures.empty.1 in
    let local = ap (λ f. f.has_globals) c.version.ensures ∙ c.new.ensures.local in
    let none : IsCommand _ c.version.result = record { rounds = takes_none c.version.result args groups local; line = ap app_of_fields c.version.ensures ∙ ap with_version c.new.ensures.app } in
    let one = with_other _ c.in_ok-arg.field-0 _ _ _ _ refl c.in_ok-arg.ensures none c.tries_arg.ensures.is c.tries_arg.ensures.rule in
    IfOk-weaker c.arg-2.result _ _ (λ two added. with_rounds _ two _ _ _ added one c.rounds_arg.ensures.is c.rounds_arg.ensures.parser c.rounds_arg.ensures.rule) c.arg-2.ensures
