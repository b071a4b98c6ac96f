use Rattle.std.proofs.Common.{Result, ap, sym, ◌∙◌}
use Rattle.grub_trace.specs.declared.fault.Kind.{Kind}
use Rattle.grub_trace.specs.inside.Reading.{Read, at_line, declarations, of_file}
use Rattle.grub_trace.proofs.LineLemmas.{task_fits, task_stops, task_taken}
use Rattle.grub_trace.proofs.NameLemmas.{name_is_text}
use Rattle.grub_trace.proofs.tasks.declare.Goals as goal

pub returns-in-Err-clause-takes : goal.returns-in-Err-clause-takes
returns-in-Err-clause-takes c = λ version.
    rw c.fault.ensures (ap (λ (x : Result Read Kind). of_file c.args.line.file (at_line c.args.line.line x)) (task_stops c.in-Err.kind version (declarations c.args.tasks.now) c.args.name.now c.args.runtime.now c.args.period.now (sym c.in-Err.is ∙ c.declared_params.ensures)))

pub push-requires-clause-room : goal.push-requires-clause-room
push-requires-clause-room c = (task_fits c.in-Ok.params (declarations c.args.tasks.now) c.args.name.now c.args.runtime.now c.args.period.now (sym c.in-Ok.is ∙ c.declared_params.ensures)).0

pub push-requires-clause-fresh : goal.push-requires-clause-fresh
push-requires-clause-fresh c = rw c.in-Ok-from_utf8.ensures.cases.0 (task_fits c.in-Ok.params (declarations c.args.tasks.now) c.args.name.now c.args.runtime.now c.args.period.now (sym c.in-Ok.is ∙ c.declared_params.ensures)).1

pub unreachable-requires : goal.unreachable-requires
unreachable-requires c = c.in_default.ensures.cases.0 (name_is_text c.args.name.now c.requires.name_in)

pub returns-clause-takes : goal.returns-clause-takes
returns-clause-takes c = λ version.
    rw (c.in_ok-push.ensures.declared, c.in-Ok-from_utf8.ensures.cases.0) (task_taken c.in-Ok.params version (declarations c.args.tasks.now) c.args.name.now c.args.runtime.now c.args.period.now (sym c.in-Ok.is ∙ c.declared_params.ensures))
