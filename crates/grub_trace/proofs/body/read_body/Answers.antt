use Rattle.std.proofs.Common.{refl}
use Rattle.std.proofs.lemmas.Result.{err_from_is_err_and}
use Rattle.grub_trace.specs.inside.Heads.{body_from}
use Rattle.grub_trace.specs.inside.Reading.{declarations}
use Rattle.grub_trace.proofs.HeadLaws.{body_gives, body_stops}
use Rattle.grub_trace.proofs.body.read_body.Goals as goal

pub returns-in_err-script : goal.returns-in_err-script
returns-in_err-script c =
    let p = err_from_is_err_and c.from_residual.result c.from_residual.ensures.1 in
    rw (p.1, p.2) (body_stops c.in_err-script.field-0.0 (declarations c.args.tasks.now) c.args.head.now c.requires.head c.in_err-script.ensures)

pub returns : goal.returns
returns c =
    let s = c.in_ok-script.ensures in
    (body_from c.args.head.now s.0, body_gives (declarations c.args.tasks.now) c.args.head.now s.0 c.requires.head s.1, record { queue = refl; script = s.2.script })
