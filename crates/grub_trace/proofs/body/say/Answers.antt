use Rattle.grub_trace.specs.Tree.{names_of}
use Rattle.grub_trace.specs.inside.Reading.{declarations, line_view}
use Rattle.grub_trace.proofs.ScriptLaws.{script_known, script_unknown}
use Rattle.grub_trace.proofs.body.say.Goals.{in-None, in-Some}
use Rattle.grub_trace.proofs.body.say.Goals as goal

pub returns : goal.returns
returns c = λ first hs place on.
    let names = names_of (declarations c.args.tasks.now) in
    let said = line_view c.args.line in
    rw c.in_ok-push.ensures.items
    (elim c.match-act_in.branch [
      | in-Some w ↦ rw (w.script-is, w.act-is) (script_known names first said hs c.args.script.now.lines.items c.args.script.now.unknown w.in-Some.act w.in-Some.ensures on)
      | in-None w ↦ rw (w.script-is, w.act-is, w.or-script.ensures) (script_unknown names first c.args.number said hs c.args.script.now.lines.items c.args.script.now.unknown w.in-None.ensures place on)
    ])
