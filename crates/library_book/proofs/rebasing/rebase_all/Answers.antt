use Rattle.std.proofs.Common.{◌<◌, length, get_or, set, ap, ◌∙◌, arith}
use Rattle.std.proofs.lemmas.List.{get_or_default}
use Rattle.std.proofs.lemmas.List.Edits.{map_over_more}
use Rattle.library_book.specs.inside.Rebasing.{task_rebased}
use Rattle.library_book.specs.inside.Moves.{no_task}
use Rattle.library_book.proofs.rebasing.rebase_all.Goals as goal

pub loop-i-preserved : goal.loop-i-preserved
loop-i-preserved c =
    let i = c.loop-i.i in
    let were = c.args.tasks.now in
    let tasks = c.loop-i.tasks in
    let there : i < length were = omega arith in
    let under : i < length tasks = omega arith in
    ap (set tasks i) c.rebased.ensures ∙ map_over_more (task_rebased c.args.by) were tasks i (get_or tasks i no_task) there c.loop-i.invariant (get_or_default tasks i no_task (get_or tasks i no_task) under)
