use Rattle.std.proofs.Common.{List, Some, None, subst, sym, unwrap_or}
use Rattle.std.proofs.lemmas.Result.{on_ok_weaker}
use Rattle.size_jobs.specs.Taking.{tasks_of}
use Rattle.size_jobs.specs.declared.watch.Seen.{Seen}
use Rattle.size_report.specs.Answers.{AreJobs}
use Rattle.size_report.specs.Options.{asked_task, said_by}
use Rattle.size_report.specs.Periods.{AreSorted, HasPeriod, between_of}
use Rattle.size_report.specs.inside.Sections.{sections_in}
use Rattle.size_report.proofs.AnswerLemmas.{none_added, one_added}
use Rattle.size_report.proofs.sections.put_asked.Goals as goal

-- src/sections.rt:245:9
pub returns-in_default : goal.returns-in_default
returns-in_default c =
    let sorted = c.in_ok-figures.figures.between.items in
    let has : HasPeriod (asked_task c.args.asked.now) c.args.found.task.now.jobs.items None = record {
      sorted = sorted;
      are = subst (λ (js : List Seen). AreSorted (between_of js) sorted) c.deref.ensures.value c.in_ok-figures.ensures;
      is = c.in_default.ensures;
    } in
    on_ok_weaker c.tell.result
    (none_added (said_by c.args.options.now) (tasks_of c.args.record.now.tasks) (asked_task c.args.asked.now) c.args.found c.requires.found c.requires.some (sections_in c.args.sections.now) (sections_in c.tell.new.self) has)
    c.tell.ensures

-- src/sections.rt:227:1
pub returns : goal.returns
returns c =
    let period = c.in-Some.period in
    let sorted = c.in_ok-figures.figures.between.items in
    let has : HasPeriod (asked_task c.args.asked.now) c.args.found.task.now.jobs.items (Some period) = record {
      sorted = sorted;
      are = subst (λ (js : List Seen). AreSorted (between_of js) sorted) c.deref.ensures.value c.in_ok-figures.ensures;
      is = c.in-Some.ensures;
    } in
    let js = c.args.found.task.now.jobs.items in
    let within = unwrap_or c.args.asked.now.within period in
    let given : AreJobs within c.deref-2.result.now c.in_ok-jobs.jobs.items = subst (λ w. AreJobs w c.deref-2.result.now c.in_ok-jobs.jobs.items) c.unwrap_or-within.ensures c.in_ok-jobs.ensures in
    let here : AreJobs within js c.in_ok-jobs.jobs.items = subst (λ (ss : List Seen). AreJobs within ss c.in_ok-jobs.jobs.items) c.deref-2.ensures.value given in
    let are : AreJobs within js c.deref-3.result.now = subst (λ jobs. AreJobs within js jobs) (sym c.deref-3.ensures.value) here in
    on_ok_weaker c.put_needed.result
    (one_added (said_by c.args.options.now) (tasks_of c.args.record.now.tasks) (asked_task c.args.asked.now) c.args.found c.requires.found c.requires.some (sections_in c.args.sections.now) (sections_in c.put_needed.new.sections) period has c.deref-3.result.now are)
    c.put_needed.ensures
