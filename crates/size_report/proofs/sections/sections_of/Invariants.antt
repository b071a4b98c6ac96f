use Rattle.std.proofs.Common.{map, take}
use Rattle.std.specs.List.{FoldsTo}
use Rattle.size_jobs.specs.Taking.{tasks_of}
use Rattle.size_report.specs.Answers.{Adds, no_sections}
use Rattle.size_report.specs.Options.{asked_task, said_by}
use Rattle.size_report.specs.inside.Sections.{sections_in}
use Rattle.size_report.proofs.sections.sections_of.Given as goal

abbrev pub invariant-loop-asked : goal.invariant-loop-asked
invariant-loop-asked l =
    FoldsTo (Adds (said_by l.options) (tasks_of l.record.tasks)) no_sections (map asked_task (take l.asked-index l.asked-items)) (sections_in l.sections)
