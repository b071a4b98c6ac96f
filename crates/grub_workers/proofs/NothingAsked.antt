-- A worker that has asked nothing yet.
use Rattle.std.proofs.Common.{◌≡◌, ℕ, [], length, sym, ap, subst}
use Rattle.std.proofs.lemmas.List.Elements.{All-nil}
use Rattle.std.specs.FinMap as map
use Rattle.grub_book.specs.History.{calls_of}
use Rattle.grub_table.specs.declared.pass.Pass.{Pass}
use Rattle.grub_table.specs.declared.shared.Shared.{Shared}
use Rattle.grub_table.specs.Calls.{IsNew, marks, seen}
use Rattle.grub_plan.specs.declared.entry.Entry.{Entry}
use Rattle.grub_plan.specs.Plans.{IsAskOf}
use Rattle.grub_workers.specs.declared.worker.Progress.{Progress}
use Rattle.grub_workers.specs.inside.Entries.{marks_of}
use Rattle.grub_workers.specs.inside.Evidence.{IsBacked}
use Rattle.grub_plan.proofs.Kept.{kept_nothing}
use Rattle.grub_workers.specs.inside.Working.{IsAtWork, IsToldBy, machine}

told_nothing : (s : Shared) (tries i : ℕ) (p : Pass) → IsNew s i p → IsToldBy s tries i p []
told_nothing s tries i p fresh = record {
  of = fresh.of;
  number = fresh.number;
  calls = ap (calls_of i) fresh.seen;
  own_marks = ap (marks_of i) fresh.marks;
  tasks = All-nil (λ (e : Entry). IsAskOf (length (machine s).tasks) e.ask);
  backed = All-nil (λ (e : Entry). IsBacked (machine s) tries i (seen p) (marks p) e.ask e.answer);
}

pub at_work_first : (s : Shared) (tries i : ℕ) (p : Pass) (w : Progress) → IsNew s i p → w.entries.items ≡ [] → w.wheel.timers ≡ map.empty → IsAtWork s tries i p w
at_work_first s tries i p w fresh none empty = record {
  told = subst (IsToldBy s tries i p) (sym none) (told_nothing s tries i p fresh);
  kept = kept_nothing (machine s) w.entries.items w.wheel.timers none empty;
}
