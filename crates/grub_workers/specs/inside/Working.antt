-- What a worker keeps between its asks, and promises at its end.
use Rattle.std.specs.Prelude.{◌≡◌, ◌≤◌, ℕ, Some, List}
use Rattle.grub_book.specs.Machine.{Machine}
use Rattle.grub_book.specs.History.{calls_of}
use Rattle.grub_table.specs.declared.pass.Pass.{Pass}
use Rattle.grub_table.specs.declared.shared.Shared.{Shared}
use Rattle.grub_table.specs.Knowing.{Learns}
use Rattle.grub_table.specs.Calls.{terms, IsPassOf, number_of, share_of, seen, marks}
use Rattle.grub_plan.specs.Plans.{Line}
use Rattle.grub_plan.specs.declared.entry.Ask.{Ask}
use Rattle.grub_plan.specs.declared.entry.Answer.{Answer}
use Rattle.grub_plan.specs.declared.entry.Entry.{Entry}
use Rattle.grub_plan.specs.Asked.{Asked}
use Rattle.grub_plan.specs.inside.Keeping.{IsKept}
use Rattle.grub_workers.specs.declared.worker.Progress.{Progress}
use Rattle.grub_plan.specs.Answers.{AreAsksOf, event_told, events_told}
use Rattle.grub_workers.specs.inside.Entries.{mark_told, marks_of, marks_told}
use Rattle.grub_workers.specs.inside.Evidence.{IsBacked, AreBacked}

abbrev pub machine : Shared → Machine
machine s = (terms s).setup

-- one ask of the pass was answered so
pub record IsAsked (s : Shared) (tries : ℕ) (p : Pass) (ask : Ask) (q : Pass) (answer : Answer) : Type 0 where
  pub of : IsPassOf s q
  pub learns : Learns (share_of p) (share_of q) (event_told (number_of p) ask answer) (mark_told (number_of p) ask answer)
  pub backed : IsBacked (machine s) tries (number_of p) (seen q) (marks q) ask answer

-- the pass made the calls and marks of the entries, and knows what stands behind each ask that was given up
pub record IsToldBy (s : Shared) (tries i : ℕ) (p : Pass) (entries : List Entry) : Type 0 where
  pub of : IsPassOf s p
  pub number : number_of p ≡ i
  pub calls : calls_of i (seen p) ≡ events_told i entries
  pub own_marks : marks_of i (marks p) ≡ marks_told i entries
  pub tasks : AreAsksOf (machine s) entries
  pub backed : AreBacked (machine s) tries i (seen p) (marks p) entries

-- a worker's promise
pub record IsWorked (s : Shared) (tries i : ℕ) (script : List Line) (p : Pass) (entries : List Entry) : Type 0 where
  pub told : IsToldBy s tries i p entries
  pub asked : Asked i script entries

-- where a worker stands between two asks
pub record IsAtWork (s : Shared) (tries i : ℕ) (p : Pass) (w : Progress) : Type 0 where
  pub told : IsToldBy s tries i p w.entries.items
  pub kept : IsKept (machine s) w.entries.items w.wheel.timers

-- no `due` of the wheel was later
abbrev pub IsNotPast : ℕ → Progress → Type 0
IsNotPast m w = (k : ℕ) → w.wheel.last ≡ Some k → k ≤ m
