use Rattle.std.proofs.Common.{refl, ◌≡◌, ◌≢◌, ℕ, ◌≤◌, false, Ok, Err, sym, ◌∙◌, subst, ⊎_elim}
use Rattle.grub_book.specs.declared.rules.TheConstants.{COUNT_MAX}
use Rattle.grub_book.specs.Sound.{IsKept}
use Rattle.grub_book.specs.Step.{refused}
use Rattle.grub_book.specs.declared.place.Record.{Record}
use Rattle.grub_book.specs.declared.place.Place.{Place}
use Rattle.grub_table.specs.Words.{task_word, PlaceFits}
use Rattle.grub_table.specs.declared.task.TaskWord.{TaskWord}
use Rattle.grub_table.proofs.Bounds.{PlaceFits-kept}
use Rattle.grub_table.proofs.Tasks.{claims_apart}
use Rattle.grub_table.specs.declared.shared.Shared.{Shared}
use Rattle.grub_table.specs.declared.seated.Seated.{Seated}
use Rattle.grub_table.specs.declared.view.Note.{Note}
use Rattle.grub_table.specs.inside.Between.{Tells, SawTask}
use Rattle.grub_table.specs.Calls.{share_on}
use Rattle.grub_table.specs.Histories.{record_in}
use Rattle.grub_table.specs.Layout.{shown}
use Rattle.grub_table.specs.inside.Tellings.{Sees, CallsIf, IsOthers, LoadedTask}
use Rattle.grub_table.proofs.Between.{tells_as}
use Rattle.grub_table.proofs.Starts.{word_says}
use Rattle.grub_table.proofs.shared.Shared.look_at_task.Goals as goal

module _ (s : Shared) (n : Note) (found : ℕ) (old new : Seated) (told : Tells s (LoadedTask n found) old new) where
  abbrev rec : Record
  rec = record_in s.terms (share_on new).seen n.task

  saw_free : (w : TaskWord) → PlaceFits w.place → task_word w.place w.count false ≡ found → Tells s (SawTask n.task n.op (Ok w)) old new
  saw_free w fits is = tells_as s (LoadedTask n found) (SawTask n.task n.op (Ok w)) old new told (
    told.of.0,
    told.of.1,
    ⊎_elim
        (λ (a : Sees s.terms (share_on old) (share_on new) × IsOthers s.terms (share_on old).number n.task found (share_on new)). absurd (claims_apart _ w.place _ w.count (sym a.1.0.2 ∙ sym is)))
        (λ (f : (found ≡ shown rec false) × IsKept s.terms.setup rec × CallsIf (refused rec.place rec.count n.op) s.terms (share_on old) n.task n.op (share_on new)).
        let e = word_says s w rec fits f.1 (is ∙ f.0) in
        (e.0, e.1, f.1, subst (λ (q : Place × ℕ). CallsIf (refused q.0 q.1 n.op) s.terms (share_on old) n.task n.op (share_on new)) (λ i. (sym e.0 i, sym e.1 i)) f.2))
        told.of.2,
  )

  saw_claimed : ((p : Place) (m : ℕ) → PlaceFits p → m ≤ COUNT_MAX → task_word p m false ≢ found) → Tells s (SawTask n.task n.op (Err found)) old new
  saw_claimed none =
      let P : Type 0 = Sees s.terms (share_on old) (share_on new) × IsOthers s.terms (share_on old).number n.task found (share_on new) in
      let seen : P = ⊎_elim (λ (a : P). a)
      (λ (f : (found ≡ shown rec false) × IsKept s.terms.setup rec × CallsIf (refused rec.place rec.count n.op) s.terms (share_on old) n.task n.op (share_on new)).
      absurd (none rec.place rec.count (PlaceFits-kept s.terms.setup rec s.limited f.1) f.1.count (sym f.0)))
      told.of.2 in
      tells_as s (LoadedTask n found) (SawTask n.task n.op (Err found)) old new told (told.of.0, told.of.1, seen.0, seen.1)

-- ---- the answers
pub returns-in-Some-clause-told : goal.returns-in-Some-clause-told
returns-in-Some-clause-told g c =
    let f = c.in-Some.ensures.found in
    subst (λ n. Tells c.args.self.now (SawTask n.task n.op (Ok c.in-Some.shown)) c.args.seated.now c.load_task-word.new.seated) c.requires.note
    (saw_free c.args.self.now g.J.Asked.note c.load_task-word.result c.args.seated.now c.load_task-word.new.seated c.load_task-word.ensures.told c.in-Some.shown f.0.place f.2)

pub returns-in-None-clause-told : goal.returns-in-None-clause-told
returns-in-None-clause-told g c =
    subst (λ n. Tells c.args.self.now (SawTask n.task n.op (Err c.load_task-word.result)) c.args.seated.now c.load_task-word.new.seated) c.requires.note
    (saw_claimed c.args.self.now g.J.Asked.note c.load_task-word.result c.args.seated.now c.load_task-word.new.seated c.load_task-word.ensures.told (c.in-None.ensures.none refl))
