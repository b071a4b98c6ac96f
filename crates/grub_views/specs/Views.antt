-- A view of the time line of a plan, whose text is handed on.
use Rattle.std.specs.Prelude.{ℕ, List, Option}
use Rattle.grub_book.specs.declared.event.Reading.{Reading}
use Rattle.grub_plan.specs.Plans.{PlanView}
use Rattle.text_bytes.specs.Writing.{HandsOn, HandsPart}
use Rattle.grub_timeline.specs.TimeLines.{IsTimeLine}
use Rattle.grub_timeline.specs.declared.told.ToldEntry.{ToldEntry}

-- the text of the time line of the plan was handed on, behind what was kept
pub record HandsOnView (text_of : List ToldEntry → List Reading → List ℕ) (plan : PlanView) (a b : Option (List ℕ)) (kept left : List ℕ) : Type 0 where
  pub told : List ToldEntry
  pub closing : List Reading
  pub line : IsTimeLine plan told closing
  pub handed : HandsOn a b kept (text_of told closing) left

-- or a part of it
pub record HandsPartOfView (text_of : List ToldEntry → List Reading → List ℕ) (plan : PlanView) (a b : Option (List ℕ)) (kept : List ℕ) : Type 0 where
  pub told : List ToldEntry
  pub closing : List Reading
  pub line : IsTimeLine plan told closing
  pub handed : HandsPart a b kept (text_of told closing)
