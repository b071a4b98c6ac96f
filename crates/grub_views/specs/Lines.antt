-- The text of a time line.
use Rattle.std.specs.Prelude.{ℕ, ◌+◌, List, [], ◌∷◌, ◌++◌, Option, codes, decimal}
use Rattle.std.specs.List.{flat_map}
use Rattle.grub_views.specs.Views.{HandsOnView, HandsPartOfView}
use Rattle.grub_book.specs.declared.event.Reading.{Reading}
use Rattle.grub_plan.specs.Texts.{ask_text, answer_text, reading_text}
use Rattle.grub_plan.specs.Plans.{PlanView}
use Rattle.grub_timeline.specs.declared.told.ToldEntry.{ToldEntry}

-- the line of an entry, where the tasks have these names
unfoldable pub told_line : List (List ℕ) → ToldEntry → List ℕ
told_line names x =
    codes "at " ++ decimal x.entry.m ++ codes " on " ++ decimal x.runqueue ++ codes " " ++ ask_text names x.entry.ask ++ codes ": " ++ answer_text x.entry.answer ++ codes "\n"

-- the line of a closing reading
abbrev pub close_line : ℕ → Reading → List ℕ
close_line r closing = codes "close " ++ decimal r ++ codes " " ++ reading_text closing ++ codes "\n"

-- the lines of these closing readings, the first of which is of runqueue r and the next of r + 1
abbrev pub close_lines : ℕ → List Reading → List ℕ
close_lines r [] = []
close_lines r (c ∷ closing) = close_line r c ++ close_lines (r + 1) closing

-- a line for each entry, and then one for each closing reading
unfoldable pub timeline_lines : List (List ℕ) → List ToldEntry → List Reading → List ℕ
timeline_lines names told closing = flat_map (told_line names) told ++ close_lines 0 closing

-- the lines of the time line of the plan were handed on, behind what was kept
abbrev pub HandsOnTimeline : PlanView → Option (List ℕ) → Option (List ℕ) → List ℕ → List ℕ → Type 0
HandsOnTimeline plan a b kept left = HandsOnView (timeline_lines plan.names) plan a b kept left

-- or a part of them
abbrev pub HandsPartOfTimeline : PlanView → Option (List ℕ) → Option (List ℕ) → List ℕ → Type 0
HandsPartOfTimeline plan a b kept = HandsPartOfView (timeline_lines plan.names) plan a b kept
