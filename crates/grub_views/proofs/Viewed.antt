-- A text that was handed on is that of a view of the time line that was played.
use Rattle.std.proofs.Common.{◌≡◌, ℕ, List, Option, Result, OnErr, OnOk, subst}
use Rattle.std.proofs.lemmas.Result.{on_err_weaker, on_ok_weaker}
use Rattle.grub_book.specs.declared.event.Reading.{Reading}
use Rattle.grub_plan.specs.Plans.{PlanView}
use Rattle.text_bytes.specs.Writing.{HandsOn, HandsPart}
use Rattle.grub_timeline.specs.TimeLines.{IsTimeLine}
use Rattle.grub_timeline.specs.declared.told.ToldEntry.{ToldEntry}
use Rattle.grub_views.specs.Views.{HandsOnView, HandsPartOfView}

module _ (text_of : List ToldEntry → List Reading → List ℕ) (played plan : PlanView) (same : played ≡ plan) (told : List ToldEntry) (closing : List Reading) (line : IsTimeLine played told closing)
    (a b : Option (List ℕ)) (kept : List ℕ) {T E : Type 0} (r : Result T E) where
  pub view_whole : (left : List ℕ) → OnOk r (HandsOn a b kept (text_of told closing) left) → OnOk r (HandsOnView text_of plan a b kept left)
  view_whole left = on_ok_weaker r (λ h. record { told = told; closing = closing; line = subst (λ (p : PlanView). IsTimeLine p told closing) same line; handed = h })

  pub view_part : OnErr r (HandsPart a b kept (text_of told closing)) → OnErr r (HandsPartOfView text_of plan a b kept)
  view_part = on_err_weaker r (λ h. record { told = told; closing = closing; line = subst (λ (p : PlanView). IsTimeLine p told closing) same line; handed = h })
