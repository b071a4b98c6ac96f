-- What a writer holds after a text was handed to it.
use Rattle.std.proofs.Common.{◌≡◌, ℕ, ◌++◌, List, [], take, drop, ap, ◌∙◌, sym, append_assoc, Option, Some, None, append-nil}
use Rattle.std.specs.Io.KnownBytes.{Appends}
use Rattle.std.proofs.lemmas.List.{take-append-drop}
use Rattle.grub_run.specs.declared.view.FileView.{FileView}
use Rattle.grub_run.specs.inside.Showing.{BeginsLine, WritesLine}
use Rattle.grub_run.specs.Shown.{IsViewOf}
use Rattle.grub_views.specs.Views.{HandsOnView, HandsPartOfView}
use Rattle.grub_plan.specs.Plans.{PlanView}
use Rattle.grub_timeline.specs.declared.told.ToldEntry.{ToldEntry}
use Rattle.grub_book.specs.declared.event.Reading.{Reading}
use Rattle.text_bytes.specs.Writing.{HandsOn, HandsPart}
use Rattle.grub_run.specs.Written.{AppendsPrefix}
use Rattle.grub_run.proofs.Known.{prefix_of}

-- a beginning of a text that came after an empty buffer
pub begun : (a b : Option (List ℕ)) (text : List ℕ) → HandsPart a b [] text → AppendsPrefix a b text
begun a b text h = prefix_of a b text [] text h (sym (append-nil text))

-- what was left of a text was written too
pub drained : (a b c : Option (List ℕ)) (text left : List ℕ) → HandsOn a b [] text left → Appends b c left → Appends a c text
drained None b c text left h k = tt
drained (Some xs) None c text left h k = absurd h
drained (Some xs) (Some ys) None text left h k = absurd k
drained (Some xs) (Some ys) (Some zs) text left h k =
    k ∙ ap (λ l. l ++ left) h.1 ∙ append_assoc xs h.0 left ∙ ap (λ l. xs ++ l) (sym h.2)

-- a beginning of what was left was written
pub drained_part : (a b c : Option (List ℕ)) (text left : List ℕ) → HandsOn a b [] text left → AppendsPrefix b c left → AppendsPrefix a c text
drained_part None b c text left h k = (0, tt)
drained_part (Some xs) None c text left h k = absurd h
drained_part (Some xs) (Some ys) None text left h k = absurd k.1
drained_part (Some xs) (Some ys) (Some zs) text left h k =
    let told = h.0 ++ take k.0 left in
    let more : zs ≡ xs ++ told = k.1 ∙ ap (λ l. l ++ take k.0 left) h.1 ∙ append_assoc xs h.0 (take k.0 left) in
    let whole : text ≡ told ++ drop k.0 left = h.2 ∙ ap (λ l. h.0 ++ l) (sym (take-append-drop k.0 left)) ∙ sym (append_assoc h.0 (take k.0 left) (drop k.0 left)) in
    prefix_of (Some xs) (Some zs) told (drop k.0 left) text ([], (told, more, sym (append-nil told))) whole

-- ---- a view that tells a time line by this text
module _ (view : FileView) (plan : PlanView) (text_of : List ToldEntry → List Reading → List ℕ) (tells : (told : List ToldEntry) (closing : List Reading) → IsViewOf view plan told closing (text_of told closing)) where
  pub line_begun : (a b : Option (List ℕ)) → HandsPartOfView text_of plan a b [] → BeginsLine view plan a b
  line_begun a b x =
      let text = text_of x.told x.closing in record { told = x.told; closing = x.closing; line = x.line; begun = (text, tells x.told x.closing, begun a b text x.handed) }

  pub line_drained : (a b c : Option (List ℕ)) (left : List ℕ) → HandsOnView text_of plan a b [] left → Appends b c left → WritesLine view plan a c
  line_drained a b c left x h =
      let text = text_of x.told x.closing in record { told = x.told; closing = x.closing; line = x.line; written = (text, tells x.told x.closing, drained a b c text left x.handed h) }

  pub line_drained_part : (a b c : Option (List ℕ)) (left : List ℕ) → HandsOnView text_of plan a b [] left → AppendsPrefix b c left → BeginsLine view plan a c
  line_drained_part a b c left x h =
      let text = text_of x.told x.closing in record { told = x.told; closing = x.closing; line = x.line; begun = (text, tells x.told x.closing, drained_part a b c text left x.handed h) }
