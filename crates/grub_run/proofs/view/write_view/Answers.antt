use Rattle.std.proofs.Common.{◌≡◌, ℕ, List, subst}
use Rattle.std.proofs.lemmas.Result.{on_ok_weaker}
use Rattle.grub_book.specs.declared.event.Reading.{Reading}
use Rattle.grub_timeline.specs.TimeLines.{IsTimeLine}
use Rattle.grub_timeline.specs.declared.told.ToldEntry.{ToldEntry}
use Rattle.grub_trace.specs.Meaning.{Reads}
use Rattle.grub_trace.specs.Naming.{plan_of}
use Rattle.grub_plan.specs.Plans.{PlanView}
use Rattle.grub_plan.specs.Contents.{contents}
use Rattle.grub_trace.specs.Tree.{Tree}
use Rattle.grub_run.specs.Shown.{IsShown, IsViewOf}
use Rattle.grub_run.specs.declared.view.FileView.{FileView}
use Rattle.grub_run.proofs.view.write_view.Goals as goal

-- a view of the time line of the plan of these files
shown : (view : FileView) (files : List (List ℕ)) (plan : PlanView) (told : List ToldEntry) (closing : List Reading) (text : List ℕ) (trees : List Tree)
    → Reads files trees → plan ≡ plan_of trees → IsTimeLine plan told closing → IsViewOf view plan told closing text → IsShown view files text
shown view files plan told closing text trees read is line whole = record {
  trees = trees;
  read = read;
  told = told;
  closing = closing;
  line = subst (λ p. IsTimeLine p told closing) is line;
  whole = subst (λ p. IsViewOf view p told closing text) is whole;
}

pub returns-clause-text : goal.returns-clause-text
returns-clause-text g c =
    let read = rw c.deref.ensures.value at c.in-Ok.ensures.read in
    on_ok_weaker c.write_played.result (λ x. (
      x.written.0,
      shown c.args.view (contents c.args.files.items) c.in-Ok.plan x.told x.closing x.written.0 read.0 read.1 read.2 x.line x.written.1,
      x.written.2,
    )) c.write_played.ensures.text
