use Rattle.std.proofs.Common.{refl}
use Rattle.clap.specs.Words.{found_of}
use Rattle.grubrun.proofs.Paths.{paths_are_names}
use Rattle.grubrun.proofs.Served.{mistake_served, reports_served, view_served}
use Rattle.grubrun.proofs.serve.serve_options.Goals as goal

pub returns-in-Reports : goal.returns-in-Reports
returns-in-Reports g c =
    let named = paths_are_names (found_of c.args.options.now.matches) c.get_strs.result _ c.unwrap_or-paths.result c.unwrap_or-paths.ensures refl c.get_strs.ensures in
    let ensures = c.serve_files.ensures in
    reports_served _ _ _ _ _ _ _ _ _ _ _ c.in-Reports.is named ensures.status ensures.done ensures.file ensures.nothing ensures.failed

pub returns-in-View : goal.returns-in-View
returns-in-View g c =
    let named = paths_are_names (found_of c.args.options.now.matches) c.get_strs.result _ c.unwrap_or-paths.result c.unwrap_or-paths.ensures refl c.get_strs.ensures in
    let ensures = c.serve_view.ensures in
    view_served _ _ _ _ _ _ _ _ _ _ _ _ c.in-View.is named ensures.status ensures.done ensures.file ensures.usage ensures.nothing ensures.failed

pub returns-in-NoView : goal.returns-in-NoView
returns-in-NoView g c = mistake_served _ _ _ _ _ _ _ _ _ _ _ c.in-NoView.is tt c.mistake.ensures refl

pub returns-in-NoPicture : goal.returns-in-NoPicture
returns-in-NoPicture g c = mistake_served _ _ _ _ _ _ _ _ _ _ _ c.in-NoPicture.is tt c.mistake-in-NoPicture.ensures refl

pub returns-in-EmptySpan : goal.returns-in-EmptySpan
returns-in-EmptySpan g c = mistake_served _ _ _ _ _ _ _ _ _ _ _ c.in-EmptySpan.is tt c.mistake-in-EmptySpan.ensures refl
