use Rattle.std.proofs.Common.{◌+◌, ◌<◌, ℕ, List, get_or, length, sym, subst}
use Rattle.grub_book.specs.Machine.{Machine}
use Rattle.grub_plan.specs.Limits.{ActFits}
use Rattle.grub_timeline.specs.Order.{left}
use Rattle.grub_timeline.specs.inside.Merge.{IsAhead, placed}
use Rattle.grub_timeline.proofs.Merging.{fits_here, less, midway_next}
use Rattle.grub_timeline.proofs.Sooner.{ahead_next, first_of}
use Rattle.grub_timeline.proofs.lines.ask_next.Goals as goal

pub ask_line-requires-clause-act : goal.ask_line-requires-clause-act
ask_line-requires-clause-act c =
    let r = c.requires in let plan = c.args.plan.now in let lead = c.args.lead in let done = c.args.done.now in let line = c.take-line.result in
    let first = first_of plan.scripts done lead line r.ahead c.take-line.ensures.line r.next in
    subst (λ (s : Machine). ActFits (length s.tasks) line.act) (sym r.midway.setup) (fits_here plan c.args.player.now done (placed lead.runqueue line) r.fits r.midway first).act

pub ask_line-requires-clause-moment : goal.ask_line-requires-clause-moment
ask_line-requires-clause-moment c =
    let r = c.requires in let plan = c.args.plan.now in let lead = c.args.lead in let done = c.args.done.now in let line = c.take-line.result in
    let first = first_of plan.scripts done lead line r.ahead c.take-line.ensures.line r.next in
    (fits_here plan c.args.player.now done (placed lead.runqueue line) r.fits r.midway first).moment

pub returns-clause-midway : goal.returns-clause-midway
returns-clause-midway c =
    let r = c.requires in let plan = c.args.plan.now in let lead = c.args.lead in let done = c.args.done.now in let line = c.take-line.result in let e = c.ask_line.ensures in
    let first = first_of plan.scripts done lead line r.ahead c.take-line.ensures.line r.next in
    midway_next plan c.args.player.now done (placed lead.runqueue line) r.fits r.midway first c.ask_line.new.player c.take-line.new.done c.take-line.ensures.done e.plays.playing e.plays.setup e.plays.last e.asked

pub returns-clause-ahead : goal.returns-clause-ahead
returns-clause-ahead c =
    let plan = c.args.plan.now in let lead = c.args.lead in let done = c.args.done.now in
    subst (λ (d : List ℕ). IsAhead plan.scripts d lead) (sym c.take-line.ensures.done) (ahead_next plan.scripts done lead (get_or done lead.runqueue 0 + 1) c.requires.ahead)

pub returns-clause-fewer : goal.returns-clause-fewer
returns-clause-fewer c =
    let r = c.requires in let plan = c.args.plan.now in let lead = c.args.lead in let done = c.args.done.now in let line = c.take-line.result in
    let first = first_of plan.scripts done lead line r.ahead c.take-line.ensures.line r.next in
    subst (λ (d : List ℕ). left plan.scripts d < left plan.scripts done) (sym c.take-line.ensures.done) (less plan c.args.player.now done (placed lead.runqueue line) r.fits r.midway first)
