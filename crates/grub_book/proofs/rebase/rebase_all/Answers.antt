use Rattle.std.proofs.Common.{◌≡◌, ◌<◌, length, set, ap, sym, ◌∙◌, arith}
use Rattle.std.proofs.lemmas.List.Edits.{map_over_more}
use Rattle.grub_book.specs.Rebase.{rebased}
use Rattle.grub_book.proofs.rebase.rebase_all.Goals as goal

pub loop-held-preserved : goal.loop-held-preserved
loop-held-preserved c =
    let i = c.loop-held.held-index in
    let records = c.args.records.now in
    let there : i < length records = omega arith in
    let is : c.rebased.result ≡ rebased c.args.by c.held-item.result = c.rebased.ensures ∙ ap (rebased c.args.by) (sym c.held-item.is) in
    ap (set c.loop-held.records i) is ∙ map_over_more (rebased c.args.by) records c.loop-held.records i c.held-item.result there c.loop-held.invariant c.held-item.is
