use Rattle.text_bytes.specs.Source.{Holds}
use Rattle.grub_run.proofs.FilesLemmas.{first_told, handed_on, held_more, of_reading}
use Rattle.grub_run.proofs.paths.read_each.Goals as goal

pub returns-in_err-read_one-clause-fault : goal.returns-in_err-read_one-clause-fault
returns-in_err-read_one-clause-fault g c =
    let (files, hold) = c.loop-path.invariant in
    handed_on _ _ c.from_residual.ensures.1 (first_told _ _ _ c.args.paths.now c.loop-path.path-index _ files _ c.loop-path-test.true hold c.in_err-read_one.ensures.fault)

pub returns-in_err-read_one-clause-reading : goal.returns-in_err-read_one-clause-reading
returns-in_err-read_one-clause-reading g c = handed_on _ _ c.from_residual.ensures.1 (of_reading _ _ _ _ _ c.in_err-read_one.ensures.fault)

pub loop-path-preserved : goal.loop-path-preserved
loop-path-preserved g c =
    let (files, hold) = c.loop-path.invariant in
    (_, held_more (Holds g.O.Fn g.N.Fn c.args.source.now) c.args.paths.now c.loop-path.path-index _ files _ c.loop-path-test.true hold c.in_ok-read_one.ensures.bytes)
