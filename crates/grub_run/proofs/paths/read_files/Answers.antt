use Rattle.std.proofs.Common.{rules}
use Rattle.text_bytes.specs.Source.{Holds, IsOpened}
use Rattle.grub_run.proofs.FilesLemmas.{first_at, first_told, handed_on, held_next, of_reading}
use Rattle.grub_run.proofs.paths.read_files.Goals as goal

pub returns-in_err-bytes-clause-fault : goal.returns-in_err-bytes-clause-fault
returns-in_err-bytes-clause-fault g c = handed_on _ _ c.from_residual.ensures.1 (first_told _ _ _ c.args.paths.now c.loop-path.path-index _ _ _ c.loop-path-test.true c.loop-path.invariant c.in_err-bytes.ensures.fault)

pub returns-in_err-bytes-clause-reading : goal.returns-in_err-bytes-clause-reading
returns-in_err-bytes-clause-reading g c = handed_on _ _ c.from_residual.ensures.1 (of_reading _ _ _ _ _ c.in_err-bytes.ensures.fault)

pub returns-then-is_err-clause-fault : goal.returns-then-is_err-clause-fault
returns-then-is_err-clause-fault g c = (_, first_at _ _ _ (IsOpened g.O.Fn g.N.Fn c.args.source.now) c.args.paths.now c.loop-path.path-index _ _ c.loop-path-test.true c.loop-path.invariant c.in_ok-bytes.ensures.opened)

pub loop-path-preserved : goal.loop-path-preserved
loop-path-preserved g c =
    held_next (Holds g.O.Fn g.N.Fn c.args.source.now) c.args.paths.now c.loop-path.path-index _ _ c.in_ok-bytes.bytes _ c.loop-path-test.true c.loop-path.invariant c.in_ok-bytes.ensures.bytes (search rules)
