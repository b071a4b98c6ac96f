use Rattle.std.proofs.Common.{◌≡◌, ℕ, subst}
use Rattle.probe_run.specs.Runs.{state_of}
use Rattle.probe_run.specs.State.{with_server}
use Rattle.probe_run.specs.Counting.{Goes}
use Rattle.probe_lines.specs.Servers.{started_with}
use Rattle.probe_values.proofs.Steps.{after}
use Rattle.probe_lines.proofs.servers.start_known.Goals as goal

pub returns : goal.returns
returns c = λ whole.
    let s = state_of c.args.run.now in let l = c.args.line in let p = c.args.place in
    let P : ℕ → Type 0 = λ n. Goes s (started_with (with_server s l.cpu) p n l) (state_of c.start_server.new.run) in
    subst P c.in_ok-number.ensures.number (after (λ r. with_server r l.cpu) (λ r. started_with r p c.in_ok-number.number l) s (state_of c.server.new.self) (state_of c.start_server.new.run)
    c.in_ok-number.ensures.state c.in_ok-number.ensures.first (c.in_ok-start_server.ensures whole))
