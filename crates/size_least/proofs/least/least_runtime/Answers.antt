use Rattle.std.proofs.Common.{◌≤◌, arith}
use Rattle.size_least.proofs.Monotone.{late_of-fall}
use Rattle.size_least.proofs.least.least_runtime.Goals as goal

pub returns-clause-least : goal.returns-clause-least
returns-clause-least c =
    let inv = c.loop-high.invariant in
    record {
      some = omega arith;
      room = inv.1;
      enough = inv.2;
      less = λ r some lt.
          let le : r ≤ c.loop-high.low = omega arith in
          let more = late_of-fall r c.loop-high.low c.args.period c.args.jobs.now some le (omega arith) in
          omega (arith, more, inv.3 (omega arith));
    }
