use Rattle.neddwyrol_table.proofs.Empty.{nowhere}
use Rattle.neddwyrol_table.proofs.exports.nd_pass_table.Goals as goal

pub returns-in-Ok-clause-empty : goal.returns-in-Ok-clause-empty
returns-in-Ok-clause-empty c = λ empty. absurd (nowhere c.args.pass.at empty c.in-Ok.ensures.held.1)

pub returns-in-Err-clause-same : goal.returns-in-Err-clause-same
returns-in-Err-clause-same c = λ there. absurd (nowhere c.args.pass.at c.in-Err.ensures.empty.1 there)
