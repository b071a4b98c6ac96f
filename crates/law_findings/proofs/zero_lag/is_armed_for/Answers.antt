use Rattle.std.proofs.Common.{rules, ◌↔◌, IsTrue}
use Rattle.law_findings.specs.ZeroLag.{IsNotLate, IsNotSoon}
use Rattle.law_findings.proofs.zero_lag.is_armed_for.Goals as goal

-- by what the two tests say
pub returns-then-is_not_soon : goal.returns-then-is_not_soon
returns-then-is_not_soon c =
    let soon : IsNotSoon c.args.most c.args.to = search rules in
    let late : IsTrue c.is_not_late.result ↔ IsNotLate c.args.least c.args.from = search rules in
    (λ t. record { not_soon = soon; not_late = late.0 t }, λ armed. late.1 armed.not_late)
