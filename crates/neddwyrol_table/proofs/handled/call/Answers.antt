use Rattle.std.proofs.Common.{rules, ◌≡◌}
use Rattle.neddwyrol_table.specs.Called.{IsBeside, table_of}
use Rattle.neddwyrol_table.specs.inside.Answered.{AnswersAsk}
use Rattle.neddwyrol_table.proofs.Calling.{called_by_handle}
use Rattle.neddwyrol_table.proofs.handled.call.Goals as goal

pub returns-clause-called : goal.returns-clause-called
returns-clause-called c = λ k l before after.
    let a = c.args in
    let s = c.deref-shared.result.now in
    let p = c.in-Some.pass in
    let q = c.replace_with.new.dest in
    let reply = c.replace_with.result in
    let home : s ≡ table_of k = search rules in
    let first : p ≡ k.pass = search rules in
    let next : q ≡ l.pass = search rules in
    let beside : IsBeside k l = search rules in
    let told : AnswersAsk s a.task a.op a.tries reply p q = search rules in
    (beside, called_by_handle s p q k l a.task a.op a.tries reply home first next told)
