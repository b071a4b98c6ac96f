use Rattle.std.proofs.Common.{◌<◌, List, ℕ, length, subst, sym}
use Rattle.std.proofs.lemmas.Result.{on_ok_weaker}
use Rattle.size_jobs.specs.Taking.{tasks_of}
use Rattle.size_report.specs.Answers.{IsAnswer}
use Rattle.size_report.specs.Options.{said_by}
use Rattle.size_report.proofs.AnswerLemmas.{printed_for}
use Rattle.size_report.proofs.serving.size.Goals as goal

pub returns-2-clause-sized : goal.returns-2-clause-sized
returns-2-clause-sized g c =
    let o = said_by c.args.options.now in
    let told = c.in_ok-record.record in
    let printed : List ℕ = c.deref.result.now in
    let answers : (0 < length o.tasks → IsAnswer o (tasks_of told.tasks) told.processors printed) =
    λ some. subst (λ (text : List ℕ). IsAnswer o (tasks_of told.tasks) told.processors text) (sym c.deref.ensures.value) (c.in_ok-answer.ensures some) in
    on_ok_weaker c.print.result
    (λ whole. printed_for o told (g.W.Write.contents c.args.out.now) (g.W.Write.contents c.print.new.out) printed whole answers g.O.Fn c.args.files.now.source.open g.N.Fn c.args.files.now.source.read c.args.path.now c.in_ok-record.ensures)
    c.print.ensures.whole
