use Rattle.std.proofs.lemmas.Result.{MatchResult-weaker, on_ok_weaker}
use Rattle.grub_plan.specs.Contents.{contents}
use Rattle.grub_run.proofs.TextLemmas.{fault_of_run, no_file_fault, output_of_run}
use Rattle.grub_run.proofs.texts.run_texts.Goals as goal

pub write_outcome-requires-clause-few : goal.write_outcome-requires-clause-few
write_outcome-requires-clause-few g c = let fits = c.in-Ok.ensures.limits in rw fits.each fits.setup.queues_most

pub returns-clause-text : goal.returns-clause-text
returns-clause-text g c =
    let read = c.in-Ok.ensures.read in
    let only = c.in-Ok.ensures.only in
    on_ok_weaker c.write_outcome.result (λ x. (x.0, output_of_run c.args.tries (contents c.args.files.now) c.in-Ok.plan x.0 read.0 read.1 read.2 (λ others reads. only others reads) x.1, x.2)) c.write_outcome.ensures.text

pub returns-clause-prefix : goal.returns-clause-prefix
returns-clause-prefix g c =
    let read = c.in-Ok.ensures.read in
    let only = c.in-Ok.ensures.only in
    MatchResult-weaker c.write_outcome.result c.write_outcome.ensures.prefix (λ _ done. done) (λ _ begun is. let x = begun is in (x.0, output_of_run c.args.tries (contents c.args.files.now) c.in-Ok.plan x.0 read.0 read.1 read.2 (λ others reads. only others reads) x.1, x.2))

pub returns-clause-fault : goal.returns-clause-fault
returns-clause-fault g c = MatchResult-weaker c.write_outcome.result c.write_outcome.ensures.fault (λ _ done. done) (fault_of_run (contents c.args.files.now))

pub returns-clause-readable : goal.returns-clause-readable
returns-clause-readable g c = λ trees reads. MatchResult-weaker c.write_outcome.result c.write_outcome.ensures.fault (λ _ done. done) no_file_fault
