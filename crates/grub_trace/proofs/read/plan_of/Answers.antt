use Rattle.std.proofs.Common.{◌∙◌, ap, map}
use Rattle.std.proofs.lemmas.Result.{err_from_is_err_and}
use Rattle.grub_trace.proofs.FilesInTurn.{plan_made}
use Rattle.grub_trace.proofs.LimitLaws.{plan_from_fits}
use Rattle.grub_trace.proofs.PlanOfHeads.{name_fault, read_fault}
use Rattle.grub_trace.proofs.read.plan_of.Goals as goal

pub new-requires : goal.new-requires
new-requires c =
    let files = c.requires.files.0 in
    let t = c.requires.files.1 in
    let all = c.in_ok-files.ensures c.args.heads.tasks c.requires.read _ t.together in
    plan_from_fits files _
    (plan_made files c.args.heads.tasks all.0 c.in_ok-files.files.items _ _ _ _ t.few t.some all.1 all.2
    (c.in_ok-scripts.ensures c.args.heads.tasks all.0 all.1)
    (c.in_ok-queues.ensures.queues ∙ ap (λ fs. map (λ f. f.queue) fs) c.deref.ensures.value)
    (c.in_ok-params.ensures.params ∙ ap (λ ts. map (λ t. t.params) ts) c.deref-2.ensures.value)
    c.in_ok-names.ensures.names)

pub returns : goal.returns
returns c = λ files t.
    let all = c.in_ok-files.ensures c.args.heads.tasks c.requires.read _ t.together in
    rw c.new.ensures
    (plan_made files c.args.heads.tasks all.0 c.in_ok-files.files.items _ _ _ _ t.few t.some all.1 all.2
    (c.in_ok-scripts.ensures c.args.heads.tasks all.0 all.1)
    (c.in_ok-queues.ensures.queues ∙ ap (λ fs. map (λ f. f.queue) fs) c.deref.ensures.value)
    (c.in_ok-params.ensures.params ∙ ap (λ ts. map (λ t. t.params) ts) c.deref-2.ensures.value)
    c.in_ok-names.ensures.names)

pub returns-in_err-files : goal.returns-in_err-files
returns-in_err-files c =
    let p = err_from_is_err_and c.from_residual.result c.from_residual.ensures.1 in
    λ files t. rw (p.1, p.2) (read_fault c.in_err-files.field-0.0 files t.some t.few (c.in_err-files.ensures c.args.heads.tasks c.requires.read _ t.together))

pub returns-in_err-scripts : goal.returns-in_err-scripts
returns-in_err-scripts c =
    let p = err_from_is_err_and c.from_residual-in_err-scripts.result c.from_residual-in_err-scripts.ensures.1 in
    λ files t.
    let all = c.in_ok-files.ensures c.args.heads.tasks c.requires.read _ t.together in
    rw (p.1, p.2) (name_fault c.in_err-scripts.field-0.0 files c.args.heads.tasks all.0 t.some t.few all.2 (c.in_err-scripts.ensures c.args.heads.tasks all.0 all.1))
