use Rattle.std.proofs.Common.{◌∙◌, arith}
use Rattle.std.proofs.lemmas.Iterator.Adapters.{YieldsList-from_vec}
use Rattle.std.proofs.lemmas.Iterator.Consumers.{YieldsList-turn, YieldsList-end}
use Rattle.std.proofs.lemmas.Result.{err_from_is_err_and}
use Rattle.grub_trace.specs.inside.Reading.{declarations}
use Rattle.grub_trace.proofs.HeadLaws.{collects_all, collects_next, collects_none, collects_stop}
use Rattle.grub_trace.proofs.read.collect.Goals as goal

pub loop-body-init : goal.loop-body-init
loop-body-init c = λ t are. collects_none t c.in_ok-files.files.items c.args.bodies.items c.in_ok-files.ensures.items

pub loop-body-preserved : goal.loop-body-preserved
loop-body-preserved c =
    let made = c.into_iter-body-iterator.ensures.into_iter_gives in
    let turn = YieldsList-turn (YieldsList-from_vec {s = c.into_iter-body-iterator.result} _ made.0 (made.1 ∙ c.args.bodies.ok.0)) c.loop-body.yielded c.loop-body.body-iterator c.loop-body.yielded_by _ c.next.new.self c.in-Some.body c.in-Some.is c.next.ensures.steps in
    λ t are. rw c.in_ok-push.ensures.items (collects_next t c.loop-body.files.items c.loop-body.yielded c.args.bodies.items c.in_ok-file.field-0 c.in-Some.body turn.0 turn.1 c.in_ok-file.was are (c.loop-body.invariant t are))

pub returns-in_err-file : goal.returns-in_err-file
returns-in_err-file c =
    let made = c.into_iter-body-iterator.ensures.into_iter_gives in
    let turn = YieldsList-turn (YieldsList-from_vec {s = c.into_iter-body-iterator.result} _ made.0 (made.1 ∙ c.args.bodies.ok.0)) c.loop-body.yielded c.loop-body.body-iterator c.loop-body.yielded_by _ c.next.new.self c.in-Some.body c.in-Some.is c.next.ensures.steps in
    let p = err_from_is_err_and c.from_residual-in_err-file.result c.from_residual-in_err-file.ensures.1 in
    λ t are total together. rw (p.1, p.2) (collects_stop c.in_err-file.field-0.0 t (declarations t) c.loop-body.files.items c.loop-body.yielded c.args.bodies.items c.in-Some.body c.args.fault total turn.0 turn.1 c.in_err-file.was
    are together (c.loop-body.invariant t are))

pub returns-in-Some-fault : goal.returns-in-Some-fault
returns-in-Some-fault c =
    let made = c.into_iter-body-iterator.ensures.into_iter_gives in
    let all = YieldsList-end (YieldsList-from_vec {s = c.into_iter-body-iterator.result} _ made.0 (made.1 ∙ c.args.bodies.ok.0)) c.loop-body.yielded c.loop-body.body-iterator c.loop-body.yielded_by _ c.next.new.self c.in-None.is c.next.ensures.steps in
    λ t are total together. rw c.in-Some-fault.is at (collects_all t (declarations t) c.loop-body.files.items c.loop-body.yielded c.args.bodies.items c.args.fault total (omega (arith, all.1)) together (c.loop-body.invariant t are))

pub returns-in-None-fault : goal.returns-in-None-fault
returns-in-None-fault c =
    let made = c.into_iter-body-iterator.ensures.into_iter_gives in
    let all = YieldsList-end (YieldsList-from_vec {s = c.into_iter-body-iterator.result} _ made.0 (made.1 ∙ c.args.bodies.ok.0)) c.loop-body.yielded c.loop-body.body-iterator c.loop-body.yielded_by _ c.next.new.self c.in-None.is c.next.ensures.steps in
    λ t are total together. ((c.loop-body.invariant t are).done, (c.loop-body.invariant t are).are, rw c.in-None-fault.is at (collects_all t (declarations t) c.loop-body.files.items c.loop-body.yielded c.args.bodies.items c.args.fault total (omega (arith, all.1)) together (c.loop-body.invariant t are)))
