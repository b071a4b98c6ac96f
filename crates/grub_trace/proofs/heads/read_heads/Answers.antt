use Rattle.std.proofs.Common.{arith, inl, inr}
use Rattle.std.proofs.lemmas.List.{length-map}
use Rattle.grub_plan.specs.Contents.{contents}
use Rattle.grub_trace.proofs.PlanOfHeads.{heads_are, heads_planned, planned_count}
use Rattle.grub_trace.proofs.LineLemmas.{same_error}
use Rattle.grub_trace.proofs.heads.read_heads.Goals as goal

pub returns-in-Err-clause-fault : goal.returns-in-Err-clause-fault
returns-in-Err-clause-fault c =
    let len = length-map c.args.files.now (λ v. v.items) in
    planned_count (contents c.args.files.now) c.in-Err.fault (λ h. same_error {X = Unit {0}} _ _ (c.in-Err.ensures.many (omega (arith, len, h)))) (λ h. same_error {X = Unit {0}} _ _ (c.in-Err.ensures.nothing (omega (arith, len, h))))
    (elim c.in-Err.ensures.exact [ inl h ↦ inl (omega (arith, len, h)) | inr h ↦ inr (omega (arith, len, h)) ])

pub returns-clause-heads : goal.returns-clause-heads
returns-clause-heads c =
    let len = length-map c.args.files.now (λ v. v.items) in
    heads_are (contents c.args.files.now) c.heads_of.result (omega (arith, len, c.in_default.ensures.some)) (omega (arith, len, c.in_default.ensures.few)) c.heads_of.ensures.together c.heads_of.ensures.opening c.heads_of.ensures.heads c.heads_of.ensures.indexed

pub returns-clause-fault : goal.returns-clause-fault
returns-clause-fault c =
    let len = length-map c.args.files.now (λ v. v.items) in
    heads_planned (contents c.args.files.now) c.heads_of.result (omega (arith, len, c.in_default.ensures.some)) (omega (arith, len, c.in_default.ensures.few)) c.heads_of.ensures.fault c.heads_of.ensures.opening
