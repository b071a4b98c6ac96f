use Rattle.std.proofs.Common.{All, List, arith, ◌≡◌, ◌≤◌, max, subst, sym}
use Rattle.std.proofs.lemmas.List.{take_all}
use Rattle.std.proofs.lemmas.List.Elements.{All-more}
use Rattle.size_admission.specs.Together.{bandwidth_of}
use Rattle.size_admission.specs.declared.admission.Proposal.{Proposal}
use Rattle.size_admission.proofs.together.greatest.Goals as goal

pub loop-one-preserved : goal.loop-one-preserved
loop-one-preserved c =
    let most : c.max-most.result ≡ max c.loop-one.most c.bandwidth.result = c.max-most.ensures in
    let here : bandwidth_of c.one-item.result ≤ c.max-most.result = rw (sym c.bandwidth.ensures, most) (omega arith) in
    All-more (λ p. bandwidth_of p ≤ c.max-most.result) c.args.proposals.now c.loop-one.one-index c.one-item.result c.loop-one-test.true
    (λ k d within. let before = c.loop-one.invariant k d within in rw most (omega (arith, before)))
    (subst (λ p. bandwidth_of p ≤ c.max-most.result) c.one-item.is here)

pub returns : goal.returns
returns c = subst (λ (xs : List Proposal). All (λ p. bandwidth_of p ≤ c.loop-one.most) xs) (take_all c.loop-one.one-index c.args.proposals.now c.loop-one-test.false) c.loop-one.invariant
