use Rattle.grub_views.proofs.Counting.{tallies_wider, tallies_within}
use Rattle.grub_views.proofs.sums.count_task.Goals as goal

pub returns-in-Some-clause-within : goal.returns-in-Some-clause-within
returns-in-Some-clause-within c = λ n all.
    tallies_within n c.in-Some.change.task c.args.tallies.now c.and.result _ (rw c.in-Some.is at c.requires.there) (c.and.ensures.within n) all

pub returns-in-None-clause-within : goal.returns-in-None-clause-within
returns-in-None-clause-within c = λ n all. tallies_wider n c.args.tallies.now all
