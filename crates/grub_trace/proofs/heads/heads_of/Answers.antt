use Rattle.std.proofs.Common.{Err, ap, map, [], ◌∷◌, ◌++◌, ◌+◌, ◌∙◌, arith, subst, sym}
use Rattle.std.proofs.lemmas.List.{map_push}
use Rattle.grub_trace.specs.declared.fault.TraceFault.TheVariants as fault
use Rattle.grub_trace.specs.declared.heads.Heads.{Heads}
use Rattle.grub_trace.specs.inside.Bodies.{head_above}
use Rattle.grub_trace.specs.inside.Reading.{declarations}
use Rattle.grub_trace.proofs.HeadLaws.{HeadsOn, first_stop, have_heads, heads_done, heads_next, heads_none, heads_stop, pushed}
use Rattle.grub_trace.proofs.OpeningFaults.{heads_opening, heads_over, heads_past}
use Rattle.grub_trace.proofs.heads.heads_of.Goals as goal

pub loop-file-init : goal.loop-file-init
loop-file-init c = heads_none c.new-tasks.result (map head_above c.new-bodies.result.items) c.args.files.now c.new-tasks.ensures.none (ap (map head_above) c.new-bodies.ensures.items) c.new-tasks.ensures.indexed

pub returns-in-Err-NoMemory-clause-opening : goal.returns-in-Err-NoMemory-clause-opening
returns-in-Err-NoMemory-clause-opening c =
    let opening = rw c.deref.ensures.value at c.in-Err-NoMemory.ensures.opening in
    rw c.in-Err-NoMemory.field-0-is at (heads_opening {X = Heads} c.in-Err-NoMemory.field-0 c.loop-file.tasks (map head_above c.loop-file.bodies.items) c.loop-file.file c.args.files.now c.index-files-file.result c.loop-file-test.true c.index-files-file.is opening c.loop-file.invariant)

pub returns-in-Err-clause-fault : goal.returns-in-Err-clause-fault
returns-in-Err-clause-fault c =
    let gives = rw c.deref.ensures.value at c.in-Err.ensures.gives in
    (first_stop c.in-Err.fault c.loop-file.tasks (map head_above c.loop-file.bodies.items) c.loop-file.file c.args.files.now c.index-files-file.result (omega (arith, c.if-file-eq0.true)) c.loop-file-test.true c.index-files-file.is gives c.loop-file.invariant)

pub returns-in-Err-clause-opening : goal.returns-in-Err-clause-opening
returns-in-Err-clause-opening c =
    let opening = rw c.deref.ensures.value at c.in-Err.ensures.opening in
    (heads_opening c.in-Err.fault c.loop-file.tasks (map head_above c.loop-file.bodies.items) c.loop-file.file c.args.files.now c.index-files-file.result c.loop-file-test.true c.index-files-file.is opening c.loop-file.invariant)

pub returns-in-Err-2-clause-together : goal.returns-in-Err-2-clause-together
returns-in-Err-2-clause-together c =
    let gives = rw c.deref.ensures.value at c.in-Err.ensures.gives in
    (heads_stop c.in-Err.fault (declarations c.read_head.new.tasks) c.loop-file.tasks (map head_above c.loop-file.bodies.items) c.loop-file.file c.args.files.now c.index-files-file.result c.loop-file-test.true c.index-files-file.is gives c.loop-file.invariant)

pub returns-in-Err-2-clause-opening : goal.returns-in-Err-2-clause-opening
returns-in-Err-2-clause-opening c = heads_past c.loop-file.tasks (map head_above c.loop-file.bodies.items) c.loop-file.file c.args.files.now _ (omega (arith, c.if-file-eq0.false)) c.loop-file.invariant

pub returns-then-is_err-clause-opening : goal.returns-then-is_err-clause-opening
returns-then-is_err-clause-opening c =
    let gives = rw c.deref.ensures.value at c.in-Ok.ensures.gives in
    let next = heads_next c.loop-file.tasks c.read_head.new.tasks (map head_above c.loop-file.bodies.items) c.in-Ok.head c.loop-file.file c.args.files.now c.index-files-file.result c.loop-file-test.true c.index-files-file.is c.in-Ok.ensures.head c.in-Ok.ensures.file (c.in-Ok.ensures.indexed (λ x. absurd cc)) gives c.loop-file.invariant in
    heads_past c.read_head.new.tasks ((map head_above c.loop-file.bodies.items) ++ c.in-Ok.head ∷ []) (c.loop-file.file + 1) c.args.files.now _ (omega arith) next

pub loop-file-preserved : goal.loop-file-preserved
loop-file-preserved c =
    let gives = rw c.deref.ensures.value at c.in-Ok.ensures.gives in
    let next = heads_next c.loop-file.tasks c.read_head.new.tasks (map head_above c.loop-file.bodies.items) c.in-Ok.head c.loop-file.file c.args.files.now c.index-files-file.result c.loop-file-test.true c.index-files-file.is c.in-Ok.ensures.head c.in-Ok.ensures.file (c.in-Ok.ensures.indexed (λ x. absurd cc)) gives c.loop-file.invariant in
    subst (λ hs. HeadsOn c.read_head.new.tasks hs (c.loop-file.file + 1) c.args.files.now) (sym (ap (map head_above) (pushed c.push.result _ _ _ (sym c.is_err.ensures.value ∙ c.if-is_err.false) c.push.ensures.items) ∙ map_push head_above c.loop-file.bodies.items (record { head = c.in-Ok.head; file = Err fault.NoMemory }))) next

pub returns-clause-together : goal.returns-clause-together
returns-clause-together c = heads_done c.loop-file.tasks (map head_above c.loop-file.bodies.items) c.loop-file.file c.args.files.now c.loop-file-test.false c.loop-file.invariant

pub returns-clause-opening : goal.returns-clause-opening
returns-clause-opening c = heads_over c.loop-file.tasks (map head_above c.loop-file.bodies.items) c.loop-file.file c.args.files.now _ c.loop-file-test.false c.loop-file.invariant

pub returns-in-Err-2-clause-heads : goal.returns-in-Err-2-clause-heads
returns-in-Err-2-clause-heads c = have_heads c.loop-file.bodies.items c.loop-file.invariant.heads

pub returns-clause-heads : goal.returns-clause-heads
returns-clause-heads c = have_heads c.loop-file.bodies.items c.loop-file.invariant.heads
