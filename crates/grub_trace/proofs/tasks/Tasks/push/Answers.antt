use Rattle.std.proofs.Common.{arith, refl}
use Rattle.std.specs.Prelude.{string_bytes}
use Rattle.std.proofs.lemmas.List.{map_push, length_push, length-map}
use Rattle.std.proofs.lemmas.Map.Text.{hash_map_updates_text}
use Rattle.grub_trace.specs.inside.Reading.{task_view}
use Rattle.grub_trace.proofs.TaskLemmas.{index_push}
use Rattle.grub_trace.proofs.tasks.Tasks.push.Goals as goal

pub returns-clause-indexed : goal.returns-clause-indexed
returns-clause-indexed c = record {
  few = rw (c.in_ok-push.ensures.items, map_push, length_push) (omega (arith, c.requires.room));
  found = λ q.
      let u = hash_map_updates_text (string_bytes c.in_ok-key.key) c.args.self.now.index c.insert.new.self _ c.in_ok-insert.ensures.updates q in
      let k = c.in_ok-key.ensures.ok in
      let n = c.in_ok-name.ensures.ok in
      let list = c.args.self.now.list in
      rw c.in_ok-push.ensures.items (index_push list.items (record { name = c.in_ok-name.name; params = c.args.params }) c.args.name.now q c.len-number.result _ _ n c.requires.fresh (omega (arith, c.len-number.ensures, list.ok.0)) (c.requires.indexed.found q) (rw k at u));
}

pub overflow_cast-number : goal.overflow_cast-number
overflow_cast-number c =
    let list = c.args.self.now.list in
    omega (arith, c.requires.room, list.ok.0, length-map list.items task_view)

pub returns-clause-declared : goal.returns-clause-declared
returns-clause-declared c = rw (c.in_ok-push.ensures.items, map_push, c.in_ok-name.ensures.ok) refl
