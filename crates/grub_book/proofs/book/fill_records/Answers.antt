use Rattle.std.proofs.Common.{◌≡◌, ℕ, ◌<◌, ◌+◌, ◌++◌, ◌∷◌, [], List, length, get_or, map, take, arith, ap, sym, ◌∙◌}
use Rattle.std.proofs.lemmas.List.{map_more}
use Rattle.grub_book.specs.Bandwidth.{Reservation}
use Rattle.grub_book.specs.Machine.{task_at}
use Rattle.grub_book.specs.Sums.{Records, opening_record}
use Rattle.grub_book.specs.declared.place.Record.{Record}
use Rattle.grub_book.proofs.book.fill_records.Goals as goal

pushed : (f : Reservation → Record) (tasks : List Reservation) (t : ℕ) (old : Records) (x : Record) → t < length tasks → old ≡ map f (take t tasks) → x ≡ f (get_or tasks t (record { runtime = 0; period = 0 })) → old ++ x ∷ [] ≡ map f (take (t + 1) tasks)
pushed f tasks t old x here is e = rw (is, e) (sym (map_more f tasks t _ here))

pub loop-t-preserved : goal.loop-t-preserved
loop-t-preserved c =
    let tasks = c.args.setup.now.tasks in
    let t = c.loop-t.t in
    let count = c.task_count-t-end.ensures.value in
    let test = c.loop-t-test.true in
    let here : t < length tasks = omega (arith, count, test) in
    let is : c.params.result ≡ task_at c.args.setup.now t = c.params.ensures.value in
    record {
      machine = c.loop-t.invariant.machine;
      records = c.push_reserved.ensures.items ∙ pushed opening_record tasks t _ _ here c.loop-t.invariant.records (c.opening_record.ensures ∙ ap opening_record is);
      len = c.push_reserved.ensures.len ∙ ap (λ n. n + 1) c.loop-t.invariant.len;
      room = c.push_reserved.ensures.capacity ∙ c.loop-t.invariant.room;
    }
