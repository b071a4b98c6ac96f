-- A recorded history goes on over a rebased book as it would have.
use Rattle.std.proofs.Common.{◌≡◌, ◌≢◌, inl, inr, ℕ, ◌+◌, ◌<◌, ◌≤◌, ◌==◌, ◌||◌, nat_lt, Bool, true, false, cond, List, [], ◌∷◌, length, set, Option, Some, None, IfSome, refl, sym, ap, subst, ◌∙◌, arith}
use Rattle.std.specs.Option.{option_map}
use Rattle.std.proofs.lemmas.Bool.{cases_eq, lt-ltb, ltb-false, ltb-true, ne_eqb}
use Rattle.std.proofs.lemmas.List.{get_or-set_same, get_or-set_other, length-set}
use Rattle.grub_book.specs.Bandwidth.{bandwidth_of}
use Rattle.grub_book.specs.Machine.{Machine, queue_at}
use Rattle.grub_book.specs.Sums.{Records, record_at, this_of}
use Rattle.grub_book.specs.Sound.{IsKept, IsSound}
use Rattle.grub_book.specs.Step.{refused_charge, runqueue_of, step}
use Rattle.grub_book.specs.Rebase.{first_held, book_rebased, earlier}
use Rattle.grub_book.specs.Earlier.{IsSince, IsLasting, forgotten_of}
use Rattle.grub_book.specs.Earlier as below
use Rattle.grub_book.specs.declared.event.Reading.{Reading}
use Rattle.grub_book.specs.declared.op.Op.{Op}
use Rattle.grub_book.specs.declared.op.Op.TheVariants.{Leave}
use Rattle.grub_book.specs.declared.place.State.{State}
use Rattle.grub_book.specs.declared.place.State.TheVariants.{Contending, NonContending, Inactive}
use Rattle.grub_book.specs.declared.place.Place.{Place}
use Rattle.grub_book.specs.declared.place.Place.TheVariants.{Away, Gone, On}
use Rattle.grub_book.specs.declared.place.Record.{Record}
use Rattle.grub_book.specs.declared.reply.Reply.{Reply}
use Rattle.grub_book.specs.declared.reply.Reply.TheVariants.{Joined, Woken, Waiting, Charged, Gone as GoneReply, NotOn, AlreadyOn, NotContending, Worn, Early, Full, DeadlineOverflow}
use Rattle.grub_book.proofs.Going.{IsEarlier, fits_earlier, goes, rebased_earlier, set_earlier}
use Rattle.grub_book.proofs.Soundness.{sound_step}
use Rattle.library_book.specs.Answer.{answer, answer_to, declined, is_move, is_op}
use Rattle.library_book.specs.Asked.{may_ask, op_of, op_fits, reply_of}
use Rattle.library_book.specs.Earlier.{op_earlier, reply_earlier, event_earlier, IsRecordedSince, AreRecordedSince, history_earlier}
use Rattle.library_book.specs.Move.{refused_move, moved_to, moved_in, move_step, reply_from, unless_refused}
use Rattle.library_book.specs.Recorded.{IsAnswered, IsOfBook, IsRecordedFrom, book_after}
use Rattle.library_book.specs.declared.asked.NdEvent.{NdEvent}
use Rattle.library_book.specs.declared.asked.NdOp.{NdOp}
use Rattle.library_book.specs.declared.asked.NdReply.{NdReply}
use Rattle.library_book.specs.declared.asked.TheConstants.{MOVE}
use Rattle.library_book.specs.declared.codes.TheConstants.{NO_TASK}
use Rattle.library_book.proofs.Moves.{free_place, less_left, more_reached, some_same, sums_other}
use Rattle.library_book.proofs.Telling.{answer_is, asked, both, call_after, fits_is, is_asked, is_fits, look_after, may_be}

-- what holds at each kind of an op, and where there is no such op
of_kinds : (P : ℕ → Type 0) (k : ℕ) → P 1 → P 2 → P 3 → P 4 → P 5 → P 6 → P 7 → P 8
    → ((k == 1) ≡ false → (k == 2) ≡ false → (k == 3) ≡ false → (k == 4) ≡ false → (k == 5) ≡ false → (k == 6) ≡ false → (k == 7) ≡ false → (k == 8) ≡ false → P k) → P k
of_kinds P k a b c d e f g h other =
    elim (cases_eq k 1) [
      | inl is ↦ subst P (sym is) a
      | inr n1 ↦
          elim (cases_eq k 2) [
            | inl is ↦ subst P (sym is) b
            | inr n2 ↦
                elim (cases_eq k 3) [
                  | inl is ↦ subst P (sym is) c
                  | inr n3 ↦
                      elim (cases_eq k 4) [
                        | inl is ↦ subst P (sym is) d
                        | inr n4 ↦
                            elim (cases_eq k 5) [
                              | inl is ↦ subst P (sym is) e
                              | inr n5 ↦
                                  elim (cases_eq k 6) [
                                    | inl is ↦ subst P (sym is) f
                                    | inr n6 ↦
                                        elim (cases_eq k 7) [
                                          | inl is ↦ subst P (sym is) g
                                          | inr n7 ↦
                                              elim (cases_eq k 8) [
                                                | inl is ↦ subst P (sym is) h
                                                | inr n8 ↦
                                                    other (ne_eqb k 1 n1) (ne_eqb k 2 n2) (ne_eqb k 3 n3) (ne_eqb k 4 n4) (ne_eqb k 5 n5) (ne_eqb k 6 n6) (ne_eqb k 7 n7) (ne_eqb k 8 n8)
                                              ]
                                        ]
                                  ]
                            ]
                      ]
                ]
          ]
    ]

lasting_told : (reply : Reply) → (reply_of reply).kind ≢ 17 → (reply_of reply).kind ≢ 21 → IsLasting reply
lasting_told Worn unworn within = absurd (unworn refl)
lasting_told DeadlineOverflow unworn within = absurd (within refl)
lasting_told reply unworn within = tt

some_since : (o : Option Op) (it : Op) (P : Op → Type 0) → o ≡ Some it → IfSome o P → P it
some_since o it P is holds = subst (λ (z : Option Op). IfSome z P) is holds

module _ (by f : ℕ) where
  op_told : (op : NdOp) → op_of (op_earlier by f op) ≡ option_map (below.op_earlier by f) (op_of op)
  op_told op =
      of_kinds (λ k. op_of (op_earlier by f (record op { kind = k })) ≡ option_map (below.op_earlier by f) (op_of (record op { kind = k }))) op.kind refl refl refl refl refl refl refl refl
      (λ n1 n2 n3 n4 n5 n6 n7 n8. rw (n5, n1, n2, n3, n1, n2, n3, n4, n5, n6, n7, n8) refl)

  reply_told : (reply : Reply) → reply_of (below.reply_earlier by f reply) ≡ reply_earlier by f (reply_of reply)
  reply_told (Joined q d) = refl
  reply_told (Woken q d) = refl
  reply_told (Waiting ticket z) = refl
  reply_told (Charged k q d dq) = refl
  reply_told (Early z) = refl
  reply_told reply = refl

  -- the replies of a move
  move_told : (r : ℕ) (place : Place) (reply : Reply) → refused_move r place ≡ Some reply → reply_of reply ≡ reply_earlier by f (reply_of reply)
  move_told r Gone reply h = subst (λ (z : Reply). reply_of z ≡ reply_earlier by f (reply_of z)) (some_same GoneReply reply h) refl
  move_told r Away reply h = subst (λ (z : Reply). reply_of z ≡ reply_earlier by f (reply_of z)) (some_same NotOn reply h) refl
  move_told r (On from state) reply h = tested (from == r) state h
    where
      tested : (b : Bool) (state : State) → cond b (Some (AlreadyOn from)) (refused_charge state) ≡ Some reply → reply_of reply ≡ reply_earlier by f (reply_of reply)
      tested true state h = subst (λ (z : Reply). reply_of z ≡ reply_earlier by f (reply_of z)) (some_same (AlreadyOn from) reply h) refl
      tested false Contending h = absurd cc
      tested false NonContending h = subst (λ (z : Reply). reply_of z ≡ reply_earlier by f (reply_of z)) (some_same NotContending reply h) refl
      tested false Inactive h = subst (λ (z : Reply). reply_of z ≡ reply_earlier by f (reply_of z)) (some_same NotContending reply h) refl

-- a book stays sound where a task moves
module _ (s : Machine) (book : Records) (sound : IsSound s book) (t : ℕ) (task : t < length s.tasks) (r : ℕ) (there : r < length s.queues) where
  abbrev x : Record
  x = record_at book t

  here : t < length book
  here = let each = sound.one_each in omega (arith, task, each)

  module _ (from : ℕ) (place : x.place ≡ On from Contending) (ne : from ≢ r) (room : this_of book r + bandwidth_of x.params ≤ (queue_at s r).most) where
    admitted : (k : ℕ) → k < length s.queues → this_of (set book t (moved_to r x)) k ≤ (queue_at s k).most
    admitted k inside =
        elim (cases_eq k r) [
          | inl same ↦
              let is = (more_reached book t here r from place ne).1 in
              let most : this_of (set book t (moved_to r x)) r ≤ (queue_at s r).most = omega (arith, is, room) in
              subst (λ (j : ℕ). this_of (set book t (moved_to r x)) j ≤ (queue_at s j).most) (sym same) most
          | inr nr ↦
              let was = sound.admitted k inside in
              elim (cases_eq k from) [
                | inl same ↦
                    let is = (less_left book t here r from place ne).1 in
                    let were : this_of book from ≤ (queue_at s from).most = subst (λ (j : ℕ). this_of book j ≤ (queue_at s j).most) same was in
                    let less : this_of (set book t (moved_to r x)) from ≤ (queue_at s from).most = omega (arith, is, were) in
                    subst (λ (j : ℕ). this_of (set book t (moved_to r x)) j ≤ (queue_at s j).most) (sym same) less
                | inr nf ↦
                    let is : this_of (set book t (moved_to r x)) k ≡ this_of book k = ap (λ (n : Reading). n.this) (sums_other book t here r from place ne k nf nr) in
                    omega (arith, is, was)
              ]
        ]

    sound_put : IsSound s (set book t (moved_to r x))
    sound_put =
        let was = sound.kept t task in
        let kept : IsKept s (moved_to r x) = record { reservation = was.reservation; server = was.server; count = was.count; there = there } in
        record {
          one_each = length-set book t (moved_to r x) ∙ sound.one_each;
          kept = λ u inside. elim (cases_eq u t) [
            | inl same ↦ subst (λ (j : ℕ). IsKept s (record_at (set book t (moved_to r x)) j)) (sym same) (subst (IsKept s) (sym (get_or-set_same book t (moved_to r x) _ here)) kept)
            | inr other ↦ subst (IsKept s) (sym (get_or-set_other book t u (moved_to r x) _ other)) (sound.kept u inside)
          ];
          admitted = admitted;
        }

  sound_tested : (b : Bool) → refused_move r x.place ≡ None → nat_lt (queue_at s r).most (this_of book r + bandwidth_of x.params) ≡ b
      → IsSound s (cond {A = Records × NdReply} b (book, reply_of Full) (set book t (moved_to r x), reply_from (runqueue_of x.place Leave))).0
  sound_tested true free is = sound
  sound_tested false free is =
      let was = free_place r x.place free in
      sound_put was.0 was.1 was.2 (ltb-false (queue_at s r).most (this_of book r + bandwidth_of x.params) is)

  sound_refused : (o : Option Reply) → refused_move r x.place ≡ o → IsSound s (unless_refused o book (moved_in s book t r)).0
  sound_refused (Some reply) is = sound
  sound_refused None is = sound_tested (nat_lt (queue_at s r).most (this_of book r + bandwidth_of x.params)) is refl

  sound_move : IsSound s (move_step s book t r).0
  sound_move = sound_refused (refused_move r x.place) refl

  -- and the move of an earlier book
  module _ (by : ℕ) (counts : ℕ → ℕ) (other : Records) (is : IsEarlier by counts book other) where
    abbrev f : ℕ
    f = counts t

    abbrev Goes : Records × NdReply → Records × NdReply → Type 0
    Goes now then = (then.1 ≡ reply_earlier by f now.1) × IsEarlier by counts now.0 then.0

    abbrev moved_by : Bool → Records → Record → Records × NdReply
    moved_by b rs z = cond {A = Records × NdReply} b (rs, reply_of Full) (set rs t (moved_to r z), reply_from (runqueue_of z.place Leave))

    goes_tested : (b : Bool) → refused_move r x.place ≡ None → Goes (moved_by b book x) (moved_by b other (earlier by f x))
    goes_tested true free = (refl, is)
    goes_tested false free =
        let was = free_place r x.place free in
        let ahead = is.ahead t here in
        (refl, set_earlier s by counts book other t (moved_to r x) is here (record { deadline = λ k e. ahead.deadline was.0 was.1; count = ahead.count }))

    goes_moved : refused_move r x.place ≡ None → Goes (moved_in s book t r) (moved_in s other t r)
    goes_moved free =
        let sums : this_of other r ≡ this_of book r = ap (λ (n : Reading). n.this) (is.readings r) in
        let alike : moved_in s other t r ≡ moved_by (nat_lt (queue_at s r).most (this_of book r + bandwidth_of x.params)) other (earlier by f x) =
        ap (λ (z : Record). moved_by (nat_lt (queue_at s r).most (this_of other r + bandwidth_of z.params)) other z) (is.records t here)
        ∙ ap (λ n. moved_by (nat_lt (queue_at s r).most (n + bandwidth_of x.params)) other (earlier by f x)) sums in
        subst (Goes (moved_in s book t r)) (sym alike) (goes_tested (nat_lt (queue_at s r).most (this_of book r + bandwidth_of x.params)) free)

    goes_refused : (o : Option Reply) → refused_move r x.place ≡ o → Goes (unless_refused o book (moved_in s book t r)) (unless_refused o other (moved_in s other t r))
    goes_refused (Some reply) e = (move_told by f r x.place reply e, is)
    goes_refused None e = goes_moved e

    goes_move : Goes (move_step s book t r) (move_step s other t r)
    goes_move =
        let same : refused_move r (record_at other t).place ≡ refused_move r x.place = ap (λ (z : Record). refused_move r z.place) (is.records t here) in
        subst (λ (o : Option Reply). Goes (move_step s book t r) (unless_refused o other (moved_in s other t r))) (sym same) (goes_refused (refused_move r x.place) refl)

-- a call of a move
module _ (s : Machine) (book : Records) (x : NdEvent) (is : x.op.kind ≡ MOVE) where
  move_none : op_of x.op ≡ None
  move_none = subst (λ k. op_of (record x.op { kind = k }) ≡ None) (sym is) refl

  move_there : is_op (length s.queues) x.op ≡ true → is_move (length s.queues) x.op ≡ true
  move_there h = subst (λ (o : Option Op). (may_ask (length s.queues) o || is_move (length s.queues) x.op) ≡ true) move_none h

  move_queue : is_op (length s.queues) x.op ≡ true → x.op.a < length s.queues
  move_queue h = ltb-true x.op.a (length s.queues) (both (x.op.kind == MOVE) (nat_lt x.op.a (length s.queues)) (move_there h)).1

  move_answer : x.number < length book → is_op (length s.queues) x.op ≡ true → answer s book x.number x.op ≡ move_step s book x.number x.op.a
  move_answer there h =
      ap (λ b. cond b (answer_to s book x.number x.op (op_of x.op)) (declined book NO_TASK)) (lt-ltb x.number (length book) there)
      ∙ ap (answer_to s book x.number x.op) move_none
      ∙ ap (λ b. cond b (move_step s book x.number x.op.a) (declined book 71)) (move_there h)

  move_same : (by f : ℕ) → op_earlier by f x.op ≡ x.op
  move_same by f = subst (λ k. op_earlier by f (record x.op { kind = k }) ≡ record x.op { kind = k }) (sym is) refl

module _ (s : Machine) (by : ℕ) (counts : ℕ → ℕ) where
  abbrev told : NdEvent → NdEvent
  told x = event_earlier by counts x

  -- an event of a book, and then of an earlier one
  abbrev Follows : Records → Records → NdEvent → Type 0
  Follows book other x = IsOfBook s other (told x) × IsEarlier by counts (book_after s book x) (book_after s other (told x)) × IsSound s (book_after s book x)

  step_follows : (book other : Records) (x : NdEvent) (it : Op) → IsSound s book → IsEarlier by counts book other → IsRecordedSince by counts x → IsAnswered s book x → op_of x.op ≡ Some it → op_fits (length s.queues) it ≡ true → Follows book other x
  step_follows book other x it sound is since a op fits =
      let t = x.number in
      let f = counts t in
      let each = sound.one_each in
      let task : t < length s.tasks = let here = a.task in omega (arith, here, each) in
      let there : t < length other = let here = a.task in let same = is.as_many in omega (arith, here, same) in
      let now = answer_is s book x it a.task op fits in
      let reply : reply_of (step s book t it).1 ≡ x.reply = sym (ap (λ z. z.1) now) ∙ a.reply in
      let lasting : IsLasting (step s book t it).1 = lasting_told (step s book t it).1 (λ e. since.unworn a.call (sym (ap (λ (z : NdReply). z.kind) reply) ∙ e)) (λ e. since.in_range a.call (sym (ap (λ (z : NdReply). z.kind) reply) ∙ e)) in
      let late : IsSince by f it = some_since (op_of x.op) it (IsSince by f) op (since.since a.call) in
      let one = goes s by counts book other sound is t task it late lasting in
      let it' = below.op_earlier by f it in
      let op' : op_of (told x).op ≡ Some it' = op_told by f x.op ∙ ap (option_map (below.op_earlier by f)) op in
      let fits' : op_fits (length s.queues) it' ≡ true = is_fits s it' (fits_earlier s by f it (fits_is s it fits)) in
      let then = answer_is s other (told x) it' there op' fits' in
      let may : may_ask (length s.queues) (op_of (told x).op) ≡ true = ap (may_ask (length s.queues)) op' ∙ fits' in
      let reply' : (answer s other t (told x).op).1 ≡ (told x).reply = ap (λ z. z.1) then ∙ ap reply_of one.0 ∙ reply_told by f (step s book t it).1 ∙ ap (reply_earlier by f) reply in
      let after : book_after s book x ≡ (step s book t it).0 = call_after s book x a.call ∙ ap (λ z. z.0) now in
      let after' : book_after s other (told x) ≡ (step s other t it').0 = call_after s other (told x) a.call ∙ ap (λ z. z.0) then in (
        inl (record { call = a.call; task = there; op = is_asked s other (told x) may; reply = reply' }),
        rw (after, after') one.1,
        subst (IsSound s) (sym after) (sound_step s book t it sound task (fits_is s it fits)),
      )

  move_follows : (book other : Records) (x : NdEvent) → IsSound s book → IsEarlier by counts book other → IsAnswered s book x → x.op.kind ≡ MOVE → Follows book other x
  move_follows book other x sound is a kind =
      let t = x.number in
      let f = counts t in
      let each = sound.one_each in
      let task : t < length s.tasks = let here = a.task in omega (arith, here, each) in
      let there : t < length other = let here = a.task in let same = is.as_many in omega (arith, here, same) in
      let queue = move_queue s book x kind a.op in
      let now = move_answer s book x kind a.task a.op in
      let one = goes_move s book sound t task x.op.a queue by counts other is in
      let same = move_same s book x kind by f in
      let then : answer s other t (told x).op ≡ move_step s other t x.op.a = ap (answer s other t) same ∙ move_answer s other x kind there a.op in
      let reply : (move_step s book t x.op.a).1 ≡ x.reply = sym (ap (λ z. z.1) now) ∙ a.reply in
      let after : book_after s book x ≡ (move_step s book t x.op.a).0 = call_after s book x a.call ∙ ap (λ z. z.0) now in
      let after' : book_after s other (told x) ≡ (move_step s other t x.op.a).0 = call_after s other (told x) a.call ∙ ap (λ z. z.0) then in (
        inl (record { call = a.call; task = there; op = ap (is_op (length s.queues)) same ∙ a.op; reply = ap (λ z. z.1) then ∙ one.0 ∙ ap (reply_earlier by f) reply }),
        rw (after, after') one.1,
        subst (IsSound s) (sym after) (sound_move s book sound t task x.op.a queue),
      )

  follows : (book other : Records) (x : NdEvent) → IsSound s book → IsEarlier by counts book other → IsRecordedSince by counts x → IsOfBook s book x → Follows book other x
  follows book other x sound is since (inl a) =
      elim (cases_eq x.op.kind MOVE) [
        | inl kind ↦ move_follows book other x sound is a kind
        | inr plain ↦
            let w = asked (length s.queues) (op_of x.op) (may_be s book x (ne_eqb x.op.kind MOVE plain) a.op) in
            step_follows book other x w.0 sound is since a w.1 w.2
      ]
  follows book other x sound is since (inr (inl r)) =
      let after = look_after s book x r.reading in
      let after' = look_after s other (told x) r.reading in (
        inr (inl (record { reading = r.reading; queue = r.queue; sums = is.readings x.number ∙ r.sums })),
        rw (after, after') is,
        subst (IsSound s) (sym after) sound,
      )
  follows book other x sound is since (inr (inr b)) = absurd (since.alone b.rebase)

  pub follow_all : (book other : Records) (xs : List NdEvent) → IsSound s book → IsEarlier by counts book other → AreRecordedSince by counts xs → IsRecordedFrom s book xs → IsRecordedFrom s other (history_earlier by counts xs)
  follow_all book other [] sound is since recorded = tt
  follow_all book other (x ∷ xs) sound is since recorded =
      let one = follows book other x sound is since.0 recorded.0 in
      (one.0, follow_all (book_after s book x) (book_after s other (told x)) xs one.2 one.1 since.1 recorded.1)

pub rebased_recorded : (s : Machine) (book : Records) (by : ℕ) (xs : List NdEvent) → IsSound s book → first_held by book ≡ None → IsRecordedFrom s book xs → AreRecordedSince by (forgotten_of book) xs
    → IsRecordedFrom s (book_rebased by book) (history_earlier by (forgotten_of book) xs)
rebased_recorded s book by xs sound free recorded since = follow_all s by (forgotten_of book) book (book_rebased by book) xs sound (rebased_earlier by book free) since recorded
