-- A recorded history without moves and rebases is one of the one-thread book.
use Rattle.std.proofs.Common.{◌≡◌, ◌≢◌, ℕ, ◌<◌, ◌*◌, ◌/◌, ◌^◌, ◌==◌, ◌&&◌, ◌||◌, Bool, true, false, cond, nat_lt, nat_le, List, [], ◌∷◌, length, fold, set, Option, Some, None, inl, inr, refl, sym, ap, subst, ◌∙◌}
use Rattle.std.proofs.lemmas.Bool.{eq-eqb, ltb-true, lt-ltb, leb-true, le-leb, ne_eqb}
use Rattle.std.proofs.lemmas.List.{length-set}
use Rattle.grub_book.specs.Machine.{Machine, queue_at}
use Rattle.grub_book.specs.Op.{IsOp}
use Rattle.grub_book.specs.Sums.{Records, record_at, reading_of}
use Rattle.grub_book.specs.Step.{step, refused, unless, settled, runqueue_of}
use Rattle.grub_book.specs.History.{IsTrueOf, IsLegalFrom, after}
use Rattle.grub_book.specs.declared.event.Event.{Event}
use Rattle.grub_book.specs.declared.event.Event.TheVariants.{Call, Look}
use Rattle.grub_book.specs.declared.op.Op.{Op}
use Rattle.grub_book.specs.declared.op.Op.TheVariants.{Join, Wake, Block, Leave, Timer, Exit, Charge, Retune}
use Rattle.grub_book.specs.declared.reply.Reply.{Reply}
use Rattle.library_book.specs.Asked.{op_of, op_fits, may_ask, reply_of}
use Rattle.library_book.specs.Answer.{is_op, is_move, answer, answer_to, declined, stepped}
use Rattle.library_book.specs.Recorded.{IsOfBook, IsRecordedFrom, book_after, book_recorded, reading_told}
use Rattle.library_book.specs.Rebase.{rebase_answer}
use Rattle.library_book.specs.Told.{Tells, TellsAll, HasStepsAlone}
use Rattle.library_book.specs.declared.asked.TheConstants.{MOVE}
use Rattle.library_book.specs.declared.checker.TheConstants.{CALL, READING, REBASE}
use Rattle.library_book.specs.declared.codes.TheConstants.{NO_TASK, NO_OP}
use Rattle.grub_book.specs.declared.place.Record.{Record}
use Rattle.library_book.specs.declared.asked.NdEvent.{NdEvent}

pub both : (a b : Bool) → (a && b) ≡ true → (a ≡ true) × (b ≡ true)
both true true h = (refl, refl)
both true false h = absurd cc
both false b h = absurd cc

either : (a b : Bool) → a ≡ true → b ≡ true → (a && b) ≡ true
either a b h g = rw (h, g) refl

pub fits_is : (s : Machine) (op : Op) → op_fits (length s.queues) op ≡ true → IsOp s op
fits_is s (Join r m) h = let p = both (nat_lt r (length s.queues)) (nat_le m 2147483647) h in (ltb-true r (length s.queues) p.0, leb-true m 2147483647 p.1)
fits_is s (Wake r m) h = let p = both (nat_lt r (length s.queues)) (nat_le m 2147483647) h in (ltb-true r (length s.queues) p.0, leb-true m 2147483647 p.1)
fits_is s (Block r m) h = let p = both (nat_lt r (length s.queues)) (nat_le m 2147483647) h in (ltb-true r (length s.queues) p.0, leb-true m 2147483647 p.1)
fits_is s Leave h = tt
fits_is s (Timer ticket m) h = leb-true m 2147483647 h
fits_is s Exit h = tt
fits_is s (Charge r dt) h =
    let p = both (nat_lt r (length s.queues) && nat_le 1 dt) (nat_le dt 16777216) h in
    let a = both (nat_lt r (length s.queues)) (nat_le 1 dt) p.0 in
    (ltb-true r (length s.queues) a.0, leb-true 1 dt a.1, leb-true dt 16777216 p.1)
fits_is s (Retune q p) h =
    let bw = q * 2 ^ 20 / p in
    let e = both (nat_le 1 p && nat_le p 16777216 && nat_le 1 q && nat_le q p) (nat_le 1 bw) h in
    let d = both (nat_le 1 p && nat_le p 16777216 && nat_le 1 q) (nat_le q p) e.0 in
    let c = both (nat_le 1 p && nat_le p 16777216) (nat_le 1 q) d.0 in
    let b = both (nat_le 1 p) (nat_le p 16777216) c.0 in
    record { period = (leb-true 1 p b.0, leb-true p 16777216 b.1); runtime = (leb-true 1 q c.1, leb-true q p d.1); bandwidth = leb-true 1 bw e.1 }

pub is_fits : (s : Machine) (op : Op) → IsOp s op → op_fits (length s.queues) op ≡ true
is_fits s (Join r m) h = either _ _ (lt-ltb r (length s.queues) h.0) (le-leb m 2147483647 h.1)
is_fits s (Wake r m) h = either _ _ (lt-ltb r (length s.queues) h.0) (le-leb m 2147483647 h.1)
is_fits s (Block r m) h = either _ _ (lt-ltb r (length s.queues) h.0) (le-leb m 2147483647 h.1)
is_fits s Leave h = refl
is_fits s (Timer ticket m) h = le-leb m 2147483647 h
is_fits s Exit h = refl
is_fits s (Charge r dt) h = either _ _ (either _ _ (lt-ltb r (length s.queues) h.0) (le-leb 1 dt h.1)) (le-leb dt 16777216 h.2)
is_fits s (Retune q p) h =
    let a = h.period in
    let b = h.runtime in
    let c = h.bandwidth in
    either _ _ (either _ _ (either _ _ (either _ _ (le-leb 1 p a.0) (le-leb p 16777216 a.1)) (le-leb 1 q b.0)) (le-leb q p b.1)) (le-leb 1 (q * 2 ^ 20 / p) c)

unless_length : (o : Option Reply) (book : Records) (t : ℕ) (m : Record × Reply) → length (unless o book (set book t m.0, m.1)).0 ≡ length book
unless_length (Some reply) book t m = refl
unless_length None book t m = length-set book t m.0

step_length : (s : Machine) (book : Records) (t : ℕ) (op : Op) → length (step s book t op).0 ≡ length book
step_length s book t op =
    let x = record_at book t in
    let r = runqueue_of x.place op in
    unless_length (refused x.place x.count op) book t (settled x (queue_at s r) (reading_of book r) op)

after_length : (s : Machine) (book : Records) (e : Event) → length (after s book e) ≡ length book
after_length s book (Call p t op reply) = step_length s book t op
after_length s book (Look p r reading) = refl

pub asked : (queues : ℕ) (o : Option Op) → may_ask queues o ≡ true → (it : Op) × (o ≡ Some it) × (op_fits queues it ≡ true)
asked queues None h = absurd cc
asked queues (Some it) h = (it, refl, h)

-- an op of the book may be asked, and what may be asked is one, where it is no move
pub step_or_move : (a b c : Bool) → b ≡ false → (a || (b && c)) ≡ true → a ≡ true
step_or_move true b c plain h = refl
step_or_move false true c plain h = absurd cc
step_or_move false false c plain h = absurd cc

module _ (s : Machine) (book : Records) (x : NdEvent) where
  abbrev q : ℕ
  q = length s.queues

  pub may_be : (x.op.kind == MOVE) ≡ false → is_op q x.op ≡ true → may_ask q (op_of x.op) ≡ true
  may_be plain h = step_or_move (may_ask q (op_of x.op)) (x.op.kind == MOVE) (nat_lt x.op.a q) plain h

  pub is_asked : may_ask q (op_of x.op) ≡ true → is_op q x.op ≡ true
  is_asked h = ap (λ b. b || is_move q x.op) h

  pub answer_is : (it : Op) → x.number < length book → op_of x.op ≡ Some it → op_fits q it ≡ true → answer s book x.number x.op ≡ stepped s book x.number it
  answer_is it there op fits =
      ap (λ b. cond b (answer_to s book x.number x.op (op_of x.op)) (declined book NO_TASK)) (lt-ltb x.number (length book) there)
      ∙ ap (answer_to s book x.number x.op) op ∙ ap (λ b. cond b (stepped s book x.number it) (declined book NO_OP)) fits

pub call_after : (s : Machine) (book : Records) (x : NdEvent) → x.kind ≡ CALL → book_after s book x ≡ (answer s book x.number x.op).0
call_after s book x is = ap (λ b. cond b (answer s book x.number x.op).0 (cond (x.kind == REBASE) (rebase_answer x.number book).0 book)) (eq-eqb x.kind CALL is)

pub look_after : (s : Machine) (book : Records) (x : NdEvent) → x.kind ≡ READING → book_after s book x ≡ book
look_after s book x is = ap (λ k. cond (k == CALL) (answer s book x.number x.op).0 (cond (k == REBASE) (rebase_answer x.number book).0 book)) is

event_told : (s : Machine) (book : Records) (x : NdEvent) → length book ≡ length s.tasks → x.kind ≢ REBASE → (x.kind ≡ CALL → x.op.kind ≢ MOVE) → IsOfBook s book x → (e : Event) × Tells x e × IsTrueOf s book e × (book_after s book x ≡ after s book e)
event_told s book x same here free (inl a) =
    let plain = ne_eqb x.op.kind MOVE (free a.call) in
    let w = asked (length s.queues) (op_of x.op) (may_be s book x plain a.op) in
    let is = answer_is s book x w.0 a.task w.1 w.2 in (
      Call 0 x.number w.0 (step s book x.number w.0).1,
      (a.call, refl, w.1, sym a.reply ∙ ap (λ z. z.1) is),
      (subst (λ n. x.number < n) same a.task, fits_is s w.0 w.2, refl),
      call_after s book x a.call ∙ ap (λ z. z.0) is,
    )
event_told s book x same here free (inr (inr b)) = absurd (here b.rebase)
event_told s book x same here free (inr (inl r)) = (Look 0 x.number (reading_told x), (r.reading, refl, refl), (r.queue, r.sums), look_after s book x r.reading)

event_recorded : (s : Machine) (book : Records) (x : NdEvent) (e : Event) → length book ≡ length s.tasks → Tells x e → IsTrueOf s book e → IsOfBook s book x × (book_after s book x ≡ after s book e)
event_recorded s book x (Call p t op reply) same tells is =
    let there : x.number < length book = subst (λ n. n < length book) (sym tells.1) (subst (λ n. t < n) (sym same) is.0) in
    let fits = is_fits s op is.1 in
    let may : may_ask (length s.queues) (op_of x.op) ≡ true = ap (may_ask (length s.queues)) tells.2 ∙ fits in
    let told = answer_is s book x op there tells.2 fits in
    let at : step s book x.number op ≡ step s book t op = ap (λ n. step s book n op) tells.1 in (
      inl (record { call = tells.0; task = there; op = is_asked s book x may; reply = ap (λ z. z.1) told ∙ ap (λ z. reply_of z.1) at ∙ ap reply_of is.2 ∙ sym tells.3 }),
      call_after s book x tells.0 ∙ ap (λ z. z.0) told ∙ ap (λ z. z.0) at,
    )
event_recorded s book x (Look p r reading) same tells is = (
  inr (inl (record { reading = tells.0; queue = subst (λ n. n < length s.queues) (sym tells.1) is.0; sums = ap (reading_of book) tells.1 ∙ is.1 ∙ sym tells.2 })),
  look_after s book x tells.0,
)

pub told : (s : Machine) (book : Records) (xs : List NdEvent) → length book ≡ length s.tasks → HasStepsAlone xs → IsRecordedFrom s book xs
    → (h : List Event) × TellsAll xs h × IsLegalFrom s book h × (book_recorded s book xs ≡ fold (after s) book h)
told s book [] same free is = ([], tt, tt, refl)
told s book (x ∷ xs) same free is =
    let one = event_told s book x same free.0 free.1 is.0 in
    let next : length (book_after s book x) ≡ length s.tasks = ap length one.3 ∙ after_length s book one.0 ∙ same in
    let rest = told s (book_after s book x) xs next free.2 is.1 in
    (one.0 ∷ rest.0, (one.1, rest.1), (one.2, subst (λ (b : Records). IsLegalFrom s b rest.0) one.3 rest.2), rest.3 ∙ ap (λ (b : Records). fold (after s) b rest.0) one.3)

pub recorded : (s : Machine) (book : Records) (xs : List NdEvent) (h : List Event) → length book ≡ length s.tasks → TellsAll xs h → IsLegalFrom s book h → IsRecordedFrom s book xs
recorded s book [] [] same tells legal = tt
recorded s book [] (e ∷ h) same tells legal = absurd tells
recorded s book (x ∷ xs) [] same tells legal = absurd tells
recorded s book (x ∷ xs) (e ∷ h) same tells legal =
    let one = event_recorded s book x e same tells.0 legal.0 in
    let next : length (after s book e) ≡ length s.tasks = after_length s book e ∙ same in
    (one.0, subst (λ (b : Records). IsRecordedFrom s b xs) (sym one.1) (recorded s (after s book e) xs h next tells.1 legal.1))
