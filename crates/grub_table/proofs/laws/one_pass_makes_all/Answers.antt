use Rattle.std.proofs.Common.{◌≡◌, ◌<◌, ◌==◌, ℕ, zero, suc, true, List, [], ◌∷◌, ◌++◌, refl, sym, ap, ◌∙◌, subst, arith, append-nil, eq-eqb}
use Rattle.std.specs.List.{All, Any}
use Rattle.std.proofs.lemmas.List.Elements.{All-head, All-tail}
use Rattle.grub_book.specs.History.{calls_of, pass_of}
use Rattle.grub_book.specs.declared.event.Event.{Event}
use Rattle.grub_table.specs.Histories.{IsHistory}
use Rattle.grub_table.specs.Knowing.{GoesOn}
use Rattle.grub_table.specs.Calls.{AreReadings, number_of, seen}
use Rattle.grub_table.specs.declared.pass.Pass.{Pass}
use Rattle.grub_table.specs.declared.view.Terms.{Terms}
use Rattle.grub_table.proofs.laws.one_pass_makes_all.Goals as goal

abbrev IsOwn : Event → Type 0
IsOwn e = pass_of e < 1

own_before : (h rest : List Event) → All IsOwn (h ++ rest) → calls_of 0 h ≡ h
own_before [] rest all = refl
own_before (e ∷ h) rest all =
    let low : pass_of e < 1 = All-head IsOwn e (h ++ rest) all in
    let yes : (pass_of e == 0) ≡ true = eq-eqb (pass_of e) 0 (omega (arith, low)) in
    rw yes (ap (λ l. e ∷ l) (own_before h rest (All-tail IsOwn e (h ++ rest) all)))

own : (T : Terms) (h before rest : List Event) → IsHistory T h → T.passes ≡ 1 → h ≡ before ++ rest → calls_of 0 before ≡ before
own T h before rest is one split = own_before before rest (subst (All IsOwn) split (subst (λ n. All (λ e. pass_of e < n) h) one is.numbers))

goes : (T : Terms) (i : ℕ) (before h more : List Event) → T.passes ≡ 1 → i ≡ 0 → IsHistory T h → GoesOn pass_of i before h more → h ≡ before ++ more
goes T i before h more one zeroth is on =
    sym (own T h h [] is one (sym (append-nil h)))
    ∙ subst (λ k. calls_of k h ≡ calls_of k before ++ more) zeroth on.own
    ∙ ap (λ l. l ++ more) (own T h before on.starts.0 is one (sym on.starts.1))

only : (p : Pass) (i : ℕ) → Any (λ q. number_of q ≡ i) (p ∷ []) → number_of p ≡ i
only p i (zero, q, low, is, of) = subst (λ x. number_of x ≡ i) (sym is) of
only p i (suc k, q, low, is, of) = absurd (omega (arith, low))

pub returns-clause-history : goal.returns-clause-history
returns-clause-history c = λ T h is one. own T h h [] is one (sym (append-nil h))

pub returns-clause-more : goal.returns-clause-more
returns-clause-more c = goes

pub returns-clause-readings : goal.returns-clause-readings
returns-clause-readings c = λ s p last one closed.
    let zeroth : number_of p ≡ 0 = only p 0 (closed.whole 0 (rw one (omega arith))) in
    let same : closed.history ≡ seen p ++ [] = goes s.terms (number_of p) (seen p) closed.history [] one zeroth closed.is_history (closed.knows 0 p (omega arith)).seen in
    subst (λ h. AreReadings s.terms h last) (same ∙ append-nil (seen p)) closed.readings
