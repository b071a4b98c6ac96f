use Rattle.std.proofs.Common.{rules, ◌≡◌, [], ◌∷◌, subst, sym}
use Rattle.grub_book.specs.History.{IsLegal}
use Rattle.grub_book.specs.Step.{step}
use Rattle.grub_book.specs.Sums.{opening_book, reading_of}
use Rattle.grub_book.specs.declared.event.Event.TheVariants.{Call}
use Rattle.grub_table.specs.Calls.{seen, terms, IsNew}
use Rattle.grub_table.specs.Histories.{reading_in}
use Rattle.grub_sharing_example.proofs.alone.Goals as goal

-- The pass has seen just its call, in a legal history, of which the readings are.
pub returns : goal.returns
returns c =
    let s = c.in_ok-shared.shared in let opened = c.in_ok-shared.ensures.opened in
    let reading = c.index.result.now in
    let new : IsNew s 0 c.remove.result = search (rules, opened.new) in
    let call = Call 0 c.args.t c.args.op c.in_ok-reply.reply in
    let told : seen c.ask-pass.result.0 ≡ call ∷ [] = search rules in
    let legal : IsLegal (terms s).setup (call ∷ []) = subst (IsLegal (terms s).setup) told c.ask-pass.ensures.of.history.legal in
    let ends : reading ≡ reading_in (terms s) (call ∷ []) 0 = subst (λ h. reading ≡ reading_in (terms s) h 0) told (search rules) in
    subst (λ m. let after = step m (opening_book m) c.args.t c.args.op in (c.in_ok-reply.reply ≡ after.1) × (reading ≡ reading_of after.0 0)) opened.setup (sym legal.0.2, ends)
