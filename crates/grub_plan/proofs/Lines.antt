-- What one line asks.
use Rattle.std.proofs.Common.{◌≡◌, ℕ, List, [], ◌∷◌, ◌++◌, refl, sym, ap, ◌∙◌}
use Rattle.grub_plan.specs.Plans.{Line}
use Rattle.grub_plan.specs.declared.line.Act.{Act}
use Rattle.grub_plan.specs.declared.line.Act.TheVariants as acts
use Rattle.grub_plan.specs.declared.entry.Ask.TheVariants.{Read}
use Rattle.grub_plan.specs.declared.entry.Answer.{Answer}
use Rattle.grub_plan.specs.declared.entry.Entry.{Entry}
use Rattle.grub_plan.specs.Asked.{AsksDue, AsksLine, Follows, AsksOne, ask_of, entry}

-- a reading asks nothing more
pub read_follows : (r m : ℕ) (act : Act ℕ ℕ) (answer : Answer) (es : List Entry) → ask_of r m act ≡ Read → Follows r m act answer es es
read_follows r m acts.Read answer es is = refl
read_follows r m act answer es is = absurd (cc)

pub line_read : (r : ℕ) (line : Line) (before due after : List Entry) → AsksDue line.m before due → ask_of r line.m line.act ≡ Read → AsksOne line.m Read due after → AsksLine r before line after
line_read r line before due after timers is asks = record {
  due = due;
  answer = asks.answer;
  asked = after;
  timers = timers;
  line_asked = asks.list ∙ ap (λ ask. due ++ entry line.m ask asks.answer ∷ []) (sym is);
  follows = read_follows r line.m line.act asks.answer after is;
}
