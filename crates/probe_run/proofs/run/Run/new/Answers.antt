use Rattle.std.proofs.Common.{◌≡◌, Option, Some, None, refl, true, false}
use Rattle.std.specs.Prelude.{is_none}
use Rattle.probe_findings.specs.declared.words.Deviation.{Deviation}
use Rattle.probe_run.proofs.run.Run.new.Goals as goal

none_is : (o : Option Deviation) → is_none o ≡ true → o ≡ None
none_is None e = refl
none_is (Some d) e = cc

pub returns : goal.returns
returns c =
    rw (
      c.new.ensures.items,
      c.new-2.ensures.empty,
      c.new-3.ensures.empty,
      c.new-4.ensures.empty,
      c.in_ok-runqueues.ensures,
      c.as_slice.ensures.value,
      c.new-5.ensures.items,
      c.new-6.ensures.items,
      c.new-7.ensures.items,
      c.new-8.ensures.items,
      c.new-9.ensures.items,
      c.new-10.ensures.items,
      c.new-11.ensures.items,
      c.new-12.ensures.items,
      none_is _ c.new-13.ensures.first,
    ) refl
