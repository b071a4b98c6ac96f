use Rattle.std.proofs.Common.{inl, inr, refl}
use Rattle.std.proofs.lemmas.Result.{IfErr-weaker, IfOk-weaker}
use Rattle.text_bytes.proofs.SourceLemmas.{opens}
use Rattle.text_bytes.proofs.files.read_file.Goals as goal

pub returns-in-Ok-clause-whole : goal.returns-in-Ok-clause-whole
returns-in-Ok-clause-whole g c = IfOk-weaker c.read_all.result _ _ (λ v whole. opens _ _ _ c.args.path c.in-Ok.file _ c.in-Ok.ensures (c.read_all.new.file, whole)) c.read_all.ensures.whole

pub returns-in-Ok-clause-unreadable : goal.returns-in-Ok-clause-unreadable
returns-in-Ok-clause-unreadable g c = IfErr-weaker c.read_all.result _ _ (λ e broken is. inr (opens _ _ _ c.args.path c.in-Ok.file _ c.in-Ok.ensures (c.read_all.new.file, broken is))) c.read_all.ensures.broken

pub returns-in-Ok-clause-too_long : goal.returns-in-Ok-clause-too_long
returns-in-Ok-clause-too_long g c = IfErr-weaker c.read_all.result _ _ (λ e long is. opens _ _ _ c.args.path c.in-Ok.file _ c.in-Ok.ensures (c.read_all.new.file, long is)) c.read_all.ensures.too_long

pub returns-in-Ok-clause-memory : goal.returns-in-Ok-clause-memory
returns-in-Ok-clause-memory g c = IfErr-weaker c.read_all.result _ _ (λ e within is. opens _ _ _ c.args.path c.in-Ok.file _ c.in-Ok.ensures (c.read_all.new.file, within is)) c.read_all.ensures.memory

pub returns-in-Err-clause-unreadable : goal.returns-in-Err-clause-unreadable
returns-in-Err-clause-unreadable g c _ = inl (c.in-Err.field-0, record { shown = c.args.path; shows = refl; says = record { met = c.in-Err.ensures } })
