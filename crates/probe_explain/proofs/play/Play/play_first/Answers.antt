use Rattle.std.proofs.Common.{refl, sym}
use Rattle.probe_explain.proofs.Taking.{alike, popped}
use Rattle.probe_explain.proofs.play.Play.play_first.Goals as goal

pub returns-in_ok-play_with-in-Some : goal.returns-in_ok-play_with-in-Some
returns-in_ok-play_with-in-Some g c = popped _ _ c.in-Some.next refl c.in-Some.ensures.items c.in_ok-play_with-in-Some.ensures

pub returns-in-None : goal.returns-in-None
returns-in-None g c = alike _ _ refl (sym c.in-None.ensures.items) refl
