use Rattle.std.proofs.Common.{refl, sym}
use Rattle.size_least.proofs.Row.{latest-told}
use Rattle.size_least.proofs.renewal.Renewals.latest.Goals as goal

pub returns-in-Some : goal.returns-in-Some
returns-in-Some c =
    let fields = c.self.inside in
    latest-told fields.later fields.more fields.kept.len fields.kept.items c.args.self.now c.in-Some.last.now c.self.view_is (sym fields.kept.ok.0) (c.in-Some.ensures.variant.0 refl) c.in-Some.ensures.lookup
