use Rattle.std.proofs.Common.{refl}
use Rattle.size_least.proofs.Row.{told-on}
use Rattle.size_least.proofs.renewal.Renewals.pass.Goals as goal

pub returns : goal.returns
returns c =
    let fields = c.self.inside in
    told-on fields.later fields.more _ _ c.args.time c.args.used fields.kept.items c.args.self.now c.self.view_is refl refl c.ranges.used.fits c.requires
