-- A task leaves the class: switched_from_dl.
use Rattle.std.specs.Prelude.{ℕ, false, ◌==◌, if◌then◌else◌, Some, None}
use Rattle.kernel_rules.specs.declared.entity.Entity.{Entity}
use Rattle.kernel_rules.specs.declared.sums.SumsChange.{SumsChange}
use Rattle.kernel_rules.specs.declared.flags.TheConstants.{QUEUED}
use Rattle.kernel_rules.specs.Clock.{less}
use Rattle.kernel_rules.specs.Activity.{blocking_of, blocked_of, blocking_change_of}
use Rattle.kernel_rules.specs.declared.exits.Leaving.{Leaving}

unfoldable pub outside_of : Entity → Entity
outside_of e = record e { is_in_class = false; is_queued = false }

unfoldable pub contends_no_more : Entity → Entity
contends_no_more e = record e { is_non_contending = false }

unfoldable pub leaving_change : Entity → SumsChange
leaving_change e = record {
  this_bw = less 0 e.dl_bw;
  running_bw = if e.is_non_contending then less 0 e.dl_bw else 0;
  freed = None;
  taken = None;
}

unfoldable pub leaving_of : Entity → ℕ → ℕ → Leaving
leaving_of e on_rq clock =
    let block = blocking_of (outside_of e) clock in
    if on_rq == QUEUED
    then record { entity = contends_no_more (blocked_of (outside_of e) block); change = blocking_change_of (outside_of e) block; block = Some block }
    else record { entity = contends_no_more (outside_of e); change = leaving_change (outside_of e); block = None }
