-- What an entity reserves.
use Rattle.std.specs.Prelude.{pos, Bool, false, Option, Some, None}
use Rattle.trace_data.specs.declared.quantities.Parameters.{Parameters}
use Rattle.trace_data.specs.declared.quantities.Donor.{Donor}
use Rattle.kernel_rules.specs.declared.entity.Entity.{Entity}
use Rattle.kernel_rules.specs.Clock.{ratio_of}

abbrev pub fresh_of : Bool → Entity
fresh_of server = record {
  budget = record { runtime = pos 0; deadline = 0; is_throttled = false; is_yielded = false };
  is_non_contending = false;
  parameters = record { dl_runtime = 0; dl_deadline = 0; dl_period = 0; flags = 0 };
  dl_bw = 0;
  donor = None;
  new_parameters = None;
  is_server = server;
  is_in_class = false;
  is_in_tree = false;
  is_queued = false;
  is_dead = false;
  is_late = false;
  has_inactive_timer = false;
  has_deadline_timer = false;
}

-- __setparam_dl
unfoldable pub reserved_of : Entity → Parameters → Entity
reserved_of e p = record e { parameters = p; dl_bw = ratio_of p.dl_runtime p.dl_period; new_parameters = None }

-- __dl_clear_params
unfoldable pub cleared_of : Entity → Entity
cleared_of e = record e {
  budget = record e.budget { is_throttled = false; is_yielded = false };
  is_non_contending = false;
  parameters = record { dl_runtime = 0; dl_deadline = 0; dl_period = 0; flags = 0 };
  dl_bw = 0;
}

-- pi_of: by its donor's reservation where it is boosted, else by its own
abbrev pub serving_by : Option Donor → Parameters → Donor
serving_by (Some donor) p = donor
serving_by None p = record { dl_runtime = p.dl_runtime; dl_deadline = p.dl_deadline; dl_period = p.dl_period }

unfoldable pub serving_of : Entity → Donor
serving_of e = serving_by e.donor e.parameters
