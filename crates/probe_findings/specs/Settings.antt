-- What the laws are held against: options stand above the lines of a record.
use Rattle.std.specs.Prelude.{ℕ, ◌^◌, ◌==◌, Bool, ◌||◌, nat_le, if◌then◌else◌, Option, Some, None, option_map, unwrap_or}
use Rattle.std.specs.Option.{option_or}
use Rattle.probe_findings.specs.declared.settings.LawSettings.{LawSettings}
use Rattle.probe_findings.specs.declared.settings.ServerNote.{ServerNote}
use Rattle.kernel_rules.specs.Clock.{ratio_of}

-- fair_server_init: 50 ms in 1 s
abbrev pub usual_server : Bool → ℕ
usual_server has_servers = if has_servers then ratio_of 50000000 1000000000 else 0

abbrev pub noted_server : Option ServerNote → Option ℕ
noted_server None = None
noted_server (Some note) = note.server

-- a fair server's bandwidth: the option's, that of server= of its note, that of its first line, this_bw of the note, or as the kernel begins
abbrev pub server_bw_by : LawSettings → Option ServerNote → Option ℕ → ℕ
server_bw_by s note shown =
    unwrap_or (option_or s.server_bw (option_or (noted_server note) (option_or shown (option_map (λ (n : ServerNote). n.this_bw) note)))) (usual_server s.has_servers)

-- max_bw is the option's; else one that an admission shows, or any where none shows one; or there is no limit
abbrev pub is_limit_by : Option ℕ → ℕ → Bool → Bool → Bool
is_limit_by (Some limit) max_bw shown none_shown = max_bw == limit
is_limit_by None max_bw shown none_shown = shown || none_shown || nat_le (2 ^ 20) max_bw
