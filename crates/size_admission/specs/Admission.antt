-- Which reservations a machine takes, by the sum of their bandwidths in 1/2^20.
use Rattle.std.specs.Prelude.{ℕ, ◌+◌, ◌-◌, ◌*◌, ◌^◌, ◌≤◌}
use Rattle.size_admission.specs.declared.admission.RootDomain.{RootDomain}

-- admission of a root domain: what each processor admits, but for its fair server
abbrev pub IsAdmitted : ℕ → RootDomain → Type 0
IsAdmitted sum machine = sum ≤ (machine.most - machine.fair) * machine.processors

-- global EDF keeps all deadlines on m processors where sum <= m - (m - 1) * greatest (Goossens, Funk and Baruah 2003), the fair servers among them
abbrev pub KeepsDeadlines : ℕ → ℕ → RootDomain → Type 0
KeepsDeadlines sum greatest machine =
    sum + machine.fair * machine.processors + (machine.processors - 1) * greatest ≤ machine.processors * 2 ^ 20
