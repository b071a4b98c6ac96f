-- The place of a CPU's word within its line.
use Rattle.std.specs.Prelude.{ℕ, ◌≤◌, Option, IfSome}
use Rattle.trace_fields.specs.declared.opening.CpuWord.{CpuWord}

-- no more than so many bytes stand before the CPU's word
abbrev pub StartsWithin : Option CpuWord → ℕ → Type 0
StartsWithin word limit = IfSome word (λ w. w.start ≤ limit)
