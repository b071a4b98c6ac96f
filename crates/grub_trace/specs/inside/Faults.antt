-- Forms of lines: whether the name in one is a name, and what is wrong with it.
use Rattle.std.specs.Prelude.{ℕ, Bool, true, List, Option, Some, option_map, unwrap_or}
use Rattle.grub_plan.specs.declared.line.Act.{Act}
use Rattle.grub_plan.specs.Names.{is_name}
use Rattle.grub_plan.specs.Plans.{named}
use Rattle.grub_trace.specs.declared.version.Version.{Version}
use Rattle.grub_trace.specs.declared.fault.Kind.{Kind}
use Rattle.grub_trace.specs.declared.fault.Kind.TheVariants.{BadLine}
use Rattle.grub_trace.specs.Faults.{form_fault}
use Rattle.grub_trace.specs.Forms.{Form, at_moment, queue, task}

-- the name in what is said is a name
abbrev pub is_act_named : Act (List ℕ) (List ℕ) → Bool
is_act_named act = unwrap_or (option_map is_name (named act)) true

-- the name in a form is a name
abbrev pub is_named : Form → Bool
is_named (queue a b) = true
is_named (task n q p) = is_name n
is_named (at_moment m act) = is_act_named act

-- what is wrong with a line of this form, or of none
abbrev pub fault_of_form : Version → List (List ℕ) → List ℕ → Option Form → Option Kind
fault_of_form version names moments form = unwrap_or (option_map (form_fault version names moments) form) (Some BadLine)
