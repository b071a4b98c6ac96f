-- The line that the program writes for each fault: the file and the line it is at, its number, its name and what it tells.
use Rattle.std.specs.Prelude.{ℕ, List, ◌++◌, codes, decimal}
use Rattle.trace_data.specs.declared.line.Flaw.{Flaw}
use Rattle.trace_data.specs.declared.line.Flaw.TheVariants.{WrongClock, LostEvents, TooLong, BadTraceLine}
use Rattle.trace_data.specs.declared.note.Kernel.{Kernel}
use Rattle.trace_options.specs.declared.fault.Fault.{Fault}
use Rattle.trace_options.specs.declared.fault.Fault.TheVariants as fault
use Rattle.trace_options.specs.declared.fault.Uncompared.{Uncompared}
use Rattle.trace_options.specs.declared.fault.Uncompared.TheVariants.{NoTask, NoBlock, UnknownSpeed, UnknownSum, Left, NoValue}

-- of a file
abbrev pub file_place : List ℕ → List ℕ
file_place path = codes "grubtrace: " ++ (path ++ codes ": ")

-- of a line of a trace
abbrev pub line_place : List ℕ → ℕ → List ℕ
line_place path line = codes "grubtrace: " ++ (path ++ (codes ":" ++ (decimal line ++ codes ": ")))

-- what is wrong with a line
abbrev pub flaw_told : Flaw → List ℕ
flaw_told WrongClock = codes "51 WrongClock\n"
flaw_told LostEvents = codes "52 LostEvents\n"
flaw_told TooLong = codes "54 TooLong\n"
flaw_told BadTraceLine = codes "55 BadTraceLine\n"

-- a task was given that the trace does not show
abbrev pub no_task_line : List ℕ → List ℕ → List ℕ
no_task_line path name = codes "grubtrace: " ++ (path ++ (codes ": 49 NoSuchTask " ++ (name ++ codes "\n")))

-- it has no job that counts
abbrev pub no_jobs_line : List ℕ → List ℕ → List ℕ
no_jobs_line path name = codes "grubtrace: " ++ (path ++ (codes ": 58 NoJobs " ++ (name ++ codes "\n")))

-- the path of the event file of a runqueue
abbrev pub event_path : List ℕ → ℕ → List ℕ
event_path prefix r = prefix ++ codes ".cpu" ++ decimal r ++ codes ".grub"

-- it is there already
abbrev pub event_file_line : List ℕ → ℕ → List ℕ
event_file_line prefix r = file_place (event_path prefix r) ++ codes "56 FileExists\n"

-- a task was not given, by its comm and its pid
abbrev pub unknown_line : List ℕ → ℕ → List ℕ → ℕ → List ℕ
unknown_line path line comm pid =
    line_place path line ++ codes "50 UnknownTask " ++ (comm ++ (codes " (pid " ++ (decimal pid ++ codes ")\n")))

-- a kernel whose sums no note tells
abbrev pub kernel_line : List ℕ → Kernel → List ℕ
kernel_line path kernel =
    codes "grubtrace: " ++ (path ++ (codes ": 60 NoSums kernel " ++ (decimal kernel.major ++ (codes "." ++ (decimal kernel.minor ++ (codes "." ++ (decimal kernel.patch ++ codes "\n")))))))

-- so much is left out since a sum is not known from a line on
abbrev pub unknown_sum_line : List ℕ → ℕ → List ℕ
unknown_sum_line path line =
    codes "grubtrace: " ++ (path ++ (codes ": 61 NothingCompared extra_bw is unknown from line " ++ (decimal line ++ codes " on\n")))

-- nothing was compared
abbrev pub uncompared_line : List ℕ → Uncompared → List ℕ
uncompared_line path NoTask = file_place path ++ codes "61 NothingCompared no task of SCHED_DEADLINE\n"
uncompared_line path NoBlock = file_place path ++ codes "61 NothingCompared no task blocks\n"
uncompared_line path NoValue = file_place path ++ codes "61 NothingCompared each value is shown once\n"
uncompared_line path UnknownSpeed = file_place path ++ codes "61 NothingCompared no line tells how fast the CPUs ran\n"
uncompared_line path (UnknownSum line) = unknown_sum_line path line
uncompared_line path (Left ends unknown edges gaps) =
    codes "grubtrace: " ++ (path ++ (codes ": 61 NothingCompared ends " ++ (decimal ends ++ (codes ", unknown " ++ (decimal unknown ++ (codes ", edges " ++ (decimal edges ++ (codes ", gaps " ++ (decimal gaps ++ codes "\n")))))))))

-- so much differs, of a kernel whose release was not tried
abbrev pub untried_place : List ℕ → Kernel → ℕ → List ℕ
untried_place path kernel differ =
    codes "grubtrace: " ++ (path ++ (codes ": 62 UntriedKernel kernel " ++ (decimal kernel.major ++ (codes "." ++ (decimal kernel.minor ++ (codes "." ++ (decimal kernel.patch ++ (codes ", " ++ (decimal differ ++ codes " differ; tried: ")))))))))

-- of the trace at a path
abbrev pub fault_line : List ℕ → Fault → List ℕ
fault_line path (fault.Line line flaw) = line_place path line ++ flaw_told flaw
fault_line path (fault.NoSuchTask name) = no_task_line path name.now
fault_line path (fault.UnknownTask line pid comm) = unknown_line path line comm.items pid
fault_line path fault.NoTimers = file_place path ++ codes "53 NoTimers\n"
fault_line path (fault.OutsideDomain line) = line_place path line ++ codes "54 TooLong\n"
fault_line path (fault.BadNote line) = line_place path line ++ codes "55 BadTraceLine\n"
fault_line path (fault.FileExists made) = file_place made.now ++ codes "56 FileExists\n"
fault_line path (fault.EventFileExists prefix r) = event_file_line prefix.now r
fault_line path (fault.NoJobs name) = no_jobs_line path name.now
fault_line path (fault.Changed line) = line_place path line ++ codes "59 Changed rt\n"
fault_line path (fault.NoSums kernel) = kernel_line path kernel
fault_line path (fault.NothingCompared why) = uncompared_line path why
fault_line path (fault.UntriedKernel kernel tried differ) = untried_place path kernel differ ++ (tried.now ++ codes "\n")
fault_line path fault.Write = codes "grubtrace: 45 WriteFault\n"
fault_line path fault.Unreadable = file_place path ++ codes "46 ReadFault\n"
fault_line path fault.NoMemory = codes "grubtrace: 47 NoMemory\n"
fault_line path fault.NoText = codes "grubtrace: 48 NoMemory\n"
