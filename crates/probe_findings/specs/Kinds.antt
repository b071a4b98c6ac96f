-- Of which kind a value is.
use Rattle.probe_findings.specs.declared.words.Quantity.{Quantity}
use Rattle.probe_findings.specs.declared.words.Quantity.TheVariants.{Runtime, Deadline as DeadlineValue, Throttled, Yielded, NonContending, DlRuntime, DlDeadline, DlPeriod, SchedFlags, ThisBw as ThisBwValue, RunningBw as RunningBwValue, ExtraBw as ExtraBwValue, ZeroLag as ZeroLagValue, ZeroLagMoment as ZeroLagMomentValue, TotalBw as TotalBwValue, Capacity, Timer, Address, Choice, BwRatio, MaxBw, ClockLag}
use Rattle.probe_findings.specs.declared.words.QuantityKind.{QuantityKind}
use Rattle.probe_findings.specs.declared.words.QuantityKind.TheVariants.{Budget, Deadline, Flags, Parameters, ThisBw, RunningBw, ExtraBw, TotalBw, ZeroLag, ZeroLagMoment, Timers, Capacities, Addresses, Choices, Laws}

abbrev pub kind_by : Quantity → QuantityKind
kind_by Runtime = Budget
kind_by DeadlineValue = Deadline
kind_by Throttled = Flags
kind_by Yielded = Flags
kind_by NonContending = Flags
kind_by DlRuntime = Parameters
kind_by DlDeadline = Parameters
kind_by DlPeriod = Parameters
kind_by SchedFlags = Parameters
kind_by ThisBwValue = ThisBw
kind_by RunningBwValue = RunningBw
kind_by ExtraBwValue = ExtraBw
kind_by ZeroLagValue = ZeroLag
kind_by ZeroLagMomentValue = ZeroLagMoment
kind_by TotalBwValue = TotalBw
kind_by Capacity = Capacities
kind_by Timer = Timers
kind_by Address = Addresses
kind_by Choice = Choices
kind_by BwRatio = Laws
kind_by MaxBw = Laws
kind_by ClockLag = Laws
