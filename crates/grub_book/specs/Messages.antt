-- What each fault prints: its number and its name.
use Rattle.std.specs.Prelude.{ℕ, List, codes, ◌++◌, decimal}
use Rattle.grub_book.specs.declared.params.ParamFault.{ParamFault}
use Rattle.grub_book.specs.declared.params.ParamFault.TheVariants.{PeriodOutOfRange, RuntimeOutOfRange, TooSmall}
use Rattle.grub_book.specs.declared.queue.QueueFault.{QueueFault}
use Rattle.grub_book.specs.declared.queue.QueueFault.TheVariants.{UmaxOutOfRange, UextraOutOfRange}
use Rattle.grub_book.specs.declared.setup.SetupFault.{SetupFault}
use Rattle.grub_book.specs.declared.setup.SetupFault.TheVariants.{TooManyQueues, TooManyTasks, NoQueue}
use Rattle.grub_book.specs.declared.checker.CheckFault.{CheckFault}
use Rattle.grub_book.specs.declared.checker.CheckFault.TheVariants.{NoMemory, WrongReply}

abbrev pub param_fault_text : ParamFault → List ℕ
param_fault_text PeriodOutOfRange = codes "1 PeriodOutOfRange"
param_fault_text RuntimeOutOfRange = codes "2 RuntimeOutOfRange"
param_fault_text TooSmall = codes "3 TooSmall"

abbrev pub queue_fault_text : QueueFault → List ℕ
queue_fault_text UmaxOutOfRange = codes "4 UmaxOutOfRange"
queue_fault_text UextraOutOfRange = codes "5 UextraOutOfRange"

abbrev pub setup_fault_text : SetupFault → List ℕ
setup_fault_text TooManyQueues = codes "6 TooManyQueues"
setup_fault_text TooManyTasks = codes "7 TooManyTasks"
setup_fault_text NoQueue = codes "8 NoQueue"

abbrev pub book_fault_text : List ℕ
book_fault_text = codes "40 NoMemory"

-- the index of the event that is not the book's
abbrev pub check_fault_text : CheckFault → List ℕ
check_fault_text (WrongReply i) = codes "22 WrongReply(" ++ decimal i ++ codes ")"
check_fault_text NoMemory = codes "41 NoMemory"
