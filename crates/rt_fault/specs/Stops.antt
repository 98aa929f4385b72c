-- How a run ends for which no input was read whole, or no set was made of it.
use Rattle.rt_fault.specs.declared.status.Status.{Status}
use Rattle.rt_fault.specs.declared.status.Status.TheVariants.{BadInput, ReadFault, TooLong}
use Rattle.rt_fault.specs.declared.status.Status.TheVariants as ends
use Rattle.rt_fault.specs.declared.reading.ReadStop.{ReadStop}
use Rattle.rt_fault.specs.declared.reading.ReadStop.TheVariants as reads
use Rattle.rt_task.specs.declared.bad_set.SetStop.{SetStop}
use Rattle.rt_task.specs.declared.bad_set.SetStop.TheVariants as sets

abbrev pub unread : ReadStop → Status
unread reads.Fault = ReadFault
unread reads.TooLong = TooLong
unread reads.NoMemory = ends.NoMemory

abbrev pub unmade : SetStop → Status
unmade (sets.Bad bad) = BadInput bad
unmade sets.NoMemory = ends.NoMemory
