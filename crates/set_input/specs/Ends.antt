-- The two ends of a call, that neither counted a fault in it, and that a fault is answered.
use Rattle.std.specs.Prelude.{◌≡◌, ◌≢◌}
use Rattle.rt_fault.specs.Faults.{HasRisen}
use Rattle.rt_fault.specs.declared.status.Status.{Status}
use Rattle.rt_fault.specs.declared.status.Status.TheVariants.{ReadFault, WriteFault}
pub use Rattle.rt_fault.specs.Ends.{SourceSeen, SinkSeen, Reading, Writing, reading, writing}

-- neither end counted a fault in the call
pub record IsFaultless (source : Reading) (sink : Writing) : Type 0 where
  pub read : ¬ (HasRisen source.old.faults source.new.faults)
  pub write : ¬ (HasRisen sink.old.faults sink.new.faults)

-- a fault is answered exactly where a read or a write of the call failed: by one answer of its type for each
pub record TellsFaultsBy {A : Type 0} (failed_read failed_write : A) (source : Reading) (sink : Writing) (answer : A) : Type 0 where
  -- a read failed
  pub read_fault : answer ≡ failed_read → HasRisen source.old.faults source.new.faults
  -- on any other answer none did
  pub no_read_fault : answer ≢ failed_read → source.new.faults ≡ source.old.faults
  -- a write failed
  pub write_fault : answer ≡ failed_write → HasRisen sink.old.faults sink.new.faults
  -- on any other answer none did
  pub no_write_fault : answer ≢ failed_write → sink.new.faults ≡ sink.old.faults

-- the same, by a status
abbrev pub TellsFaults : Reading → Writing → Status → Type 0
TellsFaults source sink answer = TellsFaultsBy ReadFault WriteFault source sink answer
