-- A move that does nothing at a semaphore leaves all but the base keys.
use Rattle.std.proofs.Common.{◌∙◌, sym}
use Rattle.rt_changes.specs.SemChanges.{LeavesSems}
use Rattle.rt_changes.proofs.SemChanges.{quiet}
use Rattle.sem_table.proofs.Keeps.{quiet_keeps}
use Rattle.sem_table.proofs.Rows.{quiet_rows}
use Rattle.group_sems.specs.Keeping.{QuietIsKept}

pub quiet_is_kept : QuietIsKept
quiet_is_kept g e past valid made v h k =
    let left : LeavesSems g e past = quiet g e past h in
    record {
      sems_are = quiet_keeps g e past valid made v.table h k.sems_are;
      rows_are = quiet_rows g e past valid made v.table h k.rows_are;
      none_outside = k.none_outside;
      nexts_are = record {
        room = k.nexts_are.room;
        are = λ t there. k.nexts_are.are t there ∙ sym (left.next t);
        others = k.nexts_are.others;
      };
      boosts_are = record { room = k.boosts_are.room; are = λ t there. k.boosts_are.are t there ∙ sym (left.boosted t) };
      ceilings_are = k.ceilings_are;
    }
