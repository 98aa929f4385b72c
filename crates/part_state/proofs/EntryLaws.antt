-- A state is kept entry by entry.
use Rattle.std.proofs.Common.{ℕ, ◌∷◌}
use Rattle.rt_model.specs.Group.{Group}
use Rattle.rt_model.specs.Past.{Clock}
use Rattle.rt_model.specs.Runs.{runs}
use Rattle.rt_laws.proofs.ValidSets.{rules_of}
use Rattle.split_rules.specs.PartHistories.{IsEntryBy, after}
use Rattle.split_rules.specs.PartHistories as history
use Rattle.split_rules.specs.PartPast.{Moved, PartPast}
use Rattle.split_rules.specs.declared.SplitAct.{SplitAct}
use Rattle.split_rules.specs.declared.SplitAct.TheVariants.{Plain, Take}
use Rattle.split_rules.specs.declared.SplitEntry.{SplitEntry}
use Rattle.split_facts.specs.Kept.{IsPlainPart}
use Rattle.split_laws.specs.Users.{AreUsers}
use Rattle.split_laws.proofs.UserLaws.{legal_past_has_users}
use Rattle.part_state.specs.Entries.{HeldIsKnown, IsPlainGroup, KeptAfterEntry, after_by}
use Rattle.part_state.specs.States.{IsAt, PartState, with_clock}
use Rattle.part_state.proofs.KeptLaws.{kept_after_act, kept_after_clock, kept_after_take}

module _ (g : Group) (q : ℕ) (past : PartPast) (plain : IsPlainGroup g q) (users : AreUsers g q past) where
  part-clock : (tick : ℕ) → IsPlainPart g q (Moved (Clock tick) ∷ past)
  unfolding runs
  part-clock tick = record {
    inside = plain.inside;
    runs_in = users.runs_in;
    plain = λ t h. plain.plain t (users.runs_in t h);
  }

  kept-by : (x : SplitAct) (e : SplitEntry) (p : PartState) → IsEntryBy g q x past e → IsAt g past p
      → IsAt g (history.after_entry g q x e past) (after_by g.setup.tasks q x e p)
  kept-by (Plain act) e p h at =
      kept_after_act g q act h.0 e.reply (Moved (Clock e.tick.0) ∷ past) (with_clock e.tick.0 p) (part-clock e.tick.0) h.1
      (kept_after_clock g e.tick.0 past p at)
  kept-by (Take s n t) e p h at =
      kept_after_take g (record { sem = s.0; no = n; task = t.0 }) past p (users.waiters t.0 s.0 h.0).there at

pub kept_after_entry : KeptAfterEntry
unfolding after
kept_after_entry g q es e p plain legal h at =
    kept-by g q (history.past_of g q es) plain (legal_past_has_users g q es legal) e.act e p h at

pub held_is_known : HeldIsKnown
held_is_known g q es valid legal t r h =
    let u = (legal_past_has_users g q es legal).holders t r h in (rules_of g valid).is_known t r u.there u.declared
