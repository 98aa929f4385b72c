-- How a job stands that is there: it sleeps, it waits for a semaphore, it is eligible, or its reservation or SRP keeps it back.
use Rattle.std.specs.List.{concat}
use Rattle.std.specs.Prelude.{ℕ, not, ◌&&◌, ◌==◌, Bool, true, false, List, [], ◌∷◌, ◌++◌, filter, Option, None, Some, codes, decimal}
use Rattle.std.specs.Prelude.{if◌then◌else◌}
use Rattle.rt_task.specs.declared.PluginKind.{PluginKind}
use Rattle.rt_task.specs.declared.PluginKind.TheVariants.{PRes}
use Rattle.rt_task.specs.declared.Protocol.{Protocol}
use Rattle.rt_task.specs.declared.Protocol.TheVariants.{Pcp}
use Rattle.rt_rules.specs.Numbers.{foremost}
use Rattle.rt_model.specs.Blockers.{has_higher_ceiling}
use Rattle.rt_model.specs.Blocking.{is_blocked}
use Rattle.rt_model.specs.Ceilings.{is_pcp}
use Rattle.rt_model.specs.EffectiveKeys.{waits_for}
use Rattle.rt_model.specs.Group.{Group, home, protocol, served_by}
use Rattle.rt_model.specs.Holders.{awaits, holder}
use Rattle.rt_model.specs.Past.{Past}
use Rattle.rt_model.specs.Reservations.{front, left}
use Rattle.rt_model.specs.Sleep.{sleeps, wakes}
use Rattle.rt_model.specs.Tops.{eligible}
use Rattle.why_texts.specs.Pieces.{Piece, sem_name, sem_or_dash, task_or_dash}
use Rattle.why_texts.specs.SemLines.{declared_sems}

module _ (g : Group) where
  -- under PCP: of the semaphores that other tasks of its cluster hold, the one of the highest ceiling
  abbrev pub is_other : ℕ → Option ℕ → Bool
  is_other t None = false
  is_other t (Some u) = home g u == home g t && not (u == t)

  unfoldable pub held_by_others : ℕ → Past → List ℕ
  held_by_others t past = filter (λ s. is_pcp (protocol g s) && is_other t (holder g s past)) (declared_sems g)

  unfoldable pub highest_of_others : ℕ → Past → Option ℕ
  highest_of_others t past = foremost (has_higher_ceiling g) (held_by_others t past)

  abbrev pub with_piece : Protocol → ℕ → Past → Piece
  with_piece Pcp t past = codes " with " ++ sem_or_dash g (highest_of_others t past)
  with_piece _ t past = []

  -- a task waits for this semaphore, priority-blocked or not
  abbrev pub waiting_words : Bool → Piece
  waiting_words true = codes " blocked at "
  waiting_words false = codes " waits for "

  abbrev pub waiting_standing : ℕ → ℕ → Past → Piece
  waiting_standing s t past = concat (
      waiting_words (is_blocked g t past) ∷ sem_name g s ∷ codes ", kept by " ∷ task_or_dash g (waits_for g t past)
      ∷ with_piece (protocol g s) t past ∷ [])

  -- a ready task that waits for none is eligible, or kept back: by its reservation, which has no budget or serves another client, or
  -- by the test of SRP
  abbrev pub kept_back : PluginKind → ℕ → Past → Piece
  kept_back PRes t past =
      if left g (served_by g t) past == 0
      then codes " without budget"
      else (codes " behind " ++ task_or_dash g (front g (served_by g t) past))
  kept_back _ t past = codes " kept from starting by SRP"

  abbrev pub ready_standing : Option ℕ → ℕ → Past → Piece
  ready_standing (Some s) t past = waiting_standing s t past
  ready_standing None t past = if eligible g t past then codes " eligible" else kept_back g.setup.plugin t past

  unfoldable pub standing : ℕ → Past → Piece
  standing t past =
      if sleeps t past
      then (codes " sleeps until " ++ decimal (wakes t past))
      else ready_standing (awaits g t past) t past
