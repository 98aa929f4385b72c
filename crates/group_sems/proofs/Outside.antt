-- In clusters outside the group no PCP and no SRP semaphore is held, at first and after each call.
use Rattle.std.proofs.Common.{◌≡◌, ◌∙◌, ℕ, zero, suc, Bool, true, false, List, [], ◌∷◌, length, map, refl, sym, subst, eqb-true}
use Rattle.std.specs.Prelude.{◌==◌, slice_index_or, slice_set}
use Rattle.rt_task.specs.RuleWords.{is_of_one_cluster}
use Rattle.rt_task.specs.declared.Protocol.{Protocol}
use Rattle.rt_task.specs.declared.Protocol.TheVariants.{Fmlp, Mpcp, Omlp, Pcp, Srp}
use Rattle.rt_rules.specs.declared.Key.{Key}
use Rattle.rt_rules.specs.Numbers.{has, numbers_from}
use Rattle.rt_model.specs.Group.{Group, home, in_group, protocol, sems, users}
use Rattle.rt_model.specs.Past.{Event, Past, sem_act}
use Rattle.rt_model.specs.Reachable.{IsReachable}
use Rattle.rt_model.specs.BaseKeys.{base_key}
use Rattle.rt_task.specs.Validity.{IsValid}
use Rattle.rt_rules.specs.SemState.{Asks, Frees}
use Rattle.rt_laws.proofs.semaphores.Asked.{IsAsked}
use Rattle.rt_laws.proofs.jobs.Engaged.{holder-engaged}
use Rattle.rt_laws.proofs.Moves.{last_move}
use Rattle.rt_laws.proofs.Next.{next}
use Rattle.rt_laws.proofs.ValidSets.{rules_of}
use Rattle.rt_changes.proofs.Acting.{IsParty, all_parties}
use Rattle.group_sems.specs.GroupSems.{GroupSems}
use Rattle.rt_model.specs.Semaphores.{cluster_of}
use Rattle.rt_rules.proofs.BoolLaws.{clash, unless}
use Rattle.rt_laws.proofs.GroupLaws.{user-home, user-task}
use Rattle.rt_laws.proofs.Rules.{MeetsRules}
use Rattle.pcp_sem.specs.PcpKept.{PcpKept}
use Rattle.srp_sem.specs.SrpKept.{SrpKept}
use Rattle.sem_table.specs.declared.any_sem.AnySem.{AnySem}
use Rattle.sem_table.specs.declared.any_sem.AnySem.TheVariants as any
use Rattle.sem_table.specs.Asked.{after_ask, set_asked, sets_asked, srp_asked}
use Rattle.sem_table.specs.Opened.{IsOpened, has_pcp, is_srp_home, new_set, new_set_if, new_srp, new_srp_if}
use Rattle.sem_table.specs.Released.{after_release, set_freed, sets_freed, srp_freed}
use Rattle.sem_table.specs.SemTable.{ClusterSets, SemTable, no_set, no_srp_set, sem_at, set_at, srp_set_at}
use Rattle.sem_table.specs.KeptSems.{KeepsSem, KeepsSems}
use Rattle.sem_table.proofs.Conditions.{group-of}
use Rattle.sem_table.proofs.Lists.{at-other}
use Rattle.group_sems.specs.Kept.{IsEmptyOutside, KeepsLocks}

-- ---- at first

new-empty : (b : Bool) (keys : List Key) (n : ℕ) → (new_set_if b keys n).state.held ≡ []
new-empty true keys n = refl
new-empty false keys n = refl

all-empty : (g : Group) (ns : List ℕ) (c : ℕ) → (slice_index_or (map (new_set g) ns) c no_set).state.held ≡ []
all-empty g [] c = refl
all-empty g (n ∷ ns) zero = new-empty (has_pcp g n) _ _
all-empty g (n ∷ ns) (suc c) = all-empty g ns c

new-srp_empty : (b : Bool) (rows : List ℕ) (n : ℕ) → (new_srp_if b rows n).held ≡ []
new-srp_empty true rows n = refl
new-srp_empty false rows n = refl

all-srp_empty : (g : Group) (ns : List ℕ) (c : ℕ) → (slice_index_or (map (new_srp g) ns) c no_srp_set).held ≡ []
all-srp_empty g [] c = refl
all-srp_empty g (n ∷ ns) zero = new-srp_empty (is_srp_home g n) _ _
all-srp_empty g (n ∷ ns) (suc c) = all-srp_empty g ns c

pub opened-empty : (g : Group) (w : SemTable) → IsOpened g w → IsEmptyOutside g w
opened-empty g w o c h = (rw o.sets (all-empty g (numbers_from 0 (length g.setup.clusters)) c), rw o.srp_sets (all-srp_empty g (numbers_from 0 (length g.setup.clusters)) c))

-- ---- a call changes the sets of the group alone

module _ (g : Group) (rules : MeetsRules g) (past : Past) (w : SemTable) (t s : ℕ) (user : has t (users g s) ≡ true) (empty : IsEmptyOutside g w) where
  apart : (n c : ℕ) → is_of_one_cluster (protocol g s) g.setup.plugin ≡ true → n ≡ cluster_of g s → in_group g c ≡ false → n == c ≡ false
  apart n c q e h = unless _ (λ m. clash _ (inside n c e m) h)
    where
      inside : (n c : ℕ) → n ≡ cluster_of g s → n == c ≡ true → in_group g c ≡ true
      inside n c e m =
          let at_home : home g t ≡ cluster_of g s = user-home g rules s t q user in
          subst (λ (x : ℕ). in_group g x ≡ true) (at_home ∙ sym e ∙ eqb-true n c m) (group-of g t (user-task g s t user).0)

  -- in a cluster outside the group nothing is held in these sets
  abbrev IsEmptyAt : ClusterSets → ℕ → Type 0
  IsEmptyAt sets c = ((set_at sets c).state.held ≡ []) × ((srp_set_at sets c).held ≡ [])

  other-set : (n c : ℕ) (p : PcpKept) → protocol g s ≡ Pcp → n ≡ cluster_of g s → in_group g c ≡ false → IsEmptyAt (record w.sets { pcp = slice_set w.sets.pcp n p }) c
  other-set n c p q e h = (rw (at-other w.sets.pcp n c p no_set (apart n c (rw q) e h)) (empty c h).0, (empty c h).1)

  other-srp : (n c : ℕ) (p : SrpKept) → protocol g s ≡ Srp → n ≡ cluster_of g s → in_group g c ≡ false → IsEmptyAt (record w.sets { srp = slice_set w.sets.srp n p }) c
  other-srp n c p q e h = ((empty c h).0, rw (at-other w.sets.srp n c p no_srp_set (apart n c (rw q) e h)) (empty c h).1)

  asked-by : (key : Key) (p : Protocol) (x : AnySem) → protocol g s ≡ p → KeepsSem g s past p x → (c : ℕ) → in_group g c ≡ false → IsEmptyAt (sets_asked t key s x w.sets) c
  asked-by key Fmlp (any.Fmlp l) q v c h = empty c h
  asked-by key Omlp (any.Omlp l) q v c h = empty c h
  asked-by key Mpcp (any.Mpcp l) q v c h = empty c h
  asked-by key Pcp (any.Pcp n) q v c h = other-set n.0 c (set_asked t key s (set_at w.sets n.0)) q v h
  asked-by key Srp (any.Srp n) q v c h = other-srp n.0 c (srp_asked t s (srp_set_at w.sets n.0)) q v h
  asked-by key p x q v c h = absurd v

  freed-by : (p : Protocol) (x : AnySem) → protocol g s ≡ p → KeepsSem g s past p x → (c : ℕ) → in_group g c ≡ false → IsEmptyAt (sets_freed t s x w.sets) c
  freed-by Fmlp (any.Fmlp l) q v c h = empty c h
  freed-by Omlp (any.Omlp l) q v c h = empty c h
  freed-by Mpcp (any.Mpcp l) q v c h = empty c h
  freed-by Pcp (any.Pcp n) q v c h = other-set n.0 c (set_freed t s (set_at w.sets n.0)) q v h
  freed-by Srp (any.Srp n) q v c h = other-srp n.0 c (srp_freed t s (srp_set_at w.sets n.0)) q v h
  freed-by p x q v c h = absurd v

-- a request of a user, and a release
ask-empty : (g : Group) → MeetsRules g → (past : Past) (w : SemTable) (t s : ℕ) (key : Key) → has s (sems g) ≡ true → has t (users g s) ≡ true → KeepsSems g past w → IsEmptyOutside g w → IsEmptyOutside g (after_ask t key s w)
ask-empty g rules past w t s key known user k empty = asked-by g rules past w t s user empty key (protocol g s) (sem_at w.sems s) refl (k.kept s known)

release-empty : (g : Group) → MeetsRules g → (past : Past) (w : SemTable) (t s : ℕ) → has s (sems g) ≡ true → has t (users g s) ≡ true → KeepsSems g past w → IsEmptyOutside g w → IsEmptyOutside g (after_release t s w)
release-empty g rules past w t s known user k empty = freed-by g rules past w t s user empty (protocol g s) (sem_at w.sems s) refl (k.kept s known)

-- ---- a Lock and an Unlock that are accepted

pub asked-empty : (g : Group) (e : Event) (past : Past) → IsValid g.setup → IsReachable g (e ∷ past) → (v : GroupSems) (t s : ℕ) → sem_act e ≡ Asks t s → KeepsLocks g past v → IsEmptyOutside g (after_ask t (base_key g t past) s v.table)
asked-empty g e past valid made v t s h k =
    let last = last_move g made in
    let a : IsAsked g t s past = (next g (rules_of g valid) last.0 last.1).asked t s h in
    ask-empty g (rules_of g valid) past v.table t s (base_key g t past) a.known a.user k.sems_are k.none_outside

pub freed-empty : (g : Group) (e : Event) (past : Past) → IsValid g.setup → IsReachable g (e ∷ past) → (v : GroupSems) (t s : ℕ) → sem_act e ≡ Frees t s → KeepsLocks g past v → IsEmptyOutside g (after_release t s v.table)
freed-empty g e past valid made v t s h k =
    let last = last_move g made in
    let owns : IsParty g t s = all_parties g (rules_of g valid) last.0 t s (holder-engaged g t s past ((next g (rules_of g valid) last.0 last.1).freed t s h)) in
    release-empty g (rules_of g valid) past v.table t s owns.known owns.user k.sems_are k.none_outside
