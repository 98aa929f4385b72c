-- The value of a valid set has numbers of 64 bits, names that are text, and members in rising order.
use Rattle.std.proofs.Common.{◌≡◌, ℕ, zero, suc, ◌+◌, ◌-◌, ◌*◌, ◌^◌, max, ◌<◌, ◌≤◌, ◌==◌, List, [], ◌∷◌, ◌++◌, Bool, true, false, ◌&&◌, ◌||◌, cond, codes, fold, length, get_or, map, nat_le, nat_lt, Option, Some, None, refl, ap, sym, subst, ◌∙◌, arith}
use Rattle.std.specs.Str.{IsUtf8}
use Rattle.std.specs.List.{list_all}
use Rattle.std.proofs.Math.Nat.{mul-suc}
use Rattle.std.proofs.lemmas.Bool.{and_parts, eqb-true, leb-true, ltb-true, lt-ltb}
use Rattle.std.proofs.lemmas.List.{length-append, length-map}
use Rattle.std.proofs.lemmas.Option.{unwrap_or-slice_get}
use Rattle.std.specs.Prelude.{slice_get, unwrap_or}
use Rattle.rt_base.specs.declared.ResvNo.{ResvNo}
use Rattle.rt_base.specs.declared.SemNo.{SemNo}
use Rattle.rt_base.specs.declared.TheConstants.{MOST_CLUSTERS, MOST_CPUS, MOST_OPERATIONS, MOST_PRIO, MOST_RESVS, MOST_SEMS, MOST_SLOTS, MOST_STEPS, MOST_TASKS, MOST_TURN_STEPS, TICK_END}
use Rattle.rt_task.specs.declared.Act.{Act}
use Rattle.rt_task.specs.declared.Act.TheVariants as acts
use Rattle.rt_task.specs.declared.Cluster.{Cluster}
use Rattle.rt_task.specs.declared.Drive.{Drive}
use Rattle.rt_task.specs.declared.Drive.TheVariants.{Steps, Horizon}
use Rattle.rt_task.specs.declared.Kind.{Kind}
use Rattle.rt_task.specs.declared.Kind.TheVariants as task_kinds
use Rattle.rt_task.specs.declared.Op.{Op}
use Rattle.rt_task.specs.declared.Op.TheVariants as ops
use Rattle.rt_task.specs.declared.Parts.{Parts}
use Rattle.rt_task.specs.declared.PluginKind.{PluginKind}
use Rattle.rt_task.specs.declared.PluginKind.TheVariants.{GsnEdf, CEdf, PsnEdf, PFp, PRes}
use Rattle.rt_task.specs.declared.Protocol.{Protocol}
use Rattle.rt_task.specs.declared.Protocol.TheVariants.{Fmlp, Omlp, Pcp, Mpcp, Srp}
use Rattle.rt_task.specs.declared.Resv.{Resv}
use Rattle.rt_task.specs.declared.ResvKind.{ResvKind}
use Rattle.rt_task.specs.declared.ResvKind.TheVariants as resv_kinds
use Rattle.rt_task.specs.declared.Sem.{Sem}
use Rattle.rt_task.specs.declared.Step.{Step}
use Rattle.rt_task.specs.declared.Task.{Task}
use Rattle.rt_task.specs.declared.draft.DraftCluster.{DraftCluster}
use Rattle.rt_task.specs.declared.draft.DraftDrive.TheVariants as DraftDrives
use Rattle.rt_task.specs.declared.draft.DraftResv.{DraftResv}
use Rattle.rt_task.specs.declared.draft.DraftStep.{DraftStep}
use Rattle.rt_task.specs.declared.draft.DraftTask.{DraftTask}
use Rattle.rt_task.specs.declared.draft.Piece.{Piece}
use Rattle.rt_task.specs.declared.draft.Piece.TheVariants.{Works, Once}
use Rattle.rt_task.specs.Draft.{runs, draft_of, draft_cluster, draft_resv, draft_step, draft_drive, steps_of}
use Rattle.rt_task.specs.Lookups.{cpus}
use Rattle.rt_task.specs.NameRules.{sem_name, resv_name, task_name}
use Rattle.rt_task.specs.RangeRules.{groups_top, group_follows, whole_range, cluster_range, resv_range, task_range, step_range}
use Rattle.rt_task.specs.Refusals.{first_failing}
use Rattle.rt_task.specs.RuleWords.{within, is_span, is_prio, is_name, is_name_byte, allows_clusters, piece_in_range, op_in_range, act_in_range}
use Rattle.rt_task.specs.SizeRules.{horizon_fits, whole_size}
use Rattle.rt_task.specs.SlotRules.{slots_follow, slots_in_range, slots_length}
use Rattle.rt_task.specs.declared.Slot.{Slot}
use Rattle.json.proofs.Printed.Utf8.{are_ascii, IsUtf8-are_ascii}
use Rattle.serde_json.specs.Data.{Data, boolean, string, Members, no_members, member}
use Rattle.serde_json.specs.View.{items_of}
use Rattle.set_canonical.specs.Canonical.{set_data}
use Rattle.set_canonical.specs.Values.{cluster_data, sem_data, slot_data, resv_data, task_data, step_data, piece_data, op_items, act_items, resv_or_null, uses_data, natural_data, array_data, name_at, sem_names, resv_names, task_names}
use Rattle.set_canonical.specs.Words.{plugin_word, protocol_word, resv_kind_word, kind_word}
use Rattle.set_laws.proofs.CompactLaws.{IsStored, AreStored, MembersStored}
use Rattle.set_laws.proofs.BackLaws.{map-same}
use Rattle.set_laws.proofs.KnownLaws.{names_task}
use Rattle.set_laws.proofs.Passing.{Rows, passed, within_parts}
use Rattle.set_laws.proofs.WholeLaws.{canonical_plan}

-- ---- text

key : (s : List ℕ) → are_ascii s ≡ true → IsUtf8 s
key s h = IsUtf8-are_ascii s h

plugin_text : (x : PluginKind) → IsUtf8 (plugin_word x)
plugin_text GsnEdf = key (codes "GSN-EDF") refl
plugin_text CEdf = key (codes "C-EDF") refl
plugin_text PsnEdf = key (codes "PSN-EDF") refl
plugin_text PFp = key (codes "P-FP") refl
plugin_text PRes = key (codes "P-RES") refl

protocol_text : (x : Protocol) → IsUtf8 (protocol_word x)
protocol_text Fmlp = key (codes "FMLP") refl
protocol_text Omlp = key (codes "OMLP") refl
protocol_text Pcp = key (codes "PCP") refl
protocol_text Mpcp = key (codes "MPCP") refl
protocol_text Srp = key (codes "SRP") refl

resv_kind_text : (x : ResvKind) → IsUtf8 (resv_kind_word x)
resv_kind_text resv_kinds.Polling = key (codes "polling") refl
resv_kind_text resv_kinds.Sporadic = key (codes "sporadic") refl
resv_kind_text resv_kinds.Table = key (codes "table") refl

kind_text : (x : Kind) → IsUtf8 (kind_word x)
kind_text task_kinds.Periodic = key (codes "periodic") refl
kind_text task_kinds.Sporadic = key (codes "sporadic") refl

-- a name's bytes are ASCII
byte_small : (b : ℕ) → is_name_byte b ≡ true → b < 128
byte_small b h = by_digit (within 48 57 b) refl
  where
    by_dash : (x : Bool) → (b == 95) ≡ x → (x || b == 45) ≡ true → b < 128
    by_dash true e k = let n = eqb-true b 95 e in omega arith
    by_dash false e k = let n = eqb-true b 45 k in omega arith

    by_small : (x : Bool) → within 97 122 b ≡ x → (x || (b == 95 || b == 45)) ≡ true → b < 128
    by_small true e k = let n = within_parts 97 122 b e in omega arith
    by_small false e k = by_dash (b == 95) refl k

    by_capital : (x : Bool) → within 65 90 b ≡ x → (x || (within 97 122 b || (b == 95 || b == 45))) ≡ true → b < 128
    by_capital true e k = let n = within_parts 65 90 b e in omega arith
    by_capital false e k = by_small (within 97 122 b) refl k

    by_digit : (x : Bool) → within 48 57 b ≡ x → b < 128
    by_digit true e = let n = within_parts 48 57 b e in omega arith
    by_digit false e = by_capital (within 65 90 b) refl (ap (λ y. y || (within 65 90 b || (within 97 122 b || (b == 95 || b == 45)))) (sym e) ∙ h)

bytes_ascii : (s : List ℕ) → list_all is_name_byte s ≡ true → are_ascii s ≡ true
bytes_ascii [] h = refl
bytes_ascii (b ∷ s) h =
    let a = and_parts (is_name_byte b) (list_all is_name_byte s) h in
    ap (λ x. x && are_ascii s) (lt-ltb b 128 (byte_small b a.0)) ∙ bytes_ascii s a.1

name_text : (s : List ℕ) → is_name s ≡ true → IsUtf8 s
name_text s h = key s (bytes_ascii s (and_parts (within 1 32 (length s)) (list_all is_name_byte s) h).1)

abbrev AllText : List (List ℕ) → Type 0
AllText [] = Unit {0}
AllText (w ∷ ws) = IsUtf8 w × AllText ws

get_text : (ws : List (List ℕ)) (i : ℕ) → AllText ws → IsUtf8 (get_or ws i [])
get_text [] i h = key [] refl
get_text (w ∷ ws) zero h = h.0
get_text (w ∷ ws) (suc i) h = get_text ws i h.1

text_at : (ws : List (List ℕ)) (n : ℕ) → AllText ws → IsUtf8 (name_at ws n)
text_at ws n h = by_test (n == 0)
  where
    by_test : (b : Bool) → IsUtf8 (cond b [] (unwrap_or (slice_get ws (n - 1)) []))
    by_test true = key [] refl
    by_test false = subst IsUtf8 (sym (unwrap_or-slice_get ws (n - 1) [])) (get_text ws (n - 1) h)

-- a rule by which each name is text
all_text : {A B : Type 0} (rule : List B → B → Bool) (f : A → B) (name : A → List ℕ) → ((e : List B) (x : A) → rule e (f x) ≡ true → IsUtf8 (name x))
    → (e : List B) (xs : List A) → first_failing rule e (map f xs) ≡ None → AllText (map name xs)
all_text rule f name text e [] h = tt
all_text rule f name text e (x ∷ xs) h = let a = passed rule e (f x) (map f xs) h in (text e x a.0, all_text rule f name text (e ++ f x ∷ []) xs a.1)

-- ---- numbers

fits : (n m : ℕ) → n ≤ m → m ≤ TICK_END → n < 2 ^ 64
fits n m a b = omega arith

span_fits : (n : ℕ) → is_span n ≡ true → n < 2 ^ 64
span_fits n h = fits n (TICK_END - 1) (within_parts 1 (TICK_END - 1) n h).1 (omega arith)

prio_fits : (n : ℕ) → is_prio n ≡ true → n < 2 ^ 64
prio_fits n h = fits n MOST_PRIO (within_parts 1 MOST_PRIO n h).1 (omega arith)

-- ---- operations, acts and pieces

module _ (sems tasks : List (List ℕ)) (text : AllText sems) (task_text : AllText tasks) where
  op_stored : (op : Op) → op_in_range op ≡ true → AreStored (items_of (op_items sems op))
  op_stored ops.Work h = (key (codes "work") refl, tt)
  op_stored (ops.Lock s) h = (key (codes "lock") refl, (text_at sems s.0 text, tt))
  op_stored (ops.Unlock s) h = (key (codes "unlock") refl, (text_at sems s.0 text, tt))
  op_stored (ops.Sleep n) h = (key (codes "sleep") refl, (span_fits n h, tt))
  op_stored ops.NpOn h = (key (codes "npon") refl, tt)
  op_stored ops.NpOff h = (key (codes "npoff") refl, tt)
  op_stored ops.End h = (key (codes "end") refl, tt)

  act_stored : (a : Act) → act_in_range a ≡ true → AreStored (items_of (act_items sems tasks a))
  act_stored acts.Tick h = (key (codes "tick") refl, tt)
  act_stored acts.Irq h = (key (codes "irq") refl, tt)
  act_stored (acts.Arrive t) h = (key (codes "arrive") refl, (text_at tasks t.0 task_text, tt))
  act_stored (acts.Do op) h = op_stored op h

  piece_stored : (x : Piece) → piece_in_range x ≡ true → IsStored (piece_data sems x)
  unfolding piece_data
  piece_stored (Works n) h = (key (codes "work") refl, (fits n MOST_OPERATIONS (within_parts 1 MOST_OPERATIONS n h).1 (omega arith), tt))
  piece_stored (Once op) h = op_stored op h

  pieces_stored : (xs : List Piece) → list_all piece_in_range xs ≡ true → AreStored (items_of (map (piece_data sems) xs))
  pieces_stored [] h = tt
  pieces_stored (x ∷ xs) h = let a = and_parts (piece_in_range x) (list_all piece_in_range xs) h in (piece_stored x a.0, pieces_stored xs a.1)

  uses_stored : (ss : List SemNo) → AreStored (items_of (map (λ (s : SemNo). string (name_at sems s.0)) ss))
  uses_stored [] = tt
  uses_stored (s ∷ ss) = (text_at sems s.0 text, uses_stored ss)

resv_stored : (resvs : List (List ℕ)) → AllText resvs → (o : Option ResvNo) → IsStored (resv_or_null resvs o)
resv_stored resvs text None = tt
resv_stored resvs text (Some r) = text_at resvs r.0 text

-- ---- elements

-- two rules by which each element is stored
all_stored : {A B : Type 0} (p q : List B → B → Bool) (g : A → B) (f : A → Data) → ((e : List B) (x : A) → p e (g x) ≡ true → q e (g x) ≡ true → IsStored (f x))
    → (e : List B) (xs : List A) → first_failing p e (map g xs) ≡ None → first_failing q e (map g xs) ≡ None → AreStored (items_of (map f xs))
all_stored p q g f stored e [] h k = tt
all_stored p q g f stored e (x ∷ xs) h k =
    let a = passed p e (g x) (map g xs) h in
    let b = passed q e (g x) (map g xs) k in (stored e x a.0 b.0, all_stored p q g f stored (e ++ g x ∷ []) xs a.1 b.1)

groups_top-more : (e : List DraftCluster) (c : DraftCluster) → groups_top (e ++ c ∷ []) ≡ max (groups_top e) c.group
groups_top-more [] c = omega arith
groups_top-more (k ∷ ks) c = let h = groups_top-more ks c in omega arith

group_small : (e : List DraftCluster) (g : ℕ) → groups_top e ≤ length e → group_follows e g ≡ true → g ≤ length e + 1
group_small [] g top h = let n = eqb-true g 0 h in omega arith
group_small (k ∷ ks) g top h = let n = leb-true g (groups_top (k ∷ ks) + 1) h in omega arith

-- what the rules say of a task's members
record FitsTask (t : Task) : Type 0 where
  cluster : t.cluster.0 < 2 ^ 64
  cost : t.cost < 2 ^ 64
  deadline : t.rel_deadline < 2 ^ 64
  name : IsUtf8 t.name
  period : t.period < 2 ^ 64
  phase : t.phase < 2 ^ 64
  prio : t.prio < 2 ^ 64
  pieces : list_all piece_in_range (runs t.body) ≡ true

module _ (sems resvs : List (List ℕ)) (text : AllText sems) (resv_text : AllText resvs) where
  abbrev later_members : Task → Members
  later_members t =
      member (codes "enforce") (boolean t.enforce) (
      member (codes "kind") (string (kind_word t.kind)) (
      member (codes "name") (string t.name) (
      member (codes "period") (natural_data t.period) (
      member (codes "phase") (natural_data t.phase) (
      member (codes "prio") (natural_data t.prio) (
      member (codes "resv") (resv_or_null resvs t.resv) (
      member (codes "uses") (uses_data sems t.uses) no_members)))))))

  later_stored : (t : Task) → FitsTask t → MembersStored (later_members t)
  later_stored t h = (
    key (codes "enforce") refl,
    tt,
    (
      key (codes "kind") refl,
      kind_text t.kind,
      (
        key (codes "name") refl,
        h.name,
        (
          key (codes "period") refl,
          h.period,
          (
            key (codes "phase") refl,
            h.phase,
            (
              key (codes "prio") refl,
              h.prio,
              (key (codes "resv") refl, resv_stored resvs resv_text t.resv, (key (codes "uses") refl, uses_stored sems [] text tt t.uses, tt)),
            ),
          ),
        ),
      ),
    ),
  )

  first_stored : (t : Task) (rest : Members) → FitsTask t → MembersStored rest
      → MembersStored (member (codes "body") (array_data (piece_data sems) (runs t.body)) (member (codes "cluster") (natural_data t.cluster.0) (member (codes "cost") (natural_data t.cost) (member (codes "deadline") (natural_data t.rel_deadline) rest))))
  first_stored t rest h stored = (
    key (codes "body") refl,
    pieces_stored sems [] text tt (runs t.body) h.pieces,
    (key (codes "cluster") refl, h.cluster, (key (codes "cost") refl, h.cost, (key (codes "deadline") refl, h.deadline, stored))),
  )

  task_stored : (t : Task) → FitsTask t → IsStored (task_data sems resvs t)
  unfolding task_data
  task_stored t h = by_early t.early
    where
      by_early : (early : Bool) → IsStored (task_data sems resvs (record t { early = early }))
      by_early true = (refl, first_stored t (member (codes "early") (boolean true) (later_members t)) h (key (codes "early") refl, tt, later_stored t h))
      by_early false = (refl, first_stored t (later_members t) h (later_stored t h))

module _ (p : Parts) where
  clusters_stored : (e : List DraftCluster) (cs : List Cluster) → groups_top e ≤ length e → length e + length cs ≤ MOST_CLUSTERS
      → first_failing (cluster_range (draft_of p)) e (map draft_cluster cs) ≡ None → AreStored (items_of (map cluster_data cs))
  unfolding cluster_data cluster_range
  clusters_stored e [] top count h = tt
  clusters_stored e (c ∷ cs) top count h =
      let a = passed (cluster_range (draft_of p)) e (draft_cluster c) (map draft_cluster cs) h in
      let b = and_parts _ _ a.0 in
      let follows = (and_parts _ _ b.1).1 in
      let group = group_small e c.group.0 top follows in
      let more = groups_top-more e (draft_cluster c) in
      let longer = length-append e (draft_cluster c ∷ []) in (
        (
          refl,
          (
            key (codes "cpus") refl,
            fits c.cpus MOST_CPUS (within_parts 1 MOST_CPUS c.cpus b.0).1 (omega arith),
            (key (codes "group") refl, fits c.group.0 (MOST_CLUSTERS + 1) (omega arith) (omega arith), tt),
          ),
        ),
        clusters_stored (e ++ draft_cluster c ∷ []) cs (omega arith) (omega arith) a.1,
      )

  sem_stored : (e : List Sem) (s : Sem) → sem_name (draft_of p) e s ≡ true → IsStored (sem_data s)
  unfolding sem_data sem_name
  sem_stored e s h =
      (refl, (key (codes "name") refl, name_text s.name (and_parts _ _ h).0, (key (codes "protocol") refl, protocol_text s.protocol, tt)))

  -- the number of clusters
  abbrev FewClusters : Type 0
  FewClusters = length p.clusters ≤ MOST_CLUSTERS

  cluster_fits : FewClusters → (n : ℕ) → nat_lt n (length (map draft_cluster p.clusters)) ≡ true → n < 2 ^ 64
  cluster_fits few n h =
      let lt = ltb-true n (length (map draft_cluster p.clusters)) h in
      let count = length-map p.clusters draft_cluster in
      fits n MOST_CLUSTERS (omega arith) (omega arith)

  table_stored : (start cycle : ℕ) (ss : List Slot) → cycle < TICK_END → slots_follow start cycle ss ≡ true → AreStored (items_of (map slot_data ss))
  unfolding slot_data
  table_stored start cycle [] few h = tt
  table_stored start cycle (s ∷ ss) few h =
      let a = and_parts (nat_le start s.from) (nat_lt s.from s.to && (nat_le s.to cycle && slots_follow s.to cycle ss)) h in
      let b = and_parts (nat_lt s.from s.to) (nat_le s.to cycle && slots_follow s.to cycle ss) a.1 in
      let c = and_parts (nat_le s.to cycle) (slots_follow s.to cycle ss) b.1 in
      let low = ltb-true s.from s.to b.0 in
      let high = leb-true s.to cycle c.0 in (
        (fits s.from (TICK_END - 1) (omega arith) (omega arith), (fits s.to (TICK_END - 1) (omega arith) (omega arith), tt)),
        table_stored s.to cycle ss few c.1,
      )

  -- what the rules say of a reservation's members
  record FitsResv (r : Resv) : Type 0 where
    budget : r.budget < 2 ^ 64
    cluster : r.cluster.0 < 2 ^ 64
    name : IsUtf8 r.name
    period : r.period < 2 ^ 64
    prio : r.prio < 2 ^ 64
    short : r.period < TICK_END

  resv_by_kind : (r : Resv) (k : ResvKind) → FitsResv r → slots_in_range k r.period r.budget r.slots ≡ true → IsStored (resv_data (record r { kind = k }))
  unfolding resv_data
  resv_by_kind r resv_kinds.Polling f h = (
    refl,
    (
      key (codes "budget") refl,
      f.budget,
      (
        key (codes "cluster") refl,
        f.cluster,
        (
          key (codes "kind") refl,
          resv_kind_text resv_kinds.Polling,
          (key (codes "name") refl, f.name, (key (codes "period") refl, f.period, (key (codes "prio") refl, f.prio, tt))),
        ),
      ),
    ),
  )
  resv_by_kind r resv_kinds.Sporadic f h = (
    refl,
    (
      key (codes "budget") refl,
      f.budget,
      (
        key (codes "cluster") refl,
        f.cluster,
        (
          key (codes "kind") refl,
          resv_kind_text resv_kinds.Sporadic,
          (key (codes "name") refl, f.name, (key (codes "period") refl, f.period, (key (codes "prio") refl, f.prio, tt))),
        ),
      ),
    ),
  )
  resv_by_kind r resv_kinds.Table f h =
      let a = and_parts (within 1 MOST_SLOTS (length r.slots)) (slots_follow 0 r.period r.slots && r.budget == slots_length r.slots) h in
      let b = and_parts (slots_follow 0 r.period r.slots) (r.budget == slots_length r.slots) a.1 in (
        refl,
        (
          key (codes "budget") refl,
          f.budget,
          (
            key (codes "cluster") refl,
            f.cluster,
            (
              key (codes "kind") refl,
              resv_kind_text resv_kinds.Table,
              (
                key (codes "name") refl,
                f.name,
                (
                  key (codes "period") refl,
                  f.period,
                  (key (codes "prio") refl, f.prio, (key (codes "slots") refl, table_stored 0 r.period r.slots f.short b.0, tt)),
                ),
              ),
            ),
          ),
        ),
      )

  resv_is_stored : FewClusters → (e : List DraftResv) (r : Resv) → resv_range (draft_of p) e (draft_resv r) ≡ true → resv_name (draft_of p) e (draft_resv r) ≡ true → IsStored (resv_data r)
  unfolding resv_range resv_name
  resv_is_stored few e r h k =
      let a = and_parts (is_span r.period) (within 1 r.period r.budget && (is_prio r.prio && (nat_lt r.cluster.0 (length (draft_of p).clusters) && slots_in_range r.kind r.period r.budget r.slots))) h in
      let b = and_parts (within 1 r.period r.budget) (is_prio r.prio && (nat_lt r.cluster.0 (length (draft_of p).clusters) && slots_in_range r.kind r.period r.budget r.slots)) a.1 in
      let c = and_parts (is_prio r.prio) (nat_lt r.cluster.0 (length (draft_of p).clusters) && slots_in_range r.kind r.period r.budget r.slots) b.1 in
      let d = and_parts (nat_lt r.cluster.0 (length (draft_of p).clusters)) (slots_in_range r.kind r.period r.budget r.slots) c.1 in
      let span = within_parts 1 (TICK_END - 1) r.period a.0 in
      let budget = within_parts 1 r.period r.budget b.0 in
      resv_by_kind r r.kind (record {
        budget = fits r.budget (TICK_END - 1) (omega arith) (omega arith);
        cluster = cluster_fits few r.cluster.0 d.0;
        name = name_text r.name (and_parts _ _ k).0;
        period = span_fits r.period a.0;
        prio = prio_fits r.prio c.0;
        short = omega arith;
      }) d.1

  fits_task : FewClusters → (e : List DraftTask) (t : Task) → task_range (draft_of p) e (canonical_plan t) ≡ true → task_name (draft_of p) e (canonical_plan t) ≡ true → FitsTask t
  unfolding task_range
  fits_task few e t h k =
      let cost = and_parts _ _ h in
      let period = and_parts _ _ cost.1 in
      let deadline = and_parts _ _ period.1 in
      let phase = and_parts _ _ deadline.1 in
      let prio = and_parts _ _ phase.1 in
      let place = and_parts _ _ prio.1 in
      let before = ltb-true t.phase TICK_END phase.0 in
      record {
        cluster = cluster_fits few t.cluster.0 place.0;
        cost = span_fits t.cost cost.0;
        deadline = span_fits t.rel_deadline deadline.0;
        name = name_text t.name (names_task p e (canonical_plan t) k).form;
        period = span_fits t.period period.0;
        phase = fits t.phase TICK_END (omega arith) (omega arith);
        prio = prio_fits t.prio prio.0;
        pieces = place.1;
      }

  step_is_stored : AllText (sem_names p.sems) → AllText (task_names p.tasks) → cpus (draft_of p) ≤ MOST_CPUS → (e : List DraftStep) (s : Step) → step_range (draft_of p) e (draft_step s) ≡ true → IsStored (step_data (sem_names p.sems) (task_names p.tasks) s)
  unfolding step_data step_range
  step_is_stored sems tasks few e s h =
      let a = and_parts _ _ h in
      let b = and_parts _ _ a.1 in
      let cpu = ltb-true s.cpu.0 (cpus (draft_of p)) a.0 in
      let tick = ltb-true s.tick.0 TICK_END b.0 in
      (fits s.cpu.0 MOST_CPUS (omega arith) (omega arith), (fits s.tick.0 TICK_END (omega arith) (omega arith), act_stored (sem_names p.sems) (task_names p.tasks) sems tasks s.act b.1))

-- ---- the horizon

sum-above : (n : ℕ) (cs : List DraftCluster) → n ≤ fold (λ a (c : DraftCluster). a + c.cpus) n cs
sum-above n [] = omega arith
sum-above n (c ∷ cs) = let h = sum-above (n + c.cpus) cs in omega arith

some_clusters : (plugin : PluginKind) (n : ℕ) → allows_clusters plugin n ≡ true → 1 ≤ n
some_clusters GsnEdf n h = let e = eqb-true n 1 h in omega arith
some_clusters CEdf n h = ltb-true 0 n h
some_clusters PsnEdf n h = ltb-true 0 n h
some_clusters PFp n h = ltb-true 0 n h
some_clusters PRes n h = ltb-true 0 n h

times-above : (h c : ℕ) → 1 ≤ c → h ≤ h * c
times-above h zero le = absurd (omega arith)
times-above h (suc c) le = let e = mul-suc h c in omega arith

module _ (p : Parts) where
  cpus-above : (cs : List Cluster) → 1 ≤ length (map draft_cluster cs) → first_failing (cluster_range (draft_of p)) [] (map draft_cluster cs) ≡ None → 1 ≤ fold (λ a (c : DraftCluster). a + c.cpus) 0 (map draft_cluster cs)
  unfolding cluster_range
  cpus-above [] some h = absurd (omega arith)
  cpus-above (c ∷ cs) some h =
      let a = passed (cluster_range (draft_of p)) [] (draft_cluster c) (map draft_cluster cs) h in
      let b = and_parts _ _ a.0 in
      let low = within_parts 1 MOST_CPUS c.cpus b.0 in
      let rest = sum-above (0 + c.cpus) (map draft_cluster cs) in
      omega (arith, low.0, rest)

  some_cpus : Rows (draft_of p) → 1 ≤ cpus (draft_of p)
  unfolding whole_range cpus
  some_cpus h = cpus-above p.clusters (some_clusters p.plugin (length (map draft_cluster p.clusters)) (and_parts _ _ h.whole_in_range).0) h.clusters_in_range

  few_clusters : Rows (draft_of p) → FewClusters p
  unfolding whole_size
  few_clusters h =
      let a = leb-true (length (map draft_cluster p.clusters)) MOST_CLUSTERS (and_parts _ _ h.size).0 in
      let count = length-map p.clusters draft_cluster in
      omega arith

  few_cpus : Rows (draft_of p) → cpus (draft_of p) ≤ MOST_CPUS
  unfolding whole_size
  few_cpus h = leb-true (cpus (draft_of p)) MOST_CPUS (and_parts _ _ (and_parts _ _ h.size).1).0

  drive_fits : Rows (draft_of p) → horizon_fits (draft_of p) (draft_drive p.drive) ≡ true
  unfolding whole_size
  drive_fits h =
      let d = draft_of p in
      let a = and_parts (nat_le (length d.clusters) MOST_CLUSTERS) _ h.size in
      let b = and_parts (nat_le (cpus d) MOST_CPUS) _ a.1 in
      let c = and_parts (nat_le (length d.tasks) MOST_TASKS) _ b.1 in
      let e = and_parts (nat_le (length d.sems) MOST_SEMS) _ c.1 in
      (and_parts (nat_le (length d.resvs) MOST_RESVS) _ e.1).1

  horizon_stored : Rows (draft_of p) → (h : ℕ) → horizon_fits (draft_of p) (DraftDrives.Horizon h) ≡ true → h < 2 ^ 64
  horizon_stored r h k =
      let a = leb-true (h * cpus (draft_of p) * MOST_TURN_STEPS) MOST_STEPS k in
      let b = times-above h (cpus (draft_of p)) (some_cpus r) in
      fits h MOST_STEPS (omega arith) (omega arith)

  -- ---- the whole

  sems_text : Rows (draft_of p) → AllText (sem_names p.sems)
  unfolding sem_name
  sems_text h = all_text (sem_name (draft_of p)) (λ (s : Sem). s) (λ (s : Sem). s.name) (λ e s k. name_text s.name (and_parts _ _ k).0) [] p.sems (ap (first_failing (sem_name (draft_of p)) []) (map-same p.sems) ∙ h.sems_named)

  resvs_text : Rows (draft_of p) → AllText (resv_names p.resvs)
  unfolding resv_name
  resvs_text h = all_text (resv_name (draft_of p)) draft_resv (λ (r : Resv). r.name) (λ e r k. name_text r.name (and_parts _ _ k).0) [] p.resvs h.resvs_named

  tasks_text : Rows (draft_of p) → AllText (task_names p.tasks)
  tasks_text h = all_text (task_name (draft_of p)) canonical_plan (λ (t : Task). t.name) (λ e t k. name_text t.name (names_task p e (canonical_plan t) k).form) [] p.tasks h.tasks_named

  sems_stored : Rows (draft_of p) → AreStored (items_of (map sem_data p.sems))
  sems_stored h =
      let named = ap (first_failing (sem_name (draft_of p)) []) (map-same p.sems) ∙ h.sems_named in
      all_stored (sem_name (draft_of p)) (sem_name (draft_of p)) (λ (s : Sem). s) sem_data (λ e s k l. sem_stored p e s k) [] p.sems named named

  resvs_stored : Rows (draft_of p) → AreStored (items_of (map resv_data p.resvs))
  resvs_stored h = all_stored (resv_range (draft_of p)) (resv_name (draft_of p)) draft_resv resv_data (resv_is_stored p (few_clusters h)) [] p.resvs h.resvs_in_range h.resvs_named

  tasks_stored : Rows (draft_of p) → AreStored (items_of (map (task_data (sem_names p.sems) (resv_names p.resvs)) p.tasks))
  tasks_stored h =
      all_stored (task_range (draft_of p)) (task_name (draft_of p)) canonical_plan (task_data (sem_names p.sems) (resv_names p.resvs))
      (λ e t k l. task_stored (sem_names p.sems) (resv_names p.resvs) (sems_text h) (resvs_text h) t (fits_task p (few_clusters h) e t k l)) [] p.tasks h.tasks_in_range h.tasks_named

  steps_stored : Rows (draft_of p) → (ss : List Step) → first_failing (step_range (draft_of p)) [] (map draft_step ss) ≡ None → AreStored (items_of (map (step_data (sem_names p.sems) (task_names p.tasks)) ss))
  steps_stored h ss k =
      all_stored (step_range (draft_of p)) (step_range (draft_of p)) draft_step (step_data (sem_names p.sems) (task_names p.tasks)) (λ e s a b. step_is_stored p (sems_text h) (tasks_text h) (few_cpus h) e s a) [] ss k k

  abbrev tasks_member : Members
  tasks_member = member (codes "tasks") (array_data (task_data (sem_names p.sems) (resv_names p.resvs)) p.tasks) no_members

  tasks_member_stored : Rows (draft_of p) → MembersStored tasks_member
  tasks_member_stored h = (key (codes "tasks") refl, tasks_stored h, tt)

  abbrev lists_members : Members → Members
  lists_members rest = member (codes "plugin") (string (plugin_word p.plugin)) (member (codes "resvs") (array_data resv_data p.resvs) (member (codes "sems") (array_data sem_data p.sems) rest))

  lists_stored : Rows (draft_of p) → (rest : Members) → MembersStored rest → MembersStored (lists_members rest)
  lists_stored h rest stored =
      (key (codes "plugin") refl, plugin_text p.plugin, (key (codes "resvs") refl, resvs_stored h, (key (codes "sems") refl, sems_stored h, stored)))

  pub is_stored : Rows (draft_of p) → IsStored (set_data p)
  unfolding set_data
  is_stored h = by_drive p.drive h.steps_in_range (drive_fits h)
    where
      clusters : AreStored (items_of (map cluster_data p.clusters))
      clusters = clusters_stored p [] p.clusters (omega arith) (let few = few_clusters h in omega arith) h.clusters_in_range

      by_drive : (d : Drive) → first_failing (step_range (draft_of p)) [] (steps_of (draft_drive d)) ≡ None → horizon_fits (draft_of p) (draft_drive d) ≡ true → IsStored (set_data (record p { drive = d }))
      by_drive (Steps ss) k l = (
        refl,
        (
          key (codes "clusters") refl,
          clusters,
          lists_stored h (member (codes "steps") (array_data (step_data (sem_names p.sems) (task_names p.tasks)) ss) tasks_member) (key (codes "steps") refl, steps_stored h ss k, tasks_member_stored h),
        ),
      )
      by_drive (Horizon n) k l =
          (refl, (key (codes "clusters") refl, clusters, (key (codes "horizon") refl, horizon_stored h n l, lists_stored h tasks_member (tasks_member_stored h))))
