-- A document whose last member has other items is the same document otherwise.
use Rattle.std.proofs.Common.{◌≡◌, ℕ, List, [], Option, Some, None, Ordering, Less, Equal, Greater, refl, ap, ap₂, sym, ◌∙◌}
use Rattle.std.specs.Prelude.{codes, ⊤, ◌&&◌, bytes_eq, false}
use Rattle.std.proofs.lemmas.Bool.{false≢true}
use Rattle.std.proofs.lemmas.Slice.Eq.{bytes_eq-Decides}
use Rattle.std.specs.Cmp.Lexicographic.{slice_cmp}
use Rattle.std.specs.Ordering.{nat_cmp, match_ordering}
use Rattle.rt_task.specs.declared.PluginKind.{PluginKind}
use Rattle.serde_json.specs.Data.{Data, array, object, Items, Members, no_members, member, put}
use Rattle.serde_json.specs.Find.{get, get_member}
use Rattle.serde_json.proofs.Views.{get_member-put, get_member-put_other}
use Rattle.set_read.specs.Document.{Whole, Play, steps, play_of, whole_members, whole_of, plugins}
use Rattle.set_read.specs.inside.Tokens.{with_steps, with_tasks}
use Rattle.set_read.specs.Forms.{◌>>=◌, all_among, is_among, form_or, items, listed, object_of, one_of, optional, required, when}

-- ---- members

among_at : (o : Ordering) (words : List (List ℕ)) (k l : List ℕ) (d e x : Data) (ms : Members)
    → all_among words (put k d ms) ≡ all_among words (put k e ms)
    → all_among words (match_ordering o (member k d (member l x ms)) (member l d ms) (member l x (put k d ms)))
    ≡ all_among words (match_ordering o (member k e (member l x ms)) (member l e ms) (member l x (put k e ms)))
among_at Less words k l d e x ms later = refl
among_at Equal words k l d e x ms later = refl
among_at Greater words k l d e x ms later = ap (λ b. is_among words l && b) later

-- the words of an object say nothing of the values
pub all_among-put : (words : List (List ℕ)) (k : List ℕ) (d e : Data) (ms : Members)
    → all_among words (put k d ms) ≡ all_among words (put k e ms)
all_among-put words k d e no_members = refl
all_among-put words k d e (member l x ms) = among_at (slice_cmp nat_cmp k l) words k l d e x ms (all_among-put words k d e ms)

-- nor does a member say anything of another
pub unchanged : (key k : List ℕ) (d e : Data) (ms : Members) → bytes_eq k key ≡ false
    → get_member k (put key d ms) ≡ get_member k (put key e ms)
unchanged key k d e ms differ =
    let other : k ≡ key → ⊥ = λ same. false≢true (sym differ ∙ (bytes_eq-Decides k key).1 same) in
    get_member-put_other k key d ms other ∙ sym (get_member-put_other k key e ms other)

-- ---- the document as a whole

abbrev whole_by : Option ⊤ → Option PluginKind → Option (List Data) → Option (List Data) → Option (List Data) → Option (List Data)
    → Option Play → Option Whole
whole_by known plugin clusters sems resvs tasks play = do
  _ ← known
  plugin ← plugin
  clusters ← clusters
  sems ← sems
  resvs ← resvs
  tasks ← tasks
  play ← play
  Some (record { plugin = plugin; clusters = clusters; sems = sems; resvs = resvs; tasks = tasks; play = play })

-- a whole has the tasks and the play that it is made of, and can be made of others
parts_of : (known : Option ⊤) (plugin : Option PluginKind) (clusters sems resvs tasks : Option (List Data)) (play : Option Play) (w : Whole)
    → whole_by known plugin clusters sems resvs tasks play ≡ Some w
    → (tasks ≡ Some w.tasks) × (play ≡ Some w.play)
    × ((ts : List Data) (p : Play) → whole_by known plugin clusters sems resvs (Some ts) (Some p) ≡ Some (record w { tasks = ts; play = p }))
parts_of (Some k) (Some n) (Some c) (Some s) (Some r) (Some t) (Some y) w e =
    let same : record { plugin = n; clusters = c; sems = s; resvs = r; tasks = t; play = y } ≡ w = cc in (
      ap (λ (v : Whole). Some v.tasks) same,
      ap (λ (v : Whole). Some v.play) same,
      λ ts p. ap (λ (v : Whole). Some (record v { tasks = ts; play = p })) same,
    )
parts_of k n c s r t y w e = absurd cc

-- the whole that a value says with these tasks and this play
abbrev whole_with : Data → Option (List Data) → Option Play → Option Whole
whole_with d tasks play =
    whole_by (object_of whole_members d) (required (one_of plugins) (codes "plugin") d) (required items (codes "clusters") d)
    (optional items [] (codes "sems") d) (optional items [] (codes "resvs") d) tasks play

parts_with : (d : Data) (tasks : Option (List Data)) (play : Option Play) (w : Whole) → whole_with d tasks play ≡ Some w
    → (tasks ≡ Some w.tasks) × (play ≡ Some w.play)
    × ((ts : List Data) (p : Play) → whole_with d (Some ts) (Some p) ≡ Some (record w { tasks = ts; play = p }))
parts_with d =
    parts_of (object_of whole_members d) (required (one_of plugins) (codes "plugin") d) (required items (codes "clusters") d)
    (optional items [] (codes "sems") d) (optional items [] (codes "resvs") d)

module _ (was now : Items) (ms : Members) where
  abbrev put_was : List ℕ → Data
  put_was key = object (put key (array was) ms)

  abbrev put_now : List ℕ → Data
  put_now key = object (put key (array now) ms)

  abbrev Differs : List ℕ → List ℕ → Type 0
  Differs key k = bytes_eq k key ≡ false

  -- with other items put at the key, a member of another key is as before
  kept : (key k : List ℕ) → Differs key k → get k (put_now key) ≡ get k (put_was key)
  kept key k differ = unchanged key k (array now) (array was) ms differ

  whole_with-put : (key : List ℕ) (tasks : Option (List Data)) (play : Option Play) → Differs key (codes "plugin")
      → Differs key (codes "clusters") → Differs key (codes "sems") → Differs key (codes "resvs")
      → whole_with (put_now key) tasks play ≡ whole_with (put_was key) tasks play
  whole_with-put key tasks play plugin clusters sems resvs =
      let words = all_among-put whole_members key (array now) (array was) ms in
      let plugins_kept = kept key (codes "plugin") plugin in
      let clusters_kept = kept key (codes "clusters") clusters in
      let sems_kept = kept key (codes "sems") sems in
      let resvs_kept = kept key (codes "resvs") resvs in
      λ i. whole_by (when (words i)) (plugins_kept i >>= one_of plugins) (clusters_kept i >>= items) (form_or items [] (sems_kept i))
      (form_or items [] (resvs_kept i)) tasks play

  other_steps : (h : Option Data) (play : Play) → play_of (Some (array was)) h ≡ Some play
      → (play_of (Some (array now)) h ≡ Some (steps (listed now))) × (play ≡ steps (listed was))
  other_steps None play e = (refl, cc)
  other_steps (Some h) play e = absurd cc

  -- with other steps put at their name, the rest is as before
  pub whole_of-steps : (w : Whole) → whole_of (put_was (codes "steps")) ≡ Some w
      → (whole_of (put_now (codes "steps")) ≡ Some (with_steps w (listed now))) × (w.play ≡ steps (listed was))
  unfolding whole_of
  whole_of-steps w e =
      let key = codes "steps" in
      let d = put_was key in
      let (tasks, play, more) = parts_with d _ _ w e in
      let others = other_steps (get (codes "horizon") d) w.play
      (ap (λ s. play_of s (get (codes "horizon") d)) (sym (get_member-put key (array was) ms)) ∙ play) in
      let tasks_kept = kept key (codes "tasks") refl in
      let horizon_kept = kept key (codes "horizon") refl in (
        whole_with-put key _ _ refl refl refl refl
            ∙ (λ i. whole_with d (form_or items [] (tasks_kept i)) (play_of (get_member-put key (array now) ms i) (horizon_kept i)))
            ∙ ap₂ (whole_with d) tasks others.0 ∙ more w.tasks (steps (listed now)),
        others.1,
      )

  -- the same of other tasks
  pub whole_of-tasks : (w : Whole) → whole_of (put_was (codes "tasks")) ≡ Some w
      → (whole_of (put_now (codes "tasks")) ≡ Some (with_tasks w (listed now))) × (w.tasks ≡ listed was)
  unfolding whole_of
  whole_of-tasks w e =
      let key = codes "tasks" in
      let d = put_was key in
      let (tasks, play, more) = parts_with d _ _ w e in
      let same : Some (listed was) ≡ Some w.tasks = ap (form_or items []) (sym (get_member-put key (array was) ms)) ∙ tasks in
      let steps_kept = kept key (codes "steps") refl in
      let horizon_kept = kept key (codes "horizon") refl in (
        whole_with-put key _ _ refl refl refl refl
            ∙ (λ i. whole_with d (form_or items [] (get_member-put key (array now) ms i)) (play_of (steps_kept i) (horizon_kept i)))
            ∙ ap (whole_with d (Some (listed now))) play ∙ more (listed now) w.play,
        cc,
      )
