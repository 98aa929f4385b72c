-- The links that a state keeps, and the clusters in which moves placed none.
use Rattle.std.specs.Prelude.{◌≡◌, ℕ, true, List, [], ◌∷◌, ◌++◌, Option, option_map}
use Rattle.rt_rules.specs.declared.history.Entry.{Entry}
use Rattle.rt_rules.specs.Numbers.{has}
use Rattle.rt_model.specs.Group.{Group, clusters}
use Rattle.rt_model.specs.Histories.{past_of}
use Rattle.rt_model.specs.Links.{linked, links}
use Rattle.rt_model.specs.Past.{Past}
use Rattle.link_table.specs.Linked.{IsOfCluster, Linked, link_of}
use Rattle.cluster_table.specs.Clusters.{KeptCluster}
use Rattle.cluster_table.specs.Marks.{IsUnmarked, Marks}
use Rattle.cluster_table.specs.Table.{Table, cluster_at}
use Rattle.group_engine.specs.declared.state.GroupState.{GroupState}

-- each processor of the table is linked as it says
abbrev pub AreLinksAt : Group → Past → Linked → Type 0
AreLinksAt g past l = (q : ℕ) → IsOfCluster l q → link_of l q ≡ linked g q past

-- the links of a cluster, where the table has it
abbrev pub links_in : Table → ℕ → Option (List (Option ℕ))
links_in t c = option_map (λ (k : KeptCluster). k.linked.links) (cluster_at t c)

-- a cluster without a mark had none before, and its links are as they were
abbrev pub StayLinked : Marks → Marks → GroupState → GroupState → Type 0
StayLinked before after s s' = (c : ℕ) → IsUnmarked after c → IsUnmarked before c × (links_in s'.clusters c ≡ links_in s.clusters c)

-- of a cluster without a mark the links are as before the last entry
abbrev pub AreMarked : Group → List Entry → Marks → Type 0
AreMarked g entries marks = (es : List Entry) (e : Entry) → entries ≡ es ++ e ∷ [] → (c : ℕ) → has c (clusters g) ≡ true
    → IsUnmarked marks c
    → links g c (past_of g entries) ≡ links g c (past_of g es)
