-- The histories of a set that was run: they are plays of it.
use Rattle.std.proofs.Common.{◌≡◌, ℕ, ◌<◌, List, [], length, get_or, sym, ap, ◌∙◌, subst, arith}
use Rattle.std.proofs.lemmas.List.{get_or-map, length-map}
use Rattle.rt_task.specs.declared.Parts.{Parts}
use Rattle.rt_task.specs.Validity.{IsValid}
use Rattle.rt_rules.specs.declared.history.Entry.{Entry}
use Rattle.rt_model.specs.Group.{Group}
use Rattle.rt_plays.specs.Groups.{GroupHistory, group_of}
use Rattle.rt_plays.specs.Plays.{ArePlays, IsPlay, group_with}
use Rattle.trace_text.specs.Groups.{histories}
use Rattle.trace_text.proofs.GroupLaws.{groups-counted}
use Rattle.set_runs.specs.Runs.{AreRunsOf}

module _ (p : Parts) (hs : List GroupHistory) (valid : IsValid p) (are : AreRunsOf p hs) where
  long : length (histories hs) ≡ length hs
  long = length-map hs (λ (h : GroupHistory). h.entries)

  play-at : (n : ℕ) → n < length (histories hs) → IsPlay (group_with p n) (get_or (histories hs) n [])
  play-at n low =
      let d : GroupHistory = record { setup = p; group = n; entries = []; spare = 0 } in
      let inside : n < length hs = omega (arith, low, long) in
      let h : GroupHistory = get_or hs n d in
      let run = are.each n d inside in
      let group : group_of h ≡ group_with p n = ap (λ (q : Parts). group_with q h.group) run.setup_is ∙ ap (group_with p) run.group_is in
      let entries : h.entries ≡ get_or (histories hs) n [] = sym (get_or-map (λ (x : GroupHistory). x.entries) hs n d [] inside) in
      subst (λ (es : List Entry). IsPlay (group_with p n) es) entries (subst (λ (g : Group). IsPlay g h.entries) group run.play)

  pub run-plays : ArePlays p (histories hs)
  run-plays = record { count = long ∙ groups-counted p hs valid are.groups; plays = play-at }
