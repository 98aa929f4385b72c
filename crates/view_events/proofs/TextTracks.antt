-- The tracks of groups, one after the other; and of a text.
use Rattle.std.proofs.Common.{◌≡◌, ◌∙◌, ℕ, suc, ◌+◌, List, [], ◌∷◌, ◌++◌, length, map, sym, ap, arith}
use Rattle.std.proofs.lemmas.List.{map-append}
use Rattle.rt_task.specs.declared.Parts.{Parts}
use Rattle.rt_rules.specs.declared.history.Entry.{Entry}
use Rattle.rt_model.specs.Group.{Group}
use Rattle.rt_model.specs.Histories.{past_of}
use Rattle.rt_model.specs.Past.{Past}
use Rattle.rt_plays.specs.Plays.{group_with}
use Rattle.trace_lines.specs.declared.format.Version.{Version}
use Rattle.trace_tools.specs.Tools.{Tool}
use Rattle.trace_check.specs.declared.verdict.Verdict.{Verdict}
use Rattle.trace_check.specs.declared.verdict.Verdict.TheVariants.{Valid, Invalid}
use Rattle.trace_check.specs.Keeping.{HasKept}
use Rattle.chart_texts.specs.Charts.{pasts_from}
use Rattle.event_lines.specs.declared.tracks.GroupTracks as declared
use Rattle.event_lines.specs.Shown.{group_tracks_shown}
use Rattle.event_lines.specs.TrackLaws.{tracks_of_groups}
use Rattle.event_lines.specs.Tracks.{GroupTracks}
use Rattle.event_lines.specs.TracksOf.{tracks_of}
use Rattle.view_events.specs.TextTracks.{HasTracks}

-- a group with its past
abbrev pub past_with : Parts → ℕ → List Entry → Group × Past
past_with p n es = (group_with p n, past_of (group_with p n) es)

-- one group more
pub pasts-more : (p : Parts) (n : ℕ) (hs : List (List Entry)) (es : List Entry)
    → pasts_from p n (hs ++ es ∷ []) ≡ pasts_from p n hs ++ past_with p (n + length hs) es ∷ []
pasts-more p n [] es = let same : n ≡ n + 0 = omega arith in ap (λ (m : ℕ). past_with p m es ∷ []) same
pasts-more p n (xs ∷ hs) es =
    let next : n + 1 + length hs ≡ n + suc (length hs) = omega arith in
    ap (λ (gs : List (Group × Past)). past_with p n xs ∷ gs)
    (pasts-more p (n + 1) hs es ∙ ap (λ (m : ℕ). pasts_from p (n + 1) hs ++ past_with p m es ∷ []) next)

pub tracks-more : (p : Parts) (n : ℕ) (hs : List (List Entry)) (es : List Entry) (old : List declared.GroupTracks) (x : declared.GroupTracks) → length hs ≡ n
    → group_tracks_shown x ≡ tracks_of (group_with p n) (past_of (group_with p n) es) → map group_tracks_shown old ≡ tracks_of_groups (pasts_from p 0 hs)
    → map group_tracks_shown (old ++ x ∷ []) ≡ tracks_of_groups (pasts_from p 0 (hs ++ es ∷ []))
tracks-more p n hs es old x count shown before =
    let number : n ≡ 0 + length hs = omega (arith, count) in
    let tracks : Group × Past → GroupTracks = λ y. tracks_of y.0 y.1 in
    map-append group_tracks_shown old (x ∷ []) ∙ (λ i. before i ++ shown i ∷ [])
    ∙ ap (λ (m : ℕ). tracks_of_groups (pasts_from p 0 hs) ++ tracks (past_with p m es) ∷ []) number
    ∙ sym (map-append tracks (pasts_from p 0 hs) (past_with p (0 + length hs) es ∷ [])) ∙ ap tracks_of_groups (sym (pasts-more p 0 hs es))

-- what is kept of a text
pub kept-tracks : (tools : List Tool) (v : Version) (p : Parts) (bytes : List ℕ) (tracks : List declared.GroupTracks) (verdict : Verdict)
    → HasKept tools v p bytes (λ hs. map group_tracks_shown tracks ≡ tracks_of_groups (pasts_from p 0 hs)) verdict → HasTracks tools v p bytes tracks verdict
kept-tracks tools v p bytes tracks (Valid n) kept = kept
kept-tracks tools v p bytes tracks (Invalid line) kept = tt
