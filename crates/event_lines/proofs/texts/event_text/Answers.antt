use Rattle.std.proofs.Common.{◌≡◌, ◌∙◌, List, [], ◌++◌, codes, map, ap, append_assoc}
use Rattle.std.specs.Prelude.{flat_map}
use Rattle.event_texts.specs.EventText.{event_lines}
use Rattle.event_texts.specs.Records.{Piece}
use Rattle.event_lines.specs.inside.Commas.{with_commas}
use Rattle.event_lines.specs.Shown.{group_tracks_shown}
use Rattle.event_lines.specs.TrackEvents.{some_group, tracks_events, tracks_text}
use Rattle.event_lines.specs.WholeText.{whole_text}
use Rattle.event_lines.proofs.Chains.{last_put}
use Rattle.event_lines.proofs.texts.event_text.Goals as goal

pub returns : goal.returns
unfolding tracks_text
returns c =
    let events : List Piece = flat_map (tracks_events (some_group c.args.parts.now)) (map group_tracks_shown c.args.groups.items) in
    let head = codes "{\"displayTimeUnit\":\"ms\",\"traceEvents\":[\n" in
    let first = c.text.inside in
    let begun = last_put (whole_text first.whole.items) first.last.items c.put.new.text.items [] head (c.text.view_is ∙ c.within-text.ensures) c.in_ok-put.ensures in
    let put = c.in_ok-put_groups.ensures ∙ ap (λ xs. xs ++ with_commas events) begun in
    let lines : c.drop_last_comma.new.text ≡ head ++ event_lines events = c.in_ok-drop_last_comma.ensures events put in
    let most = c.text-3.inside in
    let ended = last_put (whole_text most.whole.items) most.last.items c.put-2.new.text.items _ (codes "]}\n") c.text-3.view_is c.in_ok-put-2.ensures in
    c.in_ok-into_pieces.ensures ∙ ended ∙ ap (λ xs. xs ++ codes "]}\n") lines ∙ append_assoc head (event_lines events) (codes "]}\n")
