-- The lines of requests, as they are wanted, and as they stand in a text.
use Rattle.std.proofs.Common.{◌≡◌, ℕ, ◌+◌, ◌-◌, ◌<◌, ◌≤◌, List, [], ◌∷◌, ◌++◌, length, take, drop, get_or, sym, ap, ◌∙◌, subst, arith}
use Rattle.std.proofs.lemmas.List.{get_or-map, length-drop, length-map, length-take-le, take_more}
use Rattle.rt_model.specs.Group.{Group}
use Rattle.rt_model.specs.Past.{Past}
use Rattle.rt_changes.specs.Tallies.{tallies}
use Rattle.block_counts.specs.declared.seen.Seen.{Seen}
use Rattle.block_counts.specs.SeenWords.{tallies_of, tally_of}
use Rattle.trace_lines.specs.Grammar.{line_text}
use Rattle.trace_lines.specs.Known.{Known}
use Rattle.trace_lines.specs.Lines.{Line}
use Rattle.trace_text.specs.TraceText.{block_lines}
use Rattle.trace_text.specs.Groups.{request_line}
use Rattle.trace_text.proofs.LineLaws as writer
use Rattle.trace_check.specs.inside.RequestLines.{HaveStood, request_lines}
use Rattle.trace_check.specs.declared.requests.Stood.{Stood}
use Rattle.trace_check.proofs.TextPositions.{StandFirst, lines-short, rest-of, size-is, stand-further, stand-line}

-- the lines that are wanted of a group are those of its requests
pub wanted-lines : (g : Group) (past : Past) → request_lines (tallies g past) ≡ block_lines g past
wanted-lines g past = sym (writer.request_lines g past)

pub wanted-length : (rs : List Seen) → length (request_lines (tallies_of rs)) ≡ length rs
wanted-length rs = length-map (tallies_of rs) request_line ∙ length-map rs tally_of

pub wanted-at : (rs : List Seen) (k : ℕ) (r : Seen) (d : Line) → k < length rs → get_or (request_lines (tallies_of rs)) k d ≡ request_line (tally_of (get_or rs k r))
wanted-at rs k r d low =
    get_or-map request_line (tallies_of rs) k (tally_of r) d (omega (arith, low, length-map rs tally_of)) ∙ ap request_line (get_or-map tally_of rs k r (tally_of r) low)

-- one line more stands first
pub stood-more : (known : Known) (rs : List Seen) (text line : List ℕ) (k size : ℕ) (r : Seen) → k < length rs → StandFirst known text (take k (request_lines (tallies_of rs))) size
    → line ≡ line_text known (request_line (tally_of (get_or rs k r))) → drop size text ≡ line ++ drop (length line) (drop size text)
    → StandFirst known text (take (k + 1) (request_lines (tallies_of rs))) (size + length line)
stood-more known rs text line k size r low stand is begins =
    let l : Line = request_line (tally_of (get_or rs k r)) in
    let wanted : List Line = request_lines (tallies_of rs) in
    let more : take (k + 1) wanted ≡ take k wanted ++ l ∷ [] =
    take_more wanted k l (omega (arith, low, wanted-length rs)) ∙ ap (λ (x : Line). take k wanted ++ x ∷ []) (wanted-at rs k r l low) in
    subst (λ (ls : List Line). StandFirst known text ls (size + length line)) (sym more)
    (stand-further known text (take k wanted) (l ∷ []) size (length line) stand (stand-line known (drop size text) l line is begins))

-- what stood in the part of a text behind a position
pub stood-rest : (known : Known) (wanted : List Line) (size : ℕ) (text : List ℕ) (s : Stood) → HaveStood known wanted (take (length text - size) (drop size text)) s → HaveStood known wanted (drop size text) s
stood-rest known wanted size text s h = subst (λ (xs : List ℕ). HaveStood known wanted xs s) (rest-of size text) h

-- it has no more lines than bytes, and ends within the text
pub stood-within : (known : Known) (wanted : List Line) (size : ℕ) (text : List ℕ) (s : Stood) → size ≤ length text → HaveStood known wanted (drop size text) s → (s.count ≤ s.length) × (size + s.length ≤ length text)
stood-within known wanted size text s low h =
    let within : s.length ≤ length (drop size text) = h.within in
    let few : s.count ≤ length wanted = h.low in
    let first : StandFirst known (drop size text) (take s.count wanted) s.length = record { within = h.within; text_is = h.text_is } in (
      omega (arith, size-is known (drop size text) (take s.count wanted) s.length first, lines-short known (take s.count wanted), length-take-le s.count wanted few),
      omega (arith, low, within, length-drop size text),
    )
