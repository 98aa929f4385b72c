use Rattle.std.proofs.Common.{◌≡◌, ℕ, ◌+◌, ◌≤◌, List, length, drop, rules, sym, ap, subst, arith}
use Rattle.block_counts.specs.SeenWords.{tallies_of}
use Rattle.trace_lines.specs.Known.{known_of}
use Rattle.trace_lines.specs.Lines.{Line}
use Rattle.trace_check.specs.declared.progress.Followed.TheVariants.{Whole, Wrong}
use Rattle.trace_check.specs.inside.Progress.{IsEndedAt, finished, missing, unfinished, wanted}
use Rattle.trace_check.specs.inside.RequestLines.{HaveStood, request_lines}
use Rattle.trace_check.proofs.RequestLaws.{stood-rest, stood-within, wanted-length}
use Rattle.trace_check.proofs.group.ended_at.Goals as goal

pub returns-then-not-is_over : goal.returns-then-not-is_over
returns-then-not-is_over g c = λ at fw.
    subst (λ (n : ℕ). IsEndedAt at (known_of c.args.version c.args.setup.now) (drop c.args.size c.args.text.now) c.args.from c.args.follow.now.count c.args.size (Wrong (c.args.from.lines + 1 + n))) (sym c.count.ensures)
    (unfinished (c.is_over.ensures.not_over at fw c.if-not-is_over.true))

pub overflow_add-result : goal.overflow_add-result
overflow_add-result g c =
    let k = known_of c.args.version c.args.setup.now in
    let lines = request_lines (tallies_of c.requests-requests.result.now) in
    let stood = stood-rest k lines c.args.size c.args.text.now c.in_ok-stood.stood c.in_ok-stood.ensures in
    let bounds = stood-within k lines c.args.size c.args.text.now c.in_ok-stood.stood c.requires.within stood in
    let few : c.in_ok-stood.stood.count ≤ c.in_ok-stood.stood.length = bounds.0 in
    let inside : c.args.size + c.in_ok-stood.stood.length ≤ length c.args.text.now = bounds.1 in
    let positions = c.requires.positions in
    let count = c.count.ensures in
    search rules

pub overflow_add-result-2 : goal.overflow_add-result-2
overflow_add-result-2 g c =
    let k = known_of c.args.version c.args.setup.now in
    let lines = request_lines (tallies_of c.requests-requests.result.now) in
    let stood = stood-rest k lines c.args.size c.args.text.now c.in_ok-stood.stood c.in_ok-stood.ensures in
    let bounds = stood-within k lines c.args.size c.args.text.now c.in_ok-stood.stood c.requires.within stood in
    let few : c.in_ok-stood.stood.count ≤ c.in_ok-stood.stood.length = bounds.0 in
    let inside : c.args.size + c.in_ok-stood.stood.length ≤ length c.args.text.now = bounds.1 in
    let positions = c.requires.positions in
    let count = c.count.ensures in
    search rules

pub overflow_add-result-4 : goal.overflow_add-result-4
overflow_add-result-4 g c =
    let k = known_of c.args.version c.args.setup.now in
    let lines = request_lines (tallies_of c.requests-requests.result.now) in
    let stood = stood-rest k lines c.args.size c.args.text.now c.in_ok-stood.stood c.in_ok-stood.ensures in
    let inside : c.args.size + c.in_ok-stood.stood.length ≤ length c.args.text.now = (stood-within k lines c.args.size c.args.text.now c.in_ok-stood.stood c.requires.within stood).1 in
    search rules

pub returns-then-stood-requests : goal.returns-then-stood-requests
returns-then-stood-requests g c = λ at fw.
    let k = known_of c.args.version c.args.setup.now in
    let requests = c.requests-requests.result.now in
    let rest = drop c.args.size c.args.text.now in
    let s = c.in_ok-stood.stood in
    let are : request_lines (tallies_of requests) ≡ wanted at = c.requests-requests.ensures at fw.following in
    let stood = subst (λ (ls : List Line). HaveStood k ls rest s) are (stood-rest k (request_lines (tallies_of requests)) c.args.size c.args.text.now s c.in_ok-stood.ensures) in
    subst (λ (n : ℕ). IsEndedAt at k rest c.args.from c.args.follow.now.count c.args.size (Wrong (c.args.from.lines + 1 + n + s.count))) (sym c.count.ensures)
    (missing s (c.is_over.ensures.over at fw c.if-not-is_over.false) stood (omega (arith, c.if-stood-requests.true, ap length are, wanted-length requests)))

pub returns : goal.returns
returns g c = λ at fw.
    let k = known_of c.args.version c.args.setup.now in
    let requests = c.requests-requests.result.now in
    let rest = drop c.args.size c.args.text.now in
    let s = c.in_ok-stood.stood in
    let are : request_lines (tallies_of requests) ≡ wanted at = c.requests-requests.ensures at fw.following in
    let stood = subst (λ (ls : List Line). HaveStood k ls rest s) are (stood-rest k (request_lines (tallies_of requests)) c.args.size c.args.text.now s c.in_ok-stood.ensures) in
    let low : s.count ≤ length (wanted at) = stood.low in
    let whole = finished s (c.is_over.ensures.over at fw c.if-not-is_over.false) stood (omega (arith, c.if-stood-requests.false, low, ap length are, wanted-length requests)) in
    subst (λ (n : ℕ). IsEndedAt at k rest c.args.from c.args.follow.now.count c.args.size
    (Whole (record { lines = c.args.from.lines + 1 + n + s.count; entries = c.args.from.entries + c.count-2.result; length = c.args.size + s.length }))) (sym c.count.ensures)
    (subst (λ (m : ℕ). IsEndedAt at k rest c.args.from c.args.follow.now.count c.args.size
    (Whole (record { lines = c.args.from.lines + 1 + c.args.follow.now.count + s.count; entries = c.args.from.entries + m; length = c.args.size + s.length }))) (sym c.count-2.ensures) whole)
