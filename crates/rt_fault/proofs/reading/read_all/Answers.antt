use Rattle.std.proofs.Common.{◌≡◌, ℕ, List, ◌+◌, ◌≤◌, ◌++◌, ◌∙◌, ◌-◌, ◌<◌, min, take, length, length-append, length-take, arith}
use Rattle.rt_fault.proofs.LeftLaws.{Consumes-append}
use Rattle.rt_fault.proofs.reading.read_all.Goals as goal

-- n bytes more
length_more : (xs buf : List ℕ) (n : ℕ) → n ≤ length buf → length (xs ++ take n buf) ≡ length xs + n
length_more xs buf n h = rw (length-append, length-take) (omega arith)

-- as many bytes as were asked for came, one more than the room that is left
one_over :
    (xs buf slice : List ℕ) (n limit len most : ℕ) → length xs ≤ limit → limit - len < n → most ≡ min (limit - len) 65535 → len ≡ length xs
    → length buf ≡ length (take (most + 1) slice) → n ≤ length buf → length (xs ++ take n buf) ≡ limit + 1
one_over xs buf slice n limit len most within more most_is len_is size bound =
    let few = rw length-take at size in rw (length_more xs buf n bound) (omega arith)

-- n bytes that fit in the room that is left
within_limit :
    (xs buf : List ℕ) (n limit len : ℕ) → length xs ≤ limit → n ≤ limit - len → len ≡ length xs → n ≤ length buf
    → length (xs ++ take n buf) ≤ limit
within_limit xs buf n limit len within fits len_is bound = rw (length_more xs buf n bound) (omega arith)

pub returns-then-count-room-clause-too_long : goal.returns-then-count-room-clause-too_long
returns-then-count-room-clause-too_long g c =
    let before = c.loop-bytes.bytes.items in
    let buf = c.read.new.buf in
    let n = c.in_ok-count.count in
    λ _. (
      before ++ take n buf,
      one_over before buf _ n c.args.limit c.len.result c.min.result c.loop-bytes.invariant.within c.if-count-room.true c.min.ensures (c.len.ensures ∙ c.loop-bytes.bytes.ok.0) c.read.auto.buf c.in_ok-count.ensures.bound,
      Consumes-append _ _ _ before (take n buf) c.loop-bytes.invariant.taken c.in_ok-count.ensures.taken,
    )

pub loop-bytes-preserved : goal.loop-bytes-preserved
loop-bytes-preserved g c =
    let read = c.loop-bytes.invariant in
    let before = c.loop-bytes.bytes.items in
    let buf = c.read.new.buf in
    let n = c.in_ok-count.count in
    let items : c.extend_from_slice.new.self.items ≡ before ++ take n buf = c.in_ok-extend_from_slice.ensures.items in
    record {
      buffer = read.buffer;
      within = rw items
          (within_limit before buf n c.args.limit c.len.result read.within c.if-count-room.false (c.len.ensures ∙ c.loop-bytes.bytes.ok.0) c.in_ok-count.ensures.bound);
      taken = rw items (Consumes-append _ _ _ before (take n buf) read.taken c.in_ok-count.ensures.taken);
      unfailed = c.in_ok-count.ensures.unfailed ∙ read.unfailed;
    }

pub returns-in_err-extend_from_slice-clause-not_too_long :
    goal.returns-in_err-extend_from_slice-clause-not_too_long
returns-in_err-extend_from_slice-clause-not_too_long g c =
    let before = c.loop-bytes.bytes.items in
    let buf = c.read.new.buf in
    let n = c.in_ok-count.count in
    λ _. (
      before ++ take n buf,
      within_limit before buf n c.args.limit c.len.result c.loop-bytes.invariant.within c.if-count-room.false (c.len.ensures ∙ c.loop-bytes.bytes.ok.0) c.in_ok-count.ensures.bound,
      Consumes-append _ _ _ before (take n buf) c.loop-bytes.invariant.taken c.in_ok-count.ensures.taken,
    )
