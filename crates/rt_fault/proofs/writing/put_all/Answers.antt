use Rattle.std.proofs.Common.{rules, ◌≡◌, ℕ, List, ◌-◌, ◌++◌, ◌∙◌, take, drop, length, append_assoc, length-drop, arith}
use Rattle.std.proofs.lemmas.List.{take-append-drop, take_all}
use Rattle.rt_fault.proofs.HeldLaws.{Extends-append, Extends-stays, ExtendsByPrefix-front}
use Rattle.rt_fault.proofs.writing.put_all.Goals as goal

-- n bytes more stand at the front
split_more : (xs front rest : List ℕ) (n : ℕ) → xs ≡ front ++ rest → xs ≡ front ++ take n rest ++ take (length rest - n) (drop n rest)
split_more xs front rest n e =
    rw (take_all (length rest - n) (drop n rest) (simp length-drop (omega arith)), append_assoc, take-append-drop) e

pub returns-in_err-taken-clause-failed : goal.returns-in_err-taken-clause-failed
returns-in_err-taken-clause-failed g c =
    let written = c.loop-rest.invariant in
    let held = Extends-stays _ _ _ written.front written.held c.in_err-taken.ensures.kept in
    let first = ExtendsByPrefix-front _ _ c.args.bytes.now written.front c.loop-rest.rest.now written.split held in
    search rules

pub loop-rest-preserved : goal.loop-rest-preserved
loop-rest-preserved g c =
    let written = c.loop-rest.invariant in
    let more = take c.in_ok-taken.taken c.loop-rest.rest.now in
    record {
      front = written.front ++ more;
      split = split_more c.args.bytes.now written.front c.loop-rest.rest.now c.in_ok-taken.taken written.split;
      held = Extends-append _ _ _ written.front more written.held c.in_ok-taken.ensures.taken;
      unfailed = c.in_ok-taken.ensures.unfailed ∙ written.unfailed;
    }
