use Rattle.std.proofs.Common.{◌≡◌, ◌+◌, ◌∷◌, ◌++◌, append-nil, drop, length, refl, sym, ap, ◌∙◌, arith}
use Rattle.rt_base.specs.TaskNos.{numbers}
use Rattle.sem_laws.proofs.TaskNumbers.{numbers-added, numbers-ended, numbers-from, numbers-rest}
use Rattle.sem_laws.proofs.listing.list_behind_first.Goals as goal

pub loop-i-init : goal.loop-i-init
loop-i-init c = record {
  joined = ap (λ ns. numbers c.args.into.now.items ++ ns) (numbers-rest c.args.line.now.items);
  len = omega (arith, ap length (numbers-rest c.args.line.now.items), c.requires.room);
  capacity = refl;
}

pub push_reserved-requires : goal.push_reserved-requires
push_reserved-requires c =
    let more : numbers (drop c.loop-i.i c.args.line.now.items) ≡ c.index.result.now.0 ∷ numbers (drop (c.loop-i.i + 1) c.args.line.now.items) = numbers-from c.args.line.now.items c.index.result.now c.loop-i.i _ (omega (arith, c.args.line.now.ok.0, c.len-i-end.ensures, c.loop-i-test.true)) c.index.ensures refl in
    omega (arith, ap length more, c.loop-i.invariant.len)

pub loop-i-preserved : goal.loop-i-preserved
loop-i-preserved c =
    let more : numbers (drop c.loop-i.i c.args.line.now.items) ≡ c.index.result.now.0 ∷ numbers (drop (c.loop-i.i + 1) c.args.line.now.items) = numbers-from c.args.line.now.items c.index.result.now c.loop-i.i _ (omega (arith, c.args.line.now.ok.0, c.len-i-end.ensures, c.loop-i-test.true)) c.index.ensures refl in
    record {
      joined = rw c.push_reserved.ensures.items (numbers-added c.loop-i.into.items _ _ ∙ ap (λ ns. numbers c.loop-i.into.items ++ ns) (sym more) ∙ c.loop-i.invariant.joined);
      len = omega (arith, ap length more, c.loop-i.invariant.len, c.push_reserved.ensures.len, c.push_reserved.ensures.capacity);
      capacity = c.push_reserved.ensures.capacity ∙ c.loop-i.invariant.capacity;
    }

pub returns : goal.returns
returns c = record {
  tasks = sym (append-nil _) ∙ ap (λ ns. numbers c.loop-i.into.items ++ ns) (sym (numbers-ended c.args.line.now.items c.loop-i.i (omega (arith, c.args.line.now.ok.0, c.len-i-end.ensures, c.loop-i-test.false)))) ∙ c.loop-i.invariant.joined;
  capacity = c.loop-i.invariant.capacity;
}
