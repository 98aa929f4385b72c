use Rattle.std.proofs.Common.{◌≡◌, map, take, string_bytes}
use Rattle.program_tests.proofs.calls.words.Given as goal

-- the words so far have the first texts
abbrev pub invariant-loop-text : goal.invariant-loop-text
invariant-loop-text l = map string_bytes l.words.items ≡ map (λ text. text.now) (take l.text-index l.texts)
