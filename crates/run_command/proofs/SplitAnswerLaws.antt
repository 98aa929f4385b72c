-- The answers of `split`, by how its reading and its writing ended.
use Rattle.std.proofs.Common.{◌≡◌, ℕ, true, false, List, refl, sym, ap, ◌∙◌, subst, inl, inr}
use Rattle.std.specs.Prelude.{Option, None, Some, Result, Ok, Err, IsOk, IsOkAnd, Vec}
use Rattle.std.specs.declared.alloc.Global.{Global}
use Rattle.rt_base.specs.declared.TheConstants.{MOST_SET_BYTES}
use Rattle.rt_task.specs.declared.Parts.{Parts}
use Rattle.rt_task.specs.declared.bad_set.BadSet.{BadSet}
use Rattle.rt_fault.specs.Faults.{HasRisen}
use Rattle.rt_fault.specs.Held.{Extends, ExtendsByPrefix}
use Rattle.rt_fault.specs.Reading.{TakesAll, TakesAtMost}
use Rattle.rt_fault.specs.declared.status.Status.{Status}
use Rattle.rt_fault.specs.declared.status.Status.TheVariants as ends
use Rattle.set_read.specs.Sets.{set}
use Rattle.split_set.specs.SplitSets.{is_split_set}
use Rattle.set_input.specs.Ends.{Reading, Writing}
use Rattle.set_input.specs.Inputs.{CanPlay, WasRead, WasRefused}
use Rattle.set_input.specs.Stopped.{EndsReading}
use Rattle.set_input.proofs.EndLaws.{ended-well}
use Rattle.set_input.proofs.InputLaws.{can_play-told, can_play-unrefused}
use Rattle.run_command.specs.Split.{CanSplit, IsSplitRun, IsSplitText, WasNotSplit}
use Rattle.run_command.specs.SplitAnswers.{SplitAnswers}

-- a set that can be run split can be played
pub can_split-plays : (left : Option (List ℕ)) → CanSplit left → CanPlay left
can_split-plays None can = can
can_split-plays (Some bytes) can = (can.0, by_set (set bytes) can.1)
  where
    by_set : (r : Result Parts BadSet) → IsOkAnd r (λ p. is_split_set p ≡ true) → IsOk r
    by_set (Ok p) h = refl
    by_set (Err b) h = absurd h

-- where it was read, it is one
can_split-split : (source : Reading) (p : Parts) → CanSplit source.old.left → WasRead source p → is_split_set p ≡ false → ⊥
can_split-split source p can read none = by_left source.old.left can read.all
  where
    by_left : (left : Option (List ℕ)) → CanSplit left → TakesAll left source.new.left read.bytes → ⊥
    by_left None able all = able
    by_left (Some xs) able all =
        let is : is_split_set p ≡ true = subst (λ r. IsOkAnd r (λ q. is_split_set q ≡ true)) (ap set (sym all.0) ∙ read.reads) able.1 in
        cc

-- no set was read
pub split-unread :
    {T : Type 0} (source : Reading) (sink : Writing) (answer : Status) → EndsReading {T = T} source MOST_SET_BYTES (WasRefused source) (Err answer) → sink.new ≡ sink.old → SplitAnswers source sink answer
split-unread {T} source sink answer e same =
    let err = λ (s : Status) (is : answer ≡ s). ap (λ (x : Status). let r : Result T Status = Err x in r) is in
    record {
      ok = λ is. absurd (e.not_ok (err _ is));
      bad_input = λ b is. inl (e.bad_input b (err _ is));
      too_long = λ is. e.too_long (err _ is);
      not_too_long = λ other. e.not_too_long (λ is. other cc);
      cut_by_fault = λ is. absurd (e.not_write_fault (err _ is));
      no_memory = λ _. same;
      not_invalid = λ line is. e.not_invalid line (err _ is);
      complete = λ can sure.
          let plays = can_split-plays source.old.left can in
          ended-well source MOST_SET_BYTES (WasRefused source) answer e (can_play-told _ plays) sure.read (λ b. can_play-unrefused source b plays);
    }

module _ (source : Reading) (sink : Writing) (p : Parts) (read : WasRead source p) (few : TakesAtMost MOST_SET_BYTES source.old.left source.new.left) where
  -- there is no text, and nothing was written
  pub split-none : (answer : Status) → (let r : Result (Vec ℕ Global) Status = Err answer in IsSplitRun p r) → sink.new ≡ sink.old → SplitAnswers source sink answer
  split-none (ends.BadInput b) h same = record {
    ok = λ is. cc;
    bad_input = λ other is. (let e : b ≡ other = cc in inr (subst (WasNotSplit source) e (record { setup = p; read = read; not_split_set = h.0; refusal = h.1 })));
    too_long = λ is. cc;
    not_too_long = λ _. few;
    cut_by_fault = λ is. cc;
    no_memory = λ is. cc;
    not_invalid = λ line is. cc;
    complete = λ can _. absurd (can_split-split source p can read h.0);
  }
  split-none ends.NoMemory h same = record {
    ok = λ is. cc;
    bad_input = λ b is. cc;
    too_long = λ is. cc;
    not_too_long = λ _. few;
    cut_by_fault = λ is. cc;
    no_memory = λ _. same;
    not_invalid = λ line is. cc;
    complete = λ _ _. tt;
  }
  split-none ends.Ok h same = absurd h
  split-none (ends.Invalid line) h same = absurd h
  split-none ends.Usage h same = absurd h
  split-none ends.ReadFault h same = absurd h
  split-none ends.WriteFault h same = absurd h
  split-none ends.TooLong h same = absurd h

  module _ (text : List ℕ) (run : IsSplitText p text) where
    -- all of it was written
    pub split-whole : Extends sink.old.held sink.new.held text → SplitAnswers source sink ends.Ok
    split-whole came = record {
      ok = λ _. record { setup = p; text = text; read = read; run = run; written = came };
      bad_input = λ b is. cc;
      too_long = λ is. cc;
      not_too_long = λ _. few;
      cut_by_fault = λ is. cc;
      no_memory = λ is. cc;
      not_invalid = λ line is. cc;
      complete = λ _ _. tt;
    }

    -- or a first part
    pub split-cut : ExtendsByPrefix sink.old.held sink.new.held text → HasRisen sink.old.faults sink.new.faults → SplitAnswers source sink ends.WriteFault
    split-cut came risen = record {
      ok = λ is. cc;
      bad_input = λ b is. cc;
      too_long = λ is. cc;
      not_too_long = λ _. few;
      cut_by_fault = λ _. record { setup = p; text = text; read = read; run = run; written = came };
      no_memory = λ is. cc;
      not_invalid = λ line is. cc;
      complete = λ _ sure. absurd (sure.write risen);
    }
