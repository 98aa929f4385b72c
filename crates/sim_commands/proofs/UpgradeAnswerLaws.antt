-- The answers of `upgrade`, by how its reading and its writing ended.
use Rattle.std.proofs.Common.{◌≡◌, ℕ, List, ap, subst, inl, inr}
use Rattle.std.specs.Prelude.{Result, Err}
use Rattle.rt_base.specs.declared.TheConstants.{MOST_TRACE_BYTES}
use Rattle.rt_task.specs.declared.Parts.{Parts}
use Rattle.rt_fault.specs.Reading.{TakesAtMost}
use Rattle.rt_fault.specs.declared.status.Status.{Status}
use Rattle.rt_fault.specs.declared.status.Status.TheVariants as ends
use Rattle.trace_lines.specs.declared.format.Version.{Version}
use Rattle.trace_tools.specs.Tools.{Tool}
use Rattle.set_input.specs.Ends.{Reading, Writing}
use Rattle.set_input.specs.Stopped.{EndsReading}
use Rattle.set_input.proofs.EndLaws.{ended-well}
use Rattle.sim_commands.specs.Check.{WasNoTrace, WasTrace}
use Rattle.sim_commands.specs.Upgrade.{HasUpgraded, WasWrong}
use Rattle.sim_commands.specs.UpgradeAnswers.{UpgradeAnswers}
use Rattle.sim_commands.proofs.CheckLaws.{can_check-told, can_check-unrefused, can_check-valid}

-- no trace was read
pub upgrade-unread :
    {T : Type 0} (tools : List Tool) (source : Reading) (sink : Writing) (answer : Status) → EndsReading {T = T} source MOST_TRACE_BYTES (WasNoTrace source) (Err answer)
    → sink.new ≡ sink.old → UpgradeAnswers tools source sink answer
upgrade-unread {T} tools source sink answer e same =
    let err = λ (s : Status) (is : answer ≡ s). ap (λ (x : Status). let r : Result T Status = Err x in r) is in
    record {
      ok = λ is. absurd (e.not_ok (err _ is));
      invalid = λ line is. absurd (e.not_invalid line (err _ is));
      bad_input = λ b is. e.bad_input b (err _ is);
      too_long = λ is. e.too_long (err _ is);
      not_too_long = λ other. e.not_too_long (λ is. other cc);
      cut_by_fault = λ is. absurd (e.not_write_fault (err _ is));
      no_memory = λ _. inl same;
      complete = λ can sure. ended-well source MOST_TRACE_BYTES (WasNoTrace source) answer e (can_check-told tools _ can) sure.read (λ b. can_check-unrefused tools source b can);
    }

-- a trace was read, and this came of its bytes
by-answer :
    (tools : List Tool) (source : Reading) (sink : Writing) (bytes : List ℕ) (v : Version) (p : Parts) (answer : Status) → WasTrace source bytes v p
    → TakesAtMost MOST_TRACE_BYTES source.old.left source.new.left → HasUpgraded tools v p bytes sink answer → UpgradeAnswers tools source sink answer
by-answer tools source sink bytes v p ends.Ok read few h = record {
  ok = λ _. record { bytes = bytes; version = v; setup = p; upgraded = h.upgraded; read = read; is_upgrade = h.is_upgrade; written = h.written };
  invalid = λ line is. cc;
  bad_input = λ b is. cc;
  too_long = λ is. cc;
  not_too_long = λ _. few;
  cut_by_fault = λ is. cc;
  no_memory = λ is. cc;
  complete = λ _ _. tt;
}
by-answer tools source sink bytes v p (ends.Invalid line) read few h = record {
  ok = λ is. cc;
  invalid = λ other is. let same : line ≡ other = cc in subst (WasWrong tools source sink) same (record { bytes = bytes; version = v; setup = p; read = read; wrong = h.0; unwritten = h.1 });
  bad_input = λ b is. cc;
  too_long = λ is. cc;
  not_too_long = λ _. few;
  cut_by_fault = λ is. cc;
  no_memory = λ is. cc;
  complete = λ can _. absurd (can_check-valid tools source bytes v p line can read h.0);
}
by-answer tools source sink bytes v p ends.WriteFault read few h = record {
  ok = λ is. cc;
  invalid = λ line is. cc;
  bad_input = λ b is. cc;
  too_long = λ is. cc;
  not_too_long = λ _. few;
  cut_by_fault = λ _. record { bytes = bytes; version = v; setup = p; upgraded = h.upgraded; read = read; is_upgrade = h.is_upgrade; written = h.written.0 };
  no_memory = λ is. cc;
  complete = λ _ sure. absurd (sure.write h.written.1);
}
by-answer tools source sink bytes v p ends.NoMemory read few (inl same) = record {
  ok = λ is. cc;
  invalid = λ line is. cc;
  bad_input = λ b is. cc;
  too_long = λ is. cc;
  not_too_long = λ _. few;
  cut_by_fault = λ is. cc;
  no_memory = λ _. inl same;
  complete = λ _ _. tt;
}
by-answer tools source sink bytes v p ends.NoMemory read few (inr h) = record {
  ok = λ is. cc;
  invalid = λ line is. cc;
  bad_input = λ b is. cc;
  too_long = λ is. cc;
  not_too_long = λ _. few;
  cut_by_fault = λ is. cc;
  no_memory = λ _. elim h.written [
    | inl same ↦ inl same
    | inr part ↦ inr (record { bytes = bytes; version = v; setup = p; upgraded = h.upgraded; read = read; is_upgrade = h.is_upgrade; written = part })
  ];
  complete = λ _ _. tt;
}
by-answer tools source sink bytes v p ends.Usage read few h = absurd h.written
by-answer tools source sink bytes v p (ends.BadInput b) read few h = absurd h.written
by-answer tools source sink bytes v p ends.ReadFault read few h = absurd h.written
by-answer tools source sink bytes v p ends.TooLong read few h = absurd h.written

pub upgrade-read :
    (tools : List Tool) (source : Reading) (sink : Writing) (bytes shown : List ℕ) (v : Version) (p : Parts) (answer : Status) → WasTrace source bytes v p
    → TakesAtMost MOST_TRACE_BYTES source.old.left source.new.left → shown ≡ bytes → HasUpgraded tools v p shown sink answer → UpgradeAnswers tools source sink answer
upgrade-read tools source sink bytes shown v p answer read few same h =
    by-answer tools source sink bytes v p answer read few (subst (λ (text : List ℕ). HasUpgraded tools v p text sink answer) same h)
