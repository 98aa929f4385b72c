-- The moments of the laws come about.
use Rattle.rt_model.specs.Reachable.{opened}
use Rattle.rt_laws.proofs.semaphores.Witness.{made_by}
use Rattle.srp_laws.specs.StackLaws.{ReachesDelayed, ReachesOvertaken}
use Rattle.srp_laws.specs.worked.Starts.{delayed-delays, delayed-prompt, delayed-waits, delayed_past, delayed_steps, member, three_levels, three_levels-valid}
use Rattle.srp_laws.specs.worked.Starts.{overtaken-inside, overtaken-linked, overtaken-lower, overtaken-prompt, overtaken-waits, overtaken_past, overtaken_steps}

pub delayed_is_reached : ReachesDelayed
delayed_is_reached = record {
  group = three_levels;
  past = delayed_past;
  is_valid = three_levels-valid;
  is_made = made_by three_levels delayed_steps opened;
  task = 2;
  other = 1;
  member = member;
  prompt = delayed-prompt;
  waits = delayed-waits;
  delayed = delayed-delays;
}

pub overtaken_is_reached : ReachesOvertaken
overtaken_is_reached = record {
  group = three_levels;
  past = overtaken_past;
  is_valid = three_levels-valid;
  is_made = made_by three_levels overtaken_steps opened;
  task = 2;
  other = 3;
  member = member;
  prompt = overtaken-prompt;
  waits = overtaken-waits;
  lower = overtaken-lower;
  holds_nothing = overtaken-inside;
  linked = overtaken-linked;
}
