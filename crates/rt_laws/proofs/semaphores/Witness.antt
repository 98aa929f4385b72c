-- The premise of the laws is met: by sets in which requests reach their bounds.
use Rattle.std.proofs.Common.{List, [], refl, length, arith, true, ◌∙◌, ◌∷◌, ◌≡◌}
use Rattle.rt_task.specs.declared.Protocol.TheVariants.{Fmlp, Omlp}
use Rattle.rt_task.specs.declared.Step.{Step}
use Rattle.rt_model.specs.worked.Computed.{computed}
use Rattle.rt_rules.specs.Numbers.{has}
use Rattle.rt_model.specs.Group.{Group, cpus, home, protocol, tasks, users}
use Rattle.rt_model.specs.Histories.{after, past_by}
use Rattle.rt_model.specs.Reachable.{IsReachable, acted, clocked, opened}
use Rattle.rt_model.specs.Past.{Past}
use Rattle.rt_laws.specs.Bounds.{ReachesFmlpBound, ReachesOmlpBound}
use Rattle.rt_laws.specs.worked.EdgeCases.{fmlp_reached, fmlp_reached_steps, fmlp_reached-valid, fmlp_reached-ends, omlp_reached, omlp_reached_steps, omlp_reached-valid, omlp_reached-ends}
use Rattle.rt_laws.specs.worked.EdgeCases.{pcp_waiting, pcp_waiting_steps, pcp_waiting-valid, pcp_waiting-prompt, pcp_waiting-first, pcp_waiting-seen}
use Rattle.rt_laws.specs.BlockedOnce.{ReachesBlocked}

-- steps make a past
pub made_by : (g : Group) (steps : List Step) {past : Past} → IsReachable g past → IsReachable g (past_by g past steps)
unfolding past_by after
made_by g [] made = made
made_by g (s ∷ steps) made = made_by g steps (acted s.cpu.0 s.act (clocked s.tick.0 made))

is_fmlp : protocol fmlp_reached 1 ≡ Fmlp
unfolding computed
is_fmlp = refl

two_users : length (users fmlp_reached 1) ≡ 2
unfolding computed
two_users = refl

-- the worked set is valid, and its second request reaches the bound
pub fmlp_bound_is_reached : ReachesFmlpBound
fmlp_bound_is_reached = record {
  group = fmlp_reached;
  past = past_by fmlp_reached [] fmlp_reached_steps;
  is_valid = fmlp_reached-valid;
  is_made = made_by fmlp_reached fmlp_reached_steps opened;
  no = 3;
  task = 2;
  sem = 1;
  is_fmlp = is_fmlp;
  shared = omega (arith, two_users);
  reached = fmlp_reached-ends ∙ rw two_users;
}

pub is_omlp : protocol omlp_reached 1 ≡ Omlp
unfolding computed
is_omlp = refl

pub two_processors : cpus omlp_reached (home omlp_reached 3) ≡ 2
unfolding computed
two_processors = refl

-- the worked set is valid, and its third request reaches the bound
pub omlp_bound_is_reached : ReachesOmlpBound
omlp_bound_is_reached = record {
  group = omlp_reached;
  past = past_by omlp_reached [] omlp_reached_steps;
  is_valid = omlp_reached-valid;
  is_made = made_by omlp_reached omlp_reached_steps opened;
  no = 6;
  task = 3;
  sem = 1;
  is_omlp = is_omlp;
  parallel = omega (arith, two_processors);
  reached = omlp_reached-ends ∙ rw two_processors;
}

is_member : has 1 (tasks pcp_waiting) ≡ true
unfolding computed
is_member = refl

-- the worked set is valid, and the job of task 1 is blocked by one section and one more
pub blocked_is_reached : ReachesBlocked
blocked_is_reached = record {
  group = pcp_waiting;
  past = past_by pcp_waiting [] pcp_waiting_steps;
  is_valid = pcp_waiting-valid;
  is_made = made_by pcp_waiting pcp_waiting_steps opened;
  task = 1;
  member = is_member;
  prompt = pcp_waiting-prompt;
  some_waited = omega (arith, pcp_waiting-first);
  reached = pcp_waiting-seen ∙ rw pcp_waiting-first;
}
