-- Worked sets reach what the laws of MPCP, FMLP and OMLP allow.
use Rattle.std.proofs.Common.{[], arith, length, refl, subst, sym, true, ◌∙◌, ◌≡◌}
use Rattle.std.specs.Prelude.{Contains}
use Rattle.rt_task.specs.declared.Protocol.TheVariants.{Fmlp, Mpcp}
use Rattle.rt_model.specs.worked.Computed.{computed}
use Rattle.rt_model.specs.Group.{protocol, sems, users}
use Rattle.rt_rules.specs.Numbers.{has}
use Rattle.rt_model.specs.Histories.{past_by}
use Rattle.rt_model.specs.Reachable.{opened}
use Rattle.rt_laws.specs.BoostedHolders.{ReachesPassed}
use Rattle.rt_laws.specs.InOrder.{StandInLine}
use Rattle.rt_laws.specs.LowerSections.{ExceedsFmlpBound, ReachesOneLower}
use Rattle.rt_laws.specs.worked.EdgeCases.{omlp_reached, omlp_reached_steps, omlp_reached-valid}
use Rattle.rt_laws.specs.OmlpParts.{ReachesOmlpParts}
use Rattle.rt_laws.specs.worked.ReachedCases.{mpcp_exceeded, mpcp_exceeded_steps, mpcp_exceeded-valid, mpcp_exceeded-open, mpcp_exceeded-all, mpcp_passed, mpcp_passed_steps, mpcp_passed-valid, mpcp_passed-holds, mpcp_passed-not_linked, mpcp_passed-linked, mpcp_passed-other_holds, mpcp_passed-ceiling, mpcp_passed-other_ceiling, fmlp_in_line, fmlp_in_line_steps, fmlp_in_line_freed, fmlp_in_line_first, fmlp_in_line_second, fmlp_in_line-valid, fmlp_in_line-requests, fmlp_in_line-first_waits, fmlp_in_line-second_waits, fmlp_in_line-first_granted, fmlp_in_line-second_waits_on, omlp_reached-in_fifo, omlp_reached-in_queue, mpcp_reached, mpcp_reached_steps, mpcp_reached-all, mpcp_reached-lower, mpcp_reached-valid}
use Rattle.rt_laws.proofs.semaphores.Witness.{is_omlp, made_by, two_processors}

is_mpcp : protocol mpcp_reached 1 ≡ Mpcp
unfolding computed
is_mpcp = refl

pub one_lower_section_is_reached : ReachesOneLower
one_lower_section_is_reached = record {
  group = mpcp_reached;
  past = past_by mpcp_reached [] mpcp_reached_steps;
  is_valid = mpcp_reached-valid;
  is_made = made_by mpcp_reached mpcp_reached_steps opened;
  no = 4;
  task = 2;
  sem = 1;
  is_mpcp = is_mpcp;
  reached = mpcp_reached-lower;
  higher_too = mpcp_reached-all;
}

pub omlp_parts_are_reached : ReachesOmlpParts
omlp_parts_are_reached = record {
  group = omlp_reached;
  past = past_by omlp_reached [] omlp_reached_steps;
  is_valid = omlp_reached-valid;
  is_made = made_by omlp_reached omlp_reached_steps opened;
  no = 6;
  task = 3;
  sem = 1;
  is_omlp = is_omlp;
  parallel = omega (arith, two_processors);
  queue_reached = omlp_reached-in_queue ∙ rw two_processors refl;
  fifo_reached = omlp_reached-in_fifo ∙ rw two_processors refl;
}

passed-mpcp : protocol mpcp_passed 1 ≡ Mpcp
unfolding computed
passed-mpcp = refl

passed-known : has 1 (sems mpcp_passed) ≡ true
unfolding computed
passed-known = refl

passed-other_mpcp : protocol mpcp_passed 2 ≡ Mpcp
unfolding computed
passed-other_mpcp = refl

passed-other_known : has 2 (sems mpcp_passed) ≡ true
unfolding computed
passed-other_known = refl

pub boosted_is_passed : ReachesPassed
boosted_is_passed = record {
  group = mpcp_passed;
  past = past_by mpcp_passed [] mpcp_passed_steps;
  is_valid = mpcp_passed-valid;
  is_made = made_by mpcp_passed mpcp_passed_steps opened;
  task = 2;
  sem = 1;
  is_mpcp = passed-mpcp;
  boosted = record { known = passed-known; boosts = rw passed-mpcp refl; holds_it = mpcp_passed-holds };
  not_linked = mpcp_passed-not_linked;
  other = 3;
  other_sem = 2;
  other_is_mpcp = passed-other_mpcp;
  other_boosted = record { known = passed-other_known; boosts = rw passed-other_mpcp refl; holds_it = mpcp_passed-other_holds };
  other_linked = mpcp_passed-linked;
  higher_ceiling = omega (arith, mpcp_passed-ceiling, mpcp_passed-other_ceiling);
}

line-fmlp : protocol fmlp_in_line 1 ≡ Fmlp
unfolding computed
line-fmlp = refl

pub requests_stand_in_line : StandInLine
requests_stand_in_line = record {
  group = fmlp_in_line;
  earlier = past_by fmlp_in_line [] fmlp_in_line_steps;
  later = past_by fmlp_in_line [] fmlp_in_line_freed;
  is_valid = fmlp_in_line-valid;
  is_made = made_by fmlp_in_line fmlp_in_line_steps opened;
  is_made_later = made_by fmlp_in_line fmlp_in_line_freed opened;
  a = fmlp_in_line_first;
  b = fmlp_in_line_second;
  in_line = record { is_fmlp = line-fmlp; same_sem = refl; before = omega arith };
  listed = subst (λ rs. Contains rs fmlp_in_line_second) (sym fmlp_in_line-requests) (2, omega arith, refl);
  first_waits = fmlp_in_line-first_waits;
  second_waits = fmlp_in_line-second_waits;
  first_granted = fmlp_in_line-first_granted;
  second_waits_on = fmlp_in_line-second_waits_on;
}

exceeded-mpcp : protocol mpcp_exceeded 1 ≡ Mpcp
unfolding computed
exceeded-mpcp = refl

exceeded-users : length (users mpcp_exceeded 1) ≡ 3
unfolding computed
exceeded-users = refl

pub mpcp_exceeds_fmlp_bound : ExceedsFmlpBound
mpcp_exceeds_fmlp_bound = record {
  group = mpcp_exceeded;
  past = past_by mpcp_exceeded [] mpcp_exceeded_steps;
  is_valid = mpcp_exceeded-valid;
  is_made = made_by mpcp_exceeded mpcp_exceeded_steps opened;
  no = 4;
  task = 1;
  sem = 1;
  is_mpcp = exceeded-mpcp;
  waits_on = mpcp_exceeded-open;
  exceeded = omega (arith, exceeded-users, mpcp_exceeded-all);
}
