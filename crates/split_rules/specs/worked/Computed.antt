-- A proof that computes with the definitions says `unfolding computed_splits`.
use Rattle.rt_model.specs.worked.Computed.{computed}
use Rattle.split_rules.specs.PartAnswers.{answer, do_answer, end_answer, irq_answer, lock_answer, op_answer, part_act, unlock_answer}
use Rattle.split_rules.specs.PartHistories.{after, links_from, past_from, past_of}
use Rattle.split_rules.specs.PartLinks.{boost, boost_by, boost_of, effective_key, eligible, holder_of, linked, links, part, pending}
use Rattle.split_rules.specs.PartLinks.{ranking, running, tasks, top, waits_for}
use Rattle.split_rules.specs.PartPast.{deeds}
use Rattle.split_rules.specs.PartSems.{awaiting, held_since, holding}
use Rattle.split_rules.specs.SemHistories.{next_by, seat_of}

unfoldable pub computed_splits : Unit {0}
unfolding computed seat_of next_by deeds holding awaiting held_since part tasks boost_by boost_of boost holder_of waits_for effective_key
    eligible ranking top running links linked pending irq_answer lock_answer unlock_answer end_answer op_answer do_answer answer part_act
    after past_from past_of links_from
computed_splits = tt
