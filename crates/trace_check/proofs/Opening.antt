-- A group at opening.
use Rattle.std.proofs.Common.{◌≡◌, ℕ, ◌<◌, List, [], length, sym, ap, ◌∙◌, subst, arith}
use Rattle.std.specs.Prelude.{All}
use Rattle.rt_base.specs.declared.CpuNo.{CpuNo}
use Rattle.rt_task.specs.declared.Parts.{Parts}
use Rattle.rt_task.specs.Validity.{IsValid}
use Rattle.rt_model.specs.Group.{Group, group_processors}
use Rattle.rt_plays.specs.Groups.{IsGroupOf}
use Rattle.rt_plays.specs.Plays.{group_with}
use Rattle.view_replay.specs.Players.{Played}
use Rattle.trace_lines.specs.Lines.{links_of}
use Rattle.trace_text.specs.Groups.{cpu_numbers}
use Rattle.trace_text.specs.TraceText.{links_at}
use Rattle.trace_text.proofs.LineLaws.{past_none}
use Rattle.trace_text.proofs.ReplayLaws.{cpus_there}
use Rattle.trace_laws.proofs.Plays.{begun-none}
use Rattle.rt_plays.proofs.GroupLimits.{processor-low}
use Rattle.trace_check.specs.declared.follow.Follow.{Follow}
use Rattle.trace_course.specs.Courses.{IsOpened, room_in}
use Rattle.trace_check.specs.inside.Following.{IsFollowing}
use Rattle.trace_course.proofs.Courses.{course-first, room-first}

-- the processors of a group have low numbers
pub cpus-low : (g : Group) (qs : List CpuNo) → IsValid g.setup → cpu_numbers qs ≡ group_processors g → All (λ (q : CpuNo). q.0 < 64) qs
cpus-low g qs valid are k d low = processor-low g _ valid (cpus_there g qs are k d low)

-- what was made at opening, for these processors
pub record IsMadeOf {P : Type 0} (played : P → Played) (spare : P → ℕ) (p : Parts) (n : ℕ) (cpus : List CpuNo) (f : Follow P) : Type 0 where
  pub valid : IsValid p
  pub there : IsGroupOf p n
  pub at : played f.player (group_with p n) []
  pub cpus_are : cpu_numbers cpus ≡ group_processors (group_with p n)
  pub opened : IsOpened p.drive cpus f.course
  pub spare_is : spare f.player ≡ room_in p.drive (length cpus) f.course
  pub cpus_kept : f.links.cpus.items ≡ cpus
  pub links_are : links_of f.links.links.items ≡ links_at (group_with p n) [] (cpu_numbers cpus)
  pub count_is : f.count ≡ 0

pub following-first : {P : Type 0} (played : P → Played) (spare : P → ℕ) (p : Parts) (n : ℕ) (cpus : List CpuNo) (f : Follow P)
    → IsMadeOf played spare p n cpus f → IsFollowing played spare (group_with p n) [] f
following-first played spare p n cpus f m =
    let g : Group = group_with p n in
    record {
      valid = m.valid;
      is_there = m.there;
      begun = begun-none g;
      at = subst (played f.player g) (sym (past_none g)) m.at;
      count_is = m.count_is;
      spare_is = omega (arith, m.spare_is, room-first g cpus m.cpus_are f.course m.opened);
      links_are = record {
        cpus_are = ap cpu_numbers m.cpus_kept ∙ m.cpus_are;
        links_are = m.links_are ∙ ap (links_at g []) m.cpus_are ∙ ap (λ past. links_at g past (group_processors g)) (sym (past_none g));
      };
      course_is = course-first g cpus m.cpus_are f.course m.opened;
    }
