-- A group of a set, as definitions have it.
use Rattle.rt_model.specs.Group.{Group}
use Rattle.why_lines.specs.declared.pieces.GroupSet.{GroupSet}

abbrev pub group_in : GroupSet → Group
group_in s = record { setup = s.parts.now; number = s.group.0 }
