-- The names of a document as code keeps them.
use Rattle.set_read.specs.declared.acts.NameLists.{NameLists}
use Rattle.set_read.specs.Document as document

abbrev pub names_seen : NameLists → document.Names
names_seen n = record { sems = n.sems; resvs = n.resvs; tasks = n.tasks }
