-- Lists of links.
use Rattle.std.proofs.Common.{◌≡◌, List, [], ◌∷◌, ◌++◌, length}
use Rattle.std.proofs.lemmas.List.{map-append, length-map}
use Rattle.rt_base.specs.TaskNos.{number_of_task}
use Rattle.trace_lines.specs.declared.links.CpuLink.{CpuLink}
use Rattle.trace_lines.specs.Lines.{links_of}

pub links_of-push : (xs : List CpuLink) (x : CpuLink) → links_of (xs ++ x ∷ []) ≡ links_of xs ++ (x.cpu.0, number_of_task x.task) ∷ []
links_of-push xs x = map-append (λ (y : CpuLink). (y.cpu.0, number_of_task y.task)) xs (x ∷ [])

pub length-links_of : (xs : List CpuLink) → length (links_of xs) ≡ length xs
length-links_of xs = length-map xs (λ (y : CpuLink). (y.cpu.0, number_of_task y.task))
