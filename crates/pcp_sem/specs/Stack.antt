-- What PCP keeps of its grants. `IsStacked over ps`: the base key of each holder is above the ceiling of each semaphore that
-- another task was granted before and still holds. `IsStack over l`: that, and no waiting task passes.
pub use Rattle.rt_rules.proofs.PcpLaws.{IsStacked, IsStack}
