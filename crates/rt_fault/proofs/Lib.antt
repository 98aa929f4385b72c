pub mod HeldLaws
pub mod LeftLaws
pub mod PlanLaws
