pub mod SingleClusters
pub mod OwnParts
pub mod OwnSteps
pub mod BeginLaws
pub mod FinishLaws
pub mod TaskLists
