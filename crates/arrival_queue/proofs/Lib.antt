pub mod ChainLaws
pub mod PushLaws
