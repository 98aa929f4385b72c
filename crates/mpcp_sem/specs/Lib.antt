pub mod MpcpState
