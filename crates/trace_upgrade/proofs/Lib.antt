pub mod Taking
pub mod SaidLaws
pub mod TextLaws
