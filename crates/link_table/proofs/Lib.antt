pub mod Filling
pub mod MarkLaws
pub mod PlaceLaws
pub mod SoundLaws
pub mod AmongLaws
pub mod StayLaws
pub mod Exchanging
pub mod ExchangeLaws
