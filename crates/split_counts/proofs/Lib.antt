pub mod FreedLaws
pub mod RoomLaws
