mod GrantLaws
mod SeatLaws
