pub mod SeatTallies
pub mod Openings
