pub use Rattle.buslink.specs.Each
pub mod Opened
pub mod Receipts
pub mod Seats
pub mod Shares
pub mod Tokens
