pub mod LeavingOut
pub mod Nearest
pub mod Trying
