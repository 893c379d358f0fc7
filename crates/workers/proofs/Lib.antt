mod Earlier
mod Ends
mod Following
pub mod FromFirst
mod GoneOn
mod Left
mod Lists
mod Parting
mod Told
mod Whole
