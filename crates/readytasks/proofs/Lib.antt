mod Choosing
mod Following
mod Listing
