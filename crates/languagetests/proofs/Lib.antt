mod Functions
mod Ones
