mod Answering
mod BoundOn
mod Choosing
mod Committing
pub mod Counting
mod Dropping
mod FirstCounts
mod FirstHandouts
mod FirstImages
mod Found
mod Fullness
mod GivenInputs
mod Growing
mod Handing
mod Indexed
mod Overriding
pub mod Owning
mod Pending
mod Refusing
mod Reporting
mod Reports
mod Starting
mod States
mod Taking
mod Written
