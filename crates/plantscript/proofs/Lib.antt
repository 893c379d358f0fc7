mod Accepting
mod Desks
mod Empty
mod Histories
mod Runs
mod Serving
