mod ArgumentPorts
mod Bodies
mod CallsRead
mod Declared
mod FilledTables
mod FunctionsFound
mod JumpFaults
pub mod LabelNumbers
pub mod LeastOfDeclarations
pub mod Lists
mod LookedUp
mod Numbered
pub mod OneFault
mod OneMore
mod PortNumbers
pub mod SameNames
mod SameTypes
pub mod Sound
mod Spelling
mod StoredExternals
mod StoredGlobals
pub mod Typed
