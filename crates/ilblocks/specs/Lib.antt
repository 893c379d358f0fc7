pub mod Calls
pub mod Ports
pub mod Stores
pub use Rattle.gearcmd.specs.Address
pub use Rattle.gearcmd.specs.Limits
pub use Rattle.gearcmd.specs.declared.requests.Command
pub use Rattle.gearcmd.specs.declared.requests.Request
pub use Rattle.gearcmd.specs.declared.requests.TaskKind
