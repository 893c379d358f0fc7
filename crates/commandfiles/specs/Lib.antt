pub mod Beginnings
pub mod Reports
pub mod Served
pub use Rattle.exitstatus.specs.ExitStatuses
pub use Rattle.exitstatus.specs.declared.exit_status.ExitStatus
pub use Rattle.exitstatus.specs.declared.play_stop.PlayStop
