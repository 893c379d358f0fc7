use Rattle.std.proofs.Common.{◌≡◌, ◌≤◌, drop, false}
use Rattle.iltext.specs.Faults.{open_after_all}
use Rattle.iltext.proofs.fault.open_after.Given as goal

abbrev pub invariant-tokens : goal.invariant-tokens
invariant-tokens l = record {
  counted : open_after_all l.deferred l.count (drop l.token-index l.before) ≡ open_after_all false 0 l.before;
  few : l.count ≤ l.token-index;
}
