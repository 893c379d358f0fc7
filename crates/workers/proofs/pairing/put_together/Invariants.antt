use Rattle.std.proofs.Common.{◌≡◌, ◌+◌, length}
use Rattle.std.specs.Prelude.{vec_len, vec_capacity}
use Rattle.plantevents.specs.declared.role.Role.TheVariants.{Bus}
use Rattle.plantturns.specs.Each.{Each}
use Rattle.plantturns.specs.Receipts.{ShareParts, IsFresh}
use Rattle.plantturns.specs.Links.{log_of}
use Rattle.plantturns.specs.Logs.{IsServed}
use Rattle.workers.specs.LinkedShares.{AreServed}
use Rattle.workers.proofs.pairing.put_together.Given as goal

abbrev pub invariant-loop-bus : goal.invariant-loop-bus
invariant-loop-bus g l =
    Each (λ k line. (s : ShareParts) → IsFresh g.J.LockStart.start (Bus k) s
    → IsServed (log_of g.J.Links.buses k) k s (g.B.Bus.log line)) l._bus l.lines.items
    × Each (λ k s. IsFresh g.J.LockStart.start (Bus k) s) l._bus l.shares.items
    × AreServed g.J.Links.buses g.B.Bus.log 0 l.served.items
    × (l._bus + length l.lines.items ≡ vec_len l.fn.lines)
    × (length l.shares.items ≡ length l.lines.items)
    × (length l.served.items ≡ l._bus)
    × (vec_capacity l.lines ≡ vec_capacity l.fn.lines)
    × (vec_capacity l.shares ≡ vec_capacity l.fn.shares)
    × (vec_capacity l.served ≡ vec_capacity l.fn.served)
