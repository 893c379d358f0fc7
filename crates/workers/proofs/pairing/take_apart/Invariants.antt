use Rattle.std.proofs.Common.{◌≡◌, ◌+◌, ◌++◌, length, map}
use Rattle.std.specs.Prelude.{vec_len, vec_capacity}
use Rattle.workers.proofs.pairing.take_apart.Given as goal

abbrev pub invariant-loop-bus : goal.invariant-loop-bus
invariant-loop-bus g l =
    (map (λ s. s.line) l.fn.served.items ≡ l.lines.items ++ map (λ s. s.line) l.served.items)
    × (map (λ s. s.share) l.fn.served.items ≡ l.shares.items ++ map (λ s. s.share) l.served.items)
    × (l._bus + length l.served.items ≡ vec_len l.fn.served)
    × (length l.lines.items ≡ l._bus)
    × (length l.shares.items ≡ l._bus)
    × (vec_capacity l.lines ≡ vec_capacity l.fn.lines)
    × (vec_capacity l.shares ≡ vec_capacity l.fn.shares)
