-- Each of some ones is a number of 32 bits.
use Rattle.std.proofs.Common.{ℕ, zero, suc, ◌<◌, ◌^◌, replicate, lit<}
use Rattle.std.specs.List.{AllByRecursion}

pub ones_small : (n : ℕ) → AllByRecursion (λ (line : ℕ). line < 2 ^ 32) (replicate n 1)
ones_small zero = tt
ones_small (suc n) = (lit< tt, ones_small n)
