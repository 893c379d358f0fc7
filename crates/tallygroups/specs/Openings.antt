-- What there is of a group before anything was counted.
use Rattle.std.specs.Prelude.{ℕ, List, map}
use Rattle.std.specs.List.{range_with_len}

-- the places of a group, with no amount
abbrev pub each_place : List (ℕ × ℕ)
each_place = map (λ k. (k, 0)) (range_with_len 0 9)

-- the totals of a group
abbrev pub no_amounts : List ℕ
no_amounts = map (λ k. 0) (range_with_len 0 9)
