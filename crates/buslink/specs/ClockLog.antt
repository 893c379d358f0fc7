-- What a clock is to a contract: the moments that it is to give, those that it gave so far, and its calls.
use Rattle.std.specs.Prelude.{◌≡◌, ℕ, ◌+◌, ◌-◌, ◌^◌, ◌≤◌, min, Bool, true, false, Option, Some, None, IfSome, ⊤}
use Rattle.std.specs.Prelude.{List, [], ◌∷◌, ◌++◌, All}

pub record ClockLog : Type 0 where
  -- all moments that it is to give, first to last, where that is known, as of a clock by a script
  pub moments : Option (List ℕ)
  -- the moments that it gave, first to last
  pub given : List ℕ
  -- its calls, kept at 2^64 - 1 once there
  pub asks : ℕ
  -- whether the last of those calls gave no moment
  pub gave_none : Bool

-- one call more
abbrev pub one_more_ask : ℕ → ℕ
one_more_ask asks = min (asks + 1) (2 ^ 64 - 1)

-- the clock after a call: only a moment is added
abbrev pub after_now : Option ℕ → ClockLog → ClockLog
after_now (Some moment) log =
    record log { given = log.given ++ moment ∷ []; asks = one_more_ask log.asks; gave_none = false }
after_now None log = record log { asks = one_more_ask log.asks; gave_none = true }

-- no moment that was given before is later than this one
abbrev pub IsNotBefore : ℕ → ClockLog → Type 0
IsNotBefore moment log = All (λ earlier. earlier ≤ moment) log.given

-- it gave all that it is to give, where that is known
abbrev pub HasGivenAll : ClockLog → Type 0
HasGivenAll log = IfSome log.moments (λ moments. log.given ≡ moments)

-- a call that gives no moment tells that all were given before it
abbrev pub TellsEnd : Option ℕ → ClockLog → Type 0
TellsEnd (Some moment) log = ⊤
TellsEnd None log = HasGivenAll log
