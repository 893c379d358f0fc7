-- Reading durations, as the private functions do: `T#` or `TIME#`, then numbers with units in falling order, each at
-- most
-- once.
use Rattle.std.specs.Prelude.{ℕ, ◌+◌, ◌-◌, ◌*◌, ◌^◌, min, List, [], ◌∷◌, Option, Some, None}
use Rattle.std.specs.Prelude.{Bool, true, false, ◌&&◌, ◌==◌, codes, if◌then◌else◌}
use Rattle.std.specs.Option.{option_or}
use Rattle.iltokens.specs.declared.time.Unit.{Unit}
use Rattle.iltokens.specs.declared.time.Unit.TheVariants as units
use Rattle.iltokens.specs.DigitSteps.{digits}
use Rattle.iltokens.specs.Times.{milliseconds}
use Rattle.iltokens.specs.WordSteps.{after_word}

abbrev pub nothing_after : Option (List ℕ) → Option (List ℕ) → Option (List ℕ)
nothing_after (Some rest) other = None
nothing_after None other = other

-- what stands after the unit's letters; `m` before `s` is not a minute
unfoldable pub after_unit : Unit → List ℕ → Option (List ℕ)
after_unit units.Day bs = after_word (codes "d") bs
after_unit units.Hour bs = after_word (codes "h") bs
after_unit units.Minute bs = nothing_after (after_word (codes "ms") bs) (after_word (codes "m") bs)
after_unit units.Second bs = after_word (codes "s") bs
after_unit units.Millisecond bs = after_word (codes "ms") bs

abbrev pub scaled : Unit → ℕ → Option (List ℕ) → Option (ℕ × List ℕ)
scaled unit count None = None
scaled unit count (Some rest) = Some (min (count * milliseconds unit) (2 ^ 64 - 1), rest)

abbrev pub with_unit : Unit → Option (ℕ × List ℕ) → Option (ℕ × List ℕ)
with_unit unit None = None
with_unit unit (Some read) = scaled unit read.0 (after_unit unit read.1)

-- a number with this unit, in milliseconds, and what stands after it
unfoldable pub part : Unit → List ℕ → Option (ℕ × List ℕ)
part unit bs = with_unit unit (digits 10 bs)

-- the parts so far, whether there is one, and what stands after them
pub record Parts : Type 0 where
  pub total : ℕ
  pub some : Bool
  pub rest : List ℕ

abbrev pub after_mark : Bool → List ℕ → List ℕ
after_mark some [] = []
after_mark some (b ∷ bs) = if (b == 95) && some then bs else b ∷ bs

-- where the next part begins: an underscore may stand between two parts
unfoldable pub parts_begin : Parts → List ℕ
parts_begin parts = after_mark parts.some parts.rest

abbrev pub added : Parts → Option (ℕ × List ℕ) → Parts
added parts None = parts
added parts (Some read) = record { total = min (parts.total + read.0) (2 ^ 64 - 1); some = true; rest = read.1 }

unfoldable pub with_part : Unit → Parts → Parts
with_part unit parts = added parts (part unit (parts_begin parts))

unfoldable pub parts : List ℕ → Parts
parts bs =
    with_part units.Millisecond (with_part units.Second (with_part units.Minute (with_part units.Hour
    (with_part units.Day (record { total = 0; some = false; rest = bs })))))

unfoldable pub after_prefix : List ℕ → Option (List ℕ)
after_prefix bs = option_or (after_word (codes "t#") bs) (after_word (codes "time#") bs)

abbrev pub if_some : Parts → Option (ℕ × List ℕ)
if_some parts = if parts.some then Some (parts.total, parts.rest) else None

abbrev pub time_after : Option (List ℕ) → Option (ℕ × List ℕ)
time_after None = None
time_after (Some bs) = if_some (parts bs)

-- the duration at the front in milliseconds, and what stands after it
unfoldable pub time : List ℕ → Option (ℕ × List ℕ)
time bs = time_after (after_prefix bs)
