-- Why a run is said to have ended, and what was told of it.
use Rattle.std.proofs.Common.{◌≡◌, Bool, true, false, refl}
use Rattle.workers.specs.declared.ended.Ended.{Ended}
use Rattle.workers.specs.declared.ended.Ended.TheVariants.{Asked, Limit, NoMemory, NoThread}
use Rattle.workers.specs.Endings.{ended_as_told}

-- the clock's end is said only where it was told
pub was_asked : (full : Bool) (told : Ended) → ended_as_told full told ≡ Asked → told ≡ Asked
was_asked full Asked is = refl
was_asked true Limit is = absurd (cc)
was_asked false Limit is = absurd (cc)
was_asked full NoMemory is = absurd (cc)
was_asked full NoThread is = absurd (cc)

-- only a full history is said to be full
pub full_as_told : (full : Bool) (told : Ended) → ended_as_told full told ≡ Limit → full ≡ true
full_as_told full Asked is = absurd (cc)
full_as_told true Limit is = refl
full_as_told false Limit is = absurd (cc)
full_as_told full NoMemory is = absurd (cc)
full_as_told full NoThread is = absurd (cc)
