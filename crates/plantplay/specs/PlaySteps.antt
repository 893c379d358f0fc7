-- What private functions of playing do.
use Rattle.std.specs.Prelude.{◌≡◌, ◌⊎◌, List, [], ◌∷◌, ◌++◌, reverse, ⊤}
use Rattle.wordlines.specs.declared.happenings.Happening.{Happening}
use Rattle.plant.specs.Shown.{Shown}
use Rattle.plantdriving.specs.declared.halt.Halt.{Halt}
use Rattle.plantdriving.specs.declared.halt.Halt.TheVariants.{Refused, Memory, Unwritten}
use Rattle.plantdriving.specs.Driven.{IsStuck}
use Rattle.plantplay.specs.Stage.{Stage, IsBegun, IsPlayedAsFar, IsPlayedBy, IsRefused}

-- why no more of this happens
abbrev pub StopsAt : List Happening → Shown → Halt → Type 0
StopsAt rest p (Refused refusal) = IsStuck p ⊎ IsRefused rest p
StopsAt rest p Memory = ⊤
StopsAt rest p (Unwritten error) = ⊤

-- it came no further
abbrev pub IsHalted : List Happening → Stage → Stage → Halt → Type 0
IsHalted all s t halt = (rest : List Happening) × IsPlayedAsFar all rest s t × StopsAt rest t.plant halt

-- nor did one of them
pub record IsHaltedAt (happening : Happening) (s t : Stage) (halt : Halt) : Type 0 where
  pub begun : IsBegun (happening ∷ []) s t
  pub stops : StopsAt (happening ∷ []) t.plant halt

-- all of these happened but the rest
pub record IsFollowed (all rest : List Happening) (s t : Stage) : Type 0 where
  pub done : List Happening
  pub order : all ≡ reverse done ++ rest
  pub played : IsPlayedBy done s t
