-- A level that was handed out.
use Rattle.std.proofs.Common.{◌≡◌, Bool, true, false, List, ◌∷◌, ℕ, Option, Some, None, refl, ap, ◌∙◌}
use Rattle.std.specs.Prelude.{◌==◌, if◌then◌else◌, is_some, option_and_then}
use Rattle.iltypes.specs.declared.value.Value.{Value}
use Rattle.gearcmd.specs.FrameLists.{FrameList}
use Rattle.busqueue.specs.declared.class.Class.{Class}
use Rattle.busqueue.specs.Queues.{class_number}
use Rattle.ilmachine.specs.Images.{Global}
use Rattle.plantevents.specs.declared.event.Event.{Event}
use Rattle.plantevents.specs.declared.event.Event.TheVariants.{Hand}
use Rattle.plantevents.specs.declared.event.Origin.{Origin}
use Rattle.plantevents.specs.declared.event.Origin.TheVariants.{Output}
use Rattle.plantevents.specs.Plants.{Plant, output_at}
use Rattle.plantevents.specs.Variables.{value, whole}
use Rattle.plantevents.specs.Waiting.{OwedLevel, if_new, level_class, natural_in, owed_by}
use Rattle.plantbuses.specs.OwedSteps.{owes}

abbrev nothing : Option OwedLevel
nothing = None

none_either : (b : Bool) → is_some (if b then nothing else nothing) ≡ false
none_either true = refl
none_either false = refl

-- the level 200 of address 5 was handed out, and it is the value there: it is not owed
pub not_owed : (p : Plant) (h : List Event) (origin : Origin) (t : FrameList) (class : Class)
    → origin ≡ Output 5 200 → output_at p 0 5 ≡ Some 3 → value p (Global 3) h ≡ Some (whole 200)
    → owes p 0 (Hand 0 origin t ∷ h) class 5 ≡ false
not_owed p h origin t class is located lit =
    let c = class_number class in
    ap (λ (o : Origin). owes p 0 (Hand 0 o t ∷ h) class 5) is
    ∙ (ap (λ (global : Option ℕ). is_some (option_and_then (owed_by p 0 c 5 (Hand 0 (Output 5 200) t ∷ h)) global))
    located
    ∙ (ap (λ (v : Option Value). is_some (if level_class p 3 == c then option_and_then (if_new 200 5) (natural_in v)
    else None)) lit
    ∙ none_either (level_class p 3 == c)))
