-- A worked image: of a button and a lamp one task reads the button, sets the lamp and keeps a number of its own;
-- another reads the lamp alone and keeps a truth value.
use Rattle.std.specs.Prelude.{ℕ, pos, Bool, true, false, List, [], ◌∷◌}
use Rattle.iltypes.specs.declared.value.IlType.{IlType}
use Rattle.iltypes.specs.declared.value.IlType.TheVariants as types
use Rattle.iltypes.specs.declared.value.Value.{Value}
use Rattle.iltypes.specs.declared.value.Value.TheVariants as values
use Rattle.ilverify.specs.Listings.{listing_of}
use Rattle.ilverify.specs.Verdicts.{Accepted}
use Rattle.ilmachine.specs.declared.external.External.{External}
use Rattle.ilmachine.specs.declared.overriding.Override.{Override}
use Rattle.ilmachine.specs.Images.{TaskLayout, TaskImage, ProcessImage, first_task, image_of}

abbrev pub whole : ℕ → Value
whole n = values.Int (pos n)

abbrev pub level : IlType
level = types.Int (record { lo = pos 0; hi = pos 254; ordered = record { le = tt } })

-- a code without words over slots of these types
abbrev pub accepted : List IlType → Accepted
accepted slots = record { code = listing_of 1 [] slots [] [] [] [] []; bound = 0 }

abbrev pub external : ℕ → Bool → External
external global stored = record { global = global; stored = stored }

-- the globals are the button and the lamp; the first task names them in the other order
abbrev pub setter : ℕ → TaskImage
setter count =
    first_task (accepted (level ∷ types.Bool ∷ level ∷ [])) (external 1 true ∷ external 0 false ∷ []) (whole count ∷ [])
    []

abbrev pub watcher : TaskImage
watcher = first_task (accepted (level ∷ types.Bool ∷ [])) (external 1 false ∷ []) (values.Bool true ∷ []) []

-- a task whose code has a function with an input and its result, behind the slots of the first task
abbrev pub calling : TaskLayout
calling =
    record {
      verified = record {
        code = listing_of 1 [] (level ∷ types.Bool ∷ level ∷ level ∷ level ∷ []) [] [] [] []
            (record { start = 0; first = 3; inputs = 1; slots = 2 } ∷ []);
        bound = 0;
      };
      externals = external 1 true ∷ external 0 false ∷ [];
    }

abbrev pub house : ProcessImage
house = image_of (types.Bool ∷ level ∷ []) (values.Bool true ∷ whole 254 ∷ []) (setter 7 ∷ watcher ∷ [])

abbrev pub overriding : ℕ → Value → Override
overriding global value = record { global = global; value = value }

-- the lamp is overridden twice
abbrev pub lamp_twice : List Override
lamp_twice = overriding 1 (whole 3) ∷ overriding 1 (whole 5) ∷ []
