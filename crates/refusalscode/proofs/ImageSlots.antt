-- Variables in the slots of tasks.
use Rattle.std.proofs.Common.{◌≡◌, ℕ, ◌<◌, List, [], ◌∷◌, length, map, Option, Some, option_and_then, refl, ap, subst, ◌∙◌, arith}
use Rattle.std.proofs.lemmas.List.{length-map}
use Rattle.iltypes.specs.declared.value.Value.{Value}
use Rattle.ilmachine.specs.declared.overriding.Override.{Override}
use Rattle.ilmachine.specs.Images.{ImageVariable, Global, ProcessImage, TaskImage, layout_of, value_of, value_under}

-- a global variable in a slot has the value that is given for it
pub has_override : (image : ProcessImage) (overrides : List Override) (given : Override)
    (variable : Option ImageVariable) → overrides ≡ given ∷ [] → given.global ≡ 4 → variable ≡ Some (Global 4)
    → option_and_then (value_under overrides image) variable ≡ Some given.value
has_override image overrides given variable one global slot = rw (one, slot, global) refl

-- an image with the same layout has as many tasks
pub as_many : (new old : ProcessImage) → layout_of new ≡ layout_of old → (task : ℕ) → task < length old.tasks
    → task < length new.tasks
as_many new old same task there =
    let lengths = ap (λ l. length l.tasks) same in
    let of_new = length-map new.tasks (λ (t : TaskImage). t.layout) in
    let of_old = length-map old.tasks (λ (t : TaskImage). t.layout) in
    omega arith
