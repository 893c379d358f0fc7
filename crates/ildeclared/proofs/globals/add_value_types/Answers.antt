use Rattle.std.proofs.Common.{◌≡◌, ◌∙◌, add-one, ℕ, zero, suc, ◌<◌, ◌+◌, List, [], ◌∷◌, ◌++◌, ap, arith, length}
use Rattle.std.proofs.Common.{map, refl, sym, take}
use Rattle.std.proofs.lemmas.List.{append_assoc}
use Rattle.std.specs.Prelude.{Option}
use Rattle.iltypes.specs.declared.value.IlType.{IlType}
use Rattle.ilsource.specs.declared.name.Name.{Name}
use Rattle.ildeclared.specs.Globals.{type_of_each}
use Rattle.ildeclared.proofs.globals.add_value_types.Goals as goal

each_next : (type : Option IlType) (names : List Name) (i : ℕ) → i < length names →
    map (type_of_each type) (take (suc i) names) ≡ map (type_of_each type) (take i names) ++ type ∷ []
each_next type [] i below = absurd (omega arith)
each_next type (n ∷ ns) zero below = refl
each_next type (n ∷ ns) (suc i) below =
    ap (λ (types : List (Option IlType)). type ∷ types) (each_next type ns i (omega arith))

each_more : (type : Option IlType) (names : List Name) (i : ℕ) → i < length names →
    map (type_of_each type) (take (i + 1) names) ≡ map (type_of_each type) (take i names) ++ type ∷ []
each_more type names i below = rw add-one (each_next type names i below)

pub loop-preserved : goal.loop-preserved
loop-preserved c =
    let type = c.args.value_type in
    let old = c.args.value_types.now.items in
    let done = map (type_of_each type) (take c.loop.index c.args.names.now) in
    c.in_ok-push.ensures.items
    ∙ ap (λ (vs : List (Option IlType)). vs ++ type ∷ []) c.loop.invariant
    ∙ append_assoc old done (type ∷ [])
    ∙ ap (λ (vs : List (Option IlType)). old ++ vs) (sym (each_more type c.args.names.now c.loop.index
    c.loop-test.true))
