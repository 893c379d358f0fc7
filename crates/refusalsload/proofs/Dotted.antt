-- A name with nothing before its dot.
use Rattle.std.proofs.Common.{◌≡◌, ◌∙◌, ◌<◌, ◌++◌, ◌∷◌, ℕ, List, [], Option, Some, None, arith, ap, sym, refl, length}
use Rattle.std.proofs.Common.{codes, get_or, lit<, map, subst}
use Rattle.std.specs.Prelude.{IsSomeAnd}
use Rattle.std.specs.Borrow.{Bor}
use Rattle.std.specs.Char.{to_ascii_lowercase}
use Rattle.std.specs.List.{Contains}
use Rattle.ilplan.specs.Plans.{Planned, instance_name, slot_at, variable_name}
use Rattle.ilplan.specs.declared.slot.Slot.{Slot}
use Rattle.ilplan.specs.declared.slot.SlotOwner.{SlotOwner}
use Rattle.plantplay.specs.Names.{IsNamed}
use Rattle.plantplay.specs.Watched.{AreWatchable, IsNameOf, IsOwnNamed, IsPlaceOf, IsWatchable, dot}
use Rattle.plantplay.specs.declared.watch.Place.{Place}
use Rattle.plantplay.specs.declared.watch.Place.TheVariants.{Global, Own}

nothing_before : (before behind : List ℕ) → codes ".lamp" ≡ before ++ dot ∷ behind → ¬ Contains before dot → before ≡ []
nothing_before [] behind spelled first = refl
nothing_before (x ∷ before) behind spelled first =
    absurd (first (0, omega arith, sym (ap (λ (l : List ℕ). get_or l 0 dot) spelled)))

nothing_alike : (instance : List ℕ) → map to_ascii_lowercase instance ≡ [] → instance ≡ []
nothing_alike [] is = refl
nothing_alike (x ∷ instance) is = absurd (cc)

no_instance : (instance variable : List ℕ) → IsNameOf (codes ".lamp") instance variable → instance ≡ []
no_instance instance variable is =
    nothing_alike instance
    (is.of_instance
    ∙ ap (λ (l : List ℕ). map to_ascii_lowercase l) (nothing_before is.before is.behind is.spelled is.first))

not_own : (instance variable : Option (List ℕ)) → ¬ (instance ≡ Some [])
    → ¬ IsSomeAnd instance (λ i. IsSomeAnd variable (λ v. IsNameOf (codes ".lamp") i v))
not_own None variable named is = is
not_own (Some i) None named is = is
not_own (Some i) (Some v) named is = named (ap (λ (l : List ℕ). Some l) (no_instance i v is))

not_slot : (plan : Planned) (slot : Option Slot) → ((owner : SlotOwner) → ¬ (instance_name plan owner ≡ Some []))
    → ¬ IsSomeAnd slot (λ s. IsOwnNamed plan (codes ".lamp") s.variable)
not_slot plan None named is = is
not_slot plan (Some s) named is =
    not_own (instance_name plan s.variable) (variable_name plan s.variable) (named s.variable) is

not_there : (plan : Planned) (place : Place) → ((owner : SlotOwner) → ¬ (instance_name plan owner ≡ Some []))
    → ((number : ℕ) → number < length plan.globals → ¬ IsNamed plan (codes ".lamp") number)
    → ¬ IsPlaceOf plan (codes ".lamp") place
not_there plan (Global number) named globals is = globals number is.0 is.1
not_there plan (Own task slot) named globals is = not_slot plan (slot_at plan task slot) named is

-- where each instance has a name, and no global variable has this one, no variable has it
pub not_watched : (plan : Planned) (name : Bor (List ℕ)) → name.now ≡ codes ".lamp"
    → ((owner : SlotOwner) → ¬ (instance_name plan owner ≡ Some []))
    → ((number : ℕ) → number < length plan.globals → ¬ IsNamed plan (codes ".lamp") number)
    → ¬ AreWatchable plan (name ∷ [])
not_watched plan name is named globals all =
    let one : IsWatchable plan (codes ".lamp") =
    subst (λ (n : List ℕ). IsWatchable plan n) is (all 0 name (lit< tt)) in
    not_there plan one.0 named globals one.1
