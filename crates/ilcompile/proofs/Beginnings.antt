-- The codes of a plan are those of the same plan that begins with other values.
use Rattle.std.proofs.Common.{◌≡◌, ◌++◌, ℕ, List, [], ◌∷◌, length, map, refl, sym, ap, ◌∙◌, subst}
use Rattle.std.specs.Prelude.{flat_map}
use Rattle.std.specs.List.{AllZip}
use Rattle.iltypes.specs.declared.value.IlType.{IlType}
use Rattle.iltypes.specs.declared.value.Value.{Value}
use Rattle.ilblocks.specs.Stores.{Lasting}
use Rattle.ilsource.specs.Places.{line_at}
use Rattle.ilsource.specs.Words as counts
use Rattle.ilplan.specs.Functions.{PlannedFunction, function_types}
use Rattle.ilplan.specs.Plans.{Planned, PlannedTask, all_lines, functions_of, kinds_of, types_of, used_functions}
use Rattle.ilplan.specs.Beginnings.{each_with, slot_with, task_with, plan_with}
use Rattle.ilplan.proofs.Beginnings.{length_with}
use Rattle.ilplan.proofs.BegunScans.{same_types, scan_by}
use Rattle.ilcode.specs.Listings.{Listing, listing_of}
use Rattle.ilverify.specs.Certificates.{IsAccepted}
use Rattle.ilverify.specs.Verdicts.{Accepted}
use Rattle.ilcompile.specs.Layout.{laid_out, numbers_of, placed_from, programs_of, starts_from, words_of_programs}
use Rattle.ilcompile.specs.Layout.{words_of_bodies, places_of_programs, places_of_body, bodies_from}
use Rattle.ilcompile.specs.Loaded.{IsCodeOf, AreCodes}
use Rattle.ilcompile.specs.Meant.{IsMeant}

-- a task laid out, with so many slots of these types
abbrev laid : ℕ → List ℕ → List PlannedFunction → PlannedTask → ℕ → List IlType → Listing
laid buses text functions task slots types =
    let programs = programs_of task.instances in
    let bodies = functions_of functions task in
    let end = counts.words_of_lines (all_lines task.instances) in
    let stand = placed_from 0 slots (used_functions functions task) in
    listing_of buses task.constants (types ++ flat_map function_types bodies) (kinds_of task)
    (starts_from 0 programs)
    (words_of_programs (numbers_of task.constants 0 stand) 0 programs
    ++ words_of_bodies task.constants stand end slots bodies)
    (map (line_at text) (places_of_programs programs ++ flat_map places_of_body bodies))
    (bodies_from end slots bodies)

same_layout : (buses : ℕ) (text : List ℕ) (functions : List PlannedFunction) (task : PlannedTask) (first : Lasting)
    → laid_out buses text functions (task_with task first) ≡ laid_out buses text functions task
same_layout buses text functions task first =
    ap (λ (n : ℕ). laid buses text functions task n (types_of (task_with task first)))
    (length_with slot_with task.slots first.slots)
    ∙ ap (λ (types : List IlType). laid buses text functions task (length task.slots) types) (same_types task first)

code_kept : (plan : Planned) (globals : List Value) (begins : List Lasting) (task : PlannedTask) (code : Accepted)
    → IsCodeOf plan task code → IsCodeOf (plan_with plan globals begins) task code
code_kept plan globals begins task code is =
    record { laid = is.laid; meant = is.meant; certified = is.certified; bound = is.bound }

code_begun : (plan : Planned) (globals : List Value) (begins : List Lasting) (task : PlannedTask)
    (first : Lasting) (code : Accepted) → IsCodeOf plan task code
    → IsCodeOf (plan_with plan globals begins) (task_with task first) code
code_begun plan globals begins task first code is =
    let same = same_layout plan.buses plan.text plan.functions task first in
    record {
      laid = is.laid ∙ sym same;
      meant = subst (λ (types : List IlType). IsMeant (scan_by plan.buses plan.functions task types) code.code)
          (sym (same_types task first)) is.meant;
      certified = subst IsAccepted (sym same) is.certified;
      bound = is.bound;
    }

all_kept : (plan : Planned) (globals : List Value) (begins : List Lasting) (tasks : List PlannedTask)
    (codes : List Accepted) → AllZip (IsCodeOf plan) tasks codes
    → AllZip (IsCodeOf (plan_with plan globals begins)) tasks codes
all_kept plan globals begins [] [] are = tt
all_kept plan globals begins [] (code ∷ codes) are = absurd are
all_kept plan globals begins (task ∷ tasks) [] are = absurd are
all_kept plan globals begins (task ∷ tasks) (code ∷ codes) are =
    (code_kept plan globals begins task code are.0, all_kept plan globals begins tasks codes are.1)

each_code : (plan : Planned) (globals : List Value) (all : List Lasting) (tasks : List PlannedTask)
    (begins : List Lasting) (codes : List Accepted) → AllZip (IsCodeOf plan) tasks codes
    → AllZip (IsCodeOf (plan_with plan globals all)) (each_with task_with tasks begins) codes
each_code plan globals all [] begins [] are = tt
each_code plan globals all [] begins (code ∷ codes) are = absurd are
each_code plan globals all (task ∷ tasks) [] codes are = all_kept plan globals all (task ∷ tasks) codes are
each_code plan globals all (task ∷ tasks) (first ∷ begins) [] are = absurd are
each_code plan globals all (task ∷ tasks) (first ∷ begins) (code ∷ codes) are = (
  code_begun plan globals all task first code are.0,
  each_code plan globals all tasks begins codes are.1,
)

pub codes_begun : (plan : Planned) (globals : List Value) (begins : List Lasting) (codes : List Accepted)
    → AreCodes plan codes → AreCodes (plan_with plan globals begins) codes
codes_begun plan globals begins codes are = each_code plan globals begins plan.tasks begins codes are

-- ---- and back

code_left : (plan : Planned) (globals : List Value) (begins : List Lasting) (task : PlannedTask) (code : Accepted)
    → IsCodeOf (plan_with plan globals begins) task code → IsCodeOf plan task code
code_left plan globals begins task code is =
    record { laid = is.laid; meant = is.meant; certified = is.certified; bound = is.bound }

code_before : (plan : Planned) (globals : List Value) (begins : List Lasting) (task : PlannedTask)
    (first : Lasting) (code : Accepted) → IsCodeOf (plan_with plan globals begins) (task_with task first) code
    → IsCodeOf plan task code
code_before plan globals begins task first code is =
    let same = same_layout plan.buses plan.text plan.functions task first in
    record {
      laid = is.laid ∙ same;
      meant = subst (λ (types : List IlType). IsMeant (scan_by plan.buses plan.functions task types) code.code)
          (same_types task first) is.meant;
      certified = subst IsAccepted same is.certified;
      bound = is.bound;
    }

all_left : (plan : Planned) (globals : List Value) (begins : List Lasting) (tasks : List PlannedTask)
    (codes : List Accepted) → AllZip (IsCodeOf (plan_with plan globals begins)) tasks codes
    → AllZip (IsCodeOf plan) tasks codes
all_left plan globals begins [] [] are = tt
all_left plan globals begins [] (code ∷ codes) are = absurd are
all_left plan globals begins (task ∷ tasks) [] are = absurd are
all_left plan globals begins (task ∷ tasks) (code ∷ codes) are =
    (code_left plan globals begins task code are.0, all_left plan globals begins tasks codes are.1)

each_before : (plan : Planned) (globals : List Value) (all : List Lasting) (tasks : List PlannedTask)
    (begins : List Lasting) (codes : List Accepted)
    → AllZip (IsCodeOf (plan_with plan globals all)) (each_with task_with tasks begins) codes
    → AllZip (IsCodeOf plan) tasks codes
each_before plan globals all [] begins [] are = tt
each_before plan globals all [] begins (code ∷ codes) are = absurd are
each_before plan globals all (task ∷ tasks) [] codes are = all_left plan globals all (task ∷ tasks) codes are
each_before plan globals all (task ∷ tasks) (first ∷ begins) [] are = absurd are
each_before plan globals all (task ∷ tasks) (first ∷ begins) (code ∷ codes) are = (
  code_before plan globals all task first code are.0,
  each_before plan globals all tasks begins codes are.1,
)

pub codes_before : (plan : Planned) (globals : List Value) (begins : List Lasting) (codes : List Accepted)
    → AreCodes (plan_with plan globals begins) codes → AreCodes plan codes
codes_before plan globals begins codes are = each_before plan globals begins plan.tasks begins codes are
