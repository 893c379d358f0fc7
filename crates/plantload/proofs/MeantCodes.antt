-- The runs of the codes of a text are the scans of its source program.
use Rattle.std.proofs.Common.{◌≡◌, ℕ, List, Option, Some, sym, ap, ◌∙◌, subst}
use Rattle.std.specs.Prelude.{Result, Ok, Err, slice_get, option_map, IfOk, IfSome}
use Rattle.std.proofs.lemmas.Option.{slice_get-map}
use Rattle.ilblocks.specs.Stores.{Store}
use Rattle.wordlines.specs.Wirings.{Wiring}
use Rattle.ilplan.specs.Plans.{Planned, PlannedTask}
use Rattle.ilsyms.specs.Meaning.{source_scan}
use Rattle.ilsyms.specs.Resolved.{plan_of_tree, planned_task}
use Rattle.ilsyms.specs.Tasks.{tasks_of}
use Rattle.ilsyms.proofs.SameMeaning.{means_the_same}
use Rattle.ilcode.specs.Listings.{Listing}
use Rattle.ilverify.specs.Verdicts.{Accepted}
use Rattle.ilcompile.specs.Loaded.{AreCodes, IsCodeOf, Loaded, scan_of}
use Rattle.ilcompile.specs.Meant.{IsMeant}
use Rattle.ilcompile.proofs.CodeLemmas.{code_at}
use Rattle.ilsource.specs.SourceTrees.{Tree}
use Rattle.plantload.specs.Loading.{AreMeant, IsSetup}
use Rattle.plantload.specs.declared.fault.LoadFault.{LoadFault}

-- by another name for what a scan leaves
meant_as : (one other : Store → Option Store) (code : Listing) → ((s : Store) → one s ≡ other s) → IsMeant one code
    → IsMeant other code
meant_as one other code same m =
    record {
      runs = λ from to has e. m.runs from to has (same from ∙ e);
      means = λ from to steps has leaves. sym (same from) ∙ m.means from to steps has leaves;
    }

code_is : (o : Option PlannedTask) (t : PlannedTask) (plan : Planned) (code : Accepted) → o ≡ Some t
    → IfSome o (λ t. IsCodeOf plan t code) → IsCodeOf plan t code
code_is o t plan code is h = rw is at h

-- the runs of the codes of a source program's plan are its scans
codes_of_tree_meant : (wiring : Wiring) (tree : Tree) (setup : Loaded) → setup.plan ≡ plan_of_tree tree wiring
    → AreCodes setup.plan setup.codes → AreMeant tree wiring.buses setup.codes
codes_of_tree_meant wiring tree setup resolved codes number task code is_task is_code =
    let planned = planned_task tree task in
    let there : slice_get setup.plan.tasks number ≡ Some planned =
    ap (λ (p : Planned). slice_get p.tasks number) resolved
    ∙ (slice_get-map (planned_task tree) (tasks_of tree) number ∙ ap (option_map (planned_task tree)) is_task) in
    let coded = code_is (slice_get setup.plan.tasks number) planned setup.plan code there
    (code_at setup.plan setup.codes number code codes is_code) in
    let meant = subst (λ (p : Planned). IsMeant (scan_of p planned) code.code) resolved coded.meant in
    meant_as (scan_of (plan_of_tree tree wiring) planned) (source_scan tree wiring.buses task) code.code
    (λ s. means_the_same tree wiring.buses task s) meant

pub codes_meant : (wiring : Wiring) (bytes : List ℕ) (setup : Loaded) (is : IsSetup wiring bytes setup)
    → AreMeant is.plan.tree wiring.buses setup.codes
codes_meant wiring bytes setup is = codes_of_tree_meant wiring is.plan.tree setup is.plan.resolved is.codes

-- whatever was loaded
pub all_meant : (wiring : Wiring) (bytes : List ℕ) (r : Result Loaded LoadFault)
    → IfOk r (λ setup. (is : IsSetup wiring bytes setup) → AreMeant is.plan.tree wiring.buses setup.codes)
all_meant wiring bytes (Ok setup) = codes_meant wiring bytes setup
all_meant wiring bytes (Err fault) = tt
