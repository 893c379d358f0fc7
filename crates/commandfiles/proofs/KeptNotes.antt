-- What is said of a file of kept values, from what was read of it.
use Rattle.std.proofs.Common.{◌≡◌, ℕ, List, Option, Result, Ok, Err, Some, None, IfOk, subst, sym}
use Rattle.ilplan.specs.Plans.{Planned}
use Rattle.livekeep.specs.KeptFiles.{KeptState}
use Rattle.livekeep.specs.Faults.{IsKeptFault}
use Rattle.livekeep.specs.declared.fault.KeptFault.{KeptFault}
use Rattle.commandfiles.specs.declared.beginning.Beginning.{Beginning}
use Rattle.commandfiles.specs.declared.beginning.KeptNote.{KeptNote}
use Rattle.commandfiles.specs.declared.beginning.KeptNote.TheVariants.{Unused}
use Rattle.textanswers.specs.declared.stop.Stop.{Stop}
use Rattle.commandfiles.specs.Beginnings.{AreUsed, HasBegun, IsBegunUnder, IsNoted, IsNotedUnder, IsNotedUnused}

-- its bytes are no file of values
pub noted_unused : (bytes : List ℕ) (file : Option (List ℕ)) (begun : Beginning) (own : Planned) (fault : KeptFault)
    → file ≡ Some bytes → begun.kept ≡ None → begun.note ≡ Unused fault → IsKeptFault bytes fault
    → IsNoted file begun.kept own begun.note
noted_unused bytes file begun own fault is none note at_fault =
    subst (λ (f : Option (List ℕ)). IsNoted f begun.kept own begun.note) (sym is)
    (subst (λ (k : Option KeptState). IsNoted (Some bytes) k own begun.note) (sym none)
    (subst (λ (n : KeptNote). IsNotedUnused bytes n) (sym note) at_fault))

-- what is known of a beginning, as one fact
all_of : (binding text : List ℕ) (file : Option (List ℕ)) (made : Result Beginning Stop)
    → IfOk made (λ b. IsBegunUnder binding text b.kept b.setup) → IfOk made (λ b. AreUsed file b.kept)
    → IfOk made (λ b. IsNotedUnder binding text file b.kept b.note) → IfOk made (HasBegun binding text file)
all_of binding text file (Ok made) begun used noted = record { used = used; loaded = begun; noted = noted }
all_of binding text file (Err stop) begun used noted = tt

-- so it is of the same files by other names
pub has_begun : (binding binding' text text' : List ℕ) (file file' : Option (List ℕ)) (made : Result Beginning Stop)
    → binding ≡ binding' → text ≡ text' → file ≡ file'
    → IfOk made (λ b. IsBegunUnder binding text b.kept b.setup) → IfOk made (λ b. AreUsed file b.kept)
    → IfOk made (λ b. IsNotedUnder binding text file b.kept b.note) → IfOk made (HasBegun binding' text' file')
has_begun binding binding' text text' file file' made same_binding same_text same_file begun used noted =
    subst (λ (b : List ℕ). IfOk made (HasBegun b text' file')) same_binding
    (subst (λ (t : List ℕ). IfOk made (HasBegun binding t file')) same_text
    (subst (λ (f : Option (List ℕ)). IfOk made (HasBegun binding text f)) same_file
    (all_of binding text file made begun used noted)))
