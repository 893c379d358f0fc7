-- A building that begins without the values of a file of kept ones: why these are not used.
use Rattle.std.proofs.Common.{◌≡◌, ℕ, List, Option, Some, None, subst, sym}
use Rattle.ilcompile.specs.Loaded.{Loaded}
use Rattle.livekeep.specs.KeptFiles.{KeptState}
use Rattle.livekeep.specs.Faults.{IsKeptFault}
use Rattle.livekeep.specs.declared.fault.KeptFault.{KeptFault}
use Rattle.commandfiles.specs.declared.beginning.Beginning.{Beginning}
use Rattle.commandfiles.specs.Beginnings.{AreUsed, IsBegunUnder, IsSetupUnder}

-- it begins with the text's own setup
pub begun_without : (binding text : List ℕ) (setup : Loaded) (begun : Beginning) → IsSetupUnder binding text setup
    → begun.setup ≡ setup → begun.kept ≡ None → IsBegunUnder binding text begun.kept begun.setup
begun_without binding text setup begun is same none =
    subst (λ (k : Option KeptState). IsBegunUnder binding text k begun.setup) (sym none)
    (subst (λ (s : Loaded). IsBegunUnder binding text None s) (sym same) is)

-- the bytes are no file of values
pub unusable_unused : (bytes : List ℕ) (file : Option (List ℕ)) (begun : Beginning) (fault : KeptFault)
    → file ≡ Some bytes → begun.kept ≡ None → IsKeptFault bytes fault → AreUsed file begun.kept
unusable_unused bytes file begun fault is none at_fault =
    subst (λ (f : Option (List ℕ)). AreUsed f begun.kept) (sym is)
    (subst (λ (k : Option KeptState). AreUsed (Some bytes) k) (sym none) (fault, at_fault))
