use Rattle.std.proofs.Common.{◌≡◌, ◌≢◌, List, ℕ, Result, Ok, Err, IfErr, refl}
use Rattle.ildeclared.specs.declared.fault.NameCause.{NameCause}
use Rattle.ildeclared.specs.declared.fault.NameFault.{NameFault}
use Rattle.ildeclared.specs.declared.fault.NameFault.TheVariants.{Memory, At}
use Rattle.ilscope.specs.Reports.{IsMemoryOrReportsLeast, ReportsLeast}
use Rattle.ilsyms.specs.Faults.{IsFault}
use Rattle.refusalslanguage.proofs.names.first_fault_is_reported.Goals as goal

is_reported : {X : Type 0} (text : List ℕ) (faults : ℕ → NameCause → Type 0) (fault : NameFault)
    (given : Result X NameFault) → IfErr given (IsMemoryOrReportsLeast text faults)
    → ((a b : NameFault) → ReportsLeast text faults a → ReportsLeast text faults b → a ≡ b)
    → ReportsLeast text faults fault → IfErr given (λ reported. reported ≢ Memory → reported ≡ fault)
is_reported text faults fault (Ok x) given one its = tt
is_reported text faults fault (Err Memory) given one its = λ other. absurd (other refl)
is_reported text faults fault (Err (At line col cause)) given one its = λ other.
    one (At line col cause) fault given its

pub returns : goal.returns
returns c =
    is_reported c.args.source.now.text (IsFault c.args.source.now c.args.binding.now) c.args.fault c.resolve.result
    c.resolve.ensures.fault c.resolve.ensures.one_fault c.requires
