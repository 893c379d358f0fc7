use Rattle.std.proofs.Common.{◌≡◌, ◌≢◌, Result, Ok, Err, IfErr, refl}
use Rattle.plantload.specs.Loading.{IsLoadFault, IsLoadFaultOrMemory, IsSetup}
use Rattle.plantload.specs.declared.fault.LoadFault.{LoadFault}
use Rattle.plantload.specs.declared.fault.LoadFault.TheVariants.{Code, Memory, Name, Text}
use Rattle.refusalsload.proofs.Results.{if_ok}
use Rattle.refusalsload.proofs.texts.refused_task_is_named.Goals as goal

is_fault : {X : Type 0} (Faults : LoadFault → Type 0) (fault : LoadFault) (given : Result X LoadFault)
    → IfErr given (IsLoadFaultOrMemory Faults) → ((other : LoadFault) → Faults other → other ≡ fault)
    → IfErr given (λ reported. reported ≢ Memory → reported ≡ fault)
is_fault Faults fault (Ok x) given one = tt
is_fault Faults fault (Err Memory) given one = λ other. absurd (other refl)
is_fault Faults fault (Err (Text its)) given one = λ other. one (Text its) given
is_fault Faults fault (Err (Name its)) given one = λ other. one (Name its) given
is_fault Faults fault (Err (Code its)) given one = λ other. one (Code its) given

pub returns : goal.returns
returns c =
    let wiring = c.args.binding.now in
    let bytes = c.args.text.now in
    let fault = c.args.fault in
    let one = c.load.ensures.one in
    record {
      ok = if_ok (IsSetup wiring bytes) (λ _. ⊥) c.load.result c.load.ensures.setup (λ setup is.
          let same = one (Ok setup) (Err fault) is c.requires in absurd (cc));
      err = is_fault (IsLoadFault wiring bytes) fault c.load.result c.load.ensures.fault (λ other is.
          let same = one (Err other) (Err fault) is c.requires in cc);
    }
