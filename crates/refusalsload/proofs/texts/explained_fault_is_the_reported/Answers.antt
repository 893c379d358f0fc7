use Rattle.std.proofs.Common.{ℕ, List, ◌≡◌, ◌≢◌, Result, Ok, Err, IfErr, IsSome, sym, subst, refl}
use Rattle.wordlines.specs.Wirings.{Wiring}
use Rattle.plantload.specs.Loading.{IsBehindText, IsLoadFault, IsLoadFaultOrMemory, IsSetup}
use Rattle.plantload.specs.declared.fault.LoadFault.{LoadFault}
use Rattle.plantload.specs.declared.fault.LoadFault.TheVariants.{Code, Memory, Name, Text}
use Rattle.plantload.specs.declared.fault.NotLoaded.{NotLoaded}
use Rattle.plantload.proofs.OneAnswer.{one_answer}
use Rattle.refusalsload.proofs.Results.{if_ok}
use Rattle.refusalsload.proofs.texts.explained_fault_is_the_reported.Goals as goal

-- a fault of a text that is none of memory is the one that stands against it
same_fault : (wiring : Wiring) (bytes : List ℕ) (fault its : LoadFault) → IsLoadFault wiring bytes fault
    → IsLoadFaultOrMemory (IsLoadFault wiring bytes) its → its ≢ Memory → its ≡ fault
same_fault wiring bytes fault Memory is given other = absurd (other refl)
same_fault wiring bytes fault (Text its) is given other =
    let same = one_answer wiring bytes (Err (Text its)) (Err fault) given is in cc
same_fault wiring bytes fault (Name its) is given other =
    let same = one_answer wiring bytes (Err (Name its)) (Err fault) given is in cc
same_fault wiring bytes fault (Code its) is given other =
    let same = one_answer wiring bytes (Err (Code its)) (Err fault) given is in cc

is_same : {X : Type 0} (wiring : Wiring) (bytes : List ℕ) (fault : LoadFault) (given : Result X NotLoaded)
    → IsLoadFault wiring bytes fault
    → IfErr given (λ stop. IsLoadFaultOrMemory (IsLoadFault wiring bytes) stop.fault)
    → IfErr given (λ stop. stop.fault ≢ Memory → stop.fault ≡ fault)
is_same wiring bytes fault (Ok x) is holds = tt
is_same wiring bytes fault (Err stop) is holds = same_fault wiring bytes fault stop.fault is holds

has_program : {X : Type 0} (fault : LoadFault) (given : Result X NotLoaded) → IsBehindText fault
    → IfErr given (λ stop. stop.fault ≢ Memory → stop.fault ≡ fault)
    → IfErr given (λ stop. IsBehindText stop.fault → IsSome stop.source)
    → IfErr given (λ stop. stop.fault ≢ Memory → IsSome stop.source)
has_program fault (Ok x) behind same whole = tt
has_program fault (Err stop) behind same whole =
    λ other. whole (subst (λ (f : LoadFault). IsBehindText f) (sym (same other)) behind)

pub returns : goal.returns
returns c =
    let wiring = c.args.binding.now in
    let bytes = c.args.text.now in
    let fault = c.args.fault in
    let found = c.load_with_source.ensures in
    let given = c.load_with_source.result in
    let same = is_same wiring bytes fault given c.requires.reported found.fault in
    record {
      ok = if_ok (λ loaded. IsSetup wiring bytes loaded.0) (λ _. ⊥) given found.setup (λ loaded is.
          let one = one_answer wiring bytes (Ok loaded.0) (Err fault) is c.requires.reported in absurd (cc));
      err = same;
      program = has_program fault given c.requires.behind same found.whole;
    }
