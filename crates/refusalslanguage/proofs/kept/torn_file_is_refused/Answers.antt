use Rattle.std.proofs.Common.{◌≡◌, ◌≢◌, ℕ, List, Result, Ok, Err, IfErr, refl}
use Rattle.livekeep.specs.Faults.{AreTorn, IsKeptFaultOrMemory}
use Rattle.livekeep.specs.KeptFiles.{IsKeptFile}
use Rattle.livekeep.specs.declared.fault.KeptFault.{KeptFault}
use Rattle.livekeep.specs.declared.fault.KeptFault.TheVariants.{Empty, Memory, Torn}
use Rattle.refusalslanguage.proofs.Results.{if_ok}
use Rattle.refusalslanguage.proofs.kept.torn_file_is_refused.Goals as goal

is_torn : {X : Type 0} (bytes : List ℕ) (given : Result X KeptFault) → IfErr given (IsKeptFaultOrMemory bytes)
    → AreTorn bytes → IfErr given (λ fault. fault ≢ Memory → fault ≡ Torn)
is_torn bytes (Ok x) fault torn = tt
is_torn bytes (Err Memory) fault torn = λ other. absurd (other refl)
is_torn bytes (Err Empty) fault torn = absurd (torn.some fault)
is_torn bytes (Err Torn) fault torn = λ other. refl

pub returns : goal.returns
returns c = record {
  ok = if_ok (IsKeptFile c.args.bytes.now) (λ _. ⊥) c.parse.result c.parse.ensures.kept (λ kept is.
      c.requires.none kept is);
  err = is_torn c.args.bytes.now c.parse.result c.parse.ensures.fault c.requires;
}
