-- A call under the lock between two meetings of its Share with the plant.
use Rattle.std.proofs.Common.{◌≡◌, Ok, Err, sym, subst}
use Rattle.std.specs.Prelude.{Result, IfOk, IfErr, MatchResult}
use Rattle.plant.specs.Shown.{Shown}
use Rattle.plantreceipts.specs.Receipts.{ShareParts}
use Rattle.plantlock.specs.Answers.{Answer, IsUnderLock}

-- what it did, accepted or refused
pub does : {A E : Type 0} (result : Result A E) (P : A → Type 0) (Q : Type 0) (R : E → Type 0) → IfOk result P
    → IfErr result (λ e. Q × R e) → MatchResult result P (λ e. Q)
does (Ok x) P Q R ok err = ok
does (Err e) P Q R ok err = err.0

-- the same of one that gives back what it was given
pub does_or_gives_back : {A E : Type 0} (result : Result A E) (P : A → Type 0) (Q R : Type 0) (S : E → Type 0)
    → IfOk result P → IfErr result (λ e. Q × R × S e) → MatchResult result P (λ e. Q)
does_or_gives_back (Ok x) P Q R S ok err = ok
does_or_gives_back (Err e) P Q R S ok err = err.0

pub answered : {A E : Type 0} {start : Shown} {s mid t : ShareParts} {found p q back : Shown}
    {wants : Shown → Result A E → Type 0} {becomes : A → Shown → Shown} {result : Result A E}
    → IsUnderLock start s found → p ≡ found → wants p result → MatchResult result (λ x. q ≡ becomes x p) (λ e. q ≡ p)
    → back ≡ q → IsUnderLock start mid back → t ≡ mid → Answer start s t wants becomes result
answered {start = start} {s = s} {mid = mid} {p = p} {q = q} under same wanted done still later kept = record {
  found = p;
  left = q;
  before = subst (λ (x : Shown). IsUnderLock start s x) (sym same) under;
  wanted = wanted;
  done = done;
  after = subst (λ (x : ShareParts). IsUnderLock start x q) (sym kept)
      (subst (λ (x : Shown). IsUnderLock start mid x) still later);
}
