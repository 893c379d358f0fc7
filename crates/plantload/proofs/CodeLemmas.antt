-- The codes of a plan's first tasks: one task more, and the first task whose code is refused.
use Rattle.std.proofs.Common.{◌≡◌, ℕ, zero, suc, ◌+◌, ◌<◌, List, [], ◌∷◌, ◌++◌, length, Option, Some, None}
use Rattle.std.proofs.Common.{Result, Ok, Err}
use Rattle.std.proofs.Common.{refl, sym, ap, ◌∙◌, subst, add-one, take, arith}
use Rattle.std.specs.Prelude.{slice_get, IfSome, MatchResult}
use Rattle.std.specs.Arc.{arc_value}
use Rattle.std.specs.List.{AllZip}
use Rattle.std.specs.declared.alloc.Global.{Global}
use Rattle.std.specs.declared.sync.Arc.{Arc}
use Rattle.std.proofs.lemmas.List.{map-append}
use Rattle.std.proofs.lemmas.Slice.Zip.{all_zipped_more}
use Rattle.ilcode.specs.Listings.{Listing}
use Rattle.ilcode.specs.Paths.{IsBound}
use Rattle.ilplan.specs.Plans.{Planned, PlannedTask}
use Rattle.ilverify.specs.declared.refusal.VerifyError.{VerifyError}
use Rattle.ilverify.specs.declared.refusal.VerifyError.TheVariants as verify_errors
use Rattle.ilverify.specs.Certificates.{IsAccepted, IsError, IsRefusal}
use Rattle.ilverify.specs.Verdicts.{Accepted}
use Rattle.ilcompile.specs.Loaded.{IsCodeOf, accepted_of, listing_for, scan_of}
use Rattle.ilcompile.specs.Meant.{IsMeant}
use Rattle.ilcompile.proofs.CodeLemmas.{zipped_with}
use Rattle.plantload.specs.Loading.{IsCodeFault, IsLoadFaultOrMemory}
use Rattle.plantload.specs.PrintedFaults.{of_error}
use Rattle.plantload.specs.declared.fault.LoadFault.{LoadFault}

-- ---- fronts of lists

-- a longer front has one element more
longer_front : {X : Type 0} (P : X → Type 0) (xs : List X) (k : ℕ) → k < length xs → IfSome (slice_get xs k) P
    → (x : X) × (take (suc k) xs ≡ take k xs ++ x ∷ []) × P x
longer_front P [] k h p = absurd (omega arith)
longer_front P (x ∷ xs) zero h p = (x, refl, p)
longer_front P (x ∷ xs) (suc k) h p =
    let more = longer_front P xs k (omega arith) p in (more.0, ap (λ (ys : List _). x ∷ ys) more.1, more.2)

-- an element that is there, in the list and in a front of it
there : {X : Type 0} (xs : List X) (k : ℕ) → k < length xs → (x : X) × (slice_get xs k ≡ Some x)
there [] k h = absurd (omega arith)
there (x ∷ xs) zero h = (x, refl)
there (x ∷ xs) (suc k) h = there xs k (omega arith)

in_front : {X : Type 0} (xs : List X) (n k : ℕ) (x : X) → k < n → slice_get xs k ≡ Some x
    → slice_get (take n xs) k ≡ Some x
in_front xs zero k x lt e = absurd (omega arith)
in_front [] (suc n) k x lt e = e
in_front (y ∷ xs) (suc n) zero x lt e = e
in_front (y ∷ xs) (suc n) (suc k) x lt e = in_front xs n k x (omega arith) e

-- ---- codes

-- the first tasks have these shared codes
abbrev pub AreFirst : Planned → ℕ → List (Arc Accepted Global) → Type 0
AreFirst plan n codes = AllZip (IsCodeOf plan) (take n plan.tasks) (accepted_of codes)

-- with the code of one task more
pub one_code_more : (plan : Planned) (k : ℕ) (codes : List (Arc Accepted Global)) (code : Arc Accepted Global)
    → k < length plan.tasks → AreFirst plan k codes
    → IfSome (slice_get plan.tasks k) (λ t. IsCodeOf plan t (arc_value code))
    → AreFirst plan (k + 1) (codes ++ code ∷ [])
one_code_more plan k codes code below known this =
    let front = longer_front (λ (t : PlannedTask). IsCodeOf plan t (arc_value code)) plan.tasks k below this in
    let all = map-append (λ (c : Arc Accepted Global). arc_value c) codes (code ∷ []) in
    rw (add-one, front.1, all)
    (all_zipped_more (IsCodeOf plan) (take k plan.tasks) (accepted_of codes) front.0 (arc_value code) known front.2)

-- what a result was whose error was renamed
pub was_ok : {A E : Type 0} (F : Type 0) (r : Result A E) (x : A) (Q : E → Type 0)
    → MatchResult r (λ y. ◌≡◌ {A = Result A F} (Ok x) (Ok y)) Q → ((e : E) → Q e → ⊥) → r ≡ Ok x
was_ok F (Ok y) x Q h none = let same : x ≡ y = cc in ap Ok (sym same)
was_ok F (Err e) x Q h none = absurd (none e h)

-- what is laid out for a task and does what it means, accepted with its greatest path, is its code
pub is_code : (o : Option PlannedTask) (plan : Planned) (listing : Listing) (code : Accepted)
    → IfSome o (λ t. listing ≡ listing_for plan t) → IfSome o (λ t. IsMeant (scan_of plan t) listing)
    → code.code ≡ listing → IsAccepted listing → IsBound code.code code.bound
    → IfSome o (λ t. IsCodeOf plan t code)
is_code None plan listing code layout meaning same certified bound = tt
is_code (Some t) plan listing code layout meaning same certified bound =
    record {
      laid = same ∙ layout;
      meant = subst (IsMeant (scan_of plan t)) (sym same) meaning;
      certified = subst IsAccepted layout certified;
      bound = bound;
    }

-- the tasks before one whose code is refused have certificates
certified_before : (plan : Planned) (n : ℕ) (codes : List (Arc Accepted Global)) → AreFirst plan n codes
    → (k : ℕ) (t : PlannedTask) → k < n → slice_get plan.tasks k ≡ Some t → IsAccepted (listing_for plan t)
certified_before plan n codes h k t lt e =
    let front = in_front plan.tasks n k t lt e in
    (zipped_with (IsCodeOf plan) (take n plan.tasks) (accepted_of codes) k t h front).1.certified

-- why a plan is not loaded: the first task whose code is refused
pub code_fault : (plan made : Planned) (k : ℕ) (codes : List (Arc Accepted Global)) (error : VerifyError)
    (fault : LoadFault) → made ≡ plan → k < length plan.tasks → AreFirst plan k codes
    → IfSome (slice_get made.tasks k) (λ t. IsError (listing_for made t) error) → fault ≡ of_error made k error
    → IsLoadFaultOrMemory (IsCodeFault plan) fault
code_fault plan made k codes (verify_errors.Memory refused) fault same below known this is = rw is tt
code_fault plan made k codes (verify_errors.Refused refusal) fault same below known this is =
    let x = there plan.tasks k below in
    let Reason = λ (o : Option PlannedTask). IfSome o (λ t. IsRefusal (listing_for plan t) refusal) in
    rw is (
      same,
      record {
        task = x.0;
        is = x.1;
        before = certified_before plan k codes known;
        refused = subst Reason x.1 (rw same at this);
      },
    )
