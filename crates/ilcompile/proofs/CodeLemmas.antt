-- The codes of a plan's tasks: as many as tasks, and each at its task's number.
use Rattle.std.proofs.Common.{◌≡◌, ℕ, ◌<◌, List, [], ◌∷◌, ◌++◌, length, take, get_or, Option, Some, None, refl}
use Rattle.std.proofs.Common.{sym, ap, ◌∙◌, subst}
use Rattle.std.specs.Prelude.{slice_get, flat_map, IfSome, IsSomeAnd, MatchOption, option_map, ⊤}
use Rattle.std.specs.Arc.{arc_value}
use Rattle.std.specs.List.{AllZip}
use Rattle.std.specs.declared.alloc.Global.{Global}
use Rattle.std.specs.declared.sync.Arc.{Arc}
use Rattle.std.proofs.lemmas.List.{append-nil, length-map}
use Rattle.std.proofs.lemmas.Option.{slice_get-map, slice_get-get_or}
use Rattle.std.proofs.lemmas.Slice.Zip.{AllZip-left, AllZip-long, AllZip-right}
use Rattle.std.proofs.Math.Seq.{take-length}
use Rattle.ilsource.specs.Words as counts
use Rattle.ilplan.specs.declared.slot.Slot.{Slot}
use Rattle.ilplan.specs.Functions.{PlannedFunction, function_types}
use Rattle.ilplan.specs.Plans.{Planned, PlannedTask, all_lines, functions_of, types_of}
use Rattle.ilcode.specs.Listings.{first_or, lasting_types}
use Rattle.ilverify.specs.Certificates.{IsAccepted}
use Rattle.ilverify.specs.Verdicts.{Accepted}
use Rattle.ilcompile.specs.Layout.{bodies_from, laid_out}
use Rattle.ilcompile.specs.Loaded.{AreCodes, IsCodeOf, accepted_of, listing_for}

-- ---- lists side by side

-- the item beside one of the second list
beside : {A B : Type 0} (R : A → B → Type 0) (o : Option A) (y : B) → IsSomeAnd o (λ x. R x y) → IfSome o (λ x. R x y)
beside R None y h = absurd h
beside R (Some x) y h = h

pub zipped_at : {A B : Type 0} (R : A → B → Type 0) (xs : List A) (ys : List B) (k : ℕ) (y : B) → AllZip R xs ys
    → slice_get ys k ≡ Some y → IfSome (slice_get xs k) (λ x. R x y)
zipped_at {A} {B} R xs ys k y h e =
    beside R (slice_get xs k) y
    (subst (λ (o : Option B). MatchOption o ⊤ (λ z. IsSomeAnd (slice_get xs k) (λ x. R x z))) e
    (AllZip-right R xs ys h k))

-- something stands beside each item of the first list
partner : {A B : Type 0} (R : A → B → Type 0) (x : A) (o : Option B) → IsSomeAnd o (R x) → (y : B) × R x y
partner R x None h = absurd h
partner R x (Some y) h = (y, h)

pub zipped_with : {A B : Type 0} (R : A → B → Type 0) (xs : List A) (ys : List B) (k : ℕ) (x : A) → AllZip R xs ys
    → slice_get xs k ≡ Some x → (y : B) × R x y
zipped_with {A} {B} R xs ys k x h e =
    partner R x (slice_get ys k)
    (subst (λ (o : Option A). MatchOption o ⊤ (λ z. IsSomeAnd (slice_get ys k) (R z))) e (AllZip-left R xs ys h k))

-- ---- codes

-- there are as many shared codes as tasks
pub as_many_shared : (plan : Planned) (codes : List (Arc Accepted Global)) → AreCodes plan (accepted_of codes)
    → length codes ≡ length plan.tasks
as_many_shared plan codes h =
    sym (length-map codes (λ (c : Arc Accepted Global). arc_value c))
    ∙ AllZip-long (IsCodeOf plan) plan.tasks (accepted_of codes) h

-- the shared code at a number
pub shared_at : (codes : List (Arc Accepted Global)) (k : ℕ) (code : Arc Accepted Global) → k < length codes
    → code ≡ get_or codes k code → slice_get (accepted_of codes) k ≡ Some (arc_value code)
shared_at codes k code below is =
    slice_get-map (λ (c : Arc Accepted Global). arc_value c) codes k
    ∙ ap (option_map (λ (c : Arc Accepted Global). arc_value c))
    (slice_get-get_or codes k code below ∙ ap (λ (c : Arc Accepted Global). Some c) (sym is))

-- the code at a number is that of the task there
pub code_at : (plan : Planned) (codes : List Accepted) (k : ℕ) (code : Accepted) → AreCodes plan codes
    → slice_get codes k ≡ Some code → IfSome (slice_get plan.tasks k) (λ t. IsCodeOf plan t code)
code_at plan codes k code h e = zipped_at (IsCodeOf plan) plan.tasks codes k code h e

-- a task whose plan has codes has a certificate
pub certified_at : (plan : Planned) (codes : List Accepted) (k : ℕ) (t : PlannedTask) → AreCodes plan codes
    → slice_get plan.tasks k ≡ Some t → IsAccepted (listing_for plan t)
certified_at plan codes k t h e = (zipped_with (IsCodeOf plan) plan.tasks codes k t h e).1.certified

front_is : {A : Type 0} (xs ys : List A) → take (length xs) (xs ++ ys) ≡ xs
front_is [] ys = refl
front_is (x ∷ xs) ys = ap (λ (zs : List _). x ∷ zs) (front_is xs ys)

-- the slots of functions stand behind a task's variables, which last from scan to scan
pub lasting_laid : (buses : ℕ) (text : List ℕ) (functions : List PlannedFunction) (t : PlannedTask)
    → lasting_types (laid_out buses text functions t) ≡ types_of t
lasting_laid buses text functions t = by (functions_of functions t)
  where
    end : ℕ
    end = counts.words_of_lines (all_lines t.instances)

    by : (bodies : List PlannedFunction)
        → take
        (first_or (slice_get (bodies_from end (length t.slots) bodies) 0)
        (length (types_of t ++ flat_map function_types bodies)))
        (types_of t ++ flat_map function_types bodies)
        ≡ types_of t
    by [] = take-length (types_of t ++ []) ∙ append-nil (types_of t)
    by (f ∷ fs) =
        let types = types_of t ++ flat_map function_types (f ∷ fs) in
        ap (λ n. take n types) (sym (length-map t.slots (λ (s : Slot). s.value_type)))
        ∙ front_is (types_of t) (flat_map function_types (f ∷ fs))

-- so all variables of a task last
pub all_last : (plan : Planned) (t : PlannedTask) (code : Accepted) → IsCodeOf plan t code
    → lasting_types code.code ≡ types_of t
all_last plan t code h = ap lasting_types h.laid ∙ lasting_laid plan.buses plan.text plan.functions t
