-- One task is next, and one snapshot of it is taken.
use Rattle.std.proofs.Common.{◌≡◌, ℕ, suc, List, [], ◌∷◌, Some, refl, sym, ap, ◌∙◌, subst, arith}
use Rattle.std.specs.Prelude.{slice_get}
use Rattle.iltypes.specs.declared.value.Value.{Value}
use Rattle.ilplan.specs.Calls.{Block}
use Rattle.ilmachine.specs.Verdicts.{Accepted}
use Rattle.ilmachine.specs.Snapshots.{ScanStart, start_of}
use Rattle.plantevents.specs.declared.event.Event.{Event}
use Rattle.plantevents.specs.Plants.{Plant}
use Rattle.plantevents.specs.Variables.{IsSnapshot}
use Rattle.plantevents.specs.Choices.{Rank, Precedes, IsNextTask, rank}
use Rattle.plantevents.specs.Legal.{IsTake}

one_number : (a b : Rank) → Precedes a b → Precedes b a → a.number ≡ b.number
one_number a b before after =
    let p = a.priority in
    let q = b.priority in grind arith

pub one_task : (p : Plant) (h : List Event) (t u : ℕ) → IsNextTask p h t → IsNextTask p h u → t ≡ u
one_task p h t u one other =
    one_number (rank p h t) (rank p h u) (one.first u other.known other.free) (other.first t one.known one.free)

some_same : {X : Type 0} (x y : X) → Some x ≡ Some y → x ≡ y
some_same x y e = cc

same_items : {X : Type 0} (xs ys : List X) → ((i : ℕ) → slice_get xs i ≡ slice_get ys i) → xs ≡ ys
same_items [] [] same = refl
same_items [] (y ∷ ys) same = absurd (let e = same 0 in cc)
same_items (x ∷ xs) [] same = absurd (let e = same 0 in cc)
same_items (x ∷ xs) (y ∷ ys) same =
    let first : x ≡ y = some_same x y (same 0) in
    ap (λ a. a ∷ xs) first ∙ ap (λ l. y ∷ l) (same_items xs ys (λ i. same (suc i)))

start : Accepted → List Value → List Block → ℕ → ScanStart
start verified slots blocks moment = start_of verified (record { slots = slots; blocks = blocks }) moment

pub one_snapshot : (p : Plant) (t : ℕ) (h : List Event) (s r : ScanStart) → IsSnapshot p t h s → IsSnapshot p t h r
    → s ≡ r
unfolding start
one_snapshot p t h s r one other =
    let code : s.verified ≡ r.verified = some_same _ _ (sym one.code ∙ other.code) in
    let slots : s.lasting.slots ≡ r.lasting.slots =
    same_items s.lasting.slots r.lasting.slots (λ i. one.values i ∙ sym (other.values i)) in
    let blocks : s.lasting.blocks ≡ r.lasting.blocks = some_same _ _ (sym one.blocks ∙ other.blocks) in
    let moment : s.moment ≡ r.moment = one.moment ∙ sym other.moment in
    ap (λ x. start x s.lasting.slots s.lasting.blocks s.moment) code
    ∙ (ap (λ x. start r.verified x s.lasting.blocks s.moment) slots
    ∙ (ap (λ x. start r.verified r.lasting.slots x s.moment) blocks
    ∙ ap (λ x. start r.verified r.lasting.slots r.lasting.blocks x) moment))

pub one_take : (p : Plant) (h : List Event) (w t u : ℕ) (s r : ScanStart) → IsTake p h w t s → IsTake p h w u r
    → (t ≡ u) × (s ≡ r)
one_take p h w t u s r one other =
    let task = one_task p h t u one.next other.next in
    (task, one_snapshot p u h s r (subst (λ (v : ℕ). IsSnapshot p v h s) task one.snapshot) other.snapshot)
