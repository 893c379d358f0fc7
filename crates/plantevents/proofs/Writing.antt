-- What a scan writes to a variable is the value of the slot from which the process image says that it is written.
use Rattle.std.proofs.Common.{◌≡◌, ◌≢◌, ◌⊎◌, ⊎_elim, inl, inr, ℕ, zero, suc, ◌+◌, ◌-◌, ◌≤◌, Bool, true, false, eqb}
use Rattle.std.proofs.Common.{eq-eqb, ◌&&◌}
use Rattle.std.proofs.Common.{List, [], ◌∷◌, length, drop, Option, Some, None, refl, sym, ap, ◌∙◌, subst, arith}
use Rattle.std.proofs.lemmas.Bool.Decides.{eqb_tells}
use Rattle.std.proofs.lemmas.Option.{slice_get_past}
use Rattle.std.specs.Prelude.{if◌then◌else◌, ◌==◌, slice_get}
use Rattle.iltypes.specs.declared.value.Value.{Value}
use Rattle.ilmachine.specs.declared.external.External.{External}
use Rattle.ilmachine.specs.Images.{Layout, TaskLayout, ImageVariable, Global, Own, written_at, written_in}
use Rattle.plantevents.specs.Variables.{stored_value}
use Rattle.plantevents.specs.Writes.{IsWrittenFrom, IsNotWritten}

-- the slot of a global variable that the task stores, and its value
record IsStoredAt (g : ℕ) (externals : List External) (slots : List Value) : Type 0 where
  slot : ℕ
  external : External
  is : slice_get externals slot ≡ Some external
  global : external.global ≡ g
  stored : external.stored ≡ true
  value : stored_value g externals slots ≡ slice_get slots slot

-- the task stores no such variable
record IsStoredNowhere (g : ℕ) (externals : List External) (slots : List Value) : Type 0 where
  nowhere : (slot : ℕ) (e : External) → slice_get externals slot ≡ Some e → e.stored ≡ true → e.global ≢ g
  value : stored_value g externals slots ≡ None

parts : (x y : Bool) → (x && y) ≡ true → (x ≡ true) × (y ≡ true)
parts true true e = (refl, refl)
parts true false e = absurd (cc)
parts false y e = absurd (cc)

equal : (a b : ℕ) → eqb a b ≡ true → a ≡ b
equal a b e = ⊎_elim (λ (k : (eqb a b ≡ true) × (a ≡ b)). k.1) (λ (k : (eqb a b ≡ false) × (a ≢ b)).
    absurd (cc)) (eqb_tells a b)

stored_here : (g : ℕ) (e : External) (more : List External) (v : Value) (others : List Value)
    → (e.global == g && e.stored) ≡ true
    → IsStoredAt g (e ∷ more) (v ∷ others)
stored_here g e more v others is =
    let p = parts (e.global == g) e.stored is in
    record { slot = 0; external = e; is = refl; global = equal e.global g p.0; stored = p.1; value = rw is refl }

stored_later : (g : ℕ) (e : External) (more : List External) (v : Value) (others : List Value)
    → (e.global == g && e.stored) ≡ false
    → IsStoredAt g more others → IsStoredAt g (e ∷ more) (v ∷ others)
stored_later g e more v others not s =
    record {
      slot = suc s.slot;
      external = s.external;
      is = s.is;
      global = s.global;
      stored = s.stored;
      value =
          rw not s.value;
    }

not_here : (g : ℕ) (e : External) → (e.global == g && e.stored) ≡ false → e.stored ≡ true → e.global ≢ g
not_here g e not stored same =
    let yes : eqb e.global g ≡ true = eq-eqb e.global g same in
    let both : (e.global == g && e.stored) ≡ true = rw yes stored in absurd (cc)

nowhere_more : (g : ℕ) (e : External) (more : List External) (v : Value) (others : List Value)
    → (e.global == g && e.stored) ≡ false
    → IsStoredNowhere g more others → (slot : ℕ) (x : External) → slice_get (e ∷ more) slot ≡ Some x
    → x.stored ≡ true → x.global ≢ g
nowhere_more g e more v others not s zero x is stored =
    let same : e ≡ x = cc in
    not_here g x (subst (λ (y : External). (y.global == g && y.stored) ≡ false) same not) stored
nowhere_more g e more v others not s (suc slot) x is stored = s.nowhere slot x is stored

stored_nowhere : (g : ℕ) (e : External) (more : List External) (v : Value) (others : List Value)
    → (e.global == g && e.stored) ≡ false
    → IsStoredNowhere g more others → IsStoredNowhere g (e ∷ more) (v ∷ others)
stored_nowhere g e more v others not s = record {
  nowhere = nowhere_more g e more v others not s;
  value =
      rw not s.value;
}

stored_cases : (g : ℕ) (externals : List External) (slots : List Value) → length externals ≤ length slots
    → IsStoredAt g externals slots ⊎ IsStoredNowhere g externals slots
stored_cases g [] slots le = inr (record { nowhere = λ slot e is stored. absurd (cc); value = refl })
stored_cases g (e ∷ more) [] le = absurd (omega arith)
stored_cases g (e ∷ more) (v ∷ others) le =
    elim (e.global == g && e.stored) as (λ (x : Bool). (e.global == g && e.stored) ≡ x
    → IsStoredAt g (e ∷ more) (v ∷ others) ⊎ IsStoredNowhere g (e ∷ more) (v ∷ others)) [
      | true ↦ λ is. inl (stored_here g e more v others is)
      | false ↦ λ not. ⊎_elim
          (λ (s : IsStoredAt g more others). inl (stored_later g e more v others not s))
          (λ (s : IsStoredNowhere g more others). inr (stored_nowhere g e more v others not s))
          (stored_cases g more others (omega arith))
    ] refl

-- ---- of a task's slots

-- which variable a slot of a task is written to
abbrev from_slot : ℕ → TaskLayout → ℕ → Option ImageVariable
from_slot t task slot = written_at t (slot - length task.externals) (slice_get task.externals slot)

written_is : (layout : Layout) (t : ℕ) (task : TaskLayout) (slot : ℕ) → slice_get layout.tasks t ≡ Some task
    → written_in layout t slot ≡ from_slot t task slot
written_is layout t task slot is = rw is refl

get_drop : {A : Type 0} (xs : List A) (number place : ℕ) → slice_get (drop number xs) place
    ≡ slice_get xs (number + place)
get_drop xs zero place = let q : place ≡ 0 + place = omega arith in ap (slice_get xs) q
get_drop [] (suc number) place = refl
get_drop (x ∷ xs) (suc number) place =
    let q : suc (number + place) ≡ suc number + place = omega arith in get_drop xs number place
    ∙ ap (slice_get (x ∷ xs)) q

own_from : (t k n : ℕ) (e : Option External) → n ≡ k → e ≡ None → written_at t n e ≡ Some (Own t k)
own_from t k n None same none = ap (λ m. Some (Own t m)) same
own_from t k n (Some e) same none = absurd (cc)

-- what a slot is written to
global_from : (t n g : ℕ) (e : External) → e.stored ≡ true → e.global ≡ g → written_at t n (Some e) ≡ Some (Global g)
global_from t n g e stored same = rw stored (ap (λ m. Some (Global m)) same)

not_global : (t n g : ℕ) (x : Option External) → ((e : External) → x ≡ Some e → e.stored ≡ true → e.global ≢ g)
    → written_at t n x ≢ Some (Global g)
not_global t n g None none is = absurd (cc)
not_global t n g (Some e) none is =
    elim e.stored as (λ (s : Bool). e.stored ≡ s → (if s then Some (Global e.global) else None) ≡ Some (Global g) → ⊥) [
      | true ↦ λ stored same. none e refl stored (cc)
      | false ↦ λ kept same. absurd (cc)
    ] refl is

other_own : (t u n k : ℕ) (x : Option External) → u ≢ t → written_at t n x ≢ Some (Own u k)
other_own t u n k None other is = other (cc)
other_own t u n k (Some e) other is =
    elim e.stored as (λ (s : Bool). (if s then Some (Global e.global) else None) ≡ Some (Own u k) → ⊥) [
      | true ↦ λ same. absurd (cc)
      | false ↦ λ same. absurd (cc)
    ] is

pub what_is_written : (layout : Layout) (t : ℕ) (task : TaskLayout) (v : ImageVariable) (slots : List Value)
    → slice_get layout.tasks t ≡ Some task
    → length task.externals ≤ length slots → IsWrittenFrom layout t task v slots ⊎ IsNotWritten layout t task v slots
what_is_written layout t task (Global g) slots is le =
    ⊎_elim
    (λ (s : IsStoredAt g task.externals slots). inl (record {
      slot = s.slot;
      from = written_is layout t task s.slot is
          ∙ (ap (written_at t (s.slot - length task.externals)) s.is
          ∙ global_from t (s.slot - length task.externals) g s.external s.stored s.global);
      value = s.value;
    }))
    (λ (s : IsStoredNowhere g task.externals slots). inr (record {
      from = λ slot from. not_global t (slot - length task.externals) g (slice_get task.externals slot) (s.nowhere slot)
          (sym (written_is layout t task slot is) ∙ from);
      value = s.value;
    }))
    (stored_cases g task.externals slots le)
what_is_written layout t task (Own u k) slots is le =
    ⊎_elim
    (λ (s : (eqb u t ≡ true) × (u ≡ t)). inl (record {
      slot = length task.externals + k;
      from = written_is layout t task (length task.externals + k) is
          ∙ (own_from t k _ _ (omega arith) (slice_get_past task.externals (length task.externals + k) (omega arith))
          ∙ ap (λ (w : ℕ). Some (Own w k)) (sym s.1));
      value = rw s.0 (get_drop slots (length task.externals) k);
    }))
    (λ (s : (eqb u t ≡ false) × (u ≢ t)). inr (record {
      from = λ slot from. other_own t u (slot - length task.externals) k (slice_get task.externals slot) s.1
          (sym (written_is layout t task slot is) ∙ from);
      value = rw s.0 refl;
    }))
    (eqb_tells u t)
