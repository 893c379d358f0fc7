-- Each table of opcodes holds exactly the opcodes of its class.
use Rattle.std.proofs.Common.{◌≡◌, ℕ, zero, suc, ◌+◌, ◌<◌, ◌≤◌, ◌↔◌, ◌⊎◌, inl, inr, List, [], ◌∷◌, ◌++◌, length}
use Rattle.std.proofs.Common.{slice_index, slice_index_or, Contains, refl, sym, arith}
use Rattle.std.proofs.lemmas.Bool.{cases_lt}
use Rattle.std.proofs.lemmas.List.Elements.{Contains-append_left, Contains-append_right, Contains-append_cases}
use Rattle.std.proofs.lemmas.List.Elements.{Contains-get_or}
use Rattle.daliframe.specs.Opcodes.{IsOfClass, IsOfDeviceClass, Within}
use Rattle.daliframe.specs.declared.opcodes.OpcodeClass.TheVariants as gear
use Rattle.daliframe.specs.declared.opcodes.DeviceOpcodeClass.TheVariants as device
use Rattle.gearcmd.specs.Commands.{opcodes_from, gear_do_opcodes, gear_set_opcodes, gear_pair_opcodes, gear_ask_opcodes}
use Rattle.gearcmd.specs.Commands.{dev_do_opcodes, dev_ask_opcodes}

-- an element is the first or one of the others
pub in_cons : (x : ℕ) (xs : List ℕ) (o : ℕ) → Contains (x ∷ xs) o → (x ≡ o) ⊎ Contains xs o
in_cons x xs o h = Contains-first x xs o h.0 h.1 h.2
  where
    Contains-first : (x : ℕ) (xs : List ℕ) (o k : ℕ) → k < length (x ∷ xs) → slice_index_or (x ∷ xs) k o ≡ o
        → (x ≡ o) ⊎ Contains xs o
    Contains-first x xs o zero lt e = inl e
    Contains-first x xs o (suc k) lt e = inr (k, omega arith, e)

here : (x : ℕ) (xs : List ℕ) → Contains (x ∷ xs) x
here x xs = (0, omega arith, refl)

later : (x : ℕ) (xs : List ℕ) (o : ℕ) → Contains xs o → Contains (x ∷ xs) o
later x xs o h = Contains-append_right (x ∷ []) xs o h

-- a run of opcodes holds those from its first to its last
in_run : (first count o : ℕ) → Contains (opcodes_from first count) o → (first ≤ o) × (o < first + count)
in_run first zero o h = absurd (let lt : h.0 < 0 = h.1 in omega arith)
in_run first (suc count) o h =
    elim (in_cons first (opcodes_from (first + 1) count) o h) as (λ _. (first ≤ o) × (o < first + suc count)) [
      | inl e ↦ (omega arith, omega arith)
      | inr r ↦ let b : (first + 1 ≤ o) × (o < first + 1 + count) =
          in_run (first + 1) count o r in (omega arith, omega arith)
    ]

run_has : (first count o : ℕ) → first ≤ o → o < first + count → Contains (opcodes_from first count) o
run_has first zero o low high = absurd (omega arith)
run_has first (suc count) o low high =
    elim (cases_lt first o) as (λ _. Contains (opcodes_from first (suc count)) o) [
      | inl lt ↦ later first (opcodes_from (first + 1) count) o (run_has (first + 1) count o (omega arith)
          (omega arith))
      | inr ge ↦ let e : first ≡ o = omega arith in (0, omega arith, e)
    ]

-- ---- what a list holds, by its parts
run_rule : (first count last o : ℕ) → first + count ≡ last + 1
    → Contains (opcodes_from first count) o ↔ Within first last o
run_rule first count last o e = (
  (λ h. let b : (first ≤ o) × (o < first + count) = in_run first count o h in (omega arith, omega arith)),
  (λ w. run_has first count o w.0 (let h : o ≤ last = w.1 in omega arith)),
)

cons_rule : (x : ℕ) (xs : List ℕ) (o : ℕ) (P : Type 0) → Contains xs o ↔ P → Contains (x ∷ xs) o ↔ ((o ≡ x) ⊎ P)
cons_rule x xs o P rule = (
  (λ h. elim (in_cons x xs o h) as (λ _. (o ≡ x) ⊎ P) [ inl e ↦ inl (sym e) | inr r ↦ inr (rule.0 r) ]),
  (λ h. elim h as (λ _. Contains (x ∷ xs) o) [ inl e ↦ (0, omega arith, sym e) | inr p ↦ later x xs o (rule.1 p) ]),
)

append_rule : (xs ys : List ℕ) (o : ℕ) (P Q : Type 0) → Contains xs o ↔ P → Contains ys o ↔ Q
    → Contains (xs ++ ys) o ↔ (P ⊎ Q)
append_rule xs ys o P Q left right = (
  (λ h. elim (Contains-append_cases xs ys o h) as (λ _. P ⊎ Q) [ inl a ↦ inl (left.0 a) | inr b ↦ inr (right.0 b) ]),
  (λ h. elim h as (λ _. Contains (xs ++ ys) o) [
    | inl p ↦ Contains-append_left xs ys o (left.1 p)
    | inr q ↦ Contains-append_right xs ys o (right.1 q)
  ]),
)

-- ---- each table holds exactly the opcodes of its class, and so each of its entries has the class
pub gear_do_rule : (o : ℕ) → Contains gear_do_opcodes o ↔ IsOfClass gear.Once o
unfolding gear_do_opcodes
gear_do_rule o = append_rule (opcodes_from 0x00 9) (0x0A ∷ opcodes_from 0x10 16) o _ _ (run_rule 0x00 9 0x08 o refl)
    (cons_rule 0x0A (opcodes_from 0x10 16) o _ (run_rule 0x10 16 0x1F o refl))

pub gear_do_class : (k : ℕ) → k < 26 → IsOfClass gear.Once (slice_index gear_do_opcodes k)
unfolding gear_do_opcodes
gear_do_class k lt = (gear_do_rule (slice_index gear_do_opcodes k)).0 (Contains-get_or gear_do_opcodes k 0 lt)

pub gear_set_rule : (o : ℕ) → Contains gear_set_opcodes o ↔ IsOfClass gear.TwiceAfterDtr0 o
unfolding gear_set_opcodes
gear_set_rule o = append_rule (opcodes_from 0x2A 7) (opcodes_from 0x40 16) o _ _ (run_rule 0x2A 7 0x30 o refl)
    (run_rule 0x40 16 0x4F o refl)

pub gear_set_class : (k : ℕ) → k < 23 → IsOfClass gear.TwiceAfterDtr0 (slice_index gear_set_opcodes k)
unfolding gear_set_opcodes
gear_set_class k lt = (gear_set_rule (slice_index gear_set_opcodes k)).0 (Contains-get_or gear_set_opcodes k 0 lt)

pub gear_pair_rule : (o : ℕ) → Contains gear_pair_opcodes o ↔ IsOfClass gear.Twice o
unfolding gear_pair_opcodes
gear_pair_rule o = append_rule (opcodes_from 0x20 2) (opcodes_from 0x50 48) o _ _ (run_rule 0x20 2 0x21 o refl)
    (run_rule 0x50 48 0x7F o refl)

pub gear_pair_class : (k : ℕ) → k < 50 → IsOfClass gear.Twice (slice_index gear_pair_opcodes k)
unfolding gear_pair_opcodes
gear_pair_class k lt = (gear_pair_rule (slice_index gear_pair_opcodes k)).0 (Contains-get_or gear_pair_opcodes k 0 lt)

pub gear_ask_rule : (o : ℕ) → Contains gear_ask_opcodes o ↔ IsOfClass gear.Query o
unfolding gear_ask_opcodes
gear_ask_rule o = append_rule (opcodes_from 0x90 23) (0xA8 ∷ 0xAA ∷ opcodes_from 0xB0 18) o _ _
    (run_rule 0x90 23 0xA6 o refl) (cons_rule 0xA8 (0xAA ∷ opcodes_from 0xB0 18) o _
    (cons_rule 0xAA (opcodes_from 0xB0 18) o _ (run_rule 0xB0 18 0xC1 o refl)))

pub gear_ask_class : (k : ℕ) → k < 43 → IsOfClass gear.Query (slice_index gear_ask_opcodes k)
unfolding gear_ask_opcodes
gear_ask_class k lt = (gear_ask_rule (slice_index gear_ask_opcodes k)).0 (Contains-get_or gear_ask_opcodes k 0 lt)

pub dev_do_rule : (o : ℕ) → Contains dev_do_opcodes o ↔ IsOfDeviceClass device.Twice o
unfolding dev_do_opcodes
dev_do_rule o = run_rule 0x62 2 0x63 o refl

pub dev_do_class : (k : ℕ) → k < 2 → IsOfDeviceClass device.Twice (slice_index dev_do_opcodes k)
unfolding dev_do_opcodes
dev_do_class k lt = (dev_do_rule (slice_index dev_do_opcodes k)).0 (Contains-get_or dev_do_opcodes k 0 lt)

pub dev_ask_rule : (o : ℕ) → Contains dev_ask_opcodes o ↔ IsOfDeviceClass device.Query o
unfolding dev_ask_opcodes
dev_ask_rule o = cons_rule 0x80 (opcodes_from 0x8B 2) o _ (run_rule 0x8B 2 0x8C o refl)

pub dev_ask_class : (k : ℕ) → k < 3 → IsOfDeviceClass device.Query (slice_index dev_ask_opcodes k)
unfolding dev_ask_opcodes
dev_ask_class k lt = (dev_ask_rule (slice_index dev_ask_opcodes k)).0 (Contains-get_or dev_ask_opcodes k 0 lt)
