-- Which slots uses read: what one use marks, and one use after another.
use Rattle.std.proofs.Common.{◌≡◌, ◌≢◌, ◌≤◌, ◌<◌, ◌+◌, ◌++◌, ◌∷◌, ◌||◌, ◌∙◌, [], ℕ, Bool, List, Option, Some, None}
use Rattle.std.proofs.Common.{true, false, ap, arith, get_or, length, refl, replicate, set, subst, sym, take}
use Rattle.std.specs.Prelude.{◌==◌}
use Rattle.std.specs.List.{list_any}
use Rattle.std.specs.Option.{option_map_or}
use Rattle.std.proofs.lemmas.Bool.Decides.{Decides-eqb, not_from_Decides}
use Rattle.std.proofs.lemmas.Bool.{false_from_ne_true}
use Rattle.std.proofs.lemmas.List.{take_more, get_or-replicate, get_or-set_other, length-replicate, length-set}
use Rattle.std.proofs.lemmas.List.Folds.{list_any-append}
use Rattle.std.proofs.lemmas.Grind.{get_or-set_at}
use Rattle.ilsource.specs.declared.operand.Operand.{Operand}
use Rattle.ilsource.specs.declared.operand.Operand.TheVariants as operands
use Rattle.ilsource.specs.declared.uses.Purpose.{Purpose}
use Rattle.ilsource.specs.declared.uses.Purpose.TheVariants as purposes
use Rattle.ilsource.specs.declared.uses.Use.{Use}
use Rattle.ilplan.specs.declared.place.Place.{Place}
use Rattle.ilplan.specs.declared.place.Place.TheVariants as places
use Rattle.ilnotes.specs.Planned.{is_read_of, reads_slot}
use Rattle.ilnotes.specs.ReadSteps.{AreReads, Marks, slot_read}

or_none : (b : Bool) → b ≡ (b || false)
or_none true = refl
or_none false = refl

or_true : (b : Bool) → true ≡ (b || true)
or_true true = refl
or_true false = refl

-- a use reads the slot that it is read of, and no other
reads_place : (k : ℕ) (place : Place) → is_read_of k purposes.Read (operands.Name place)
    ≡ option_map_or (λ n. n == k) (slot_read purposes.Read (operands.Name place)) false
reads_place k (places.Slot number) = refl
reads_place k (places.Port block port) = refl
reads_place k (places.Block block) = refl
reads_place k (places.Function number) = refl

reads_one : (k : ℕ) (purpose : Purpose) (operand : Operand Place)
    → is_read_of k purpose operand ≡ option_map_or (λ n. n == k) (slot_read purpose operand) false
reads_one k purposes.Read (operands.Name place) = reads_place k place
reads_one k purposes.Read (operands.Constant value) = refl
reads_one k purposes.Write operand = refl
reads_one k purposes.Call operand = refl
reads_one k purposes.Pass operand = refl
reads_one k purposes.Invoke operand = refl

-- a use that reads a slot which is there, and one that does not
module _ (used : Use Place) (read : List Bool) where
  known : (o : Option ℕ) → o ≡ slot_read used.purpose used.operand → (k : ℕ)
      → reads_slot k used ≡ option_map_or (λ n. n == k) o false
  known o is k =
      reads_one k used.purpose used.operand ∙ ap (λ o. option_map_or (λ n. n == k) o false) (sym is)

  pub marks_slot : (slot : ℕ) → Some slot ≡ slot_read used.purpose used.operand → slot < length read
      → Marks used read (set read slot true)
  marks_slot slot is within = (length-set read slot true, λ k there. at k (slot == k) refl)
    where
      at : (k : ℕ) (b : Bool) → (slot == k) ≡ b
          → get_or (set read slot true) k false ≡ (get_or read k false || reads_slot k used)
      at k true e =
          let same : slot ≡ k = (Decides-eqb slot k).0 e in
          rw (known (Some slot) is k, e)
          (get_or-set_at read slot k true false (sym same) within ∙ or_true (get_or read k false))
      at k false e =
          let other : k ≢ slot = λ same. not_from_Decides (slot == k) (Decides-eqb slot k) e (sym same) in
          rw (known (Some slot) is k, e) (get_or-set_other read slot k true false other ∙ or_none (get_or read k false))

  unlike : (k : ℕ) → reads_slot k used ≡ false → get_or read k false ≡ (get_or read k false || reads_slot k used)
  unlike k e = rw e (or_none (get_or read k false))

  pub marks_none : None ≡ slot_read used.purpose used.operand → Marks used read read
  marks_none is = (refl, λ k there. unlike k (known None is k))

  pub marks_past : (slot : ℕ) → Some slot ≡ slot_read used.purpose used.operand → length read ≤ slot
      → Marks used read read
  marks_past slot is past = (
    refl,
    λ k there.
        let other : slot ≢ k = λ same. omega (arith, same, there, past) in
        unlike k (known (Some slot) is k ∙ false_from_ne_true (slot == k) (λ e. other ((Decides-eqb slot k).0 e))),
  )

-- no use reads none
pub reads_none : (read : List Bool) → read ≡ replicate (length read) false → AreReads [] (length read) read
reads_none read is = (
  refl,
  λ slot within.
      ap (λ flags. get_or flags slot false) is ∙ get_or-replicate (length read) slot false false within,
)

-- one use more
pub reads_more : (uses : List (Use Place)) (i slots : ℕ) (used : Use Place) (before after : List Bool)
    → i < length uses → used ≡ get_or uses i used → AreReads (take i uses) slots before → Marks used before after
    → AreReads (take (i + 1) uses) slots after
reads_more uses i slots used before after within is reads marks = (
  marks.0 ∙ reads.0,
  λ slot there.
      let known : slot < length before = subst (λ n. slot < n) (sym reads.0) there in
      let more = take_more uses i used within ∙ ap (λ u. take i uses ++ u ∷ []) (sym is) in
      let any = ap (λ us. list_any (reads_slot slot) us) more
      ∙ list_any-append (reads_slot slot) (take i uses) (used ∷ [])
      ∙ ap (λ b. list_any (reads_slot slot) (take i uses) || b) (sym (or_none (reads_slot slot used))) in
      marks.1 slot known ∙ ap (λ b. b || reads_slot slot used) (reads.1 slot there) ∙ sym any,
)
