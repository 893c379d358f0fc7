-- The number of the slot of each global variable is found where the slots are read from the last to the first.
use Rattle.std.proofs.Common.{◌≡◌, ℕ, ◌+◌, ◌-◌, ◌<◌, ◌≤◌, List, [], ◌∷◌, drop, length, get_or, replicate, true, false}
use Rattle.std.proofs.Common.{refl, sym, ap, ◌∙◌, arith}
use Rattle.std.specs.Prelude.{Some, None, if◌then◌else◌}
use Rattle.std.specs.List.{list_any}
use Rattle.std.proofs.lemmas.List.{drop_all, drop_more, get_or-replicate, length-replicate}
use Rattle.ilplan.specs.declared.slot.Slot.{Slot}
use Rattle.ilplan.specs.declared.slot.SlotOwner.{SlotOwner}
use Rattle.ilplan.specs.declared.slot.SlotOwner.TheVariants.{Global, Own}
use Rattle.ilsyms.specs.Meaning.{is_global}
use Rattle.ilsyms.specs.NumberingSteps.{AreGlobalSlots, number_of_global}
use Rattle.ilsyms.specs.PlanningSteps.{SetsWhere}
use Rattle.ilsyms.proofs.Lists.{either}
use Rattle.ilsyms.proofs.NumberingPlaces.{none_passes}

-- for each of so many global variables the number of its slot, where only the slots from one on are read
pub record AreFrom (slots : List Slot) (first count : ℕ) (numbers : List ℕ) : Type 0 where
  pub many : length numbers ≡ count
  pub each : (global : ℕ) → global < count
      → get_or numbers global 0 ≡ first + number_of_global (drop first slots) (Some global)

-- at first none is read
pub none_read : (slots : List Slot) (count : ℕ) (numbers : List ℕ) → numbers ≡ replicate count (length slots)
    → AreFrom slots (length slots) count numbers
none_read slots count numbers e =
    let none = drop_all (length slots) slots (omega arith) in
    record {
      many = ap (λ (ns : List ℕ). length ns) e ∙ length-replicate count (length slots);
      each = λ g below.
          let read = ap (λ ns. get_or ns g 0) e ∙ get_or-replicate count g (length slots) 0 below in
          let rest : number_of_global (drop (length slots) slots) (Some g) ≡ 0 =
          ap (λ ss. number_of_global ss (Some g)) none
          in
          omega (arith, read, rest);
    }

-- one slot more
module _ (slots : List Slot) (at count : ℕ) (numbers : List ℕ) (d : Slot) (after : 0 < at)
    (within : at ≤ length slots) (before : AreFrom slots at count numbers) where
  abbrev one : Slot
  one = get_or slots (at - 1) d

  rest : drop (at - 1) slots ≡ one ∷ drop at slots
  rest =
      let next : at - 1 + 1 ≡ at = omega (arith, after) in
      drop_more slots (at - 1) d (omega (arith, after, within)) ∙ ap (λ n. one ∷ drop n slots) next

  here : (g : ℕ) → is_global (Some g) one.variable ≡ true
      → at - 1 + number_of_global (drop (at - 1) slots) (Some g) ≡ at - 1
  here g t =
      let first : number_of_global (one ∷ drop at slots) (Some g) ≡ 0 = rw t refl in
      let whole = ap (λ ss. number_of_global ss (Some g)) rest in
      omega (arith, first, whole)

  later : (g : ℕ) → is_global (Some g) one.variable ≡ false
      → at - 1 + number_of_global (drop (at - 1) slots) (Some g) ≡ at + number_of_global (drop at slots) (Some g)
  later g f =
      let past : number_of_global (one ∷ drop at slots) (Some g) ≡ 1 + number_of_global (drop at slots) (Some g) =
      rw f refl
      in
      let whole = ap (λ ss. number_of_global ss (Some g)) rest in
      omega (arith, past, whole, after)

  -- where the number of its variable is set
  pub one_set : (variable : SlotOwner) → variable ≡ one.variable → (new : List ℕ)
      → SetsWhere (λ g. is_global (Some g) variable) (at - 1) numbers new → AreFrom slots (at - 1) count new
  one_set variable e new h =
      record {
        many = h.many ∙ before.many;
        each = λ g below.
            let same = ap (λ v. is_global (Some g) v) e in
            let there = h.each g (omega (arith, below, before.many)) in
            either (is_global (Some g) one.variable)
            (λ t. there ∙ ap (λ b. if b then at - 1 else get_or numbers g 0) (same ∙ t) ∙ sym (here g t))
            (λ f. there ∙ ap (λ b. if b then at - 1 else get_or numbers g 0) (same ∙ f) ∙ before.each g below
            ∙ sym (later g f));
      }

-- at last all are read
pub all_read : (slots : List Slot) (at count : ℕ) (numbers : List ℕ) → at ≡ 0 → AreFrom slots at count numbers
    → AreGlobalSlots slots count numbers
all_read slots at count numbers e h =
    record {
      many = h.many;
      each = λ g below.
          let whole : number_of_global (drop at slots) (Some g) ≡ number_of_global slots (Some g) =
          ap (λ n. number_of_global (drop n slots) (Some g)) e
          in
          let here = h.each g below in
          omega (arith, here, whole, e);
    }

-- no variable has no number
pub without_number : (slots : List Slot) → number_of_global slots None ≡ length slots
without_number slots = none_passes (λ s. is_global None s.variable) slots (none slots)
  where
    is_none : (v : SlotOwner) → is_global None v ≡ false
    is_none (Global n) = refl
    is_none (Own instance name) = refl

    none : (ss : List Slot) → list_any (λ s. is_global None s.variable) ss ≡ false
    none [] = refl
    none (s ∷ ss) = let e = is_none s.variable in rw e (none ss)
