-- Operands that are given to slots, one after another: the arguments of a function, and its starting values.
use Rattle.std.proofs.Common.{◌≡◌, ℕ, zero, suc, ◌+◌, ◌<◌, ◌≤◌, List, [], ◌∷◌, length, Bool, true, false}
use Rattle.std.proofs.Common.{cond, Option}
use Rattle.std.proofs.Common.{Some, None, refl, sym, ap, ◌∙◌, subst, arith}
use Rattle.std.specs.Prelude.{slice_get, slice_set, ◌&&◌, ⊤}
use Rattle.std.specs.Option.{option_map, option_and_then}
use Rattle.iltypes.specs.declared.value.IlType.{IlType}
use Rattle.iltypes.specs.declared.value.Value.{Value}
use Rattle.iltypes.specs.Slots.{is_of, stored}
use Rattle.ilsource.specs.declared.operand.Operand.{Operand}
use Rattle.ilsource.specs.Functions.{are_of}
use Rattle.ilsource.specs.Meaning.{joined}
use Rattle.ilblocks.specs.Stores.{Store}
use Rattle.ilplan.specs.declared.place.Place.{Place}
use Rattle.ilcode.specs.declared.nesting.Opened.{Opened}
use Rattle.ilcode.specs.declared.word.WordOperand.{WordOperand}
use Rattle.ilcode.specs.declared.word.Target.TheVariants as variables
use Rattle.ilcode.specs.declared.word.Word.TheVariants as words
use Rattle.ilcode.specs.Listings.{Listing}
use Rattle.ilcode.specs.Steps.{Configuration, OpenCall, at, effect, stored_at, value_of, with_store}
use Rattle.ilcompile.proofs.Slots.{Holds, get_set_here, set_long, set_same}
use Rattle.ilcompile.proofs.Reaches.{Reaches, Stuck, Calm, Region, reaches_self, reaches_then, reaches_at}
use Rattle.ilcompile.proofs.Reaches.{stuck_later}
use Rattle.ilcompile.proofs.Reaches.{one_word, stuck_here}
use Rattle.ilcompile.proofs.Shows.{Kept, kept_all, kept_then, kept_wider}

-- the values, where they are of the types
abbrev pub filled : List IlType → Option (List Value) → Option (List Value)
filled ts None = None
filled ts (Some vs) = cond (are_of ts vs) (Some vs) None

not_filled : (ty : IlType) (ts : List IlType) (v : Value) (o : Option (List Value)) → is_of ty v ≡ false
    → filled (ty ∷ ts) (joined (Some v) o) ≡ None
not_filled ty ts v None e = refl
not_filled ty ts v (Some vs) e = ap (λ b. cond (b && are_of ts vs) (Some (v ∷ vs)) None) e

more_filled : (ty : IlType) (ts : List IlType) (v : Value) (o : Option (List Value)) → is_of ty v ≡ true
    → filled (ty ∷ ts) (joined (Some v) o) ≡ option_map (λ vs. v ∷ vs) (filled ts o)
more_filled ty ts v None e = refl
more_filled ty ts v (Some vs) e = ap (λ b. cond (b && are_of ts vs) (Some (v ∷ vs)) None) e ∙ by (are_of ts vs)
  where
    by : (b : Bool) → cond b (Some (v ∷ vs)) None ≡ option_map (λ vs. v ∷ vs) (cond b (Some vs) None)
    by true = refl
    by false = refl

-- the store with another value in a slot
abbrev pub with_value : Store → ℕ → Value → Store
with_value t slot v = record t { slots = slice_set t.slots slot v }

pub value_kept : (lo hi : ℕ) (t : Store) (slot : ℕ) (v : Value) → lo ≤ slot → slot < hi
    → Kept lo hi t (with_value t slot v)
value_kept lo hi t slot v l h =
    record { slots = set_same lo hi t.slots slot v l h; blocks = refl; requests = refl; moment = refl }

-- a value of a slot's type is stored, another is not
pub stores_value : (code : Listing) (t : Store) (slot : ℕ) (v : Value) (ty : IlType) (b : Bool)
    → slice_get code.slots slot ≡ Some ty → is_of ty v ≡ b
    → stored_at code t (variables.Slot slot) v ≡ cond b (Some (with_value t slot v)) None
stores_value code t slot v ty b e f =
    ap (option_map (λ slots. record t { slots = slots }))
    (ap (stored t.slots slot v) e ∙ ap (λ c. cond c (Some (slice_set t.slots slot v)) None) f)
    ∙ by b
  where
    by : (b : Bool)
        → option_map (λ slots. record t { slots = slots }) (cond b (Some (slice_set t.slots slot v)) None)
        ≡ cond b (Some (with_value t slot v)) None
    by true = refl
    by false = refl

module _ (code : Listing) (calls : List OpenCall) (start end : ℕ) (region : Region code calls start end)
    (r : Option Value) (n : List Opened) where
  -- from c the run comes to the place, with these values from the slot on and all else as it was; or it is stuck
  abbrev pub Fills : Configuration → ℕ → ℕ → ℕ → Store → Option (List Value) → Type 0
  Fills c q slot many t None = Stuck code c
  Fills c q slot many t (Some vs) =
      (u : Store) × Holds u.slots slot vs × Kept slot (slot + many) t u × Reaches code c (at q u r n calls)

  -- a word gives an operand to a slot; slots that were given before do not change what it is worth
  module _ (word : Operand Place → WordOperand) (val : Operand Place → Option Value) (Good : Operand Place → Type 0)
      (lo hi : ℕ) (t0 : Store)
      (reads : (o : Operand Place) → Good o → (t : Store) → Kept lo hi t0 t → value_of code t (word o) ≡ val o) where
    abbrev pub all_values : List (Operand Place) → Option (List Value)
    all_values [] = Some []
    all_values (o ∷ os) = joined (val o) (all_values os)

    abbrev pub AllGood : List (Operand Place) → Type 0
    AllGood [] = ⊤
    AllGood (o ∷ os) = Good o × AllGood os

    abbrev pub GiveWords : ℕ → ℕ → List (Operand Place) → Type 0
    GiveWords p slot [] = ⊤
    GiveWords p slot (o ∷ os) =
        (slice_get code.instructions p ≡ Some (words.Give (word o) slot)) × GiveWords (p + 1) (slot + 1) os

    -- one value before those that follow
    then_more : (c d : Configuration) (q slot many : ℕ) (t t1 : Store) (v : Value) (o : Option (List Value))
        → Reaches code c d → slice_get t1.slots slot ≡ Some v → Kept slot (slot + 1) t t1
        → Fills d q (slot + 1) many t1 o → Fills c q slot (suc many) t (option_map (λ vs. v ∷ vs) o)
    then_more c d q slot many t t1 v None g e same h = stuck_later code c d g h
    then_more c d q slot many t t1 v (Some vs) g e same h =
        let u = h.0 in
        let i : slot < slot + 1 = omega arith in (
          u,
          held u (h.2.slots.below slot i ∙ e) h.1,
          kept_then slot (slot + suc many) t t1 u
              (kept_wider slot (slot + 1) slot (slot + suc many) t t1 (omega arith) (omega arith) same)
              (kept_wider (slot + 1) (slot + 1 + many) slot (slot + suc many) t1 u (omega arith) (omega arith) h.2),
          reaches_then code c d (at q u r n calls) g h.3,
        )
      where
        held : (u : Store) → slice_get u.slots slot ≡ Some v → Holds u.slots (slot + 1) vs
            → Holds u.slots slot (v ∷ vs)
        held u f g zero l = let z : slot + 0 ≡ slot = omega arith in ap (slice_get u.slots) z ∙ f
        held u f g (suc i) l =
            let z : slot + suc i ≡ slot + 1 + i = omega arith in ap (slice_get u.slots) z ∙ g i (omega arith)

    pub gives_run : (os : List (Operand Place)) (ts : List IlType) (p slot : ℕ) (t : Store) → Kept lo hi t0 t
        → AllGood os → GiveWords p slot os → Holds code.slots slot ts → length os ≡ length ts → lo ≤ slot
        → slot + length os ≤ hi → p + length os ≤ end → length t.slots ≡ length code.slots
        → slot + length os ≤ length code.slots → start ≤ p
        → ((u : Store) → p < end → Calm code p u r n calls)
        → Fills (at p t r n calls) (p + length os) slot (length os) t (filled ts (all_values os))
    gives_run [] [] p slot t same good has typed long from to le size room low calm =
        let z : p ≡ p + 0 = omega arith in (
          t,
          λ i l. absurd (omega arith),
          kept_all slot (slot + 0) t,
          reaches_at code (at p t r n calls) p (p + 0) t r n calls z (reaches_self code (at p t r n calls)),
        )
    gives_run [] (ty ∷ ts) p slot t same good has typed long from to le size room low calm = absurd (omega arith)
    gives_run (o ∷ os) [] p slot t same good has typed long from to le size room low calm = absurd (omega arith)
    gives_run (o ∷ os) (ty ∷ ts) p slot t same good has typed long from to le size room low calm =
        by_value (val o) (reads o good.0 t same)
        (λ v. gives_run os ts (p + 1) (slot + 1) (with_value t slot v)
        (kept_then lo hi t0 t (with_value t slot v) same (value_kept lo hi t slot v from (omega arith))) good.1 has.1
        (λ i l.
        let z : slot + 1 + i ≡ slot + suc i = omega arith in
        ap (slice_get code.slots) z ∙ typed (suc i) (omega arith))
        (omega arith) (omega arith) (omega arith) (omega arith) (set_long t.slots slot v ∙ size) (omega arith)
        (omega arith) (λ u lt. region.quiet (p + 1) u r n (omega arith) lt))
      where
        c : Configuration
        c = at p t r n calls

        here : slice_get code.slots slot ≡ Some ty
        here = let z : slot ≡ slot + 0 = omega arith in ap (slice_get code.slots) z ∙ typed 0 (omega arith)

        rest : Option (List Value)
        rest = all_values os

        Later : Type 0
        Later =
            (v : Value)
            → Fills (at (p + 1) (with_value t slot v) r n calls) (p + 1 + length os) (slot + 1) (length os)
            (with_value t slot v) (filled ts rest)

        gave : (v : Value) (b : Bool) → value_of code t (word o) ≡ Some v → is_of ty v ≡ b
            → effect code c (words.Give (word o) slot) ≡ with_store c (cond b (Some (with_value t slot v)) None)
        gave v b e f =
            ap (λ x. with_store c (option_and_then (stored_at code t (variables.Slot slot)) x)) e
            ∙ ap (with_store c) (stores_value code t slot v ty b here f)

        by_type : (v : Value) (b : Bool) → value_of code t (word o) ≡ Some v → is_of ty v ≡ b → Later
            → Fills c (p + length (o ∷ os)) slot (length (o ∷ os)) t (filled (ty ∷ ts) (joined (Some v) rest))
        by_type v false e f later =
            subst (Fills c (p + length (o ∷ os)) slot (length (o ∷ os)) t) (sym (not_filled ty ts v rest f))
            (stuck_here code calls start end region p t r n (words.Give (word o) slot) (omega arith)
            (calm t (omega arith)) has.0 (gave v false e f))
        by_type v true e f later =
            let t1 = with_value t slot v in
            let d = at (p + 1) t1 r n calls in
            let q : p + 1 + length os ≡ p + length (o ∷ os) = omega arith in
            subst (Fills c (p + length (o ∷ os)) slot (length (o ∷ os)) t) (sym (more_filled ty ts v rest f))
            (then_more c d (p + length (o ∷ os)) slot (length os) t t1 v (filled ts rest)
            (one_word code calls start end region p t r n d (words.Give (word o) slot) (omega arith)
            (calm t (omega arith)) has.0 (gave v true e f))
            (get_set_here t.slots slot v (omega arith))
            (value_kept slot (slot + 1) t slot v (omega arith) (omega arith))
            (subst (λ x. Fills d x (slot + 1) (length os) t1 (filled ts rest)) q (later v)))

        by_value : (x : Option Value) → value_of code t (word o) ≡ x → Later
            → Fills c (p + length (o ∷ os)) slot (length (o ∷ os)) t (filled (ty ∷ ts) (joined x rest))
        by_value None e later =
            stuck_here code calls start end region p t r n (words.Give (word o) slot) (omega arith)
            (calm t (omega arith)) has.0
            (ap (λ x. with_store c (option_and_then (stored_at code t (variables.Slot slot)) x)) e)
        by_value (Some v) e later = by_type v (is_of ty v) e refl later
