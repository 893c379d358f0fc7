-- A loop over numbers of global variables that gives each its input, perhaps twice: what is given, and what is not yet.
use Rattle.std.proofs.Common.{◌≡◌, ◌≢◌, ℕ, ◌+◌, ◌<◌, ◌≤◌, Bool, true, false, List, length, Option, Some, None}
use Rattle.std.proofs.Common.{◌⊎◌, ⊎_elim, inl, inr, refl, ◌∙◌, ap, sym, subst, arith, below_more}
use Rattle.std.proofs.lemmas.Bool.{cases_eq}
use Rattle.std.proofs.lemmas.List.{get_or_default}
use Rattle.std.specs.Prelude.{slice_index_or}
use Rattle.std.specs.List.{Any}
use Rattle.iltypes.specs.declared.value.Value.{Value}
use Rattle.ilplan.specs.Plans.{Planned}
use Rattle.ilmachine.specs.Images.{ProcessImage, ImageVariable, Global, Own, layout_of, value_of, blocks_of}
use Rattle.plantevents.specs.Variables.{newest}
use Rattle.plant.specs.IndexSteps.{AreInputsOf, comes_from, place_of}

abbrev pub IsGiven : (ImageVariable → Option Value) → ProcessImage → ProcessImage → ℕ → Type 0
IsGiven input before after g = value_of after (Global g) ≡ newest (input (Global g)) (value_of before (Global g))

abbrev pub IsSame : ProcessImage → ProcessImage → ℕ → Type 0
IsSame before after g = value_of after (Global g) ≡ value_of before (Global g)

-- the first of these were given their inputs, each other one too or not, and nothing else has changed
pub record AreGiven (input : ImageVariable → Option Value) (before after : ProcessImage) (numbers : List ℕ)
    (i : ℕ) : Type 0 where
  pub laid : layout_of after ≡ layout_of before
  pub either : (g : ℕ) → IsGiven input before after g ⊎ IsSame before after g
  pub done : (j : ℕ) → j < i → IsGiven input before after (slice_index_or numbers j 0)
  pub own : (t n : ℕ) → value_of after (Own t n) ≡ value_of before (Own t n)
  pub instances : (t : ℕ) → blocks_of after t ≡ blocks_of before t

other_global : (g k : ℕ) → g ≢ k → Global g ≢ Global k
other_global g k ne e = ne (cc)

no_global : (t n k : ℕ) → Own t n ≢ Global k
no_global t n k e = absurd (cc)

newest_twice : (o v : Option Value) → newest o (newest o v) ≡ newest o v
newest_twice None v = refl
newest_twice (Some x) v = refl

module _ (input : ImageVariable → Option Value) (before image after : ProcessImage) (k : ℕ)
    (kept : (v : ImageVariable) → v ≢ Global k → value_of after v ≡ value_of image v)
    (written : value_of after (Global k) ≡ newest (input (Global k)) (value_of image (Global k))) where
  given_here : IsGiven input before image k ⊎ IsSame before image k → IsGiven input before after k
  given_here either =
      ⊎_elim (λ (e : IsGiven input before image k). written ∙ ap (newest (input (Global k))) e
      ∙ newest_twice (input (Global k)) (value_of before (Global k)))
      (λ (e : IsSame before image k). written ∙ ap (newest (input (Global k))) e) either

  still_given : (g : ℕ) → IsGiven input before after k → IsGiven input before image g → IsGiven input before after g
  still_given g here e =
      ⊎_elim (λ (same : g ≡ k). subst (IsGiven input before after) (sym same) here)
      (λ (ne : g ≢ k). kept (Global g) (other_global g k ne) ∙ e) (cases_eq g k)

  still_either : (g : ℕ) → IsGiven input before after k → IsGiven input before image g ⊎ IsSame before image g
      → IsGiven input before after g ⊎ IsSame before after g
  still_either g here either =
      ⊎_elim (λ (same : g ≡ k). inl (subst (IsGiven input before after) (sym same) here))
      (λ (ne : g ≢ k). ⊎_elim (λ (e : IsGiven input before image g). inl (kept (Global g) (other_global g k ne) ∙ e))
      (λ (e : IsSame before image g). inr (kept (Global g) (other_global g k ne) ∙ e)) either) (cases_eq g k)

pub given_more : (input : ImageVariable → Option Value) (before image after : ProcessImage) (numbers : List ℕ)
    (i k : ℕ) → slice_index_or numbers i 0 ≡ k → AreGiven input before image numbers i
    → layout_of after ≡ layout_of image
    → value_of after (Global k) ≡ newest (input (Global k)) (value_of image (Global k))
    → ((v : ImageVariable) → v ≢ Global k → value_of after v ≡ value_of image v)
    → ((t : ℕ) → blocks_of after t ≡ blocks_of image t)
    → AreGiven input before after numbers (i + 1)
given_more input before image after numbers i k is given laid written kept blocks =
    let here : IsGiven input before after k =
    given_here input before image after k kept written (given.either k) in
    record {
      laid = laid ∙ given.laid;
      either = λ g. still_either input before image after k kept written g here (given.either g);
      done = λ j below. below_more (λ j. IsGiven input before after (slice_index_or numbers j 0)) i
          (λ j lt. still_given input before image after k kept written (slice_index_or numbers j 0) here
          (given.done j lt)) (subst (IsGiven input before after) (sym is) here) j below;
      own = λ t n. kept (Own t n) (no_global t n k) ∙ given.own t n;
      instances = λ t. blocks t ∙ given.instances t;
    }

-- ---- once all of a bus have theirs

pub by_test : {P : Type 0} (t : Bool) → (t ≡ true → P) → (t ≡ false → P) → P
by_test true yes_case no_case = yes_case refl
by_test false yes_case no_case = no_case refl

pub among : (P : ℕ → Type 0) (numbers : List ℕ) (i g : ℕ) → length numbers ≤ i
    → ((j : ℕ) → j < i → P (slice_index_or numbers j 0)) → Any (λ n. n ≡ g) numbers → P g
among P numbers i g end done any =
    let k = any.0 in let x = any.1 in let lt : k < length numbers = any.2 in
    let is : slice_index_or numbers k 0 ≡ g = get_or_default numbers k 0 x lt ∙ (any.3 ∙ any.4) in
    subst P is (done k (omega (arith, lt, end)))

-- no other variable has an input
pub all_given : (input : ImageVariable → Option Value) (before after : ProcessImage) (plan : Planned) (b : ℕ)
    (numbers : List ℕ) (i : ℕ) → AreInputsOf plan b numbers → length numbers ≤ i
    → AreGiven input before after numbers i
    → ((g : ℕ) → comes_from b (place_of plan g) ≡ false → input (Global g) ≡ None)
    → ((t n : ℕ) → input (Own t n) ≡ None)
    → (v : ImageVariable) → value_of after v ≡ newest (input v) (value_of before v)
all_given input before after plan b numbers i inputs end given none own (Global g) =
    by_test (comes_from b (place_of plan g))
    (λ from. among (IsGiven input before after) numbers i g end given.done (inputs.every g from))
    (λ other. ⊎_elim (λ (e : IsGiven input before after g). e)
    (λ (e : IsSame before after g). e ∙ ap (λ o. newest o (value_of before (Global g))) (sym (none g other)))
    (given.either g))
all_given input before after plan b numbers i inputs end given none own (Own t n) =
    given.own t n ∙ ap (λ o. newest o (value_of before (Own t n))) (sym (own t n))
