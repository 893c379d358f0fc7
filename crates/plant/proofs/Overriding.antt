-- The values under the overrides of an event task are those of its pending event.
use Rattle.std.proofs.Common.{◌≡◌, ◌≢◌, ◌⊎◌, ⊎_elim, inl, inr, ℕ, ◌<◌, ◌≤◌, Bool, true, false, eqb, List, [], ◌∷◌, ◌++◌}
use Rattle.std.proofs.Common.{length, Option, Some, None, refl, sym, ap, ◌∙◌, subst, append-nil}
use Rattle.std.proofs.lemmas.Bool.{cases_eq, eq-eqb, ne_eqb}
use Rattle.std.proofs.lemmas.List.Elements.{All-push}
use Rattle.std.specs.Prelude.{All, IfSome, if◌then◌else◌, option_map, option_to_list, slice_index_or}
use Rattle.iltypes.specs.declared.value.Value.{Value}
use Rattle.ilplan.specs.Plans.{Planned}
use Rattle.ilmachine.specs.declared.overriding.Override.{Override}
use Rattle.ilmachine.specs.Images.{overridden}
use Rattle.plantevents.specs.declared.activator.PendingEvent.{PendingEvent}
use Rattle.plantevents.specs.Variables.{newest}
use Rattle.plant.specs.IndexSteps.{AreInputsOf, comes_from, place_of}
use Rattle.plant.specs.TakingSteps.{event_at, given_to, IsInType}
use Rattle.plant.proofs.GivenInputs.{among, by_test}
use Rattle.plant.proofs.Indexed.{no_event}

overridden_push : (items : List Override) (x : Override) (g : ℕ) (v : Option Value)
    → overridden (items ++ x ∷ []) g v ≡ (if eqb x.global g then Some x.value else overridden items g v)
overridden_push [] x g v = refl
overridden_push (y ∷ items) x g v = overridden_push items x g (if eqb y.global g then Some y.value else v)

same_if : (t : Bool) (v : Option Value) → (if t then v else v) ≡ v
same_if true v = refl
same_if false v = refl

-- with what one global variable is given
one_given : (items : List Override) (k : ℕ) (value : Option Value) (g : ℕ) (v : Option Value)
    → overridden (items ++ option_to_list (option_map (given_to k) value)) g v
    ≡ (if eqb k g then newest value (overridden items g v) else overridden items g v)
one_given items k None g v =
    ap (λ (xs : List Override). overridden xs g v) (append-nil items) ∙ sym (same_if (eqb k g) (overridden items g v))
one_given items k (Some y) g v = overridden_push items (given_to k y) g v

here : (items : List Override) (k : ℕ) (value v : Option Value)
    → overridden (items ++ option_to_list (option_map (given_to k) value)) k v ≡ newest value (overridden items k v)
here items k value v =
    one_given items k value k v
    ∙ ap (λ t. if t then newest value (overridden items k v) else overridden items k v) (eq-eqb k k refl)

elsewhere : (items : List Override) (k : ℕ) (value : Option Value) (g : ℕ) (v : Option Value) → g ≢ k
    → overridden (items ++ option_to_list (option_map (given_to k) value)) g v ≡ overridden items g v
elsewhere items k value g v ne =
    one_given items k value g v
    ∙ ap (λ t. if t then newest value (overridden items g v) else overridden items g v) (ne_eqb k g (λ e. ne (sym e)))

newest_twice : (o v : Option Value) → newest o (newest o v) ≡ newest o v
newest_twice None v = refl
newest_twice (Some x) v = refl

module _ (plan : Planned) (bus number : ℕ) (event : PendingEvent) where
  -- under these overrides a global variable has what the event gives it, or its own value
  abbrev pub HasEvent : List Override → ℕ → Type 0
  HasEvent items g = (v : Option Value) → overridden items g v ≡ newest (event_at plan bus number event g) v

  abbrev pub HasOwn : List Override → ℕ → Type 0
  HasOwn items g = (v : Option Value) → overridden items g v ≡ v

  abbrev pub HasEither : List Override → ℕ → Type 0
  HasEither items g = HasEvent items g ⊎ HasOwn items g

-- with the override of one more
module _ (plan : Planned) (bus number : ℕ) (event : PendingEvent) (items : List Override) (k : ℕ) where
  abbrev longer : List Override
  longer = items ++ option_to_list (option_map (given_to k) (event_at plan bus number event k))

  pub event_here : HasEither plan bus number event items k → HasEvent plan bus number event longer k
  event_here either v =
      let value = event_at plan bus number event k in
      here items k value v
      ∙ ⊎_elim (λ (e : HasEvent plan bus number event items k). ap (newest value) (e v) ∙ newest_twice value v)
      (λ (e : HasOwn plan bus number event items k). ap (newest value) (e v)) either

  pub event_still : (g : ℕ) → HasEvent plan bus number event longer k → HasEvent plan bus number event items g
      → HasEvent plan bus number event longer g
  event_still g one e =
      ⊎_elim (λ (same : g ≡ k). subst (HasEvent plan bus number event longer) (sym same) one)
      (λ (ne : g ≢ k). λ (v : Option Value). elsewhere items k (event_at plan bus number event k) g v ne ∙ e v)
      (cases_eq g k)

  pub either_still : (g : ℕ) → HasEvent plan bus number event longer k → HasEither plan bus number event items g
      → HasEither plan bus number event longer g
  either_still g one either =
      ⊎_elim (λ (same : g ≡ k). inl (subst (HasEvent plan bus number event longer) (sym same) one))
      (λ (ne : g ≢ k). ⊎_elim
      (λ (e : HasEvent plan bus number event items g).
      inl (λ v. elsewhere items k (event_at plan bus number event k) g v ne ∙ e v))
      (λ (e : HasOwn plan bus number event items g).
      inr (λ v. elsewhere items k (event_at plan bus number event k) g v ne ∙ e v)) either)
      (cases_eq g k)

-- at the end
pub all_given : (plan : Planned) (bus number : ℕ) (event : PendingEvent) (items : List Override) (numbers : List ℕ)
    (i : ℕ) → AreInputsOf plan bus numbers → length numbers ≤ i
    → ((g : ℕ) → HasEither plan bus number event items g)
    → ((j : ℕ) → j < i → HasEvent plan bus number event items (slice_index_or numbers j 0))
    → (g : ℕ) → HasEvent plan bus number event items g
all_given plan bus number event items numbers i inputs end either done g =
    by_test (comes_from bus (place_of plan g))
    (λ from. among (HasEvent plan bus number event items) numbers i g end done (inputs.every g from))
    (λ other. ⊎_elim (λ (e : HasEvent plan bus number event items g). e)
    (λ (e : HasOwn plan bus number event items g). λ (v : Option Value).
    e v ∙ ap (λ o. newest o v) (sym (no_event bus number event (place_of plan g) other))) (either g))

-- what is given is of its type
pub typed_more : (plan : Planned) (items : List Override) (o : Option Override) → All (IsInType plan) items
    → IfSome o (IsInType plan) → All (IsInType plan) (items ++ option_to_list o)
typed_more plan items None all typed = subst (All (IsInType plan)) (sym (append-nil items)) all
typed_more plan items (Some x) all typed = All-push (IsInType plan) items x all typed
