-- A run that comes to the end of a code with some store, or is stuck, ends so and not otherwise.
use Rattle.std.proofs.Common.{◌≡◌, ℕ, zero, suc, List, [], Bool, true, false, cond, Option, Some, None, refl}
use Rattle.std.proofs.Common.{sym, ap, ◌∙◌, subst, arith}
use Rattle.std.specs.Option.{option_and_then}
use Rattle.std.specs.Prelude.{nat_lt, slice_get, take, ◌==◌}
use Rattle.std.proofs.lemmas.Bool.Decides.{nat_tests}
use Rattle.iltypes.specs.declared.value.Value.{Value}
use Rattle.ilblocks.specs.Stores.{Store}
use Rattle.ilblocks.specs.Calls.{Block}
use Rattle.ilcode.specs.Lasting.{Leaves, begun, left_of}
use Rattle.ilcode.specs.Listings.{Listing, end_of, slots_end}
use Rattle.ilcode.specs.Steps.{Configuration, at, entered, is_start, word_at, step_by, step, start, Ends}
use Rattle.ilcode.specs.Steps as code_steps
use Rattle.ilcompile.proofs.Runs.{Leads, after, same_last}
use Rattle.ilcompile.proofs.Reaches.{Reaches, Stuck, calm_start}
use Rattle.ilcompile.proofs.Seen.{SeenWhole}
use Rattle.ilcompile.proofs.Slots.{same_front}

-- a run with one step more at its end is one with one step more at its beginning
module _ {S : Type 0} (f : S → Option S) where
  over : (o : Option S) → o ≡ option_and_then (after f zero) o
  over None = refl
  over (Some d) = refl

  over_more : (n : ℕ) → ((d : S) → option_and_then f (after f n d) ≡ option_and_then (after f n) (f d)) → (o : Option S)
      → option_and_then f (option_and_then (after f n) o) ≡ option_and_then (after f (suc n)) o
  over_more n h None = refl
  over_more n h (Some d) = h d

  last_step : (n : ℕ) (c : S) → option_and_then f (after f n c) ≡ option_and_then (after f n) (f c)
  last_step zero c = over (f c)
  last_step (suc n) c = over_more n (last_step n) (f c)

same_after : (code : Listing) (n : ℕ) (c : Configuration) → code_steps.after code c n ≡ after (step code) n c
same_after code zero c = refl
same_after code (suc n) c = ap (option_and_then (step code)) (same_after code n c) ∙ last_step (step code) n c

module _ (code : Listing) where
  not_less : (n : ℕ) → nat_lt n n ≡ false
  not_less n = grind (arith, nat_tests)

  -- at the programs' end stands no word of theirs
  no_word : (store : Store) (r : Option Value) → word_at code (at (end_of code 0) store r [] []) ≡ None
  no_word store r =
      ap (λ b. cond b (slice_get code.instructions (end_of code 0)) None) (not_less (end_of code 0))

  end_last : (store : Store) (r : Option Value) → step code (at (end_of code 0) store r [] []) ≡ None
  end_last store r = ap (step_by code (at (end_of code 0) store r [] [])) (no_word store r)

  leads_by : (from to : Store) (n : ℕ) → (e : Ends code from n to)
      → Leads (step code) (start from) (at (end_of code 0) to e.result [] [])
  leads_by from to n e = record { steps = n; is = sym (same_after code n (start from)) ∙ e.run.is }

  -- a run that comes to the end stands there
  record StandsAt (from t : Store) : Type 0 where
    result : Option Value
    run : Leads (step code) (start from) (at (end_of code 0) t result [] [])

  -- the first place is entered with no result and nothing open
  starts_there : (from : Store) (p : Configuration) → entered code (start from) ≡ Some p → start from ≡ p
  starts_there from p e = let z : Some (start from) ≡ Some p = sym (calm_start code 0 from) ∙ e in cc

  stands_by : (from t : Store) (r : Option Value) (b : Bool) → is_start code (end_of code 0) ≡ b
      → Reaches code (start from) (at (end_of code 0) t r [] []) → StandsAt from t
  stands_by from t r true e l =
      let p = end_of code 0 in
      let s = l.from (at p t None [] [])
      (ap
      (λ b. cond b (Some (at p t None [] [])) (cond (p == p) (Some (at p t r [] [])) (Some (at p t r [] [])))) e) in
      record {
        result = None;
        run = subst (λ c. Leads (step code) c (at p t None [] [])) (sym (starts_there from s.first s.is)) s.leads;
      }
  stands_by from t r false e l =
      let p = end_of code 0 in
      let s = l.from (at p t r [] [])
      (ap
      (λ b. cond b (Some (at p t None [] [])) (cond (p == p) (Some (at p t r [] [])) (Some (at p t r [] [])))) e
      ∙ either (p == p) (at p t r [] [])) in
      record {
        result = r;
        run = subst (λ c. Leads (step code) c (at p t r [] [])) (sym (starts_there from s.first s.is)) s.leads;
      }
    where
      either : (b : Bool) (c : Configuration) → cond b (Some c) (Some c) ≡ Some c
      either true c = refl
      either false c = refl

  -- ---- what is left

  module _ (n : ℕ) (lasting : slots_end code 0 ≡ n) where
    -- what shows in a store is what is left of it
    shown : (s t : Store) → SeenWhole code n s t → s ≡ left_of code t
    shown s t h =
        let slots : take (slots_end code 0) t.slots ≡ s.slots =
        ap (λ k. take k t.slots) (lasting ∙ sym h.many) ∙ same_front s.slots t.slots h.held in
        sym (ap (λ (vs : List Value). record t { slots = vs }) slots
        ∙ (ap (λ (bs : List Block). record t { slots = s.slots; blocks = bs }) h.blocks
        ∙ (ap (λ rs. record t { slots = s.slots; blocks = s.blocks; requests = rs }) h.requests
        ∙ ap
        (λ (m : ℕ). record t { slots = s.slots; blocks = s.blocks; requests = s.requests; moment = m }) h.moment)))

    module _ (from : Store) where
      abbrev begins : Configuration
      begins = start (begun code from)

      -- the run comes to the end with what shows this store, or is stuck
      abbrev pub Comes : Option Store → Type 0
      Comes None = Stuck code begins
      Comes (Some s) =
          (t : Store) × (r : Option Value) × SeenWhole code n s t
          × Reaches code begins (at (end_of code 0) t r [] [])

      pub forth : (o : Option Store) (to : Store) → Comes o → o ≡ Some to → (steps : ℕ) × Leaves code from steps to
      forth None to h e = absurd cc
      forth (Some s) to h e =
          let q : s ≡ to = cc in
          let there = stands_by (begun code from) h.0 h.1 (is_start code (end_of code 0)) refl h.3 in (
            there.run.steps,
            record {
              end = h.0;
              run = record {
                result = there.result;
                run = record { is = same_after code there.run.steps begins ∙ there.run.is };
              };
              left = sym q ∙ shown s h.0 h.2;
            },
          )

      pub back : (o : Option Store) (to : Store) (steps : ℕ) → Comes o → Leaves code from steps to → o ≡ Some to
      back None to steps h l =
          let end = at (end_of code 0) l.end l.run.result [] [] in
          let run = subst (λ c. Leads (step code) c h.last) (sym (starts_there (begun code from) h.first h.is))
          h.leads in
          let same = same_last (step code) begins h.last end run h.none_on (leads_by (begun code from) l.end steps
          l.run)
          (end_last l.end l.run.result) in
          let none = sym (ap (word_at code) same ∙ no_word l.end l.run.result) ∙ h.stands in
          absurd cc
      back (Some s) to steps h l =
          let there = stands_by (begun code from) h.0 h.1 (is_start code (end_of code 0)) refl h.3 in
          let here = at (end_of code 0) h.0 there.result [] [] in
          let end = at (end_of code 0) l.end l.run.result [] [] in
          let same = same_last (step code) begins here end there.run (end_last h.0 there.result)
          (leads_by (begun code from) l.end steps l.run) (end_last l.end l.run.result) in
          let store = ap (λ (c : Configuration). c.store) same in
          ap Some (shown s h.0 h.2 ∙ (ap (left_of code) store ∙ sym l.left))
