-- How runs come from place to place. A place is spoken of as it is come to: whatever happens there on arrival, the
-- start of a program or the end of a function, is left to what follows.
use Rattle.std.proofs.Common.{◌≡◌, ℕ, ◌+◌, ◌<◌, ◌≤◌, List, [], ◌∷◌, Bool, true, false, cond, Option, Some, None}
use Rattle.std.proofs.Common.{refl, ap, ◌∙◌, subst, arith}
use Rattle.std.specs.Prelude.{slice_get, ◌==◌, nat_lt}
use Rattle.std.specs.Option.{option_and_then}
use Rattle.std.proofs.lemmas.Bool.Decides.{nat_tests}
use Rattle.iltypes.specs.declared.value.Value.{Value}
use Rattle.ilblocks.specs.Stores.{Store}
use Rattle.ilcode.specs.declared.nesting.Opened.{Opened}
use Rattle.ilcode.specs.declared.word.Word.{Word}
use Rattle.ilcode.specs.Listings.{Listing, end_of}
use Rattle.ilcode.specs.Steps.{Configuration, OpenCall, at, body_of, effect, if_closed, is_start, is_target, landed}
use Rattle.ilcode.specs.Steps.{left_by, entered, word_at, step_by, step}
use Rattle.ilcompile.proofs.Runs.{Leads, none, one, leads_on}

less : (m n : ℕ) → m < n → nat_lt m n ≡ true
less m n h = grind (arith, nat_tests)

unequal : (m n : ℕ) → m < n → (m == n) ≡ false
unequal m n h = grind (arith, nat_tests)

module _ (code : Listing) where
  pub record Started (c e : Configuration) : Type 0 where
    pub first : Configuration
    pub is : entered code c ≡ Some first
    pub leads : Leads (step code) first e

  -- who comes to c comes to d
  pub record Reaches (c d : Configuration) : Type 0 where
    pub from : (e : Configuration) → entered code d ≡ Some e → Started c e

  -- who comes to c comes to a word that is undefined there
  pub record Stuck (c : Configuration) : Type 0 where
    pub first : Configuration
    pub is : entered code c ≡ Some first
    pub last : Configuration
    pub leads : Leads (step code) first last
    pub none_on : step code last ≡ None
    pub word : Word
    pub stands : word_at code last ≡ Some word

  pub reaches_self : (c : Configuration) → Reaches c c
  reaches_self c = record { from = λ e q. record { first = e; is = q; leads = none (step code) e } }

  pub reaches_then : (c d e : Configuration) → Reaches c d → Reaches d e → Reaches c e
  reaches_then c d e g h =
      record {
        from = λ f q.
            let m = h.from f q in
            let k = g.from m.first m.is in
            record { first = k.first; is = k.is; leads = leads_on (step code) k.first m.first f k.leads m.leads };
      }

  pub stuck_later : (c d : Configuration) → Reaches c d → Stuck d → Stuck c
  stuck_later c d g s =
      let k = g.from s.first s.is in
      record {
        first = k.first;
        is = k.is;
        last = s.last;
        leads = leads_on (step code) k.first s.first s.last k.leads s.leads;
        none_on = s.none_on;
        word = s.word;
        stands = s.stands;
      }

  -- two places at which the same happens
  pub reaches_as : (c d e : Configuration) → entered code d ≡ entered code e → Reaches c d → Reaches c e
  reaches_as c d e q g = record { from = λ f p. g.from f (q ∙ p) }

  pub reaches_at : (c : Configuration) (p q : ℕ) (s : Store) (r : Option Value) (n : List Opened)
      (calls : List OpenCall) → p ≡ q → Reaches c (at p s r n calls) → Reaches c (at q s r n calls)
  reaches_at c p q s r n calls e g = subst (λ x. Reaches c (at x s r n calls)) e g

  -- nothing happens on arrival
  abbrev pub Calm : ℕ → Store → Option Value → List Opened → List OpenCall → Type 0
  Calm p s r n calls = entered code (at p s r n calls) ≡ Some (at p s r n calls)

  -- where a program or a function is carried out: between its start and its end nothing happens on arrival, and at its
  -- start nothing with no result and nothing open; its words are the code's; and jumps are lawful up to its end
  pub record Region (calls : List OpenCall) (start end : ℕ) : Type 0 where
    pub quiet : (p : ℕ) (s : Store) (r : Option Value) (n : List Opened) → start < p → p < end → Calm p s r n calls
    pub first : (s : Store) → start < end → Calm start s None [] calls
    pub inner : end ≤ end_of code (body_of calls)
    pub targets : (p q : ℕ) → start ≤ p → p < q → q ≤ end → is_target code p q ≡ true

  -- before the end of the body of the innermost call nothing happens
  calm_in : (o : OpenCall) (calls : List OpenCall) (p : ℕ) (s : Store) (r : Option Value) (n : List Opened)
      → p < end_of code (o.function + 1) → Calm p s r n (o ∷ calls)
  calm_in o calls p s r n h =
      ap
      (λ b. cond b
      (option_and_then (λ back. landed code back s (left_by code s o.function) o.nesting calls) (if_closed n o.back))
      (Some (at p s r n (o ∷ calls))))
      (unequal p (end_of code (o.function + 1)) h)

  pub in_body : (o : OpenCall) (calls : List OpenCall) (start : ℕ)
      → ((p q : ℕ) → start ≤ p → p < q → q ≤ end_of code (o.function + 1) → is_target code p q ≡ true)
      → Region (o ∷ calls) start (end_of code (o.function + 1))
  in_body o calls start lawful =
      record {
        quiet = λ p s r n l h. calm_in o calls p s r n h;
        first = λ s h. calm_in o calls start s None [] h;
        inner = omega arith;
        targets = lawful;
      }

  -- outside of calls nothing happens where no program and no function begins and the programs do not end
  calm_out : (p : ℕ) (s : Store) (r : Option Value) (n : List Opened) → is_start code p ≡ false → p < end_of code 0
      → Calm p s r n []
  calm_out p s r n h lt =
      ap
      (λ b. cond b (if_closed n (at p s None n []))
      (cond (p == end_of code 0) (if_closed n (at p s r n [])) (Some (at p s r n []))))
      h
      ∙ ap (λ b. cond b (if_closed n (at p s r n [])) (Some (at p s r n []))) (unequal p (end_of code 0) lt)

  -- nor at a start with no result and nothing open
  pub calm_start : (p : ℕ) (s : Store) → Calm p s None [] []
  calm_start p s = by (is_start code p) (p == end_of code 0)
    where
      by : (b c : Bool)
          → cond b (Some (at p s None [] [])) (cond c (Some (at p s None [] [])) (Some (at p s None [] [])))
          ≡ Some (at p s None [] [])
      by true c = refl
      by false true = refl
      by false false = refl

  pub in_program : (start end : ℕ) → ((p : ℕ) → start < p → p < end → is_start code p ≡ false)
      → end ≤ end_of code 0
      → ((p q : ℕ) → start ≤ p → p < q → q ≤ end → is_target code p q ≡ true) → Region [] start end
  in_program start end none_between within lawful =
      record {
        quiet = λ p s r n l h. calm_out p s r n (none_between p l h) (omega arith);
        first = λ s h. calm_start start s;
        inner = within;
        targets = lawful;
      }

  module _ (calls : List OpenCall) (start end : ℕ) (region : Region calls start end) where
    word_there : (p : ℕ) (s : Store) (r : Option Value) (n : List Opened) (w : Word) → p < end
        → slice_get code.instructions p ≡ Some w → word_at code (at p s r n calls) ≡ Some w
    word_there p s r n w lt is =
        let inner = region.inner in
        ap (λ b. cond b (slice_get code.instructions p) None) (less p (end_of code (body_of calls)) (omega arith)) ∙ is

    does_there : (p : ℕ) (s : Store) (r : Option Value) (n : List Opened) (w : Word) → p < end
        → slice_get code.instructions p ≡ Some w
        → step code (at p s r n calls) ≡ option_and_then (entered code) (effect code (at p s r n calls) w)
    does_there p s r n w lt is = ap (step_by code (at p s r n calls)) (word_there p s r n w lt is)

    pub one_word : (p : ℕ) (s : Store) (r : Option Value) (n : List Opened) (d : Configuration) (w : Word)
        → p < end → Calm p s r n calls → slice_get code.instructions p ≡ Some w
        → effect code (at p s r n calls) w ≡ Some d → Reaches (at p s r n calls) d
    one_word p s r n d w lt calm is e =
        let c = at p s r n calls in
        record {
          from = λ f q.
              record {
                first = c;
                is = calm;
                leads = one (step code) c f (does_there p s r n w lt is ∙ (ap (option_and_then (entered code)) e ∙ q));
              };
        }

    pub stuck_here : (p : ℕ) (s : Store) (r : Option Value) (n : List Opened) (w : Word) → p < end
        → Calm p s r n calls → slice_get code.instructions p ≡ Some w → effect code (at p s r n calls) w ≡ None
        → Stuck (at p s r n calls)
    stuck_here p s r n w lt calm is e =
        let c = at p s r n calls in
        record {
          first = c;
          is = calm;
          last = c;
          leads = none (step code) c;
          none_on = does_there p s r n w lt is ∙ ap (option_and_then (entered code)) e;
          word = w;
          stands = word_there p s r n w lt is;
        }
