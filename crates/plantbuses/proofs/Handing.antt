-- What is kept of the buses once a transaction was handed out.
use Rattle.std.proofs.Common.{◌≡◌, ◌≢◌, ⊎_elim, eqb, ℕ, ◌<◌, ◌≤◌, Bool, true, false, ◌&&◌, List, ◌∷◌}
use Rattle.std.proofs.Common.{length, drop, Some, refl, sym, ap, ◌∙◌, subst, length-set, arith}
use Rattle.std.proofs.lemmas.Bool.{eq-eqb, ne_eqb, and_left}
use Rattle.std.proofs.lemmas.Bool.Decides.{eqb_tells}
use Rattle.std.proofs.lemmas.List.{get_or-set_same, get_or-set_other}
use Rattle.std.specs.Prelude.{if◌then◌else◌, slice_set, slice_index_or}
use Rattle.gearcmd.specs.FrameLists.{FrameList}
use Rattle.busqueue.specs.declared.class.Class.{Class}
use Rattle.busqueue.specs.Queues.{class_number}
use Rattle.plantevents.specs.declared.event.Event.{Event}
use Rattle.plantevents.specs.declared.event.Event.TheVariants.{Hand}
use Rattle.plantevents.specs.declared.event.Origin.{Origin}
use Rattle.plantevents.specs.declared.event.Origin.TheVariants.{Queued, Output}
use Rattle.plantevents.specs.Plants.{Plant}
use Rattle.plantevents.specs.Histories.{hand}
use Rattle.plantevents.specs.Waiting.{waiting, is_queued, is_output_at, level_by, handed_level}
use Rattle.plantbuses.specs.declared.next.Next.{Next}
use Rattle.plantbuses.specs.KeptSteps.{KeptBus, BusFollows, BusesFollow, bus_at, no_bus}
use Rattle.plantbuses.specs.HandingSteps.{is_taken_by, is_taken, levels_after, hand_of, transaction_by, IsOfClass}
use Rattle.plantbuses.specs.HandingSteps.{IsAfterHand}

turned : (a b : ℕ) → eqb a b ≡ eqb b a
turned a b =
    ⊎_elim
    (λ (k : (eqb a b ≡ true) × (a ≡ b)). k.0 ∙ (sym (eq-eqb a a refl) ∙ ap (λ n. eqb n a) k.1))
    (λ (k : (eqb a b ≡ false) × (a ≢ b)). k.0 ∙ sym (ne_eqb b a (λ e. k.1 (sym e))))
    (eqb_tells a b)

-- which queue it is taken from
queue_is : (class c : Class) (origin : Origin)
    → is_taken_by class origin c ≡ is_queued (class_number c) origin (transaction_by class origin)
queue_is class c (Queued request) = turned (class_number c) (class_number class)
queue_is class c (Output address level) = refl

here_is : (b : ℕ) (t : Bool) → (eqb b b && t) ≡ t
here_is b t = ap (λ s. s && t) (eq-eqb b b refl)

long_after : (origin : Origin) (levels : List ℕ) → length (levels_after origin levels) ≡ length levels
long_after (Queued request) levels = refl
long_after (Output address level) levels = length-set levels address level

level_after : (origin : Origin) (levels : List ℕ) (a : ℕ) (class : Class) → IsOfClass class origin
    → length levels ≡ 81
    → slice_index_or (levels_after origin levels) a 255
    ≡ (if is_output_at a origin then level_by origin else slice_index_or levels a 255)
level_after (Queued request) levels a class fits long = refl
level_after (Output address level) levels a class fits long =
    let reach : address ≤ 80 = fits.0 in
    ⊎_elim
    (λ (k : (eqb address a ≡ true) × (address ≡ a)).
    ap (λ n. slice_index_or (slice_set levels address level) n 255) (sym k.1)
    ∙ (get_or-set_same levels address level 255 (omega arith)
    ∙ sym (ap (λ (t : Bool). if t then level else slice_index_or levels a 255) k.0)))
    (λ (k : (eqb address a ≡ false) × (address ≢ a)).
    get_or-set_other levels address a level 255 (λ e. k.1 (sym e))
    ∙ sym (ap (λ (t : Bool). if t then level else slice_index_or levels a 255) k.0))
    (eqb_tells address a)

pub bus_handed : (p : Plant) (b : ℕ) (h : List Event) (place : ℕ) (next : Next) (before after : KeptBus)
    → IsAfterHand place next before after → IsOfClass next.class next.origin → place ≡ length h
    → BusFollows p b h before
    → BusFollows p b (Hand b next.origin (transaction_by next.class next.origin) ∷ h) after
bus_handed p b h place next before after is fits at follows =
    let o = next.origin in let t = transaction_by next.class o in record {
      down_so = is.down_same ∙ follows.down_so;
      handed = is.handed
          ∙ (ap (λ n. Some (hand_of n next)) at
          ∙ sym (ap (λ (s : Bool). if s then Some (hand_of (length h) next) else hand b h) (eq-eqb b b refl)));
      waits = λ c. is.waits c
          ∙ (ap (λ q. if is_taken next c then drop 1 q else q) (follows.waits c)
          ∙ ap (λ (s : Bool). if s then drop 1 (waiting p b (class_number c) h) else waiting p b (class_number c) h)
          (queue_is next.class c o ∙ sym (here_is b (is_queued (class_number c) o t))));
      drops = λ c. is.drops c ∙ follows.drops c;
      addresses = ap length is.levels_so ∙ (long_after o before.levels ∙ follows.addresses);
      levels = λ a lt. ap (λ ls. slice_index_or ls a 255) is.levels_so
          ∙ (level_after o before.levels a next.class fits follows.addresses
          ∙ (ap (λ n. if is_output_at a o then level_by o else n) (follows.levels a lt)
          ∙ ap (λ (s : Bool). if s then level_by o else handed_level b a h) (sym (here_is b (is_output_at a o)))));
      framed = is.frames_same ∙ follows.framed;
      hears = is.heards_same ∙ follows.hears;
    }

-- the other buses stay as they are
pub other_bus : (p : Plant) (b c : ℕ) (origin : Origin) (t : FrameList) (h : List Event) (bus : KeptBus) → c ≢ b
    → BusFollows p c h bus → BusFollows p c (Hand b origin t ∷ h) bus
other_bus p b c origin t h bus ne follows =
    let no : eqb b c ≡ false = ne_eqb b c (λ e. ne (sym e)) in record {
      down_so = follows.down_so;
      handed = follows.handed
          ∙ sym (ap (λ (s : Bool). if s then Some (record { place = length h; origin = origin; transaction = t })
          else hand c h) no);
      waits = λ k. follows.waits k
          ∙ sym (ap (λ (s : Bool). if s then drop 1 (waiting p c (class_number k) h) else waiting p c
          (class_number k) h)
          (and_left (eqb b c) (is_queued (class_number k) origin t) no));
      drops = follows.drops;
      addresses = follows.addresses;
      levels = λ a lt. follows.levels a lt
          ∙ sym (ap (λ (s : Bool). if s then level_by origin else handed_level c a h)
          (and_left (eqb b c) (is_output_at a origin) no));
      framed = follows.framed;
      hears = follows.hears;
    }

pub buses_handed : (p : Plant) (b : ℕ) (h : List Event) (place : ℕ) (next : Next) (buses : List KeptBus)
    (after : KeptBus) → b < length buses → IsAfterHand place next (bus_at buses b) after
    → IsOfClass next.class next.origin → BusesFollow p h buses → place ≡ length h
    → BusesFollow p (Hand b next.origin (transaction_by next.class next.origin) ∷ h) (slice_set buses b after)
buses_handed p b h place next buses after lt is fits follows at =
    let t = transaction_by next.class next.origin in (
      length-set buses b after ∙ follows.0,
      λ c below.
          ⊎_elim
          (λ (k : (eqb c b ≡ true) × (c ≡ b)).
          subst (λ (n : ℕ). BusFollows p n (Hand b next.origin t ∷ h) (bus_at (slice_set buses b after) n)) (sym k.1)
          (subst (BusFollows p b (Hand b next.origin t ∷ h)) (sym (get_or-set_same buses b after no_bus lt))
          (bus_handed p b h place next (bus_at buses b) after is fits at
          (follows.1 b (let e = follows.0 in omega arith)))))
          (λ (k : (eqb c b ≡ false) × (c ≢ b)).
          subst (BusFollows p c (Hand b next.origin t ∷ h)) (sym (get_or-set_other buses b c after no_bus k.1))
          (other_bus p b c next.origin t h (bus_at buses c) k.1 (follows.1 c below)))
          (eqb_tells c b),
    )
