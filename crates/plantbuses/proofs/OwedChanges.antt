-- Which levels are owed after one event more.
use Rattle.std.proofs.Common.{◌≡◌, ⊎_elim, ℕ, zero, ◌<◌, Bool, true, false, eqb, ◌&&◌, List, [], ◌∷◌, length}
use Rattle.std.proofs.Common.{◌≢◌, Option, Some, None, refl, sym, ap, ◌∙◌, subst, length-set}
use Rattle.std.proofs.lemmas.List.{get_or-set_same}
use Rattle.std.proofs.lemmas.Bool.{and_parts, and_from, and_left, and_right, eq-eqb, eqb-true, or_parts, both_ways}
use Rattle.std.proofs.lemmas.Bool.Decides.{eqb_tells}
use Rattle.std.specs.Prelude.{◌==◌, if◌then◌else◌, is_some, slice_get, slice_set, option_and_then}
use Rattle.std.specs.Int.{bit_at}
use Rattle.iltypes.specs.declared.value.Value.{Value}
use Rattle.gearcmd.specs.declared.requests.Answerer.{Answerer}
use Rattle.gearcmd.specs.declared.requests.Answerer.TheVariants.{Gear, Instance}
use Rattle.gearcmd.specs.declared.requests.Request.{Request}
use Rattle.gearcmd.specs.FrameLists.{FrameList}
use Rattle.buslink.specs.declared.marks.Outcome.{Outcome}
use Rattle.buslink.specs.Attempts.{ReportParts}
use Rattle.busqueue.specs.declared.class.Class.{Class}
use Rattle.busqueue.specs.Queues.{class_number}
use Rattle.ilplan.specs.declared.global.Global.{Global as GlobalVariable}
use Rattle.ilplan.specs.declared.global.Location.{Location}
use Rattle.ilplan.specs.declared.global.Location.TheVariants.{Level}
use Rattle.ilplan.specs.Plans.{Planned}
use Rattle.ilmachine.specs.declared.external.External.{External}
use Rattle.ilmachine.specs.Images.{TaskLayout, Global}
use Rattle.plantevents.specs.Scans.{Scan}
use Rattle.plantevents.specs.declared.event.Origin.{Origin}
use Rattle.plantevents.specs.declared.event.Origin.TheVariants.{Queued, Output}
use Rattle.plantevents.specs.declared.event.Event.{Event}
use Rattle.plantevents.specs.declared.event.Event.TheVariants.{Heard, Commit, Hand, Done}
use Rattle.plantevents.specs.Plants.{Plant, location, output_at, layout}
use Rattle.plantevents.specs.Histories.{OpenScan, OpenHand, scan, hand}
use Rattle.plantevents.specs.Variables.{value, whole, newest, write_of, heard_write, report_write, answerer_by}
use Rattle.plantevents.specs.Variables.{is_answer_of, outcome_value, stored_value, scan_write, commit_write}
use Rattle.plantevents.specs.Waiting.{OwedLevel, Handout, handouts, owed, owed_at, owed_by, level_class, if_new}
use Rattle.plantevents.specs.Waiting.{natural_in, handed_level, is_output_at, level_by, request_handout, level_handout}
use Rattle.plantevents.specs.Waiting.{waiting}
use Rattle.plantevents.proofs.Handing.{handout_first}
use Rattle.plantevents.proofs.Owing.{has_owed}
use Rattle.plantbuses.specs.declared.owed.OwedLevels.{OwedLevels}
use Rattle.plantbuses.specs.AddressSets.{one_if}
use Rattle.plantbuses.specs.OutputSteps.{place_in, is_at}
use Rattle.plantbuses.specs.OwedSteps.{addresses_of, owed_on, no_levels, OwesAt, OwedFollow}
use Rattle.plantbuses.specs.StoreSteps.{store_place, stores_at, OwedBeside, externals_by, externals_at}
use Rattle.plantbuses.proofs.OwedBits.{noted_others}
use Rattle.plantbuses.proofs.OwedAt.{located}

-- ---- what stays

-- what is owed at an address stays, where its variable is not written and no level of it is handed out
pub owed_stays : (p : Plant) (b c a : ℕ) (e : Event) (h : List Event)
    → ((g : ℕ) → location p g ≡ Some (Level b a) → write_of p (Global g) e h ≡ None)
    → handed_level b a (e ∷ h) ≡ handed_level b a h
    → owed_at p b c (e ∷ h) a ≡ owed_at p b c h a
owed_stays p b c a e h unwritten handed =
    elim (output_at p b a) as (λ (o : Option ℕ). output_at p b a ≡ o
    → option_and_then (owed_by p b c a (e ∷ h)) o ≡ option_and_then (owed_by p b c a h) o) [
      | None ↦ λ none. refl
      | Some g ↦ λ there.
          ap (λ (v : Option Value). if level_class p g == c
          then option_and_then (if_new (handed_level b a (e ∷ h)) a) (natural_in (newest v (value p (Global g) h)))
          else None) (unwritten g (located p b a g there))
          ∙ ap (λ (n : ℕ). if level_class p g == c
          then option_and_then (if_new n a) (natural_in (value p (Global g) h)) else None) handed
    ] refl

still : (p : Plant) (e : Event) (h : List Event) (owed : List OwedLevels)
    → ((b c a : ℕ) → owed_at p b c (e ∷ h) a ≡ owed_at p b c h a) → OwedFollow p h owed → OwedFollow p (e ∷ h) owed
still p e h owed same follows = (
  follows.0,
  λ b lt class a low. follows.1 b lt class a low
      ∙ sym (ap (λ (o : Option OwedLevel). one_if (is_some o)) (same b (class_number class) a)),
)

-- a frame that is heard writes to no level
pub owed_heard : (p : Plant) (d f : ℕ) (h : List Event) (owed : List OwedLevels) → OwedFollow p h owed
    → OwedFollow p (Heard d f ∷ h) owed
owed_heard p d f h owed =
    still p (Heard d f) h owed
    (λ b c a. owed_stays p b c a (Heard d f) h (λ g at. ap (heard_write p d f h) at) refl)

no_answer_of : (b : ℕ) (o : Option Answerer) (d a : ℕ) → is_answer_of b o (Some (Level d a)) ≡ false
no_answer_of b None d a = refl
no_answer_of b (Some (Gear s)) d a = refl
no_answer_of b (Some (Instance s i)) d a = refl

no_report : (b : ℕ) (result : Outcome) (o : Option OpenHand) (d a : ℕ)
    → report_write b result o (Some (Level d a)) ≡ None
no_report b result None d a = refl
no_report b result (Some handed) d a =
    ap (λ (t : Bool). if t then outcome_value result else None) (no_answer_of b (answerer_by handed.origin) d a)

-- nor does a report: so a level whose transaction gave up is not owed again
pub owed_done : (p : Plant) (d n : ℕ) (r : ReportParts) (h : List Event) (owed : List OwedLevels) → OwedFollow p h owed
    → OwedFollow p (Done d n r ∷ h) owed
owed_done p d n r h owed =
    still p (Done d n r) h owed
    (λ b c a. owed_stays p b c a (Done d n r) h
    (λ g at. ap (report_write d r.outcome (hand d h)) at ∙ no_report d r.outcome (hand d h) b a) refl)

-- ---- what a scan stores

here_stored : (plan : Planned) (b a g : ℕ) (e : External)
    → option_and_then (λ (x : GlobalVariable). x.location) (slice_get plan.globals g) ≡ Some (Level b a)
    → is_at b a (store_place plan e) ≡ false → (eqb e.global g && e.stored) ≡ false
here_stored plan b a g e at none =
    ⊎_elim
    (λ (k : (eqb e.global g ≡ true) × (e.global ≡ g)).
    elim (e.stored) as (λ (s : Bool). is_at b a (if s
    then place_in (option_and_then (λ (x : GlobalVariable). x.location) (slice_get plan.globals e.global)) else None)
    ≡ false → (eqb e.global g && s) ≡ false) [
      | true ↦ λ no.
          let yes = ap (λ (n : ℕ). is_at b a (place_in (option_and_then (λ (x : GlobalVariable). x.location)
          (slice_get plan.globals n)))) k.1
          ∙ (ap (λ (o : Option Location). is_at b a (place_in o)) at
          ∙ and_from (eqb b b) (eqb a a) (eq-eqb b b refl) (eq-eqb a a refl)) in
          absurd (both_ways _ no yes)
      | false ↦ λ no. and_right (eqb e.global g) false refl
    ] none)
    (λ (k : (eqb e.global g ≡ false) × ¬ (e.global ≡ g)). and_left (eqb e.global g) e.stored k.0)
    (eqb_tells e.global g)

not_stored : (plan : Planned) (b a g : ℕ) (externals : List External) (slots : List Value)
    → option_and_then (λ (x : GlobalVariable). x.location) (slice_get plan.globals g) ≡ Some (Level b a)
    → stores_at plan b a externals ≡ false → stored_value g externals slots ≡ None
not_stored plan b a g [] [] at none = refl
not_stored plan b a g [] (v ∷ slots) at none = refl
not_stored plan b a g (e ∷ more) [] at none = refl
not_stored plan b a g (e ∷ more) (v ∷ slots) at none =
    let parts = or_parts (is_at b a (store_place plan e)) (stores_at plan b a more) none in
    ap (λ (t : Bool). if t then Some v else stored_value g more slots) (here_stored plan b a g e at parts.0)
    ∙ not_stored plan b a g more slots at parts.1

not_written : (plan : Planned) (b a g t : ℕ) (task : Option TaskLayout) (slots : List Value)
    → option_and_then (λ (x : GlobalVariable). x.location) (slice_get plan.globals g) ≡ Some (Level b a)
    → stores_at plan b a (externals_by task) ≡ false → option_and_then (scan_write t (Global g) slots) task ≡ None
not_written plan b a g t None slots at none = refl
not_written plan b a g t (Some task) slots at none = not_stored plan b a g task.externals slots at none

-- what a scan's task does not store is owed after it as before
pub owed_beside : (p : Plant) (w n t : ℕ) (running : OpenScan) (result : Scan) (h : List Event) (owed : List OwedLevels)
    → scan w h ≡ Some running → running.task ≡ t → OwedFollow p h owed
    → OwedBeside p (Commit w n result ∷ h) (externals_at (layout p) t) owed
owed_beside p w n t running result h owed busy same follows b class a lt low none =
    let u = running.task in
    let beside = subst (λ (k : ℕ). stores_at p.plan b a (externals_at (layout p) k) ≡ false) (sym same) none in
    follows.1 b lt class a low
    ∙ sym (ap (λ (o : Option OwedLevel). one_if (is_some o))
    (owed_stays p b (class_number class) a (Commit w n result) h
    (λ g at. ap (commit_write p (Global g) result.after.slots) busy
    ∙ not_written p.plan b a g u (slice_get (layout p).tasks u) result.after.slots at beside) refl))

-- ---- what is handed out

-- what is kept once this was handed to bus b: a level is owed no more
pub record IsHanded (b : ℕ) (origin : Origin) (before after : List OwedLevels) : Type 0 where
  pub count : length after ≡ length before
  pub here : (class : Class) (a : ℕ) → a < 81 → is_output_at a origin ≡ true
      → bit_at (addresses_of class (owed_on after b)) a ≡ 0
  pub others : (d : ℕ) (class : Class) (a : ℕ) → a < 81 → (eqb b d && is_output_at a origin) ≡ false
      → bit_at (addresses_of class (owed_on after d)) a ≡ bit_at (addresses_of class (owed_on before d)) a

pub queued_handed : (b : ℕ) (r : Request) (owed : List OwedLevels) → IsHanded b (Queued r) owed owed
queued_handed b r owed =
    record {
      count = refl;
      here = λ class a low is. absurd (cc);
      others = λ d class a low no. refl;
    }

pub output_handed : (b address level : ℕ) (owed : List OwedLevels) (before new : OwedLevels) → b < length owed
    → before ≡ owed_on owed b → ((class : Class) → bit_at (addresses_of class new) address ≡ 0)
    → ((class : Class) (a : ℕ) → a < 81 → a ≢ address
    → bit_at (addresses_of class new) a ≡ bit_at (addresses_of class before) a)
    → IsHanded b (Output address level) owed (slice_set owed b new)
output_handed b address level owed before new lt was none others =
    record {
      count = length-set owed b new;
      here = λ class a low is.
          ap (λ (l : OwedLevels). bit_at (addresses_of class l) a) (get_or-set_same owed b new no_levels lt)
          ∙ subst (λ (n : ℕ). bit_at (addresses_of class new) n ≡ 0) (eqb-true address a is) (none class);
      others = noted_others owed before new b address (Some (b, address)) lt refl was others;
    }

nothing_new : (n a level : ℕ) (v : Option Value) → v ≡ Some (whole level) → n ≡ level → (t : Bool)
    → (if t then option_and_then (if_new n a) (natural_in v) else None) ≡ None
nothing_new n a level v is same false = refl
nothing_new n a level v is same true =
    ap (λ (x : Option Value). option_and_then (if_new n a) (natural_in x)) is
    ∙ ap (λ (s : Bool). if s then None else Some (record { address = a; level = level })) (eq-eqb level n (sym same))

-- the level that was handed out last at its address is its value
level_handed : (p : Plant) (b c d address level : ℕ) (t : FrameList) (h : List Event) (o : OwedLevel)
    → slice_get (owed p b d h) 0 ≡ Some o → Output address level ≡ Output o.address o.level
    → owed_at p b c (Hand b (Output address level) t ∷ h) address ≡ None
level_handed p b c d address level t h o first is =
    let owes = has_owed p b d h o (zero, first) in
    let same_address : address ≡ o.address = cc in
    let same_level : level ≡ o.level = cc in
    let later = Hand b (Output address level) t ∷ h in
    let here = subst (λ (n : ℕ). output_at p b n ≡ Some owes.global) (sym same_address) owes.output in
    let handed : handed_level b address later ≡ o.level =
    ap (λ (s : Bool). if s then level else handed_level b address h)
    (and_from (eqb b b) (eqb address address) (eq-eqb b b refl) (eq-eqb address address refl)) ∙ same_level in
    ap (option_and_then (owed_by p b c address later)) here
    ∙ nothing_new (handed_level b address later) address o.level (value p (Global owes.global) h) owes.is_value handed
    (level_class p owes.global == c)

none_after : (p : Plant) (b c a : ℕ) (origin : Origin) (t : FrameList) (h : List Event)
    → slice_get (handouts p b h) 0 ≡ Some (record { origin = origin; transaction = t })
    → is_output_at a origin ≡ true → owed_at p b c (Hand b origin t ∷ h) a ≡ None
none_after p b c a (Queued r) t h first is = absurd (cc)
none_after p b c a (Output address level) t h first is =
    let handout : Handout = record { origin = Output address level; transaction = t } in
    let next = handout_first p b h handout first in
    let d = next.class in
    let same : address ≡ a = eqb-true address a is in
    subst (λ (n : ℕ). owed_at p b c (Hand b (Output address level) t ∷ h) n ≡ None) same
    (⊎_elim
    (λ (k : (r : Request) × (slice_get (waiting p b d h) 0 ≡ Some r) × (handout ≡ request_handout d r)).
    let no = ap (λ (x : Handout). x.origin) k.2 in absurd (cc))
    (λ (k : (o : OwedLevel) × (waiting p b d h ≡ []) × (slice_get (owed p b d h) 0 ≡ Some o)
    × (handout ≡ level_handout d o)).
    level_handed p b c d address level t h k.0 k.2 (ap (λ (x : Handout). x.origin) k.3))
    next.first)

pub owed_handed : (p : Plant) (b : ℕ) (origin : Origin) (t : FrameList) (h : List Event)
    (before after : List OwedLevels)
    → slice_get (handouts p b h) 0 ≡ Some (record { origin = origin; transaction = t })
    → IsHanded b origin before after → OwedFollow p h before → OwedFollow p (Hand b origin t ∷ h) after
owed_handed p b origin t h before after first handed follows = (
  handed.count ∙ follows.0,
  λ d lt class a low.
      elim (eqb b d && is_output_at a origin) as (λ (s : Bool). (eqb b d && is_output_at a origin) ≡ s
      → OwesAt p d (Hand b origin t ∷ h) (owed_on after d) class a) [
        | true ↦ λ is.
            let parts = and_parts (eqb b d) (is_output_at a origin) is in
            subst (λ (n : ℕ). OwesAt p n (Hand b origin t ∷ h) (owed_on after n) class a) (eqb-true b d parts.0)
            (handed.here class a low parts.1
            ∙ sym (ap (λ (o : Option OwedLevel). one_if (is_some o))
            (none_after p b (class_number class) a origin t h first parts.1)))
        | false ↦ λ no.
            handed.others d class a low no
            ∙ (follows.1 d lt class a low
            ∙ sym (ap (λ (o : Option OwedLevel). one_if (is_some o))
            (owed_stays p d (class_number class) a (Hand b origin t) h (λ g at. refl)
            (ap (λ (s : Bool). if s then level_by origin else handed_level d a h) no))))
      ] refl,
)
