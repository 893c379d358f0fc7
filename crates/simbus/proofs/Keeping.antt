-- What a simulated bus keeps of the frames is that of the list of them, frame by frame.
use Rattle.std.proofs.Common.{◌≡◌, ℕ, ◌+◌, ◌%◌, List, [], ◌∷◌, ◌++◌, map, Bool, true, false, cond, refl, sym, ◌∙◌, ap}
use Rattle.std.proofs.Common.{subst, arith}
use Rattle.std.specs.Prelude.{Option, Some, None, option_map, find, reverse, ◌==◌, not}
use Rattle.std.specs.List.{filter_map}
use Rattle.std.proofs.lemmas.Bool.{eqb-true}
use Rattle.std.proofs.lemmas.Bool.Decides.{nat_tests}
use Rattle.std.proofs.lemmas.List.{append-nil, map-id, reverse-append}
use Rattle.daliframe.specs.declared.forward.Frame.{Frame}
use Rattle.daliframe.specs.declared.forward.Frame.TheVariants.{Forward16, Forward24}
use Rattle.daliframe.specs.declared.forward16.Fields16.{Fields16}
use Rattle.daliframe.specs.declared.forward24.Fields24.{Fields24}
use Rattle.daliframe.specs.Frames.{HasFields16, HasFields24}
use Rattle.buslink.specs.declared.marks.Sent.{Sent}
use Rattle.simbus.specs.declared.gears.Gear.{Gear}
use Rattle.simbus.specs.declared.instances.InputInstance.{InputInstance}
use Rattle.simbus.specs.declared.gears.MemoryByte.{MemoryByte}
use Rattle.simbus.specs.declared.equipment.LiveGear.{LiveGear}
use Rattle.simbus.specs.declared.equipment.LiveInstance.{LiveInstance}
use Rattle.simbus.specs.declared.equipment.Equipment.{Equipment}
use Rattle.simbus.specs.FrameFields.{fields_of, device_fields_of}
use Rattle.simbus.specs.Answers.{reply_of}
use Rattle.simbus.specs.Histories.{Setup, is_reached, same_frame, run_of, is_pair, device_dtr0, answer_of}
use Rattle.simbus.specs.Histories.{gear_variables, variables_at, instance_variables, is_instance, instance_variables_at}
use Rattle.simbus.specs.Histories.{IsReachedBy, IsMissedBy}
use Rattle.simbus.specs.Instances.{dtr0_after_fields}
use Rattle.simbus.specs.Kept.{live_gear, live_instance, gear_after_fields, live_instance_after_fields, live_answer}
use Rattle.simbus.specs.Kept.{
  live_instance_answer,
  is_begun,
  setup_of,
  IsEquipmentOf,
  IsAfterGearFields,
  IsAfterDeviceFields,
}
use Rattle.simbus.proofs.Fields.{fields_of-is, device_fields_of-is}
use Rattle.simbus.proofs.Steps.{map_through, map_same, filter_map_through, filter_map_none}

-- equal frames are one
same_frame-is : (a b : Frame) → same_frame a b ≡ true → a ≡ b
same_frame-is (Forward16 a) (Forward16 b) e = ap Forward16 (eqb-true a b e)
same_frame-is (Forward16 a) (Forward24 b) e = absurd cc
same_frame-is (Forward24 a) (Forward16 b) e = absurd cc
same_frame-is (Forward24 a) (Forward24 b) e = ap Forward24 (eqb-true a b e)

next_place : (n : ℕ) → ((n + 1 + 1) % 2 == 0) ≡ not ((n + 1) % 2 == 0)
next_place n = grind (arith, nat_tests)

-- the frame that began a pair, one frame later: same says whether that frame is the one asked for
begun_by : (same paired : Bool) (first frame : Frame) (n : ℕ) → same_frame first frame ≡ same
    → (same ≡ true → paired ≡ ((n + 1) % 2 == 0)) →
    is_begun (cond paired None (Some first)) frame ≡ ((cond same (n + 1) 0 + 1) % 2 == 0)
begun_by false false first frame n e h = e
begun_by false true first frame n e h = refl
begun_by true false first frame n e h = rw (next_place n, ← h refl) e
begun_by true true first frame n e h = rw (next_place n, ← h refl) refl

begun_step : (begun : Option Frame) (s : Sent) (h : List Sent) → is_reached s.mark ≡ true
    → ((f : Frame) → is_begun begun f ≡ is_pair f h) →
    (f : Frame) → is_begun (cond (is_begun begun s.frame) None (Some s.frame)) f ≡ is_pair f (s ∷ h)
begun_step begun s h r before f =
    rw r (begun_by (same_frame s.frame f) (is_begun begun s.frame) s.frame f (run_of f h) refl
    (λ e. ap (is_begun begun) (same_frame-is s.frame f e) ∙ before f))

gear_step : (s : Sent) (h : List Sent) (n : ℕ) → s.frame ≡ Forward16 n → is_reached s.mark ≡ true → (g : Gear) →
    gear_after_fields (is_pair (Forward16 n) h) (fields_of n) (live_gear h g) ≡ live_gear (s ∷ h) g
gear_step s h n e r g = rw (r, e) refl

gear_rest : (s : Sent) (h : List Sent) (n : ℕ) → s.frame ≡ Forward24 n → is_reached s.mark ≡ true → (g : Gear)
    → live_gear h g ≡ live_gear (s ∷ h) g
gear_rest s h n e r g = rw (r, e) refl

instance_step : (s : Sent) (h : List Sent) (n : ℕ) → s.frame ≡ Forward24 n → is_reached s.mark ≡ true
    → (i : InputInstance) →
    live_instance_after_fields (is_pair (Forward24 n) h) (device_dtr0 h) (device_fields_of n) (live_instance h i)
    ≡ live_instance (s ∷ h) i
instance_step s h n e r i = rw (r, e) refl

instance_rest : (s : Sent) (h : List Sent) (n : ℕ) → s.frame ≡ Forward16 n → is_reached s.mark ≡ true
    → (i : InputInstance)
    → live_instance h i ≡ live_instance (s ∷ h) i
instance_rest s h n e r i = rw (r, e) refl

dtr0_step : (s : Sent) (h : List Sent) (n : ℕ) → s.frame ≡ Forward24 n → is_reached s.mark ≡ true →
    dtr0_after_fields (device_fields_of n) (device_dtr0 h) ≡ device_dtr0 (s ∷ h)
dtr0_step s h n e r = rw (r, e) refl

dtr0_rest : (s : Sent) (h : List Sent) (n : ℕ) → s.frame ≡ Forward16 n → is_reached s.mark ≡ true
    → device_dtr0 h ≡ device_dtr0 (s ∷ h)
dtr0_rest s h n e r = rw (r, e) refl

-- a 16-bit frame reached the bus
pub taken16 : (setup : Setup) (h : List Sent) (s : Sent) (n : ℕ) (fields : Fields16) (paired : Bool)
    (begun : Option Frame) (old new : Equipment) →
    IsReachedBy (Forward16 n) s → HasFields16 fields n → paired ≡ is_begun old.begun (Forward16 n) → begun
    ≡ cond paired None (Some (Forward16 n)) →
    IsAfterGearFields paired fields (record old { begun = begun }) new → IsEquipmentOf setup h old
    → IsEquipmentOf setup (s ∷ h) new
taken16 setup h s n fields paired begun old new reached said p b after kept =
    let pairs : paired ≡ is_pair (Forward16 n) h = p ∙ kept.begun (Forward16 n) in
    let says : fields ≡ fields_of n = fields_of-is fields n said in
    let first : is_begun old.begun s.frame ≡ paired = ap (is_begun old.begun) reached.0 ∙ sym p in
    record {
      gears = after.gears ∙ (rw (pairs, says, kept.gears)
          (map_through (gear_after_fields (is_pair (Forward16 n) h) (fields_of n)) (live_gear h)
          (live_gear (s ∷ h)) setup.gears (gear_step s h n reached.0 reached.1)));
      memory = after.memory ∙ kept.memory;
      instances = after.instances
          ∙ (kept.instances ∙ map_same (live_instance h) (live_instance (s ∷ h)) setup.instances
          (instance_rest s h n reached.0 reached.1));
      dtr0 = after.dtr0 ∙ (kept.dtr0 ∙ dtr0_rest s h n reached.0 reached.1);
      begun = λ f. ap (λ (o : Option Frame). is_begun o f) (after.begun ∙ (b ∙ (rw (← first, ← reached.0) refl)))
          ∙ begun_step old.begun s h reached.1 kept.begun f;
    }

-- a 24-bit frame reached the bus
pub taken24 : (setup : Setup) (h : List Sent) (s : Sent) (n : ℕ) (fields : Fields24) (paired : Bool)
    (begun : Option Frame) (old new : Equipment) →
    IsReachedBy (Forward24 n) s → HasFields24 fields n → paired ≡ is_begun old.begun (Forward24 n) → begun
    ≡ cond paired None (Some (Forward24 n)) →
    IsAfterDeviceFields paired fields (record old { begun = begun }) new → IsEquipmentOf setup h old
    → IsEquipmentOf setup (s ∷ h) new
taken24 setup h s n fields paired begun old new reached said p b after kept =
    let pairs : paired ≡ is_pair (Forward24 n) h = p ∙ kept.begun (Forward24 n) in
    let says : fields ≡ device_fields_of n = device_fields_of-is fields n said in
    let first : is_begun old.begun s.frame ≡ paired = ap (is_begun old.begun) reached.0 ∙ sym p in
    record {
      gears = after.gears
          ∙ (kept.gears ∙ map_same (live_gear h) (live_gear (s ∷ h)) setup.gears (gear_rest s h n reached.0 reached.1));
      memory = after.memory ∙ kept.memory;
      instances = after.instances ∙ (rw (pairs, says, kept.instances, kept.dtr0)
          (map_through (live_instance_after_fields (is_pair (Forward24 n) h) (device_dtr0 h) (device_fields_of n))
          (live_instance h) (live_instance (s ∷ h)) setup.instances (instance_step s h n reached.0 reached.1)));
      dtr0 = after.dtr0 ∙ (rw (says, kept.dtr0) (dtr0_step s h n reached.0 reached.1));
      begun = λ f. ap (λ (o : Option Frame). is_begun o f) (after.begun ∙ (b ∙ (rw (← first, ← reached.0) refl)))
          ∙ begun_step old.begun s h reached.1 kept.begun f;
    }

-- a frame reached nobody
pub missed : (setup : Setup) (h : List Sent) (s : Sent) (old : Equipment) → IsMissedBy s → IsEquipmentOf setup h old
    → IsEquipmentOf setup (s ∷ h) (record old { begun = None })
missed setup h s old m kept = record {
  gears = kept.gears ∙ map_same (live_gear h) (live_gear (s ∷ h)) setup.gears (λ g. rw m refl);
  memory = kept.memory;
  instances = kept.instances ∙ map_same (live_instance h) (live_instance (s ∷ h)) setup.instances (λ i. rw m refl);
  dtr0 = kept.dtr0 ∙ (rw m refl);
  begun = λ f. rw m refl;
}

pub replied16 : (setup : Setup) (h : List Sent) (n : ℕ) (fields : Fields16) (e : Equipment) → HasFields16 fields n
    → IsEquipmentOf setup h e →
    reply_of (filter_map (live_answer e.memory.items fields) e.gears.items) ≡ answer_of setup h (Forward16 n)
replied16 setup h n fields e said kept =
    let says : fields ≡ fields_of n = fields_of-is fields n said in
    rw (
      says,
      kept.memory,
      kept.gears,
      filter_map_through (live_answer setup.memory (fields_of n)) (live_gear h) setup.gears,
      filter_map_none {Y = ℕ} setup.instances,
      append-nil,
    ) refl

pub replied24 : (setup : Setup) (h : List Sent) (n : ℕ) (fields : Fields24) (e : Equipment) → HasFields24 fields n
    → IsEquipmentOf setup h e →
    reply_of (filter_map (live_instance_answer fields) e.instances.items) ≡ answer_of setup h (Forward24 n)
replied24 setup h n fields e said kept =
    let says : fields ≡ device_fields_of n = device_fields_of-is fields n said in
    rw (
      says,
      kept.instances,
      filter_map_through (live_instance_answer (device_fields_of n)) (live_instance h) setup.instances,
      filter_map_none {Y = ℕ} setup.gears,
    ) refl

pub setup_kept : (setup : Setup) (h : List Sent) (e : Equipment) → IsEquipmentOf setup h e → setup_of e ≡ setup
setup_kept setup h e k =
    let gears : map (λ (live : LiveGear). live.gear) e.gears.items ≡ setup.gears =
    rw k.gears (map_through (λ (live : LiveGear). live.gear) (live_gear h) (λ (g : Gear). g) setup.gears
    (λ g. refl) ∙ map-id setup.gears) in
    let instances : map (λ (live : LiveInstance). live.instance) e.instances.items ≡ setup.instances =
    rw k.instances (map_through (λ (live : LiveInstance). live.instance) (live_instance h)
    (λ (i : InputInstance). i) setup.instances (λ i. refl) ∙ map-id setup.instances) in
    let memory : e.memory.items ≡ setup.memory = k.memory in
    ap (λ (x : List Gear). record {
      gears = x;
      memory = e.memory.items;
      instances = map
          (λ (live : LiveInstance). live.instance) e.instances.items;
    }) gears
    ∙ (ap (λ (x : List MemoryByte). record {
      gears = setup.gears;
      memory = x;
      instances = map
          (λ (live : LiveInstance). live.instance) e.instances.items;
    }) memory
    ∙ ap (λ (x : List InputInstance). record { gears = setup.gears; memory = setup.memory; instances = x }) instances)

-- one frame more keeps what was declared
pub setup_stays : (e new : Equipment) (s : Sent) (h : List Sent) → IsEquipmentOf (setup_of e) (s ∷ h) new
    → setup_of new ≡ setup_of e
setup_stays e new s h k = setup_kept (setup_of e) (s ∷ h) new k

-- what is kept is that of the frames that were sent, first to last
pub kept_sent : (setup : Setup) (h sent : List Sent) (e : Equipment) → IsEquipmentOf setup h e → reverse sent ≡ h
    → IsEquipmentOf (setup_of e) (reverse sent) e
kept_sent setup h sent e k same =
    let K : Setup → List Sent → Type 0 = λ x y. IsEquipmentOf x y e in
    subst (λ (x : Setup). K x (reverse sent)) (sym (setup_kept setup h e k))
    (subst (λ (y : List Sent). K setup y) (sym same) k)

pub sent_more : (sent new : List Sent) (s : Sent) → new ≡ sent ++ s ∷ [] → reverse new ≡ s ∷ reverse sent
sent_more sent new s e = rw (e, reverse-append) refl

found_or : (b : Bool) (h : List Sent) (g : Gear) (x : Option LiveGear) (y : Option Gear) →
    option_map (λ (live : LiveGear). live.variables) x ≡ option_map (λ (gear : Gear). gear_variables gear h) y →
    option_map (λ (live : LiveGear). live.variables) (cond b (Some (live_gear h g)) x) ≡ option_map
    (λ (gear : Gear). gear_variables gear h) (cond b (Some g) y)
found_or false h g x y e = e
found_or true h g x y e = refl

found : (h : List Sent) (address : ℕ) (gears : List Gear) →
    option_map (λ (live : LiveGear). live.variables)
    (find (λ (live : LiveGear). live.gear.address == address) (map (live_gear h) gears))
    ≡ option_map (λ (gear : Gear). gear_variables gear h)
    (find (λ (gear : Gear). gear.address == address) gears)
found h address [] = refl
found h address (g ∷ gears) = found_or (g.address == address) h g _ _ (found h address gears)

found_instance_or : (b : Bool) (h : List Sent) (i : InputInstance) (x : Option LiveInstance)
    (y : Option InputInstance) →
    option_map (λ (live : LiveInstance). live.variables) x ≡ option_map
    (λ (instance : InputInstance). instance_variables instance h) y →
    option_map (λ (live : LiveInstance). live.variables) (cond b (Some (live_instance h i)) x)
    ≡ option_map (λ (instance : InputInstance). instance_variables instance h) (cond b (Some i) y)
found_instance_or false h i x y e = e
found_instance_or true h i x y e = refl

instance_found : (h : List Sent) (address number : ℕ) (instances : List InputInstance) →
    option_map (λ (live : LiveInstance). live.variables)
    (find (λ (live : LiveInstance). is_instance address number live.instance) (map (live_instance h) instances))
    ≡ option_map (λ (instance : InputInstance). instance_variables instance h)
    (find (is_instance address number) instances)
instance_found h address number [] = refl
instance_found h address number (i ∷ instances) =
    found_instance_or (is_instance address number i) h i _ _ (instance_found h address number instances)

pub found_instance : (setup : Setup) (h : List Sent) (e : Equipment) (address number : ℕ) → IsEquipmentOf setup h e →
    option_map (λ (live : LiveInstance). live.variables)
    (find (λ (live : LiveInstance). is_instance address number live.instance) e.instances.items)
    ≡ instance_variables_at setup h address number
found_instance setup h e address number k = rw k.instances (instance_found h address number setup.instances)

pub found_gear : (setup : Setup) (h : List Sent) (e : Equipment) (address : ℕ) → IsEquipmentOf setup h e →
    option_map (λ (live : LiveGear). live.variables)
    (find (λ (live : LiveGear). live.gear.address == address) e.gears.items) ≡ variables_at setup h address
found_gear setup h e address k = rw k.gears (found h address setup.gears)
