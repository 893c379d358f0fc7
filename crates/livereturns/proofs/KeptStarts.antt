-- The starts of timers are moments of the history: a scan leaves each as it was, or at its own moment.
use Rattle.std.proofs.Common.{◌≡◌, ◌≤◌, ℕ, zero, suc, List, [], ◌∷◌, Bool, true, false, Option, Some, None, refl, sym}
use Rattle.std.proofs.Common.{arith, length, map, subst}
use Rattle.std.specs.Prelude.{IfSome, if◌then◌else◌, option_and_then, option_map, slice_get, ◌==◌}
use Rattle.std.specs.List.{AllZip}
use Rattle.std.proofs.lemmas.Bool.{eqb-true}
use Rattle.iltypes.specs.declared.value.Value.{Value}
use Rattle.iltypes.specs.declared.value.Value.TheVariants as values
use Rattle.iltypes.specs.declared.operator.Operator.TheVariants.{Min, Max}
use Rattle.iltypes.specs.declared.condition.Condition.TheVariants.{IfTrue}
use Rattle.iltypes.specs.Conditions.{holds, chosen}
use Rattle.iltypes.specs.Functions.{modified, value_of_function}
use Rattle.iltypes.specs.Operators.{both}
use Rattle.iltypes.specs.Slots.{stored, written}
use Rattle.ilsource.specs.declared.arguments.Argument.{Argument}
use Rattle.ilsource.specs.declared.instruction.Instruction.{Instruction}
use Rattle.ilsource.specs.declared.instruction.Instruction.TheVariants as instructions
use Rattle.ilsource.specs.declared.instruction.Line.{Line}
use Rattle.ilsource.specs.Meaning.{Access, After, Way, On, To, Out, called, does, given, gives, leaves, line_does}
use Rattle.ilsource.specs.Meaning.{loaded, operand_value, operand_values, passed, value}
use Rattle.ilsource.specs.Passes.{at_end, passes, scan, takes}
use Rattle.ilblocks.specs.declared.kind.BlockKind.{BlockKind}
use Rattle.ilblocks.specs.Calls.{Block, after_call, rises}
use Rattle.ilblocks.specs.Ports.{keeps_start}
use Rattle.ilblocks.specs.Stores as stores
use Rattle.ilblocks.specs.Stores.{Shape, Store, type_of_input, with_input, with_port, with_slot}
use Rattle.ilblocks.proofs.Stores.{and_then_made, map_made, partner_at, set_zip}
use Rattle.ilplan.specs.declared.place.Place.{Place}
use Rattle.ilplan.specs.declared.place.Place.TheVariants as places
use Rattle.ilplan.specs.Plans.{PlannedTask, kinds_of, shape_of}
use Rattle.ilplan.specs.PlanMeaning.{called_place, functions_given, number_same, passed_place, plan_scan, places_of}
use Rattle.ilplan.specs.PlanMeaning.{with_place}
use Rattle.ilplan.proofs.Beginnings.{zip_at}
use Rattle.ilmachine.specs.Verdicts.{Accepted}
use Rattle.ilmachine.specs.Scans.{Scan, store_of}
use Rattle.ilmachine.specs.Snapshots.{ScanStart}
use Rattle.plantevents.specs.declared.event.Event.{Event}
use Rattle.plantevents.specs.declared.event.Event.TheVariants as events
use Rattle.plantevents.specs.Histories as histories
use Rattle.plantevents.specs.Histories.{OpenScan, is_of, moment}
use Rattle.plantevents.specs.Legal.{Allowed, AreLegal, IsCommit, IsTake}
use Rattle.plantevents.specs.Plants.{Plant, first_tasks, task_at}
use Rattle.plantevents.specs.Variables.{blocks}
use Rattle.livekeep.specs.KeptFiles.{most_number}
use Rattle.livekeep.specs.Returns.{IsKeptStart, IsStartBy}

-- ---- options

pub if_at : {A : Type 0} (P : A → Type 0) (o : Option A) (x : A) → o ≡ Some x → IfSome o P → P x
if_at P o x e holds = subst (λ (o : Option _). IfSome o P) e holds

map_if : {A B : Type 0} (f : A → B) (P : B → Type 0) (o : Option A) → ((x : A) → o ≡ Some x → P (f x))
    → IfSome (option_map f o) P
map_if f P None each = tt
map_if f P (Some x) each = each x refl

then_if : {A B : Type 0} (f : A → Option B) (P : B → Type 0) (o : Option A)
    → ((x : A) → o ≡ Some x → IfSome (f x) P) → IfSome (option_and_then f o) P
then_if f P None each = tt
then_if f P (Some x) each = each x refl

-- ---- what lines keep: whatever a store, an argument and a call keep

module _ {N L S : Type 0} (same : L → L → Bool) (a : Access N S) (P : S → Type 0)
    (writes : (s : S) (n : N) (v : Value) → P s → IfSome (a.write s n v) P)
    (hands : (s : S) (n : N) (v : Value) → P s → IfSome (a.pass s n v) P)
    (calls : (s : S) (n : N) → P s → IfSome (a.call s n) P) where
  abbrev Goes : After L S → Type 0
  Goes x = P x.store

  gives_if : (o : Option Value) (s : S) → P s → IfSome (gives {L = L} {S = S} o s) Goes
  gives_if None s is = tt
  gives_if (Some v) s is = is

  leaves_if : (r : Option Value) (o : Option S) → IfSome o P → IfSome (leaves {L = L} {S = S} r o) Goes
  leaves_if r None is = tt
  leaves_if r (Some s) is = is

  chosen_if : (b : Option Bool) (x y : Option (After L S)) → IfSome x Goes → IfSome y Goes
      → IfSome (chosen b x y) Goes
  chosen_if None x y one other = tt
  chosen_if (Some true) x y one other = one
  chosen_if (Some false) x y one other = other

  either_if : (b : Bool) (x y : Option S) → IfSome x P → IfSome y P → IfSome (if b then x else y) P
  either_if true x y one other = one
  either_if false x y one other = other

  passed_if : (xs : List (Argument N)) (s : S) → P s → IfSome (passed a xs s) P
  passed_if [] s is = is
  passed_if (x ∷ xs) s is =
      then_if (passed a xs) P (option_and_then (a.pass s x.port) (operand_value a s x.operand))
      (λ t e.
      let made = and_then_made (a.pass s x.port) (operand_value a s x.operand) t e in
      passed_if xs t (if_at P (a.pass s x.port made.of) t made.makes (hands s x.port made.of is)))

  called_if : (n : N) (xs : List (Argument N)) (s : S) → P s → IfSome (called a n xs s) P
  called_if n xs s is =
      then_if (λ t. a.call t n) P (passed a xs s)
      (λ t e. calls t n (if_at P (passed a xs s) t e (passed_if xs s is)))

  does_if : (i : Instruction N L) (r : Option Value) (s : S) → P s → IfSome (does a i r s) Goes
  does_if (instructions.Load negated o) r s is = gives_if (loaded a s negated o) s is
  does_if (instructions.Apply operator o) r s is = gives_if (both operator r (operand_value a s o)) s is
  does_if (instructions.Deferred operator t close) r s is = gives_if (both operator r (value a s t)) s is
  does_if (instructions.Transform function) r s is =
      gives_if (option_and_then (value_of_function function) r) s is
  does_if (instructions.Limit low high) r s is =
      gives_if (both Min (both Max r (operand_value a s low)) (operand_value a s high)) s is
  does_if (instructions.Store negated n) r s is =
      leaves_if r (option_and_then (a.write s n) (option_and_then (modified negated) r))
      (then_if (a.write s n) P (option_and_then (modified negated) r) (λ v e. writes s n v is))
  does_if (instructions.Set n) r s is =
      chosen_if (holds IfTrue r) _ _
      (leaves_if r (a.write s n (values.Bool true)) (writes s n (values.Bool true) is)) is
  does_if (instructions.Reset n) r s is =
      chosen_if (holds IfTrue r) _ _
      (leaves_if r (a.write s n (values.Bool false)) (writes s n (values.Bool false) is)) is
  does_if (instructions.Jump condition l) r s is = chosen_if (holds condition r) _ _ is is
  does_if (instructions.Return condition) r s is = chosen_if (holds condition r) _ _ is is
  does_if (instructions.Call condition n xs) r s is =
      chosen_if (holds condition r) _ _ (leaves_if None (called a n xs s) (called_if n xs s is)) is
  does_if (instructions.Invoke f os) r s is = gives_if (given a f r (operand_values a s os)) s is

  line_if : (i : Option (Instruction N L)) (r : Option Value) (s : S) → P s → IfSome (line_does a i r s) Goes
  line_if None r s is = is
  line_if (Some i) r s is = does_if i r s is

  end_if : (way : Way L) (s : S) → P s → IfSome (at_end way s) P
  end_if On s is = is
  end_if (To l) s is = tt
  end_if Out s is = is

  passes_if : (lines : List (Line N L)) (way : Way L) (r : Option Value) (s : S) → P s
      → IfSome (passes same a lines way r s) P
  passes_if [] way r s is = end_if way s is
  passes_if (line ∷ lines) way r s is =
      either_if (takes same way line.label) _ _
      (then_if (λ (x : After L S). passes same a lines x.way x.result x.store) P (line_does a line.instruction r s)
      (λ x e.
      passes_if lines x.way x.result x.store
      (if_at Goes (line_does a line.instruction r s) x e (line_if line.instruction r s is))))
      (passes_if lines way r s is)

  scan_if : (programs : List (List (Line N L))) (s : S) → P s → IfSome (scan same a programs s) P
  scan_if [] s is = is
  scan_if (lines ∷ more) s is =
      then_if (scan same a more) P (passes same a lines On None s)
      (λ t e. scan_if more t (if_at P (passes same a lines On None s) t e (passes_if lines On None s is)))

-- ---- a store

abbrev pub HasStart : Block → BlockKind → Type 0
HasStart state kind = IsKeptStart kind state.start

abbrev pub HaveStarts : List BlockKind → List Block → Type 0
HaveStarts kinds states = AllZip HasStart states kinds

record StartsAre (kinds : List BlockKind) (s : Store) : Type 0 where
  states : HaveStarts kinds s.blocks
  early : s.moment ≤ most_number

start_by : (b r : Bool) (now start : ℕ) → now ≤ most_number → IsStartBy b start
    → IsStartBy b (if b then (if r then now else start) else start)
start_by true true now start early is = early
start_by true false now start early is = is
start_by false r now start early is = is

slot_starts : (shape : Shape) (s : Store) (slot : ℕ) (v : Value) → StartsAre shape.kinds s
    → IfSome (with_slot shape s slot v) (StartsAre shape.kinds)
slot_starts shape s slot v is =
    map_if (λ (slots : List Value). record s { slots = slots }) (StartsAre shape.kinds)
    (written shape.slots s.slots slot v) (λ slots e. record { states = is.states; early = is.early })

port_starts : (shape : Shape) (s : Store) (block port : ℕ) (v : Value) → StartsAre shape.kinds s
    → IfSome (with_port shape s block port v) (StartsAre shape.kinds)
port_starts shape s block port v is =
    map_if _ (StartsAre shape.kinds)
    (option_and_then (λ (b : Block). with_input b port v (type_of_input shape block port)) (slice_get s.blocks block))
    (λ (b : Block) e.
    let made = and_then_made (λ (x : Block). with_input x port v (type_of_input shape block port))
    (slice_get s.blocks block) b e in
    let mapped = map_made (λ (ports : List Value). record made.of { ports = ports })
    (stored made.of.ports port v (type_of_input shape block port)) b made.makes in
    let beside = partner_at HasStart s.blocks shape.kinds block made.of is.states made.is in
    record {
      states =
          set_zip HasStart s.blocks shape.kinds block b beside.item is.states beside.is
          (subst (λ (x : Block). HasStart x beside.item) mapped.makes beside.relates);
      early = is.early;
    })

call_starts : (shape : Shape) (s : Store) (block : ℕ) → StartsAre shape.kinds s
    → IfSome (stores.called shape s block) (StartsAre shape.kinds)
call_starts shape s block is =
    then_if (λ (kind : BlockKind). option_map (stores.after_block kind s block) (slice_get s.blocks block))
    (StartsAre shape.kinds) (slice_get shape.kinds block)
    (λ kind at. map_if (stores.after_block kind s block) (StartsAre shape.kinds) (slice_get s.blocks block)
    (λ b there.
    record {
      states =
          set_zip HasStart s.blocks shape.kinds block (after_call kind s.moment b) kind is.states at
          (start_by (keeps_start kind) (rises b) s.moment b.start is.early
          (zip_at HasStart s.blocks shape.kinds block b kind is.states there at));
      early = is.early;
    }))

write_starts : (shape : Shape) (s : Store) (n : Place) (v : Value) → StartsAre shape.kinds s
    → IfSome (with_place shape s n v) (StartsAre shape.kinds)
write_starts shape s (places.Slot slot) v is = slot_starts shape s slot v is
write_starts shape s (places.Port block port) v is = port_starts shape s block port v is
write_starts shape s (places.Block block) v is = tt
write_starts shape s (places.Function number) v is = tt

pass_starts : (shape : Shape) (s : Store) (n : Place) (v : Value) → StartsAre shape.kinds s
    → IfSome (passed_place shape s n v) (StartsAre shape.kinds)
pass_starts shape s (places.Slot slot) v is = tt
pass_starts shape s (places.Port block port) v is = port_starts shape s block port v is
pass_starts shape s (places.Block block) v is = tt
pass_starts shape s (places.Function number) v is = tt

place_starts : (shape : Shape) (s : Store) (n : Place) → StartsAre shape.kinds s
    → IfSome (called_place shape s n) (StartsAre shape.kinds)
place_starts shape s (places.Slot slot) is = tt
place_starts shape s (places.Port block port) is = tt
place_starts shape s (places.Block block) is = call_starts shape s block is
place_starts shape s (places.Function number) is = tt

-- ---- a history

module _ (p : Plant) where
  abbrev scanned : PlannedTask → Store → Option Store
  scanned task s = plan_scan p.plan.buses p.plan.functions task s

  scan_starts : (task : PlannedTask) (s : Store) → StartsAre (kinds_of task) s
      → IfSome (scanned task s) (StartsAre (kinds_of task))
  scan_starts task s is =
      let shape = shape_of p.plan.buses task in
      scan_if number_same (places_of shape (functions_given p.plan.functions)) (StartsAre (kinds_of task))
      (write_starts shape) (pass_starts shape) (place_starts shape) (map (λ i. i.lines) task.instances) s is

  -- the instances of each task, and those of which open scans began
  record Keeps (h : List Event) : Type 0 where
    states : (t : ℕ) (task : PlannedTask) → task_at p t ≡ Some task
        → IfSome (blocks p t h) (HaveStarts (kinds_of task))
    begun : (w : ℕ) (running : OpenScan) (task : PlannedTask) → histories.scan w h ≡ Some running
        → task_at p running.task ≡ Some task → StartsAre (kinds_of task) (store_of running.snapshot)

  taken_is : (place t : ℕ) (s : ScanStart) (running : OpenScan)
      → Some (record { place = place; task = t; snapshot = s }) ≡ Some running
      → (t ≡ running.task) × (s ≡ running.snapshot)
  taken_is place t s running new = (cc, cc)

  take_keeps : (v t : ℕ) (s : ScanStart) (h : List Event) → IsTake p h v t s → moment h ≤ most_number → Keeps h
      → (w : ℕ) (running : OpenScan) (task : PlannedTask) → histories.scan w (events.Take v t s ∷ h) ≡ Some running
      → task_at p running.task ≡ Some task → StartsAre (kinds_of task) (store_of running.snapshot)
  take_keeps v t s h legal early keeps w running task is at =
      (elim (v == w) as (λ (b : Bool).
      (if b then Some (record { place = length h; task = t; snapshot = s }) else histories.scan w h) ≡ Some running
      → StartsAre (kinds_of task) (store_of running.snapshot)) [
        | true ↦ λ new.
            let its = taken_is (length h) t s running new in
            let there : task_at p t ≡ Some task = subst (λ (n : ℕ). task_at p n ≡ Some task) (sym its.0) at in
            let began : StartsAre (kinds_of task) (store_of s) = record {
              states =
                  if_at (HaveStarts (kinds_of task)) (blocks p t h) s.lasting.blocks legal.snapshot.blocks
                  (keeps.states t task there);
              early = subst (λ (m : ℕ). m ≤ most_number) (sym legal.snapshot.moment) early;
            } in
            subst (λ (x : ScanStart). StartsAre (kinds_of task) (store_of x)) its.1 began
        | false ↦ λ old. keeps.begun w running task old at
      ]) is

  commit_keeps : (v n : ℕ) (result : Scan) (h : List Event) → IsCommit p h v n result → Keeps h
      → (t : ℕ) (task : PlannedTask) → task_at p t ≡ Some task
      → IfSome (blocks p t (events.Commit v n result ∷ h)) (HaveStarts (kinds_of task))
  commit_keeps v n result h legal keeps t task at =
      (elim (is_of t (histories.scan v h)) as (λ (b : Bool). is_of t (histories.scan v h) ≡ b
      → IfSome (if b then Some result.after.blocks else blocks p t h) (HaveStarts (kinds_of task))) [
        | true ↦ λ its.
            let running = legal.running in
            let same : running.task ≡ t =
            eqb-true running.task t (subst (λ (o : Option OpenScan). is_of t o ≡ true) legal.is_open its) in
            let there : task_at p running.task ≡ Some task =
            subst (λ (m : ℕ). task_at p m ≡ Some task) (sym same) at in
            let known : task_at p running.task ≡ Some legal.meant.task = legal.meant.is_task in
            let own : legal.meant.task ≡ task = cc in
            let meant = subst (λ (x : PlannedTask). scanned x (store_of running.snapshot) ≡ Some result.after) own
            legal.meant.meant in
            let after : StartsAre (kinds_of task) result.after =
            if_at (StartsAre (kinds_of task)) (scanned task (store_of running.snapshot)) result.after meant
            (scan_starts task (store_of running.snapshot) (keeps.begun v running task legal.is_open there)) in
            after.states
        | false ↦ λ other. keeps.states t task at
      ]) refl

  ended : (v w n : ℕ) (result : Scan) (h : List Event) (running : OpenScan)
      → histories.scan w (events.Commit v n result ∷ h) ≡ Some running → histories.scan w h ≡ Some running
  ended v w n result h running is =
      (elim (v == w) as (λ (b : Bool). (if b then None else histories.scan w h) ≡ Some running
      → histories.scan w h ≡ Some running) [
        | true ↦ λ none. absurd (cc)
        | false ↦ λ old. old
      ]) is

  early_before : (e : Event) (h : List Event) → Allowed p h e → moment (e ∷ h) ≤ most_number → moment h ≤ most_number
  early_before (events.Tick m) h legal early = omega (arith, legal, early)
  early_before (events.Heard b f) h legal early = early
  early_before (events.Take w t s) h legal early = early
  early_before (events.Commit w n r) h legal early = early
  early_before (events.Hand b o t) h legal early = early
  early_before (events.Done b n r) h legal early = early
  early_before (events.Down b) h legal early = early
  early_before (events.Up b) h legal early = early

  more_keeps : (e : Event) (h : List Event) → Allowed p h e → moment h ≤ most_number → Keeps h → Keeps (e ∷ h)
  more_keeps (events.Tick m) h legal early keeps = record { states = keeps.states; begun = keeps.begun }
  more_keeps (events.Heard b f) h legal early keeps = record { states = keeps.states; begun = keeps.begun }
  more_keeps (events.Take w t s) h legal early keeps =
      record { states = keeps.states; begun = take_keeps w t s h legal early keeps }
  more_keeps (events.Commit w n r) h legal early keeps = record {
    states = commit_keeps w n r h legal keeps;
    begun = λ v running task is at. keeps.begun v running task (ended w v n r h running is) at;
  }
  more_keeps (events.Hand b o t) h legal early keeps = record { states = keeps.states; begun = keeps.begun }
  more_keeps (events.Done b n r) h legal early keeps = record { states = keeps.states; begun = keeps.begun }
  more_keeps (events.Down b) h legal early keeps = record { states = keeps.states; begun = keeps.begun }
  more_keeps (events.Up b) h legal early keeps = record { states = keeps.states; begun = keeps.begun }

  -- ---- the first of them

  at_first : (P : List Block → Type 0) (tasks : List PlannedTask) (codes : List Accepted) (t : ℕ) (task : PlannedTask)
      → slice_get tasks t ≡ Some task → P task.states
      → IfSome (option_map (λ i. i.own.blocks) (slice_get (first_tasks tasks codes) t)) P
  at_first P [] codes t task e is = absurd (cc)
  at_first P (x ∷ tasks) [] t task e is = tt
  at_first P (x ∷ tasks) (c ∷ codes) zero task e is =
      let same : x ≡ task = cc in subst (λ (z : PlannedTask). P z.states) (sym same) is
  at_first P (x ∷ tasks) (c ∷ codes) (suc t) task e is = at_first P tasks codes t task e is

  -- what the plan's instances begin with
  abbrev pub Begins : Type 0
  Begins = (t : ℕ) (task : PlannedTask) → task_at p t ≡ Some task → HaveStarts (kinds_of task) task.states

  all_keeps : (h : List Event) → Begins → AreLegal p h → moment h ≤ most_number → Keeps h
  all_keeps [] begins legal early = record {
    states = λ t task at.
        at_first (HaveStarts (kinds_of task)) p.plan.tasks p.codes t task at (begins t task at);
    begun = λ w running task is at. absurd (cc);
  }
  all_keeps (e ∷ h) begins legal early =
      let before = early_before e h legal.0 early in
      more_keeps e h legal.0 before (all_keeps h begins legal.1 before)

  pub starts_in : (h : List Event) → Begins → AreLegal p h → moment h ≤ most_number → (t : ℕ) (task : PlannedTask)
      → task_at p t ≡ Some task → IfSome (blocks p t h) (HaveStarts (kinds_of task))
  starts_in h begins legal early = (all_keeps h begins legal early).states
