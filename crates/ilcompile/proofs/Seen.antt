-- What shows in the code's store: the variables of a function's body, and the store of a task's programs.
use Rattle.std.proofs.Common.{◌≡◌, ◌⊎◌, inl, inr, ℕ, ◌+◌, ◌<◌, ◌≤◌, List, [], ◌++◌, length, Bool, true, false, cond}
use Rattle.std.proofs.Common.{Option, Some, None, refl, sym, ap, ◌∙◌, subst, arith}
use Rattle.std.specs.Prelude.{slice_get, slice_set, IsSomeAnd}
use Rattle.std.specs.Option.{option_map, option_and_then}
use Rattle.iltypes.specs.declared.value.IlType.{IlType}
use Rattle.iltypes.specs.declared.value.Value.{Value}
use Rattle.iltypes.specs.Slots.{is_of, stored}
use Rattle.ilsource.specs.declared.operand.Operand.TheVariants.{Name}
use Rattle.ilsource.specs.declared.uses.Purpose.TheVariants.{Call, Pass}
use Rattle.ilsource.specs.Functions.{FunctionMeaning}
use Rattle.ilsource.specs.Meaning.{Access}
use Rattle.ilblocks.specs.declared.kind.BlockKind.{BlockKind}
use Rattle.ilblocks.specs.Calls.{Block, after_call, requested}
use Rattle.ilblocks.specs.Stores.{Shape, Store, listed, type_of_input, with_input, with_port, with_slot}
use Rattle.ilblocks.specs.Stores as stores
use Rattle.ilblocks.specs.Ports.{ports_of}
use Rattle.ilplan.specs.declared.place.Place.{Place}
use Rattle.ilplan.specs.declared.place.Place.TheVariants as places
use Rattle.ilplan.specs.PlanMeaning.{places_of}
use Rattle.ilplan.specs.Plans.{Nameable, HasOperand, HasPlace, Takes}
use Rattle.ilcode.specs.declared.word.Target.TheVariants as variables
use Rattle.ilcode.specs.Listings.{Listing, shape_of}
use Rattle.ilcode.specs.Steps.{OpenCall, stored_at, value_of}
use Rattle.ilcompile.specs.Layout.{Numbers, number_of, operand_of, port_of, variable_of}
use Rattle.ilcompile.proofs.Slots.{Holds, set_long, set_same, get_set_here, get_set_other, same_or}
use Rattle.ilcompile.proofs.Shows.{Shows, Callee, Both, Kept, kept_then, kept_wider}
use Rattle.ilcompile.proofs.Gives.{with_value}

nothing : {A : Type 0} (o : Option A) → o ≡ None → (P : A → Type 0) → IsSomeAnd o P → ⊥
nothing None e P h = h
nothing (Some x) e P h = absurd cc

-- ---- variables that stand one after another from a slot on

-- another value of a variable stands in its slot
pub held_after : (s t : List Value) (first k : ℕ) (v : Value) → Holds t first s → k < length s
    → first + length s ≤ length t → Holds (slice_set t (first + k) v) first (slice_set s k v)
held_after s t first k v held lt room i l =
    let m = set_long s k v in
    same_or k i
    (λ e.
    let q : first + k ≡ first + i = ap (λ x. first + x) e in
    ap (slice_get (slice_set t (first + k) v)) (sym q)
    ∙ (get_set_here t (first + k) v (omega arith)
    ∙ (sym (get_set_here s k v lt) ∙ ap (slice_get (slice_set s k v)) e)))
    (λ e.
    get_set_other t (first + k) (first + i) v (λ q. e (omega arith))
    ∙ (held i (omega arith) ∙ sym (get_set_other s k i v e)))

-- and they stay where other slots change
pub held_kept : (base hi first : ℕ) (s : List Value) (t u : Store) → Holds t.slots first s → Kept base hi t u
    → (first + length s ≤ base) ⊎ (hi ≤ first) → Holds u.slots first s
held_kept base hi first s t u held same (inl below) i l = same.slots.below (first + i) (omega arith) ∙ held i l
held_kept base hi first s t u held same (inr above) i l = same.slots.above (first + i) (omega arith) ∙ held i l

-- ---- a body

-- the variables are these many slots from the first on; all but slots from `lo` on and below `top` is as it was
pub record Seen (code : Listing) (first n lo top : ℕ) (t0 s t : Store) : Type 0 where
  pub long : length t.slots ≡ length code.slots
  pub many : length s.slots ≡ n
  pub held : Holds t.slots first s.slots
  pub frame : Kept lo top t0 t

-- of variables of these types, without block instances
abbrev pub shape_alone : List IlType → Shape
shape_alone types = record { buses = 0; slots = types; kinds = [] }

module _ (code : Listing) (numbers : Numbers) (base hi lo top : ℕ) (calls : List OpenCall) (t0 : Store)
    (types : List IlType) (count : ℕ) (known : List FunctionMeaning) (inputs : List ℕ) (May : ℕ → Type 0)
    (counted : count ≡ length types) (constants : numbers.constants ≡ code.constants)
    (typed : Holds code.slots numbers.own types)
    (there : numbers.own + length types ≤ length code.slots) (below : lo ≤ numbers.own)
    (under : numbers.own + length types ≤ top) (low : lo ≤ base) (high : hi ≤ top) (apart : hi ≤ numbers.own)
    (callees : (f many : ℕ) → May f
    → Takes (record { slots = count; kinds = []; inputs = inputs }) (places.Function f) many
    → Callee code numbers.functions base hi calls f many ((places_of (shape_alone types) known).give (places.Function
    f)))
  where
    abbrev pub names : Nameable
    names = record { slots = count; kinds = []; inputs = inputs }

    abbrev pub access : Access Place Store
    access = places_of (shape_alone types) known

    abbrev pub Here : Store → Store → Type 0
    Here = Seen code numbers.own (length types) lo top t0

    after_write : (s t : Store) (k : ℕ) (v : Value) → Here s t → k < length types
        → Here (with_value s k v) (with_value t (numbers.own + k) v)
    after_write s t k v h lt =
        let long = h.long in
        let many = h.many in
        record {
          long = set_long t.slots (numbers.own + k) v ∙ h.long;
          many = set_long s.slots k v ∙ h.many;
          held = held_after s.slots t.slots numbers.own k v h.held (omega arith) (omega arith);
          frame = kept_then lo top t0 t (with_value t (numbers.own + k) v) h.frame (record {
            slots = set_same lo top t.slots (numbers.own + k) v (omega arith) (omega arith);
            blocks = refl;
            requests = refl;
            moment = refl;
          });
        }

    -- a value of the variable's type is written in both, and another in neither
    write_same : (s t : Store) (k : ℕ) (v : Value) → Here s t → k < length types
        → Both Here (with_slot (shape_alone types) s k v) (with_slot (shape_of code) t (numbers.own + k) v)
    write_same s t k v h lt =
        subst
        (λ o. Both Here (option_map (λ slots. record s { slots = slots }) (stored s.slots k v (slice_get types k)))
        (option_map (λ slots. record t { slots = slots }) (stored t.slots (numbers.own + k) v o)))
        (sym (typed k lt)) (by_type (slice_get types k))
      where
        by_fit : (b : Bool)
            → Both Here (option_map (λ slots. record s { slots = slots }) (cond b (Some (slice_set s.slots k v)) None))
            (option_map (λ slots. record t { slots = slots }) (cond b (Some (slice_set t.slots (numbers.own + k) v))
            None))
        by_fit true = after_write s t k v h lt
        by_fit false = tt

        by_type : (o : Option IlType)
            → Both Here (option_map (λ slots. record s { slots = slots }) (stored s.slots k v o))
            (option_map (λ slots. record t { slots = slots }) (stored t.slots (numbers.own + k) v o))
        by_type None = tt
        by_type (Some ty) = by_fit (is_of ty v)

    kept_same : (s t u : Store) → Here s t → Kept base hi t u → Here s u
    kept_same s t u h same =
        record {
          long = same.slots.long ∙ h.long;
          many = h.many;
          held = held_kept base hi numbers.own s.slots t u h.held same (inr apart);
          frame = kept_then lo top t0 t u h.frame (kept_wider base hi lo top t u low high same);
        }

    reads : (s t : Store) → Here s t → (place : Place) → HasPlace names place
        → value_of code t (operand_of numbers (Name place)) ≡ access.read s place
    reads s t h (places.Slot k) has = h.held k (let many = h.many in omega arith)
    reads s t h (places.Port block port) has =
        absurd (nothing (slice_get [] block) refl (λ kind. port < length (ports_of kind)) has)
    reads s t h (places.Block block) has = absurd has
    reads s t h (places.Function number) has = absurd has

    writes : (s t : Store) → Here s t → (place : Place) (v : Value) → HasPlace names place
        → Both Here (access.write s place v) (stored_at code t (variable_of numbers place) v)
    writes s t h (places.Slot k) v has = write_same s t k v h (omega arith)
    writes s t h (places.Port block port) v has =
        absurd (nothing (slice_get [] block) refl (λ kind. port < length (ports_of kind)) has)
    writes s t h (places.Block block) v has = absurd has
    writes s t h (places.Function number) v has = absurd has

    no_pass : (s t : Store) (place : Place) (v : Value) → HasOperand names Pass (Name place)
        → Both Here (access.pass s place v) (stored_at code t (variables.Port (port_of place) (number_of place)) v)
    no_pass s t (places.Slot k) v has = absurd has
    no_pass s t (places.Port block port) v has =
        absurd (nothing (slice_get [] block) refl (λ kind. port < length (ports_of kind)) has)
    no_pass s t (places.Block block) v has = absurd has
    no_pass s t (places.Function number) v has = absurd has

    no_call : (s t : Store) (place : Place) → HasOperand names Call (Name place)
        → Both Here (access.call s place) (stores.called (shape_of code) t (number_of place))
    no_call s t (places.Slot k) has = absurd has
    no_call s t (places.Port block port) has = absurd has
    no_call s t (places.Block block) has = absurd (omega arith)
    no_call s t (places.Function number) has = absurd has

    pub shows_body : Shows code numbers base hi calls access Here names May
    shows_body =
        record {
          constants = constants;
          long = λ s t h. h.long;
          read = reads;
          write = writes;
          pass = λ s t h place v has. no_pass s t place v has;
          call = λ s t h place has. no_call s t place has;
          kept = λ s t u h same. kept_same s t u h same;
          callee = callees;
        }

-- ---- a task's programs

-- their variables are the first slots, and all else is the same
pub record SeenWhole (code : Listing) (n : ℕ) (s t : Store) : Type 0 where
  pub long : length t.slots ≡ length code.slots
  pub many : length s.slots ≡ n
  pub held : Holds t.slots 0 s.slots
  pub blocks : t.blocks ≡ s.blocks
  pub requests : t.requests ≡ s.requests
  pub moment : t.moment ≡ s.moment

-- the code's types are those of the task's variables and behind them those of its functions
module _ (code : Listing) (numbers : Numbers) (base hi : ℕ) (types : List IlType) (known : List FunctionMeaning)
    (count : ℕ) (inputs : List ℕ) (May : ℕ → Type 0) (counted : count ≡ length types)
    (constants : numbers.constants ≡ code.constants) (own : numbers.own ≡ 0)
    (typed : Holds code.slots 0 types) (there : length types ≤ length code.slots) (behind : length types ≤ base)
    (callees : (f many : ℕ) → May f
    → Takes (record { slots = count; kinds = code.kinds; inputs = inputs }) (places.Function f) many
    → Callee code numbers.functions base hi [] f many
    ((places_of (record { buses = code.buses; slots = types; kinds = code.kinds }) known).give (places.Function f)))
  where
    abbrev pub task_names : Nameable
    task_names = record { slots = count; kinds = code.kinds; inputs = inputs }

    abbrev pub outer : Shape
    outer = record { buses = code.buses; slots = types; kinds = code.kinds }

    abbrev pub task_access : Access Place Store
    task_access = places_of outer known

    abbrev pub Whole : Store → Store → Type 0
    Whole = SeenWhole code (length types)

    slot_is : (k : ℕ) → numbers.own + k ≡ 0 + k
    slot_is k = ap (λ n. n + k) own

    written_whole : (s t : Store) (k : ℕ) (v : Value) → Whole s t → k < length types
        → Whole (with_value s k v) (with_value t (0 + k) v)
    written_whole s t k v h lt =
        let long = h.long in
        let many = h.many in
        record {
          long = set_long t.slots (0 + k) v ∙ h.long;
          many = set_long s.slots k v ∙ h.many;
          held = held_after s.slots t.slots 0 k v h.held (omega arith) (omega arith);
          blocks = h.blocks;
          requests = h.requests;
          moment = h.moment;
        }

    slot_written : (s t : Store) (k : ℕ) (v : Value) → Whole s t → k < length types
        → Both Whole (with_slot outer s k v) (with_slot (shape_of code) t (0 + k) v)
    slot_written s t k v h lt =
        subst
        (λ o. Both Whole (option_map (λ slots. record s { slots = slots }) (stored s.slots k v (slice_get types k)))
        (option_map (λ slots. record t { slots = slots }) (stored t.slots (0 + k) v o)))
        (sym (typed k lt)) (by_type (slice_get types k))
      where
        by_fit : (b : Bool)
            → Both Whole (option_map (λ slots. record s { slots = slots }) (cond b (Some (slice_set s.slots k v)) None))
            (option_map (λ slots. record t { slots = slots }) (cond b (Some (slice_set t.slots (0 + k) v)) None))
        by_fit true = written_whole s t k v h lt
        by_fit false = tt

        by_type : (o : Option IlType)
            → Both Whole (option_map (λ slots. record s { slots = slots }) (stored s.slots k v o))
            (option_map (λ slots. record t { slots = slots }) (stored t.slots (0 + k) v o))
        by_type None = tt
        by_type (Some ty) = by_fit (is_of ty v)

    -- block instances are the same, so that the same is written to a port
    port_written : (s t : Store) (block port : ℕ) (v : Value) → Whole s t
        → Both Whole (with_port outer s block port v) (with_port (shape_of code) t block port v)
    port_written s t block port v h =
        subst (λ bs. Both Whole (put s s.blocks) (put t bs)) (sym h.blocks)
        (by (option_and_then (λ b. with_input b port v (type_of_input outer block port)) (slice_get s.blocks block)))
      where
        put : Store → List Block → Option Store
        put u bs =
            option_map (λ b. record u { blocks = slice_set bs block b })
            (option_and_then (λ b. with_input b port v (type_of_input outer block port)) (slice_get bs block))

        by : (o : Option Block)
            → Both Whole (option_map (λ b. record s { blocks = slice_set s.blocks block b }) o)
            (option_map (λ b. record t { blocks = slice_set s.blocks block b }) o)
        by None = tt
        by (Some b) =
            record {
              long = h.long;
              many = h.many;
              held = h.held;
              blocks = refl;
              requests = h.requests;
              moment = h.moment;
            }

    -- and the same is left by a call
    block_called : (s t : Store) (block : ℕ) → Whole s t
        → Both Whole (stores.called outer s block) (stores.called (shape_of code) t block)
    block_called s t block h =
        subst (λ bs. Both Whole (put s s.blocks) (put t bs)) (sym h.blocks) (by_kind (slice_get code.kinds block))
      where
        left : Store → List Block → BlockKind → Block → Store
        left u bs kind b =
            record u {
              blocks = slice_set bs block (after_call kind u.moment b);
              requests = u.requests ++ listed (requested kind b);
            }

        put : Store → List Block → Option Store
        put u bs =
            option_and_then (λ kind. option_map (left u bs kind) (slice_get bs block)) (slice_get code.kinds block)

        by_block : (kind : BlockKind) (o : Option Block)
            → Both Whole (option_map (left s s.blocks kind) o) (option_map (left t s.blocks kind) o)
        by_block kind None = tt
        by_block kind (Some b) =
            record {
              long = h.long;
              many = h.many;
              held = h.held;
              blocks = ap (λ m. slice_set s.blocks block (after_call kind m b)) h.moment;
              requests = ap (λ rs. rs ++ listed (requested kind b)) h.requests;
              moment = h.moment;
            }

        by_kind : (o : Option BlockKind)
            → Both Whole (option_and_then (λ kind. option_map (left s s.blocks kind) (slice_get s.blocks block)) o)
            (option_and_then (λ kind. option_map (left t s.blocks kind) (slice_get s.blocks block)) o)
        by_kind None = tt
        by_kind (Some kind) = by_block kind (slice_get s.blocks block)

    task_reads : (s t : Store) → Whole s t → (place : Place) → HasPlace task_names place
        → value_of code t (operand_of numbers (Name place)) ≡ task_access.read s place
    task_reads s t h (places.Slot k) has =
        ap (slice_get t.slots) (slot_is k) ∙ h.held k (let many = h.many in omega arith)
    task_reads s t h (places.Port block port) has =
        ap (λ bs. option_and_then (λ (b : Block). slice_get b.ports port) (slice_get bs block)) h.blocks
    task_reads s t h (places.Block block) has = absurd has
    task_reads s t h (places.Function number) has = absurd has

    task_writes : (s t : Store) → Whole s t → (place : Place) (v : Value) → HasPlace task_names place
        → Both Whole (task_access.write s place v) (stored_at code t (variable_of numbers place) v)
    task_writes s t h (places.Slot k) v has =
        subst (λ n. Both Whole (with_slot outer s k v) (with_slot (shape_of code) t n v)) (sym (slot_is k))
        (slot_written s t k v h (omega arith))
    task_writes s t h (places.Port block port) v has = port_written s t block port v h
    task_writes s t h (places.Block block) v has = absurd has
    task_writes s t h (places.Function number) v has = absurd has

    task_passes : (s t : Store) → Whole s t → (place : Place) (v : Value) → HasOperand task_names Pass (Name place)
        → Both Whole (task_access.pass s place v) (stored_at code t (variables.Port (port_of place) (number_of
        place)) v)
    task_passes s t h (places.Slot k) v has = absurd has
    task_passes s t h (places.Port block port) v has = port_written s t block port v h
    task_passes s t h (places.Block block) v has = absurd has
    task_passes s t h (places.Function number) v has = absurd has

    task_calls : (s t : Store) → Whole s t → (place : Place) → HasOperand task_names Call (Name place)
        → Both Whole (task_access.call s place) (stores.called (shape_of code) t (number_of place))
    task_calls s t h (places.Slot k) has = absurd has
    task_calls s t h (places.Port block port) has = absurd has
    task_calls s t h (places.Block block) has = block_called s t block h
    task_calls s t h (places.Function number) has = absurd has

    whole_kept : (s t u : Store) → Whole s t → Kept base hi t u → Whole s u
    whole_kept s t u h same =
        record {
          long = same.slots.long ∙ h.long;
          many = h.many;
          held = held_kept base hi 0 s.slots t u h.held same (inl (let many = h.many in omega arith));
          blocks = same.blocks ∙ h.blocks;
          requests = same.requests ∙ h.requests;
          moment = same.moment ∙ h.moment;
        }

    pub shows_task : Shows code numbers base hi [] task_access Whole task_names May
    shows_task =
        record {
          constants = constants;
          long = λ s t h. h.long;
          read = task_reads;
          write = task_writes;
          pass = task_passes;
          call = task_calls;
          kept = whole_kept;
          callee = callees;
        }
