-- The process image before the first event: a plan's tasks are lawful among its global variables.
use Rattle.std.proofs.Common.{◌≡◌, ℕ, zero, suc, ◌+◌, ◌<◌, ◌≤◌, List, [], ◌∷◌, ◌++◌, map, drop, take, get_or, length}
use Rattle.std.proofs.Common.{Option, Some, None, Result, Ok, Err, refl, sym, ap, ◌∙◌, subst, arith}
use Rattle.std.proofs.lemmas.List.Elements.{All-nil, All-cons, All-map, All-push}
use Rattle.std.proofs.lemmas.Option.{slice_get-map, slice_get_within, slice_get-get_or, get_or_from_slice_get}
use Rattle.std.proofs.lemmas.List.{append_assoc, drop_more}
use Rattle.std.specs.Prelude.{IfOk, IfSome, All, slice_get, option_map, option_to_list}
use Rattle.std.specs.List.{AllByRecursion, AllZip, cons_option}
use Rattle.iltypes.specs.declared.value.IlType.{IlType}
use Rattle.iltypes.specs.declared.value.Value.{Value}
use Rattle.iltypes.specs.Values.{AreOf}
use Rattle.ilblocks.specs.Calls.{Block, IsBlockOf}
use Rattle.ilplan.specs.declared.global.Global.{Global as GlobalVariable}
use Rattle.ilplan.specs.declared.slot.Slot.{Slot}
use Rattle.ilplan.specs.declared.slot.SlotOwner as slots
use Rattle.ilplan.specs.declared.slot.SlotOwner.TheVariants as slot
use Rattle.ilplan.specs.Plans as plans
use Rattle.ilplan.specs.Plans.{PlannedTask, Planned, Precedes, AreOrdered, IsDeclared, type_and_initial}
use Rattle.ilplan.specs.Plans.{HasStates, KeepsLimits, IsTaskOf, kinds_of}
use Rattle.ilcode.specs.Listings.{Listing, lasting_types}
use Rattle.ilmachine.specs.Verdicts.{Accepted}
use Rattle.ilmachine.specs.declared.external.External.{External}
use Rattle.ilmachine.specs.Images.{IsImage, image_of, AreTyped, AreApart, IsLawfulTask, TaskImage, first_task}
use Rattle.ilcompile.proofs.CodeLemmas.{all_last}
use Rattle.ilcompile.specs.Loaded.{Loaded, IsCodeOf}
use Rattle.plantevents.specs.Plants.{external_in, externals_from, externals_of, own_by, own_initials, first_tasks}
use Rattle.plantevents.proofs.Slots.{variables, owns, external_of, first_global, first_own, owns_global, owns_own}
use Rattle.plant.specs.OpeningSteps.{global_types, IsFirstImage, AreLawfulTasks}

abbrev types : List Slot → List IlType
types slots = map (λ s. s.value_type) slots

abbrev initials : List Slot → List Value
initials slots = map (λ s. s.initial) slots

abbrev type_list : List GlobalVariable → List IlType
type_list globals = map (λ (g : GlobalVariable). g.value_type) globals

-- ---- each global variable that a task names has its slot's type

type_of_pair : (o : Option GlobalVariable) (value_type : IlType) (initial : Value)
    → option_map type_and_initial o ≡ Some (value_type, initial) → option_map (λ (g : GlobalVariable). g.value_type)
    o ≡ Some value_type
type_of_pair None value_type initial is = absurd (cc)
type_of_pair (Some g) value_type initial is = ap (option_map (λ (p : IlType × Value). p.0)) is

typed_here : (globals : List GlobalVariable) (task : PlannedTask) (n : ℕ) (x : Slot) (more : List Slot)
    → AreOrdered (variables (x ∷ more)) → IsDeclared globals x.variable x.value_type x.initial
    → AreTyped (type_list globals) (types more) (externals_from task (n + 1) more)
    → (v : slots.SlotOwner) → x.variable ≡ v
    → AreTyped (type_list globals) (types (x ∷ more)) (externals_from task n (x ∷ more))
typed_here globals task n x more ordered here deeper (slot.Global g) is =
    let declared = subst (λ (v : slots.SlotOwner). IsDeclared globals v x.value_type x.initial) is here in
    let there : slice_get (type_list globals) g ≡ Some x.value_type =
    slice_get-map (λ (g : GlobalVariable). g.value_type) globals g
    ∙ type_of_pair (slice_get globals g) x.value_type x.initial declared in
    subst (λ (es : List External). AreTyped (type_list globals) (types (x ∷ more)) es)
    (sym (first_global task n x more g is)) (there, deeper)
typed_here globals task n x more ordered here deeper (slot.Own instance name) is =
    subst (λ (es : List External). AreTyped (type_list globals) (types (x ∷ more)) es)
    (sym (first_own task n x more instance name ordered is).0) tt

typed_from : (globals : List GlobalVariable) (task : PlannedTask) (n : ℕ) (slots : List Slot)
    → AreOrdered (variables slots)
    → AllByRecursion (λ s. IsDeclared globals s.variable s.value_type s.initial) slots
    → AreTyped (type_list globals) (types slots) (externals_from task n slots)
typed_from globals task n [] ordered declared = tt
typed_from globals task n (x ∷ more) ordered declared =
    typed_here globals task n x more ordered declared.0 (typed_from globals task (n + 1) more ordered.1 declared.1)
    x.variable refl

-- ---- no global variable is named twice

abbrev IsOther : ℕ → External → Type 0
IsOther g e = ¬ (e.global ≡ g)

behind_here : (task : PlannedTask) (n g : ℕ) (x : Slot) (more : List Slot) → AreOrdered (variables (x ∷ more))
    → Precedes (slot.Global g) x.variable → All (IsOther g) (externals_from task (n + 1) more)
    → (v : slots.SlotOwner) → x.variable ≡ v → All (IsOther g) (externals_from task n (x ∷ more))
behind_here task n g x more ordered before deeper (slot.Global k) is =
    let lt : g < k = subst (λ (v : slots.SlotOwner). Precedes (slot.Global g) v) is before in
    subst (λ (es : List External). All (IsOther g) es) (sym (first_global task n x more k is))
    (All-cons (IsOther g) (external_of task n k) (externals_from task (n + 1) more)
    (λ e. let same : k ≡ g = e in absurd (omega arith)) deeper)
behind_here task n g x more ordered before deeper (slot.Own instance name) is =
    subst (λ (es : List External). All (IsOther g) es) (sym (first_own task n x more instance name ordered is).0)
    (All-nil (IsOther g))

behind : (task : PlannedTask) (n g : ℕ) (slots : List Slot) → AreOrdered (variables slots)
    → AllByRecursion (Precedes (slot.Global g)) (variables slots) → All (IsOther g) (externals_from task n slots)
behind task n g [] ordered before = All-nil (IsOther g)
behind task n g (x ∷ more) ordered before =
    behind_here task n g x more ordered before.0 (behind task (n + 1) g more ordered.1 before.1) x.variable refl

apart_here : (task : PlannedTask) (n : ℕ) (x : Slot) (more : List Slot) → AreOrdered (variables (x ∷ more))
    → AreApart (externals_from task (n + 1) more) → (v : slots.SlotOwner) → x.variable ≡ v
    → AreApart (externals_from task n (x ∷ more))
apart_here task n x more ordered deeper (slot.Global g) is =
    let before = subst (λ (v : slots.SlotOwner). AllByRecursion (Precedes v) (variables more)) is ordered.0 in
    subst AreApart (sym (first_global task n x more g is)) (behind task (n + 1) g more ordered.1 before, deeper)
apart_here task n x more ordered deeper (slot.Own instance name) is =
    subst AreApart (sym (first_own task n x more instance name ordered is).0) tt

apart_from : (task : PlannedTask) (n : ℕ) (slots : List Slot) → AreOrdered (variables slots)
    → AreApart (externals_from task n slots)
apart_from task n [] ordered = tt
apart_from task n (x ∷ more) ordered =
    apart_here task n x more ordered (apart_from task (n + 1) more ordered.1) x.variable refl

-- ---- own variables begin in their types

owned_here : (task : PlannedTask) (n : ℕ) (x : Slot) (more : List Slot) → AreOrdered (variables (x ∷ more))
    → AreOf (initials (x ∷ more)) (types (x ∷ more))
    → AreOf (owns more) (drop (length (externals_from task (n + 1) more)) (types more))
    → (v : slots.SlotOwner) → x.variable ≡ v
    → AreOf (owns (x ∷ more)) (drop (length (externals_from task n (x ∷ more))) (types (x ∷ more)))
owned_here task n x more ordered typed deeper (slot.Global g) is =
    subst (λ (es : List External). AreOf (owns (x ∷ more)) (drop (length es) (types (x ∷ more))))
    (sym (first_global task n x more g is))
    (subst (λ (vs : List Value). AreOf vs (drop (length (externals_from task (n + 1) more)) (types more)))
    (sym (owns_global x more g is)) deeper)
owned_here task n x more ordered typed deeper (slot.Own instance name) is =
    let none = first_own task n x more instance name ordered is in
    subst (λ (es : List External). AreOf (owns (x ∷ more)) (drop (length es) (types (x ∷ more)))) (sym none.0)
    (subst (λ (vs : List Value). AreOf vs (types (x ∷ more))) (sym (owns_own x more instance name is))
    (typed.0, subst (λ (es : List External). AreOf (owns more) (drop (length es) (types more))) none.1 deeper))

owned_from : (task : PlannedTask) (n : ℕ) (slots : List Slot) → AreOrdered (variables slots)
    → AreOf (initials slots) (types slots)
    → AreOf (owns slots) (drop (length (externals_from task n slots)) (types slots))
owned_from task n [] ordered typed = tt
owned_from task n (x ∷ more) ordered typed =
    owned_here task n x more ordered typed (owned_from task (n + 1) more ordered.1 typed.1) x.variable refl

-- ---- a task before its first scan

pub lawful_task : (plan : Planned) (task : PlannedTask) (code : Accepted) → KeepsLimits plan.functions task
    → IsTaskOf plan.globals task → IsCodeOf plan task code → IsLawfulTask (global_types plan)
    (record { verified = code; externals = externals_of task })
lawful_task plan task code limits declared is =
    let slots = all_last plan task code is in
    record {
      typed = subst (λ (ts : List IlType). AreTyped (global_types plan) ts (externals_of task)) (sym slots)
          (typed_from plan.globals task 0 task.slots limits.ordered declared.1);
      apart = apart_from task 0 task.slots limits.ordered;
    }

pub owned_task : (plan : Planned) (task : PlannedTask) (code : Accepted) → KeepsLimits plan.functions task
    → IsCodeOf plan task code → AreOf (own_initials task) (drop (length (externals_of task)) (lasting_types code.code))
owned_task plan task code limits is =
    let slots = all_last plan task code is in
    subst (λ (ts : List IlType). AreOf (own_initials task) (drop (length (externals_of task)) ts)) (sym slots)
    (owned_from task 0 task.slots limits.ordered limits.initials)

-- with one task more
pub first_tasks_more : (tasks : List PlannedTask) (codes : List Accepted) (k : ℕ) (task : PlannedTask) (code : Accepted)
    → slice_get tasks k ≡ Some task → slice_get codes k ≡ Some code
    → first_tasks (take (suc k) tasks) (take (suc k) codes)
    ≡ first_tasks (take k tasks) (take k codes)
    ++ first_task code (externals_of task) (own_initials task) task.states ∷ []
first_tasks_more [] codes k task code is of = absurd (cc)
first_tasks_more (x ∷ tasks) [] k task code is of = absurd (cc)
first_tasks_more (x ∷ tasks) (y ∷ codes) zero task code is of =
    let e : x ≡ task = cc in let f : y ≡ code = cc in
    ap (λ z. first_task y (externals_of z) (own_initials z) z.states ∷ []) e
    ∙ ap (λ z. first_task z (externals_of task) (own_initials task) task.states ∷ []) f
first_tasks_more (x ∷ tasks) (y ∷ codes) (suc k) task code is of =
    ap (λ (more : List TaskImage). first_task y (externals_of x) (own_initials x) x.states ∷ more)
    (first_tasks_more tasks codes k task code is of)

-- ---- the loops

-- what is left of a list, from an item on
dropped_at : (slots : List Slot) (i : ℕ) (s : Slot) → slice_get slots i ≡ Some s → drop i slots ≡ s ∷ drop (i + 1) slots
dropped_at slots i s is =
    drop_more slots i s (slice_get_within slots i s is)
    ∙ ap (λ (x : Slot). x ∷ drop (i + 1) slots) (get_or_from_slice_get slots i s s is)

put_first : (o : Option Value) (more : List Value) → option_to_list o ++ more ≡ cons_option o more
put_first None more = refl
put_first (Some v) more = refl

pub external_more : (task : PlannedTask) (i : ℕ) (s : Slot) (items : List External) → slice_get task.slots i ≡ Some s
    → (items ++ option_to_list (external_in task i s.variable)) ++ externals_from task (i + 1) (drop (i + 1) task.slots)
    ≡ items ++ externals_from task i (drop i task.slots)
external_more task i s items is =
    append_assoc items (option_to_list (external_in task i s.variable))
    (externals_from task (i + 1) (drop (i + 1) task.slots))
    ∙ sym (ap (λ (slots : List Slot). items ++ externals_from task i slots) (dropped_at task.slots i s is))

pub own_more : (task : PlannedTask) (i : ℕ) (s : Slot) (items : List Value) → slice_get task.slots i ≡ Some s
    → (items ++ option_to_list (own_by s.variable s.initial)) ++ owns (drop (i + 1) task.slots)
    ≡ items ++ owns (drop i task.slots)
own_more task i s items is =
    append_assoc items (option_to_list (own_by s.variable s.initial)) (owns (drop (i + 1) task.slots))
    ∙ (ap (λ (more : List Value). items ++ more) (put_first (own_by s.variable s.initial)
    (owns (drop (i + 1) task.slots)))
    ∙ sym (ap (λ (slots : List Slot). items ++ owns slots) (dropped_at task.slots i s is)))

-- one turn of the loop over the slots
pub external_turn : (task : PlannedTask) (slots : List Slot) (i : ℕ) (s : Slot) (items longer whole : List External)
    → slots ≡ task.slots → i < length slots → s ≡ get_or slots i s
    → longer ≡ items ++ option_to_list (external_in task i s.variable)
    → items ++ externals_from task i (drop i task.slots) ≡ whole
    → longer ++ externals_from task (i + 1) (drop (i + 1) task.slots) ≡ whole
external_turn task slots i s items longer whole same below is pushed before =
    let at : slice_get task.slots i ≡ Some s =
    ap (λ (xs : List Slot). slice_get xs i) (sym same)
    ∙ (slice_get-get_or slots i s below ∙ ap (λ (x : Slot). Some x) (sym is)) in
    ap (λ (es : List External). es ++ externals_from task (i + 1) (drop (i + 1) task.slots)) pushed
    ∙ (external_more task i s items at ∙ before)

-- with one item more
pub map_more : {X Y : Type 0} (f : X → Y) (xs : List X) (i : ℕ) (x : X) → slice_get xs i ≡ Some x
    → map f (take (suc i) xs) ≡ map f (take i xs) ++ f x ∷ []
map_more f [] i x is = absurd (cc)
map_more f (y ∷ xs) zero x is = let e : y ≡ x = cc in ap (λ z. f z ∷ []) e
map_more f (y ∷ xs) (suc i) x is = ap (λ zs. f y ∷ zs) (map_more f xs i x is)

pub map_turn : {X Y : Type 0} (f : X → Y) (xs : List X) (i : ℕ) (x : X) (items longer : List Y) → slice_get xs i ≡
    Some x
    → longer ≡ items ++ f x ∷ [] → items ≡ map f (take i xs) → longer ≡ map f (take (i + 1) xs)
map_turn f xs i x items longer is pushed before =
    let next : suc i ≡ i + 1 = omega arith in
    pushed ∙ (ap (λ ys. ys ++ f x ∷ []) before ∙ (sym (map_more f xs i x is) ∙ ap (λ n. map f (take n xs)) next))

-- ---- the task images

if_ok : {A E : Type 0} (P Q : A → Type 0) (r : Result A E) → IfOk r P → ((x : A) → P x → Q x) → IfOk r Q
if_ok P Q (Ok x) is then = then x is
if_ok P Q (Err e) is then = tt

of_this : (o : Option PlannedTask) (task : PlannedTask) (P : PlannedTask → Type 0) → o ≡ Some task → IfSome o P → P task
of_this o task P is all = subst (λ (q : Option PlannedTask). IfSome q P) is all

pub owned_values : (setup : Loaded) (t : ℕ) (task : PlannedTask) (code : Accepted) (es : List External)
    (vs : List Value)
    → slice_get setup.plan.tasks t ≡ Some task → KeepsLimits setup.plan.functions task
    → IfSome (slice_get setup.plan.tasks t) (λ task. IsCodeOf setup.plan task code)
    → es ≡ externals_of task → vs ≡ own_initials task → AreOf vs (drop (length es) (lasting_types code.code))
owned_values setup t task code es vs is limits coded named owned =
    subst (λ (es : List External). AreOf vs (drop (length es) (lasting_types code.code))) (sym named)
    (subst (λ (vs : List Value). AreOf vs (drop (length (externals_of task)) (lasting_types code.code))) (sym owned)
    (owned_task setup.plan task code limits
    (of_this (slice_get setup.plan.tasks t) task (λ task. IsCodeOf setup.plan task code) is coded)))

-- what the block instances keep is of the kinds that the code has, on as many buses
pub states_of_code : (setup : Loaded) (t : ℕ) (task : PlannedTask) (code : Accepted) (bs : List Block)
    → slice_get setup.plan.tasks t ≡ Some task → HasStates setup.plan.buses task
    → IfSome (slice_get setup.plan.tasks t) (λ task. IsCodeOf setup.plan task code) → bs ≡ task.states
    → AllZip (IsBlockOf code.code.buses) bs code.code.kinds
states_of_code setup t task code bs is have coded same =
    let of = of_this (slice_get setup.plan.tasks t) task (λ task. IsCodeOf setup.plan task code) is coded in
    subst (λ (l : Listing). AllZip (IsBlockOf l.buses) bs l.kinds) (sym of.laid)
    (subst (λ (blocks : List Block). AllZip (IsBlockOf setup.plan.buses) blocks (kinds_of task)) (sym same) have)

pub first_made : {E : Type 0} (setup : Loaded) (t : ℕ) (task : PlannedTask) (code : Accepted) (es : List External)
    (vs : List Value) (bs : List Block) (made : Result TaskImage E) → slice_get setup.plan.tasks t ≡ Some task
    → slice_get setup.codes t ≡ Some code → KeepsLimits setup.plan.functions task → IsTaskOf setup.plan.globals task
    → IfSome (slice_get setup.plan.tasks t) (λ task. IsCodeOf setup.plan task code)
    → es ≡ externals_of task → vs ≡ own_initials task → bs ≡ task.states
    → IfOk made (λ image. image ≡ first_task code es vs bs) → IfOk made (IsFirstImage setup t)
first_made setup t task code es vs bs made is of limits declared coded named owned kept all =
    if_ok (λ image. image ≡ first_task code es vs bs) (IsFirstImage setup t) made all (λ image so.
    let here : image ≡ first_task code (externals_of task) (own_initials task) task.states =
    so ∙ (ap (λ es. first_task code es vs bs) named ∙ (ap (λ vs. first_task code (externals_of task) vs bs) owned
    ∙ ap (first_task code (externals_of task) (own_initials task)) kept)) in
    record {
      task = task;
      code = code;
      is_task = is;
      is_code = of;
      made = here;
      lawful = subst (λ (i : TaskImage). IsLawfulTask (global_types setup.plan) i.layout) (sym here)
          (lawful_task setup.plan task code limits declared
          (of_this (slice_get setup.plan.tasks t) task (λ task. IsCodeOf setup.plan task code) is coded));
    })

-- with one task more
pub images_turn : (setup : Loaded) (t : ℕ) (image : TaskImage) (images longer : List TaskImage)
    → IsFirstImage setup t image → longer ≡ images ++ image ∷ []
    → images ≡ first_tasks (take t setup.plan.tasks) (take t setup.codes)
    → longer ≡ first_tasks (take (t + 1) setup.plan.tasks) (take (t + 1) setup.codes)
images_turn setup t image images longer first pushed before =
    let next : suc t ≡ t + 1 = omega arith in
    pushed ∙ (ap (λ i. images ++ i ∷ []) first.made
    ∙ (ap (λ more. more
    ++ first_task first.code (externals_of first.task) (own_initials first.task) first.task.states ∷ []) before
    ∙ (sym (first_tasks_more setup.plan.tasks setup.codes t first.task first.code first.is_task first.is_code)
    ∙ ap (λ n. first_tasks (take n setup.plan.tasks) (take n setup.codes)) next)))

pub lawful_turn : (setup : Loaded) (t : ℕ) (image : TaskImage) (images longer : List TaskImage)
    → IsFirstImage setup t image → longer ≡ images ++ image ∷ [] → AreLawfulTasks setup images
    → AreLawfulTasks setup longer
lawful_turn setup t image images longer first pushed before =
    subst (AreLawfulTasks setup) (sym pushed)
    (All-push (λ (i : TaskImage). IsLawfulTask (global_types setup.plan) i.layout) images image before first.lawful)

-- all of them
pub all_images : (tasks : List PlannedTask) (codes : List Accepted) (n : ℕ) → length tasks ≤ n
    → first_tasks (take n tasks) (take n codes) ≡ first_tasks tasks codes
all_images [] codes zero le = refl
all_images [] codes (suc n) le = refl
all_images (x ∷ tasks) codes zero le = absurd (omega arith)
all_images (x ∷ tasks) [] (suc n) le = refl
all_images (x ∷ tasks) (y ∷ codes) (suc n) le =
    ap (λ (more : List TaskImage). first_task y (externals_of x) (own_initials x) x.states ∷ more)
    (all_images tasks codes n (omega arith))

-- the image is one
pub is_image : (setup : Loaded) (types : List IlType) (values : List Value) (images : List TaskImage)
    → plans.IsLawful setup.plan → types ≡ global_types setup.plan → values ≡ map (λ (g : GlobalVariable). g.initial)
    setup.plan.globals
    → AreLawfulTasks setup images → IsImage (image_of types values images)
is_image setup types values images lawful typed valued tasks =
    let whole : IsImage (image_of (global_types setup.plan)
    (map (λ (g : GlobalVariable). g.initial) setup.plan.globals) images) =
    record {
      lawful = record {
        tasks = All-map (IsLawfulTask (global_types setup.plan)) (λ (t : TaskImage). t.layout)
            images tasks;
      };
      globals = lawful.initials;
    } in
    subst (λ (ts : List IlType). IsImage (image_of ts values images)) (sym typed)
    (subst (λ (vs : List Value). IsImage (image_of (global_types setup.plan) vs images)) (sym valued) whole)
