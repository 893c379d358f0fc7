-- The table of what is located at levels, and of the kinds of the tasks that store there, filled from the end.
use Rattle.std.proofs.Common.{◌≡◌, ◌≢◌, ⊎_elim, ℕ, zero, suc, ◌+◌, ◌<◌, ◌≤◌, Bool, true, false, eqb, ◌&&◌, ◌||◌}
use Rattle.std.proofs.Common.{List, [], ◌∷◌, ◌++◌, length, drop, get_or, replicate, Option, Some, None, refl, sym, ap}
use Rattle.std.proofs.Common.{◌∙◌, subst, arith, below_more, length-append}
use Rattle.std.proofs.lemmas.Bool.{and_from, and_left, and_right}
use Rattle.std.proofs.lemmas.Bool.Decides.{eqb_tells}
use Rattle.std.proofs.lemmas.List.{get_or_append_left, get_or-set_same, get_or-set_other, get_or-replicate}
use Rattle.std.proofs.lemmas.List.{length-replicate, length-set, drop_more, drop_all}
use Rattle.std.proofs.lemmas.Option.{slice_get-get_or}
use Rattle.std.proofs.Math.Seq.{get_or-append_seam}
use Rattle.std.specs.Prelude.{if◌then◌else◌, find, slice_get, slice_index_or, slice_set, option_map}
use Rattle.std.specs.List.{list_any, position_from}
use Rattle.std.specs.Option.{option_and_then, option_to_list}
use Rattle.gearcmd.specs.declared.requests.TaskKind.{TaskKind}
use Rattle.gearcmd.specs.declared.requests.TaskKind.TheVariants.{Cyclic}
use Rattle.ilplan.specs.declared.global.Global.{Global as GlobalVariable}
use Rattle.ilplan.specs.declared.global.Location.{Location}
use Rattle.ilplan.specs.declared.global.Location.TheVariants.{Level, GearAnswer, DeviceAnswer, Information, Count}
use Rattle.ilplan.specs.declared.global.Location.TheVariants.{Trigger}
use Rattle.ilplan.specs.declared.slot.Slot.{Slot}
use Rattle.ilplan.specs.Plans.{PlannedTask}
use Rattle.ilmachine.specs.declared.external.External.{External}
use Rattle.plantevents.specs.Plants.{Plant, is_level, first_number, kind_by, stores_global, external_in}
use Rattle.plantevents.specs.Plants.{externals_from}
use Rattle.plantbuses.specs.declared.outputs.LevelOutput.{LevelOutput}
use Rattle.plantbuses.specs.OutputSteps.{place_in, level_of, is_at, is_store_of, is_store_in, kind_in, AreNoted}
use Rattle.plantbuses.specs.OutputSteps.{output_of, output_for, outputs_at, output_in, noted_at}
use Rattle.plantbuses.specs.OutputSteps.{AreFree, AreAllFree, HaveLevels, OutputsFollow}

-- ---- the kinds of storing tasks

-- one slot more of a task: what was noted of the slots before it, and what is left
pub externals_turn : (g : ℕ) (o : Option External) (rest : List External)
    → list_any (is_store_of g) (option_to_list o ++ rest) ≡ (is_store_in g o || list_any (is_store_of g) rest)
externals_turn g None rest = refl
externals_turn g (Some e) rest = refl

pub slot_turn : (here rest : Bool) (kind before after : TaskKind) → after ≡ (if here then kind else before)
    → (if rest then kind else after) ≡ (if here || rest then kind else before)
slot_turn true true kind before after is = refl
slot_turn true false kind before after is = is
slot_turn false true kind before after is = refl
slot_turn false false kind before after is = is

pub noted_turn : (task : PlannedTask) (slots : List Slot) (number g : ℕ) (s : Slot) (kind before after total : TaskKind)
    → drop number slots ≡ s ∷ drop (number + 1) slots
    → after ≡ (if is_store_in g (external_in task number s.variable) then kind else before)
    → (if list_any (is_store_of g) (externals_from task number (drop number slots)) then kind else before) ≡ total
    → (if list_any (is_store_of g) (externals_from task (number + 1) (drop (number + 1) slots)) then kind else after)
    ≡ total
noted_turn task slots number g s kind before after total at is was =
    let here = external_in task number s.variable in
    let rest = externals_from task (number + 1) (drop (number + 1) slots) in
    slot_turn (is_store_in g here) (list_any (is_store_of g) rest) kind before after is
    ∙ (sym (ap (λ (t : Bool). if t then kind else before)
    (ap (λ (ss : List Slot). list_any (is_store_of g) (externals_from task number ss)) at ∙ externals_turn g here rest))
    ∙ was)

-- of each of so many global variables the kind of the first of these tasks that stores to it
pub record AreKindsOf (tasks : List PlannedTask) (n : ℕ) (kinds : List TaskKind) : Type 0 where
  pub many : length kinds ≡ n
  pub each : (g : ℕ) → g < n → kind_in kinds g ≡ kind_by (find (λ task. stores_global task g) tasks)

kind_chosen : (here : Bool) (task : PlannedTask) (o : Option PlannedTask) (kind : TaskKind) → kind_by (Some task) ≡ kind
    → (if here then kind else kind_by o) ≡ kind_by (if here then Some task else o)
kind_chosen true task o kind is = sym is
kind_chosen false task o kind is = refl

-- one task more before these
pub kinds_turn : (task : PlannedTask) (rest : List PlannedTask) (n : ℕ) (kind : TaskKind) (before after : List TaskKind)
    → kind_by (Some task) ≡ kind → AreNoted (stores_global task) kind before after → AreKindsOf rest n before
    → AreKindsOf (task ∷ rest) n after
kinds_turn task rest n kind before after is noted was = record {
  many = noted.many ∙ was.many;
  each = λ g lt.
      noted.each g (let e = was.many in omega arith)
      ∙ (ap (λ (k : TaskKind). if stores_global task g then kind else k) (was.each g lt)
      ∙ kind_chosen (stores_global task g) task (find (λ (t : PlannedTask). stores_global t g) rest) kind is);
}

-- ---- the first number

plus_more : (n : ℕ) (o : Option ℕ)
    → option_map (λ (m : ℕ). m + (n + 1)) o ≡ option_map (λ (m : ℕ). m + n) (option_map (λ (m : ℕ). m + 1) o)
plus_more n None = refl
plus_more n (Some m) = let e : m + (n + 1) ≡ (m + 1) + n = omega arith in ap (λ (k : ℕ). Some k) e

first_by : (n : ℕ) (here : Bool) (next o : Option ℕ) → next ≡ option_map (λ (m : ℕ). m + (n + 1)) o
    → (if here then Some n else next)
    ≡ option_map (λ (m : ℕ). m + n) (if here then Some 0 else option_map (λ (m : ℕ). m + 1) o)
first_by n true next o is = let e : n ≡ 0 + n = omega arith in ap (λ (k : ℕ). Some k) e
first_by n false next o is = is ∙ plus_more n o

first_counted : {X : Type 0} (n : ℕ) (test : X → Bool) (xs : List X)
    → position_from test n xs ≡ option_map (λ (m : ℕ). m + n) (first_number test xs)
first_counted n test [] = refl
first_counted n test (x ∷ xs) =
    first_by n (test x) (position_from test (n + 1) xs) (first_number test xs) (first_counted (n + 1) test xs)

no_more : (o : Option ℕ) → option_map (λ (m : ℕ). m + 0) o ≡ o
no_more None = refl
no_more (Some m) = let e : m + 0 ≡ m = omega arith in ap (λ (k : ℕ). Some k) e

first_is : {X : Type 0} (test : X → Bool) (xs : List X) → position_from test 0 xs ≡ first_number test xs
first_is test xs = first_counted 0 test xs ∙ no_more (first_number test xs)

-- ---- what is located at levels

level_test : (b a : ℕ) (l : Option Location) → is_at b a (place_in l) ≡ is_level b a l
level_test b a None = refl
level_test b a (Some (Level bus address)) = refl
level_test b a (Some (GearAnswer bus short)) = refl
level_test b a (Some (DeviceAnswer bus short)) = refl
level_test b a (Some (Information bus source)) = refl
level_test b a (Some (Count bus source)) = refl
level_test b a (Some (Trigger bus source)) = refl

abbrev pub at_level : ℕ → ℕ → GlobalVariable → Bool
at_level b a g = is_level b a g.location

-- what is located at the level of an address, of the global variables from this number on
abbrev pub output_from : Plant → ℕ → ℕ → ℕ → Option LevelOutput
output_from p n b a = option_map (output_of p) (position_from (at_level b a) n (drop n p.plan.globals))

-- the tables have what is located at levels, of the global variables from this number on
pub record AreOutputsFrom (p : Plant) (n : ℕ) (outputs : List (List (Option LevelOutput))) : Type 0 where
  pub levels : HaveLevels p.plan.buses outputs
  pub each : (b a : ℕ) → b < p.plan.buses → a < 81 → output_in outputs b a ≡ output_from p n b a

pub item_there : {X : Type 0} (xs : List X) (n : ℕ) → n < length xs → (x : X) × (slice_get xs n ≡ Some x)
item_there [] n lt = absurd (omega arith)
item_there (x ∷ xs) zero lt = (x, refl)
item_there (x ∷ xs) (suc n) lt = item_there xs n (omega arith)

pub drop_there : {X : Type 0} (xs : List X) (n : ℕ) (x : X) → n < length xs → slice_get xs n ≡ Some x
    → drop n xs ≡ x ∷ drop (n + 1) xs
drop_there xs n x lt is =
    let same : get_or xs n x ≡ x = let e = slice_get-get_or xs n x lt in cc in
    drop_more xs n x lt ∙ ap (λ (y : _). y ∷ drop (n + 1) xs) same

output_chosen : (p : Plant) (n : ℕ) (here : Bool) (o : Option ℕ)
    → (if here then Some (output_of p n) else option_map (output_of p) o)
    ≡ option_map (output_of p) (if here then Some n else o)
output_chosen p n true o = refl
output_chosen p n false o = refl

turn_at : (p : Plant) (n b a : ℕ) (x : GlobalVariable) (kind : TaskKind) (before : Option LevelOutput)
    → n < length p.plan.globals → slice_get p.plan.globals n ≡ Some x → output_for n kind ≡ output_of p n
    → before ≡ output_from p (n + 1) b a
    → noted_at (level_of p.plan n) (output_for n kind) b a before ≡ output_from p n b a
turn_at p n b a x kind before lt is made was =
    let globals = p.plan.globals in
    let next = position_from (at_level b a) (n + 1) (drop (n + 1) globals) in
    let test : is_at b a (level_of p.plan n) ≡ at_level b a x =
    ap (λ (o : Option GlobalVariable). is_at b a (place_in (option_and_then (λ (g : GlobalVariable). g.location) o))) is
    ∙ level_test b a x.location in
    ap (λ (t : Bool). if t then Some (output_for n kind) else before) test
    ∙ (ap (λ (o : LevelOutput). if at_level b a x then Some o else before) made
    ∙ (ap (λ (o : Option LevelOutput). if at_level b a x then Some (output_of p n) else o) was
    ∙ (output_chosen p n (at_level b a x) next
    ∙ sym (ap (λ (gs : List GlobalVariable). option_map (output_of p) (position_from (at_level b a) n gs))
    (drop_there globals n x lt is)))))

-- one global variable more before these
pub outputs_turn : (p : Plant) (n : ℕ) (kind : TaskKind) (before after : List (List (Option LevelOutput)))
    → n < length p.plan.globals → output_for n kind ≡ output_of p n → HaveLevels p.plan.buses after
    → ((b a : ℕ) → output_in after b a
    ≡ noted_at (level_of p.plan n) (output_for n kind) b a (output_in before b a))
    → AreOutputsFrom p (n + 1) before → AreOutputsFrom p n after
outputs_turn p n kind before after lt made levels noted was =
    let there = item_there p.plan.globals n lt in
    record {
      levels = levels;
      each = λ b a known low.
          noted b a
          ∙ turn_at p n b a there.0 kind (output_in before b a) lt there.1 made (was.each b a known low);
    }

-- ---- a level of a bus

-- what was put at an address of a bus stands there, and nothing else changed
pub put_at : (outputs : List (List (Option LevelOutput))) (row : List (Option LevelOutput)) (bus address : ℕ)
    (place : Option (ℕ × ℕ)) (output : LevelOutput) → bus < length outputs → address < length row
    → row ≡ outputs_at outputs bus → place ≡ Some (bus, address) → (b a : ℕ)
    → output_in (slice_set outputs bus (slice_set row address (Some output))) b a
    ≡ noted_at place output b a (output_in outputs b a)
put_at outputs row bus address place output lt low is at b a =
    let new = slice_set row address (Some output) in
    let after = slice_set outputs bus new in
    let before = output_in outputs b a in
    let test = λ (t : Bool). if t then Some output else before in
    let placed : noted_at place output b a before ≡ test (eqb bus b && eqb address a) =
    ap (λ (o : Option (ℕ × ℕ)). test (is_at b a o)) at in
    ⊎_elim
    (λ (k : (eqb bus b ≡ true) × (bus ≡ b)).
    let here : outputs_at after b ≡ new =
    subst (λ (n : ℕ). outputs_at after n ≡ new) k.1 (get_or-set_same outputs bus new [] lt) in
    ⊎_elim
    (λ (j : (eqb address a ≡ true) × (address ≡ a)).
    ap (λ (l : List (Option LevelOutput)). slice_index_or l a None) here
    ∙ (subst (λ (n : ℕ). slice_index_or new n None ≡ Some output) j.1
    (get_or-set_same row address (Some output) None low)
    ∙ sym (placed ∙ ap test (and_from (eqb bus b) (eqb address a) k.0 j.0))))
    (λ (j : (eqb address a ≡ false) × (address ≢ a)).
    ap (λ (l : List (Option LevelOutput)). slice_index_or l a None) here
    ∙ (get_or-set_other row address a (Some output) None (λ e. j.1 (sym e))
    ∙ (ap (λ (l : List (Option LevelOutput)). slice_index_or l a None)
    (is ∙ ap (outputs_at outputs) k.1)
    ∙ sym (placed ∙ ap test (and_right (eqb bus b) (eqb address a) j.0)))))
    (eqb_tells address a))
    (λ (k : (eqb bus b ≡ false) × (bus ≢ b)).
    ap (λ (l : List (Option LevelOutput)). slice_index_or l a None)
    (get_or-set_other outputs bus b new [] (λ e. k.1 (sym e)))
    ∙ sym (placed ∙ ap test (and_left (eqb bus b) (eqb address a) k.0)))
    (eqb_tells bus b)

-- each bus has 81 levels still
pub put_levels : (buses : ℕ) (outputs : List (List (Option LevelOutput))) (row : List (Option LevelOutput)) (bus : ℕ)
    → bus < length outputs → length row ≡ 81 → HaveLevels buses outputs → HaveLevels buses (slice_set outputs bus row)
put_levels buses outputs row bus lt long was = (
  length-set outputs bus row ∙ was.0,
  λ b known.
      ⊎_elim
      (λ (k : (eqb bus b ≡ true) × (bus ≡ b)).
      subst (λ (n : ℕ). length (outputs_at (slice_set outputs bus row) n) ≡ 81) k.1
      (ap (λ (l : List (Option LevelOutput)). length l) (get_or-set_same outputs bus row [] lt) ∙ long))
      (λ (k : (eqb bus b ≡ false) × (bus ≢ b)).
      ap (λ (l : List (Option LevelOutput)). length l)
      (get_or-set_other outputs bus b row [] (λ e. k.1 (sym e)))
      ∙ was.1 b known)
      (eqb_tells bus b),
)

-- ---- at first

free_as : (n m : ℕ) (row : List (Option LevelOutput)) → row ≡ replicate n None → n ≡ m
    → (length row ≡ m) × ((a : ℕ) → a < m → slice_index_or row a None ≡ None)
free_as n m row is same = (
  ap (λ (l : List (Option LevelOutput)). length l) is ∙ (length-replicate n None ∙ same),
  λ a lt.
      ap (λ (l : List (Option LevelOutput)). slice_index_or l a None) is
      ∙ get_or-replicate n a None None (omega arith),
)

pub free_row : (n : ℕ) (row : List (Option LevelOutput)) → row ≡ replicate n None → n ≡ 81 → AreFree row
free_row n row is same = free_as n 81 row is same

pub kinds_start : (tasks : List PlannedTask) (n k m : ℕ) (kinds : List TaskKind) → kinds ≡ replicate k Cyclic → k ≡ m
    → length tasks ≤ n → AreKindsOf (drop n tasks) m kinds
kinds_start tasks n k m kinds is same past = record {
  many = ap (λ (l : List TaskKind). length l) is ∙ (length-replicate k Cyclic ∙ same);
  each = λ g lt.
      ap (λ (l : List TaskKind). kind_in l g) is
      ∙ (get_or-replicate k g Cyclic Cyclic (omega arith)
      ∙ sym (ap (λ (ts : List PlannedTask). kind_by (find (λ (t : PlannedTask). stores_global t g) ts))
      (drop_all n tasks past)));
}

pub outputs_start : (p : Plant) (n : ℕ) (outputs : List (List (Option LevelOutput))) → length p.plan.globals ≤ n
    → AreAllFree p.plan.buses outputs → AreOutputsFrom p n outputs
outputs_start p n outputs past free = record {
  levels = (free.0, λ b lt. (free.1 b lt).0);
  each = λ b a known low.
      (free.1 b known).1 a low
      ∙ sym (ap (λ (gs : List GlobalVariable). option_map (output_of p) (position_from (at_level b a) n gs))
      (drop_all n p.plan.globals past));
}

-- ---- at the end

pub outputs_done : (p : Plant) (outputs : List (List (Option LevelOutput))) → AreOutputsFrom p 0 outputs
    → OutputsFollow p outputs
outputs_done p outputs done = (
  done.levels.0,
  λ b known. (
    done.levels.1 b known,
    λ a low. done.each b a known low ∙ ap (option_map (output_of p)) (first_is (at_level b a) p.plan.globals),
  ),
)

-- ---- tables

-- so many items, of each of which it holds
abbrev pub AreMade : {X : Type 0} → (ℕ → X → Type 0) → X → ℕ → List X → Type 0
AreMade P none n xs = (length xs ≡ n) × ((i : ℕ) → i < n → P i (slice_index_or xs i none))

pub made_more : {X : Type 0} (P : ℕ → X → Type 0) (none : X) (n : ℕ) (xs : List X) (x : X) → AreMade P none n xs
    → P n x → AreMade P none (n + 1) (xs ++ x ∷ [])
made_more P none n xs x before here = (
  (let e = before.0 in omega (arith, length-append xs (x ∷ []))),
  below_more (λ i. P i (slice_index_or (xs ++ x ∷ []) i none)) n
      (λ i lt. let inside : i < length xs = let e = before.0 in omega arith in
      subst (P i) (sym (get_or_append_left xs (x ∷ []) none i inside)) (before.1 i lt))
      (subst (λ (m : ℕ). P m (slice_index_or (xs ++ x ∷ []) m none)) before.0
      (subst (P (length xs)) (sym (get_or-append_seam xs x [] none)) (subst (λ (m : ℕ). P m x) (sym before.0) here))),
)
