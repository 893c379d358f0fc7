-- What a frame writes by the counts that are kept is what the history says.
use Rattle.std.proofs.Common.{◌≡◌, ℕ, ◌<◌, ◌≤◌, Bool, true, false, ◌&&◌, eqb, List, [], ◌∷◌, length, Option, Some}
use Rattle.std.proofs.Common.{None, refl, sym, ap, ◌∙◌, subst, arith}
use Rattle.std.proofs.lemmas.Grind.{common_steps}
use Rattle.std.proofs.lemmas.Option.{slice_get-get_or, slice_get_past}
use Rattle.std.proofs.lemmas.List.Folds.{find_at}
use Rattle.std.specs.Prelude.{nat_lt, if◌then◌else◌, slice_get, option_map}
use Rattle.std.specs.Option.{option_and_then}
use Rattle.std.specs.List.{position, find, position_or_len}
use Rattle.iltypes.specs.declared.value.Value.{Value}
use Rattle.dalievent.specs.declared.messages.EventSource.{EventSource}
use Rattle.wordlines.specs.declared.sources.BoundSource.{BoundSource}
use Rattle.ilplan.specs.declared.global.Global.{Global as GlobalVariable}
use Rattle.ilplan.specs.declared.global.Location.{Location}
use Rattle.ilplan.specs.declared.global.Location.TheVariants.{Level, GearAnswer, DeviceAnswer, Information, Count}
use Rattle.ilplan.specs.declared.global.Location.TheVariants.{Trigger}
use Rattle.ilmachine.specs.Images.{ImageVariable, Global, Own}
use Rattle.plantevents.specs.declared.event.Event.{Event}
use Rattle.plantevents.specs.declared.event.Event.TheVariants.{Heard}
use Rattle.plantevents.specs.Plants.{Plant, location, first_count}
use Rattle.dalievent.specs.Messages.{is_message, information}
use Rattle.plantevents.specs.Histories.{message_count}
use Rattle.plantevents.specs.Variables.{whole, write_of, heard_write, speaker, information_by, count_by}
use Rattle.plant.specs.KeptSteps.{CountsFollow, source_in, no_source}
use Rattle.plant.specs.InputSteps.{is_bound_at, information_of, count_of, written_by, input_at}

-- the number of a source, and the source
abbrev FoundBy : (BoundSource → Bool) → List BoundSource → Option ℕ → Option BoundSource → Type 0
FoundBy test xs (Some i) s = (i < length xs) × (s ≡ Some (source_in xs i)) × (test (source_in xs i) ≡ true)
FoundBy test xs None s = s ≡ None

passes_first : (test : BoundSource → Bool) (y x : BoundSource) (more : Option BoundSource) (t : Bool) → test y ≡ t
    → (more ≡ Some x → test x ≡ true) → (if t then Some y else more) ≡ Some x → test x ≡ true
passes_first test y x more true is later found = let e : y ≡ x = cc in subst (λ (z : BoundSource). test z ≡ true) e is
passes_first test y x more false is later found = later found

passes : (test : BoundSource → Bool) (xs : List BoundSource) (x : BoundSource) → find test xs ≡ Some x → test x ≡ true
passes test [] x is = absurd (cc)
passes test (y ∷ xs) x is = passes_first test y x (find test xs) (test y) refl (passes test xs x) is

by_place : (test : BoundSource → Bool) (xs : List BoundSource) (n : ℕ) (s : Option BoundSource) → s ≡ slice_get xs n
    → ((x : BoundSource) → s ≡ Some x → test x ≡ true) → (t : Bool) → nat_lt n (length xs) ≡ t
    → FoundBy test xs (if t then Some n else None) s
by_place test xs n s is pass true below =
    let lt : n < length xs = grind (arith, common_steps) in
    let at : s ≡ Some (source_in xs n) = is ∙ slice_get-get_or xs n no_source lt in (lt, at, pass (source_in xs n) at)
by_place test xs n s is pass false below =
    let le : length xs ≤ n = grind (arith, common_steps) in is ∙ slice_get_past xs n le

found : (test : BoundSource → Bool) (xs : List BoundSource) → FoundBy test xs (position test xs) (find test xs)
found test xs = by_place test xs (position_or_len test xs) (find test xs) (find_at test xs) (passes test xs)
    (nat_lt (position_or_len test xs) (length xs)) refl

-- ---- what is written

either_way : (t : Bool) (source : EventSource) (F : EventSource → Value)
    → (if t then Some (F source) else None) ≡ option_map F (if t then Some source else None)
either_way true source F = refl
either_way false source F = refl

information_same : (sources : List BoundSource) (bus b f number : ℕ) (o : Option ℕ) (s : Option BoundSource)
    → FoundBy (is_bound_at bus number) sources o s
    → option_and_then (information_of sources bus b f) o
    ≡ information_by f (speaker bus b f (option_map (λ (x : BoundSource). x.source) s))
information_same sources bus b f number None s by =
    sym (ap (λ (s : Option BoundSource). information_by f (speaker bus b f
    (option_map (λ (x : BoundSource). x.source) s))) by)
information_same sources bus b f number (Some i) s by =
    let source = (source_in sources i).source in
    either_way (eqb b bus && is_message source f) source (λ (x : EventSource). whole (information x f))
    ∙ sym (ap (λ (s : Option BoundSource). information_by f
    (speaker bus b f (option_map (λ (x : BoundSource). x.source) s))) by.1)

at_place : (bus number : ℕ) (bound : BoundSource) → is_bound_at bus number bound ≡ true
    → (bound.bus ≡ bus) × (bound.number ≡ number)
at_place bus number bound is = (grind (arith, common_steps), grind (arith, common_steps))

count_same : (globals : List GlobalVariable) (sources : List BoundSource) (counts : List ℕ) (bus b f number : ℕ) (h : List Event) (o : Option ℕ)
    (s : Option BoundSource) → CountsFollow globals sources h counts → FoundBy (is_bound_at bus number) sources o s
    → option_and_then (count_of sources counts bus b f) o
    ≡ count_by (first_count globals bus number) bus h (speaker bus b f (option_map (λ (x : BoundSource). x.source) s))
count_same globals sources counts bus b f number h None s follow by =
    sym (ap (λ (s : Option BoundSource). count_by (first_count globals bus number) bus h (speaker bus b f
    (option_map (λ (x : BoundSource). x.source) s))) by)
count_same globals sources counts bus b f number h (Some i) s follow by =
    let bound = source_in sources i in let source = bound.source in
    let counted = (follow.1 i by.0).counted in
    let first = first_count globals bus number in
    let at = at_place bus number bound by.2 in
    let here = ap (λ (m : ℕ). message_count (first_count globals m bound.number) m source h) at.0
    ∙ ap (λ (n : ℕ). message_count (first_count globals bus n) bus source h) at.1 in
    ap (λ (n : ℕ). if eqb b bus && is_message source f then Some (whole n) else None) (counted ∙ here)
    ∙ (either_way (eqb b bus && is_message source f) source (λ (x : EventSource). whole (message_count first bus x h))
    ∙ sym (ap (λ (s : Option BoundSource). count_by (first_count globals bus number) bus h (speaker bus b f
    (option_map (λ (x : BoundSource). x.source) s))) by.1))

place_same : (p : Plant) (b f : ℕ) (h : List Event) (counts : List ℕ)
    → CountsFollow p.plan.globals p.plan.sources (Heard b f ∷ h) counts → (o : Option Location)
    → option_and_then (written_by p.plan.sources counts b f) o ≡ heard_write p b f h o
place_same p b f h counts follow None = refl
place_same p b f h counts follow (Some (Level bus a)) = refl
place_same p b f h counts follow (Some (GearAnswer bus s)) = refl
place_same p b f h counts follow (Some (DeviceAnswer bus s)) = refl
place_same p b f h counts follow (Some (Trigger bus number)) = refl
place_same p b f h counts follow (Some (Information bus number)) =
    information_same p.plan.sources bus b f number _ _ (found (is_bound_at bus number) p.plan.sources)
place_same p b f h counts follow (Some (Count bus number)) =
    count_same p.plan.globals p.plan.sources counts bus b f number (Heard b f ∷ h) _ _ follow
    (found (is_bound_at bus number) p.plan.sources)

pub writes_same : (p : Plant) (b f : ℕ) (h : List Event) (counts : List ℕ)
    → CountsFollow p.plan.globals p.plan.sources (Heard b f ∷ h) counts
    → (v : ImageVariable) → input_at p.plan counts b f v ≡ write_of p v (Heard b f) h
writes_same p b f h counts follow (Global number) = place_same p b f h counts follow (location p number)
writes_same p b f h counts follow (Own t number) = refl
