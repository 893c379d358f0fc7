-- A row under overrides: it is what gathering gives where the global variables have the values of the overrides.
use Rattle.std.proofs.Common.{◌≡◌, ℕ, zero, suc, ◌+◌, ◌<◌, List, [], ◌∷◌, ◌++◌, map, drop, length, get_or, Bool, false}
use Rattle.std.proofs.Common.{cond, sym, ap, ◌∙◌, subst}
use Rattle.std.specs.Prelude.{All, slice_set, ◌==◌}
use Rattle.std.proofs.lemmas.List.{drop_more, length-set}
use Rattle.std.proofs.lemmas.List.Elements.{All-head, All-tail}
use Rattle.iltypes.specs.declared.value.Value.{Value}
use Rattle.iltypes.specs.declared.value.Value.TheVariants as values
use Rattle.ilcells.specs.Cells.{is_number_of}
use Rattle.ilcells.specs.Banks.{kinds_of}
use Rattle.ilmachine.specs.declared.external.External.{External}
use Rattle.ilmachine.specs.declared.overriding.Override.{Override}
use Rattle.ilmachine.specs.declared.slots.TaskSlot.{TaskSlot}
use Rattle.ilmachine.specs.ImageSteps.{global_value, globals_under}
use Rattle.ilmachine.specs.RowSteps.{MaySet, row_with, row_under, slots_at}
use Rattle.ilmachine.proofs.RowSlots.{no_slot}
use Rattle.ilmachine.proofs.RowReady.{AreIn, front_with, own_with}

abbrev pub no_override : Override
no_override = record { global = 0; value = values.Bool false }

-- ---- kinds stay

pub kinds_kept : (row : List Value) (slot : ℕ) (value : Value) → MaySet row slot value
    → kinds_of (slice_set row slot value) ≡ kinds_of row
kinds_kept [] slot value h = absurd h
kinds_kept (v ∷ row) zero value h = ap (λ (k : Bool). k ∷ kinds_of row) (sym h)
kinds_kept (v ∷ row) (suc slot) value h =
    ap (λ (ks : List Bool). is_number_of v ∷ ks) (kinds_kept row slot value h)

pub may_move : (row other : List Value) (slot : ℕ) (value : Value) → kinds_of row ≡ kinds_of other
    → MaySet other slot value → MaySet row slot value
may_move row [] slot value e h = absurd h
may_move [] (w ∷ other) slot value e h = absurd (cc)
may_move (v ∷ row) (w ∷ other) zero value e h = cc
may_move (v ∷ row) (w ∷ other) (suc slot) value e h = may_move row other slot value (cc) h

-- ---- one turn of each loop

pub slot_turn : (slots : List TaskSlot) (i : ℕ) (value : Value) (task : ℕ) (row after all : List Value) (b : Bool)
    → i < length slots → ((get_or slots i no_slot).task == task) ≡ b
    → after ≡ cond b (slice_set row (get_or slots i no_slot).slot value) row
    → row_with (drop i slots) value task row ≡ all → row_with (drop (i + 1) slots) value task after ≡ all
slot_turn slots i value task row after all b h e a was =
    let one = get_or slots i no_slot in
    ap (row_with (drop (i + 1) slots) value task)
    (a ∙ ap (λ (c : Bool). cond c (slice_set row one.slot value) row) (sym e))
    ∙ sym (ap (λ (ss : List TaskSlot). row_with ss value task row) (drop_more slots i no_slot h)) ∙ was

pub override_turn : (index : List (List TaskSlot)) (task : ℕ) (overrides : List Override) (i : ℕ)
    (row after all : List Value) → i < length overrides
    → after ≡ row_with (slots_at index (get_or overrides i no_override).global) (get_or overrides i no_override).value
    task row
    → row_under index task (drop i overrides) row ≡ all → row_under index task (drop (i + 1) overrides) after ≡ all
override_turn index task overrides i row after all h a was =
    ap (row_under index task (drop (i + 1) overrides)) a
    ∙ sym (ap (λ (os : List Override). row_under index task os row) (drop_more overrides i no_override h)) ∙ was

-- ---- the row is what gathering gives

abbrev pub AreKnown : List Override → ℕ → Type 0
AreKnown overrides globals = All (λ (o : Override). o.global < globals) overrides

pub under_ready : (index : List (List TaskSlot)) (task : ℕ) (overrides : List Override) (globals : List Value)
    (externals : List External) (row : List Value)
    → ((global : ℕ) → AreIn (slots_at index global) task global externals) → AreKnown overrides (length globals)
    → row ≡ map (global_value globals) externals ++ drop (length externals) row
    → row_under index task overrides row
    ≡ map (global_value (globals_under overrides globals)) externals ++ drop (length externals) row
under_ready index task [] globals externals row s known ready = ready
under_ready index task (o ∷ more) globals externals row s known ready =
    let Known = λ (o : Override). o.global < length globals in
    let slots = slots_at index o.global in
    let after = row_with slots o.value task row in
    let gs = slice_set globals o.global o.value in
    let rest = subst (AreKnown more) (sym (length-set globals o.global o.value)) (All-tail Known o more known) in
    under_ready index task more gs externals after s rest
    (front_with globals externals slots o.global o.value task row (s o.global) (All-head Known o more known) ready)
    ∙ ap (λ (own : List Value). map (global_value (globals_under more gs)) externals ++ own)
    (own_with externals slots o.global o.value task row (s o.global))
