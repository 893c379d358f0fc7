-- Who knows more before a word knows more after it, where it leads to the next place alone.
use Rattle.std.proofs.Common.{◌≡◌, ℕ, zero, suc, ◌+◌, Bool, true, false, List, [], ◌∷◌, Option, Some, None, refl, sym}
use Rattle.std.proofs.Common.{subst}
use Rattle.std.specs.Prelude.{slice_get, slice_set, ⊤}
use Rattle.std.specs.List.{AllZip}
use Rattle.std.specs.Option.{option_map}
use Rattle.iltypes.specs.declared.value.IlType.{IlType}
use Rattle.ilcode.specs.Stores.{type_of_port}
use Rattle.iltypes.specs.declared.function.Function.{Function}
use Rattle.iltypes.specs.declared.function.Function.TheVariants as functions
use Rattle.iltypes.specs.declared.operator.Operator.{Operator}
use Rattle.ilcode.specs.declared.word.WordOperand.{WordOperand}
use Rattle.ilcode.specs.declared.word.WordOperand.TheVariants as operands
use Rattle.ilcode.specs.declared.word.Target.{Target}
use Rattle.ilcode.specs.declared.word.Target.TheVariants as variables
use Rattle.ilcode.specs.declared.word.Word.{Word}
use Rattle.ilcode.specs.declared.word.Word.TheVariants as words
use Rattle.ilcode.specs.Listings.{Listing, shape_of, slots_end}
use Rattle.ilverify.specs.declared.entry.Entry.{Entry}
use Rattle.ilverify.specs.declared.known.Known.{Known}
use Rattle.ilverify.specs.declared.mark.ResultMark.{ResultMark}
use Rattle.ilverify.specs.declared.nesting.KnownOpened.{KnownOpened}
use Rattle.ilverify.specs.Entries.{IsResultInto, IsOpenedInto, IsInto}
use Rattle.ilverify.specs.Operands.{known_of, known_of_result, type_of_variable}
use Rattle.ilverify.specs.Knowns.{IsKnownWithin, known_of_type, known_of_value}
use Rattle.ilverify.specs.Marks.{IsMarkInto, constant_of}
use Rattle.ilverify.specs.Rules.{IsModified, IsLoaded, IsApplied, IsTransformed, IsStored, Gives, Writes, Passes}
use Rattle.ilverify.specs.Rules.{unmarked, Opens, Closes, GivesSlot, reset, returned, IsEntryAfter}
use Rattle.ilverify.proofs.OrderMarks.{load_marks, apply_marks, function_marks}
use Rattle.ilverify.proofs.OrderOperators as operators
use Rattle.ilverify.proofs.OrderFunctions as monotone
use Rattle.ilverify.proofs.Knowns.{known_self}

-- ---- operands

-- the first says no less than the second where it is there, and both are there or neither
abbrev pub IsBothWithin : Option Known → Option Known → Type 0
IsBothWithin None None = ⊤
IsBothWithin None (Some wider) = ⊥
IsBothWithin (Some known) None = ⊥
IsBothWithin (Some known) (Some wider) = IsKnownWithin known wider

both_self : (known : Option Known) → IsBothWithin known known
both_self None = tt
both_self (Some known) = known_self known

pub slot_within : (slots wider : List Known) (slot : ℕ) → AllZip IsKnownWithin slots wider
    → IsBothWithin (slice_get slots slot) (slice_get wider slot)
slot_within [] [] slot h = tt
slot_within [] (y ∷ ys) slot h = absurd h
slot_within (x ∷ xs) [] slot h = absurd h
slot_within (x ∷ xs) (y ∷ ys) zero h = h.0
slot_within (x ∷ xs) (y ∷ ys) (suc slot) h = slot_within xs ys slot h.1

pub operand_within : (code : Listing) (entry wider : Entry) (operand : WordOperand) → IsInto entry wider
    → IsBothWithin (known_of code entry operand) (known_of code wider operand)
operand_within code entry wider (operands.Slot slot) i = slot_within entry.slots wider.slots slot i.slots
operand_within code entry wider (operands.Constant constant) i =
    both_self (option_map known_of_value (slice_get code.constants constant))
operand_within code entry wider (operands.Port port block) i =
    both_self (option_map known_of_type (type_of_port (shape_of code) block port))

pub set_within : (slots wider : List Known) (slot : ℕ) (known other : Known) → AllZip IsKnownWithin slots wider
    → IsKnownWithin known other → AllZip IsKnownWithin (slice_set slots slot known) (slice_set wider slot other)
set_within [] [] slot known other h w = tt
set_within [] (y ∷ ys) slot known other h w = absurd h
set_within (x ∷ xs) [] slot known other h w = absurd h
set_within (x ∷ xs) (y ∷ ys) zero known other h w = (w, h.1)
set_within (x ∷ xs) (y ∷ ys) (suc slot) known other h w = (h.0, set_within xs ys slot known other h.1 w)

-- ---- what words give

modified_within : (negated : Bool) (known wider after other : Known) → IsKnownWithin known wider
    → IsModified negated known after → IsModified negated wider other → IsKnownWithin after other
modified_within true known wider after other w h g = monotone.order functions.Not known after wider other w h g
modified_within false known wider after other w h g =
    subst (λ (k : Known). IsKnownWithin k other) h (subst (IsKnownWithin known) g w)

loaded_within : (negated : Bool) (operand wider : Option Known) (after other : Known) → IsBothWithin operand wider
    → IsLoaded negated operand after → IsLoaded negated wider other → IsKnownWithin after other
loaded_within negated None wider after other w h g = absurd h
loaded_within negated (Some known) None after other w h g = absurd g
loaded_within negated (Some known) (Some wider) after other w h g =
    modified_within negated known wider after other w h g

applied_within : (operator : Operator) (left wider_left right wider_right : Option Known) (after other : Known)
    → IsResultInto left wider_left → IsResultInto right wider_right → IsApplied operator left right after
    → IsApplied operator wider_left wider_right other → IsKnownWithin after other
applied_within operator left None right wider_right after other w v h g = absurd g
applied_within operator left (Some wl) right None after other w v h g = absurd g
applied_within operator None (Some wl) right (Some wr) after other w v h g = absurd h
applied_within operator (Some l) (Some wl) None (Some wr) after other w v h g = absurd h
applied_within operator (Some l) (Some wl) (Some r) (Some wr) after other w v h g =
    operators.order operator l r after wl wr other w v h g

pub both_into : (known wider : Option Known) → IsBothWithin known wider → IsResultInto known wider
both_into known None h = tt
both_into None (Some wider) h = absurd h
both_into (Some known) (Some wider) h = h

transformed_within : (function : Function) (result wider : Option Known) (after other : Known)
    → IsResultInto result wider → IsTransformed function result after → IsTransformed function wider other
    → IsKnownWithin after other
transformed_within function result None after other w h g = absurd g
transformed_within function None (Some wider) after other w h g = absurd h
transformed_within function (Some known) (Some wider) after other w h g =
    monotone.order function known after wider other w h g

stored_within : (negated : Bool) (result wider : Option Known) (type : Option IlType) (after other : Known)
    → IsResultInto result wider → IsStored negated result type after → IsStored negated wider type other
    → IsKnownWithin after other
stored_within negated None wider type after other w h g = absurd h
stored_within negated (Some known) wider None after other w h g = absurd h
stored_within negated (Some known) None (Some type) after other w h g = absurd g
stored_within negated (Some known) (Some wider) (Some type) after other w h g =
    modified_within negated known wider after other w h.0 g.0

-- ---- what words leave

pub into_of : (entry wider after other : Entry) → after ≡ entry → other ≡ wider → IsInto entry wider
    → IsInto after other
into_of entry wider after other p q i =
    subst (λ (e : Entry). IsInto e other) (sym p) (subst (IsInto entry) (sym q) i)

gives_into : (entry wider after other : Entry) (nesting wider_nesting : List KnownOpened)
    (mark_of wider_mark_of : Known → Option ResultMark) (P Q : Known → Type 0) → IsInto entry wider
    → AllZip IsOpenedInto nesting wider_nesting
    → ((known its : Known) → P known → Q its → IsKnownWithin known its)
    → ((known its : Known) → IsKnownWithin known its → IsMarkInto (mark_of known) (wider_mark_of its))
    → Gives entry nesting mark_of P after → Gives wider wider_nesting wider_mark_of Q other → IsInto after other
gives_into entry wider after other nesting wider_nesting mark_of wider_mark_of P Q i n each marks h g =
    let w = each h.known g.known h.given g.given in
    into_of _ _ after other h.is g.is
    (record { slots = i.slots; result = w; mark = marks h.known g.known w; nesting = n })

writes_into : (entry wider after other : Entry) (variable : Target) (P Q : Known → Type 0) → IsInto entry wider
    → ((known its : Known) → P known → Q its → IsKnownWithin known its) → Writes entry variable P after
    → Writes wider variable Q other → IsInto after other
writes_into entry wider after other (variables.Port port block) P Q i each h g =
    into_of entry wider after other h.is g.is i
writes_into entry wider after other (variables.Slot slot) P Q i each h g =
    into_of _ _ after other h.is g.is (record {
      slots = set_within entry.slots wider.slots slot h.stored g.stored i.slots
          (each h.stored g.stored h.written g.written);
      result = i.result;
      mark = i.mark;
      nesting = i.nesting;
    })

passes_into : (entry wider after other : Entry) (P Q : Known → Type 0) → IsInto entry wider → Passes entry P after
    → Passes wider Q other → IsInto after other
passes_into entry wider after other P Q i h g =
    into_of _ _ after other h.is g.is
    (record { slots = i.slots; result = i.result; mark = tt; nesting = i.nesting })

gives_slot_into : (entry wider after other : Entry) (slot : ℕ) (P Q : Known → Type 0) → IsInto entry wider
    → ((known its : Known) → P known → Q its → IsKnownWithin known its) → GivesSlot entry slot P after
    → GivesSlot wider slot Q other → IsInto after other
gives_slot_into entry wider after other slot P Q i each h g =
    into_of _ _ after other h.is g.is (record {
      slots = set_within entry.slots wider.slots slot h.stored g.stored i.slots
          (each h.stored g.stored h.given g.given);
      result = i.result;
      mark = tt;
      nesting = i.nesting;
    })

reset_within : (from to : ℕ) (types : List IlType) (slots wider : List Known) → AllZip IsKnownWithin slots wider
    → AllZip IsKnownWithin (reset from to types slots) (reset from to types wider)
reset_within zero zero types slots wider h = h
reset_within (suc from) zero types slots wider h = h
reset_within zero (suc to) [] slots wider h = h
reset_within (suc from) (suc to) [] slots wider h = h
reset_within zero (suc to) (t ∷ ts) [] [] h = tt
reset_within (suc from) (suc to) (t ∷ ts) [] [] h = tt
reset_within zero (suc to) (t ∷ ts) [] (y ∷ ys) h = absurd h
reset_within (suc from) (suc to) (t ∷ ts) [] (y ∷ ys) h = absurd h
reset_within zero (suc to) (t ∷ ts) (x ∷ xs) [] h = absurd h
reset_within (suc from) (suc to) (t ∷ ts) (x ∷ xs) [] h = absurd h
reset_within zero (suc to) (t ∷ ts) (x ∷ xs) (y ∷ ys) h =
    (known_self (known_of_type t), reset_within zero to ts xs ys h.1)
reset_within (suc from) (suc to) (t ∷ ts) (x ∷ xs) (y ∷ ys) h = (h.0, reset_within from to ts xs ys h.1)

result_self : (result : Option Known) → IsResultInto result result
result_self None = tt
result_self (Some known) = known_self known

returned_into : (code : Listing) (entry wider after other : Entry) (function : ℕ) → IsInto entry wider
    → after ≡ returned code entry function → other ≡ returned code wider function → IsInto after other
returned_into code entry wider after other function i h g =
    into_of _ _ after other h g (record {
      slots = reset_within (slots_end code 0) (slots_end code (function + 1)) code.slots entry.slots wider.slots
          i.slots;
      result = result_self (known_of_result code (slice_get code.functions function));
      mark = tt;
      nesting = i.nesting;
    })

opens_into : (entry wider after other : Entry) (operator : Operator) (result wider_result : Option Known)
    → IsInto entry wider → IsResultInto result wider_result → Opens entry operator result after
    → Opens wider operator wider_result other → IsInto after other
opens_into entry wider after other operator result None i w h g = absurd g
opens_into entry wider after other operator None (Some saved) i w h g = absurd h
opens_into entry wider after other operator (Some saved) (Some wider_saved) i w h g =
    into_of _ _ after other h g (record {
      slots = i.slots;
      result = tt;
      mark = tt;
      nesting = (record { operator = refl; saved = w }, i.nesting);
    })

closes_into : (entry wider after other : Entry) (nesting wider_nesting : List KnownOpened) → IsInto entry wider
    → AllZip IsOpenedInto nesting wider_nesting → Closes entry nesting after → Closes wider wider_nesting other
    → IsInto after other
closes_into entry wider after other [] wider_nesting i n h g = absurd h
closes_into entry wider after other (x ∷ xs) [] i n h g = absurd g
closes_into entry wider after other (x ∷ xs) (y ∷ ys) i n h g =
    gives_into entry wider after other xs ys unmarked unmarked _ _ i n.1
    (λ known its p q.
    applied_within y.operator (Some x.saved) (Some y.saved) entry.result wider.result known its n.0.saved i.result
    (subst (λ (o : Operator). IsApplied o (Some x.saved) entry.result known) n.0.operator p) q)
    (λ known its w. tt) h g

pub after_into : (word : Word) (code : Listing) (place : ℕ) (entry wider after other : Entry) → IsInto entry wider
    → IsEntryAfter code place entry word after → IsEntryAfter code place wider word other → IsInto after other
after_into (words.Load negated operand) code place entry wider after other i h g =
    gives_into entry wider after other entry.nesting wider.nesting _ _ _ _ i i.nesting
    (λ known its. loaded_within negated (known_of code entry operand) (known_of code wider operand) known its
    (operand_within code entry wider operand i)) (load_marks negated operand) h.1 g.1
after_into (words.Apply operator operand) code place entry wider after other i h g =
    gives_into entry wider after other entry.nesting wider.nesting _ _ _ _ i i.nesting
    (λ known its.
    applied_within operator entry.result wider.result (known_of code entry operand) (known_of code wider operand)
    known its i.result (both_into _ _ (operand_within code entry wider operand i)))
    (λ known its w. apply_marks entry.mark wider.mark operator (constant_of code operand) i.mark) h.1 g.1
after_into (words.Transform function) code place entry wider after other i h g =
    gives_into entry wider after other entry.nesting wider.nesting _ _ _ _ i i.nesting
    (λ known its. transformed_within function entry.result wider.result known its i.result)
    (λ known its w. function_marks entry.mark wider.mark function i.mark) h g
after_into (words.Store negated variable) code place entry wider after other i h g =
    writes_into entry wider after other variable _ _ i
    (λ known its.
    stored_within negated entry.result wider.result (type_of_variable code variable) known its i.result) h.1 g.1
after_into (words.Set variable) code place entry wider after other i h g = into_of entry wider after other h.2 g.2 i
after_into (words.Reset variable) code place entry wider after other i h g = into_of entry wider after other h.2 g.2 i
after_into (words.Pass port block operand) code place entry wider after other i h g =
    passes_into entry wider after other _ _ i h.2 g.2
after_into (words.Call block) code place entry wider after other i h g =
    into_of _ _ after other h.2 g.2 (record { slots = i.slots; result = tt; mark = tt; nesting = i.nesting })
after_into (words.Open operator) code place entry wider after other i h g =
    opens_into entry wider after other operator entry.result wider.result i i.result h g
after_into words.Close code place entry wider after other i h g =
    closes_into entry wider after other entry.nesting wider.nesting i i.nesting h g
after_into (words.Jump condition target) code place entry wider after other i h g = absurd h
after_into (words.Give operand slot) code place entry wider after other i h g =
    gives_slot_into entry wider after other slot _ _ i
    (λ known its.
    stored_within false (known_of code entry operand) (known_of code wider operand)
    (type_of_variable code (variables.Slot slot)) known its
    (both_into _ _ (operand_within code entry wider operand i))) h.2 g.2
after_into (words.Invoke function) code place entry wider after other i h g =
    returned_into code entry wider after other function i h g
