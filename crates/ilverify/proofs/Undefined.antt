-- Where a cause arises the word is undefined in some run, whatever the word.
use Rattle.std.proofs.Common.{◌≡◌, ℕ, ◌+◌, List, [], ◌∷◌, Bool, true, false, Option, Some, None, cond}
use Rattle.std.proofs.Common.{refl, sym, ap, subst, inl, inr}
use Rattle.std.specs.Prelude.{slice_get, IsNone, IsTrue}
use Rattle.std.specs.List.{AllZip}
use Rattle.std.specs.Option.{option_and_then, option_map}
use Rattle.iltypes.specs.declared.condition.Condition.{Condition}
use Rattle.iltypes.specs.declared.condition.Condition.TheVariants.{Always, IfTrue, IfFalse}
use Rattle.iltypes.specs.declared.operator.Operator.{Operator}
use Rattle.iltypes.specs.declared.value.Value.{Value}
use Rattle.iltypes.specs.declared.value.Value.TheVariants as values
use Rattle.iltypes.specs.Conditions.{holds, chosen}
use Rattle.iltypes.specs.Operators.{both}
use Rattle.ilcode.specs.BlockKind.{BlockKind}
use Rattle.ilcode.specs.Stores.{Store, called, after_block}
use Rattle.ilcode.specs.declared.nesting.Opened.{Opened}
use Rattle.ilcode.specs.declared.word.Word.{Word}
use Rattle.ilcode.specs.declared.word.Word.TheVariants as words
use Rattle.ilcode.specs.Listings.{Listing, shape_of}
use Rattle.ilcode.specs.Steps.{Configuration, opened, with_result, calls}
use Rattle.ilcode.specs.Steps.{is_target, goes_to, jumps}
use Rattle.ilverify.specs.declared.cause.Cause.{Cause}
use Rattle.ilverify.specs.declared.cause.Cause.TheVariants as causes
use Rattle.ilverify.specs.declared.entry.Entry.{Entry}
use Rattle.ilverify.specs.declared.known.Known.{Known}
use Rattle.ilverify.specs.declared.known.Known.TheVariants as knowns
use Rattle.ilverify.specs.declared.nesting.KnownOpened.{KnownOpened}
use Rattle.ilverify.specs.CauseLaws.{IsUndefined, IsTyped, IsOfStep, IsWrong, IsNoWhim}
use Rattle.ilverify.specs.Fits.{IsResultKnown, IsOpenedKnown}
use Rattle.ilverify.specs.Refusals.{ArisesAtClose, ArisesAtCondition, ArisesAtWord}
use Rattle.ilverify.proofs.UndefinedStores.{some_known, alike_self, base, base_chosen}
use Rattle.ilverify.proofs.UndefinedStores.{result_of, result_known, nesting_of, nesting_known, stands}
use Rattle.ilverify.proofs.UndefinedStores.{undefined_from, undefined_with}
use Rattle.ilverify.proofs.UndefinedOperators.{IsChoice, choice_known, AreAlike, HasNone, operator_none}
use Rattle.ilverify.proofs.UndefinedValues.{no_operand_none, load, apply, transform}
use Rattle.ilverify.proofs.UndefinedWrites.{store, set, reset, pass, give}

-- ---- CAL

no_kind : (code : Listing) (s : Store) (block : ℕ) (kind : Option BlockKind) → slice_get code.kinds block ≡ kind
    → IsNone kind → called (shape_of code) s block ≡ None
no_kind code s block None e h =
    ap (option_and_then (λ kind. option_map (after_block kind s block) (slice_get s.blocks block))) e
no_kind code s block (Some kind) e h = absurd (cc)

call : (code : Listing) (place : ℕ) (met : Bool) (entry : Entry) (block : ℕ) (cause : Cause) → IsTyped code entry
    → IsOfStep cause → ArisesAtWord code place met entry (words.Call block) cause
    → IsWrong code place entry (words.Call block) cause
call code place met entry block causes.BadSlot t s (inl none) =
    let result = result_of entry.result in
    let c = stands code place (base code entry) result (nesting_of entry.nesting) in
    inl (undefined_with code place entry (words.Call block) (base code entry) result (base_chosen code entry t)
    (result_known entry.result)
    (ap (calls c) (no_kind code (base code entry) block (slice_get code.kinds block) refl none)))
call code place met entry block causes.BadSlot t s (inr programs) = inr programs
call code place met entry block causes.WrongType t s h = absurd h
call code place met entry block causes.NoResult t s h = absurd h
call code place met entry block causes.EmptyNesting t s h = absurd h
call code place met entry block causes.OpenNesting t s h = absurd s
call code place met entry block causes.MayBeZero t s h = absurd h
call code place met entry block (causes.OutOfRange found allowed) t s h = absurd h
call code place met entry block causes.TooBig t s h = absurd h
call code place met entry block causes.BadJump t s h = absurd h
call code place met entry block causes.TooManyRequests t s h = absurd s
call code place met entry block causes.TooLong t s h = absurd s
call code place met entry block causes.BadCall t s h = absurd s

-- ---- parentheses

open_known : (code : Listing) (place : ℕ) (entry : Entry) (operator : Operator) (known : Option Known)
    → IsTyped code entry → entry.result ≡ known → IsNone known
    → IsUndefined code place entry (words.Open operator)
open_known code place entry operator None t e h =
    undefined_with code place entry (words.Open operator) (base code entry) None (base_chosen code entry t)
    (subst (IsResultKnown None) (sym e) tt) refl
open_known code place entry operator (Some known) t e h = absurd (cc)

opens_word : (code : Listing) (place : ℕ) (met : Bool) (entry : Entry) (operator : Operator) (cause : Cause)
    → IsTyped code entry → IsOfStep cause → ArisesAtWord code place met entry (words.Open operator) cause
    → IsWrong code place entry (words.Open operator) cause
opens_word code place met entry operator causes.NoResult t s h =
    open_known code place entry operator entry.result t refl h
opens_word code place met entry operator causes.WrongType t s h = absurd h
opens_word code place met entry operator causes.EmptyNesting t s h = absurd h
opens_word code place met entry operator causes.OpenNesting t s h = absurd s
opens_word code place met entry operator causes.MayBeZero t s h = absurd h
opens_word code place met entry operator (causes.OutOfRange found allowed) t s h = absurd h
opens_word code place met entry operator causes.TooBig t s h = absurd h
opens_word code place met entry operator causes.BadJump t s h = absurd h
opens_word code place met entry operator causes.TooManyRequests t s h = absurd s
opens_word code place met entry operator causes.BadSlot t s h = absurd h
opens_word code place met entry operator causes.TooLong t s h = absurd s
opens_word code place met entry operator causes.BadCall t s h = absurd s

-- nothing is open
close_empty : (code : Listing) (place : ℕ) (entry : Entry) → IsTyped code entry → entry.nesting ≡ []
    → IsUndefined code place entry words.Close
close_empty code place entry t e =
    undefined_from code place entry words.Close (base code entry) (result_of entry.result) []
    (base_chosen code entry t) (result_known entry.result) (subst (AllZip IsOpenedKnown []) (sym e) tt) refl

alike_choice : (value : Option Value) (known : Option Known) → IsChoice value known → AreAlike value value
alike_choice None None h = tt
alike_choice None (Some known) h = tt
alike_choice (Some value) known h = alike_self value

-- what waits and the current result have no value
close_with : (code : Listing) (place : ℕ) (entry : Entry) (innermost : KnownOpened) (nesting : List KnownOpened)
    → IsTyped code entry → entry.nesting ≡ innermost ∷ nesting
    → (h : HasNone innermost.operator (Some innermost.saved) entry.result) → (one : Option Value) → h.one ≡ one
    → IsUndefined code place entry words.Close
close_with code place entry innermost nesting t e h None p =
    absurd (subst (λ (o : Option Value). IsChoice o (Some innermost.saved)) p h.is_one)
close_with code place entry innermost nesting t e h (Some saved) p =
    let known = subst (λ (o : Option Value). IsChoice o (Some innermost.saved)) p h.is_one in
    let waiting = opened innermost.operator saved ∷ nesting_of nesting in
    let zip : AllZip IsOpenedKnown waiting (innermost ∷ nesting) =
    (record { operator = refl; saved = known }, nesting_known nesting) in
    let c = stands code place (base code entry) h.other waiting in
    let none = subst (λ (o : Option Value). both innermost.operator o h.other ≡ None) p
    (h.none h.other (alike_choice h.other entry.result h.is_other)) in
    undefined_from code place entry words.Close (base code entry) h.other waiting (base_chosen code entry t)
    (choice_known h.other entry.result h.is_other) (subst (AllZip IsOpenedKnown waiting) (sym e) zip)
    (ap (with_result c (nesting_of nesting)) none)

close_by : (code : Listing) (place : ℕ) (entry : Entry) (innermost : KnownOpened) (nesting : List KnownOpened)
    → IsTyped code entry → entry.nesting ≡ innermost ∷ nesting
    → HasNone innermost.operator (Some innermost.saved) entry.result → IsUndefined code place entry words.Close
close_by code place entry innermost nesting t e h =
    close_with code place entry innermost nesting t e h h.one refl

closing : (code : Listing) (place : ℕ) (entry : Entry) (nesting : List KnownOpened) (cause : Cause) → IsTyped code entry
    → entry.nesting ≡ nesting → ArisesAtClose nesting entry.result cause → IsUndefined code place entry words.Close
closing code place entry [] causes.WrongType t e h = absurd h
closing code place entry (innermost ∷ nesting) causes.WrongType t e h =
    close_by code place entry innermost nesting t e
    (operator_none innermost.operator (Some innermost.saved) entry.result causes.WrongType h)
closing code place entry [] causes.NoResult t e h = close_empty code place entry t e
closing code place entry (innermost ∷ nesting) causes.NoResult t e h =
    close_by code place entry innermost nesting t e
    (no_operand_none innermost.operator (Some innermost.saved) entry.result h)
closing code place entry [] causes.EmptyNesting t e h = close_empty code place entry t e
closing code place entry (innermost ∷ nesting) causes.EmptyNesting t e h =
    close_by code place entry innermost nesting t e
    (operator_none innermost.operator (Some innermost.saved) entry.result causes.EmptyNesting h)
closing code place entry [] causes.OpenNesting t e h = absurd h
closing code place entry (innermost ∷ nesting) causes.OpenNesting t e h =
    close_by code place entry innermost nesting t e
    (operator_none innermost.operator (Some innermost.saved) entry.result causes.OpenNesting h)
closing code place entry [] causes.MayBeZero t e h = absurd h
closing code place entry (innermost ∷ nesting) causes.MayBeZero t e h =
    close_by code place entry innermost nesting t e
    (operator_none innermost.operator (Some innermost.saved) entry.result causes.MayBeZero h)
closing code place entry [] (causes.OutOfRange found allowed) t e h = absurd h
closing code place entry (innermost ∷ nesting) (causes.OutOfRange found allowed) t e h =
    close_by code place entry innermost nesting t e
    (operator_none innermost.operator (Some innermost.saved) entry.result (causes.OutOfRange found allowed) h)
closing code place entry [] causes.TooBig t e h = absurd h
closing code place entry (innermost ∷ nesting) causes.TooBig t e h =
    close_by code place entry innermost nesting t e
    (operator_none innermost.operator (Some innermost.saved) entry.result causes.TooBig h)
closing code place entry [] causes.BadJump t e h = absurd h
closing code place entry (innermost ∷ nesting) causes.BadJump t e h =
    close_by code place entry innermost nesting t e
    (operator_none innermost.operator (Some innermost.saved) entry.result causes.BadJump h)
closing code place entry [] causes.TooManyRequests t e h = absurd h
closing code place entry (innermost ∷ nesting) causes.TooManyRequests t e h =
    close_by code place entry innermost nesting t e
    (operator_none innermost.operator (Some innermost.saved) entry.result causes.TooManyRequests h)
closing code place entry [] causes.BadSlot t e h = absurd h
closing code place entry (innermost ∷ nesting) causes.BadSlot t e h =
    close_by code place entry innermost nesting t e
    (operator_none innermost.operator (Some innermost.saved) entry.result causes.BadSlot h)
closing code place entry [] causes.TooLong t e h = absurd h
closing code place entry (innermost ∷ nesting) causes.TooLong t e h =
    close_by code place entry innermost nesting t e
    (operator_none innermost.operator (Some innermost.saved) entry.result causes.TooLong h)
closing code place entry [] causes.BadCall t e h = absurd h
closing code place entry (innermost ∷ nesting) causes.BadCall t e h =
    close_by code place entry innermost nesting t e
    (operator_none innermost.operator (Some innermost.saved) entry.result causes.BadCall h)

close : (code : Listing) (place : ℕ) (met : Bool) (entry : Entry) (cause : Cause) → IsTyped code entry
    → IsOfStep cause → ArisesAtWord code place met entry words.Close cause
    → IsWrong code place entry words.Close cause
close code place met entry causes.WrongType t s h = closing code place entry entry.nesting causes.WrongType t refl h
close code place met entry causes.NoResult t s h = closing code place entry entry.nesting causes.NoResult t refl h
close code place met entry causes.EmptyNesting t s h =
    closing code place entry entry.nesting causes.EmptyNesting t refl h
close code place met entry causes.OpenNesting t s h = absurd s
close code place met entry causes.MayBeZero t s h = closing code place entry entry.nesting causes.MayBeZero t refl h
close code place met entry (causes.OutOfRange found allowed) t s h =
    closing code place entry entry.nesting (causes.OutOfRange found allowed) t refl h
close code place met entry causes.TooBig t s h = closing code place entry entry.nesting causes.TooBig t refl h
close code place met entry causes.BadJump t s h = closing code place entry entry.nesting causes.BadJump t refl h
close code place met entry causes.TooManyRequests t s h = absurd s
close code place met entry causes.BadSlot t s h = inl (closing code place entry entry.nesting causes.BadSlot t refl h)
close code place met entry causes.TooLong t s h = absurd s
close code place met entry causes.BadCall t s h = absurd s

-- ---- jumps

jump_none : (code : Listing) (c : Configuration) (target : ℕ) (nesting : List Opened) (met : Option Bool)
    → chosen met (cond (is_target code c.place target) (Some (goes_to c target)) None) (Some (goes_to c (c.place + 1)))
    ≡ None → jumps code c target nesting met ≡ None
jump_none code c target [] met h = h
jump_none code c target (innermost ∷ nesting) met h = refl

no_target : (lawful : Bool) (c : Configuration) → ¬ IsTrue lawful → cond lawful (Some c) None ≡ None
no_target true c h = absurd (h refl)
no_target false c h = refl

jump_by : (code : Listing) (place : ℕ) (entry : Entry) (condition : Condition) (target : ℕ) (result : Option Value)
    → IsTyped code entry → IsResultKnown result entry.result
    → ((c : Configuration) → c.place ≡ place
    → chosen (holds condition result) (cond (is_target code place target) (Some (goes_to c target)) None)
    (Some (goes_to c (c.place + 1))) ≡ None)
    → IsUndefined code place entry (words.Jump condition target)
jump_by code place entry condition target result t k h =
    let c = stands code place (base code entry) result (nesting_of entry.nesting) in
    undefined_with code place entry (words.Jump condition target) (base code entry) result (base_chosen code entry t) k
    (jump_none code c target (nesting_of entry.nesting) (holds condition result) (h c refl))

-- a result with which the jump is carried out, or with which it cannot be
unlawful : (code : Listing) (place : ℕ) (entry : Entry) (condition : Condition) (target : ℕ) (known : Option Known)
    → IsTyped code entry → entry.result ≡ known → ¬ IsTrue (is_target code place target)
    → IsUndefined code place entry (words.Jump condition target)
unlawful code place entry Always target known t e h =
    jump_by code place entry Always target (result_of known) t
    (subst (IsResultKnown (result_of known)) (sym e) (result_known known))
    (λ c p. no_target (is_target code place target) (goes_to c target) h)
unlawful code place entry IfTrue target None t e h =
    jump_by code place entry IfTrue target None t (subst (IsResultKnown None) (sym e) tt) (λ c p. refl)
unlawful code place entry IfTrue target (Some (knowns.Int range)) t e h =
    jump_by code place entry IfTrue target (Some (values.Int range.lo)) t
    (subst (IsResultKnown (Some (values.Int range.lo))) (sym e) (some_known (knowns.Int range))) (λ c p. refl)
unlawful code place entry IfTrue target (Some knowns.Bool) t e h =
    jump_by code place entry IfTrue target (Some (values.Bool true)) t
    (subst (IsResultKnown (Some (values.Bool true))) (sym e) tt)
    (λ c p. no_target (is_target code place target) (goes_to c target) h)
unlawful code place entry IfFalse target None t e h =
    jump_by code place entry IfFalse target None t (subst (IsResultKnown None) (sym e) tt) (λ c p. refl)
unlawful code place entry IfFalse target (Some (knowns.Int range)) t e h =
    jump_by code place entry IfFalse target (Some (values.Int range.lo)) t
    (subst (IsResultKnown (Some (values.Int range.lo))) (sym e) (some_known (knowns.Int range))) (λ c p. refl)
unlawful code place entry IfFalse target (Some knowns.Bool) t e h =
    jump_by code place entry IfFalse target (Some (values.Bool false)) t
    (subst (IsResultKnown (Some (values.Bool false))) (sym e) tt)
    (λ c p. no_target (is_target code place target) (goes_to c target) h)

-- a condition without a truth value
no_truth : (code : Listing) (place : ℕ) (entry : Entry) (condition : Condition) (target : ℕ) (known : Option Known)
    → IsTyped code entry → entry.result ≡ known → holds condition (result_of known) ≡ None
    → IsUndefined code place entry (words.Jump condition target)
no_truth code place entry condition target known t e h =
    jump_by code place entry condition target (result_of known) t
    (subst (IsResultKnown (result_of known)) (sym e) (result_known known))
    (λ c p. ap (λ (met : Option Bool). chosen met (cond (is_target code place target) (Some (goes_to c target)) None)
    (Some (goes_to c (c.place + 1)))) h)

condition_none : (condition : Condition) (known : Option Known) (cause : Cause)
    → ArisesAtCondition condition known cause
    → holds condition (result_of known) ≡ None
condition_none Always known causes.WrongType h = absurd h
condition_none IfTrue None causes.WrongType h = refl
condition_none IfTrue (Some knowns.Bool) causes.WrongType h = absurd (h tt)
condition_none IfTrue (Some (knowns.Int range)) causes.WrongType h = refl
condition_none IfFalse None causes.WrongType h = refl
condition_none IfFalse (Some knowns.Bool) causes.WrongType h = absurd (h tt)
condition_none IfFalse (Some (knowns.Int range)) causes.WrongType h = refl
condition_none Always known causes.NoResult h = absurd h
condition_none IfTrue None causes.NoResult h = refl
condition_none IfTrue (Some known) causes.NoResult h = absurd (cc)
condition_none IfFalse None causes.NoResult h = refl
condition_none IfFalse (Some known) causes.NoResult h = absurd (cc)
condition_none Always known causes.EmptyNesting h = absurd h
condition_none IfTrue known causes.EmptyNesting h = absurd h
condition_none IfFalse known causes.EmptyNesting h = absurd h
condition_none Always known causes.OpenNesting h = absurd h
condition_none IfTrue known causes.OpenNesting h = absurd h
condition_none IfFalse known causes.OpenNesting h = absurd h
condition_none Always known causes.MayBeZero h = absurd h
condition_none IfTrue known causes.MayBeZero h = absurd h
condition_none IfFalse known causes.MayBeZero h = absurd h
condition_none Always known (causes.OutOfRange found allowed) h = absurd h
condition_none IfTrue known (causes.OutOfRange found allowed) h = absurd h
condition_none IfFalse known (causes.OutOfRange found allowed) h = absurd h
condition_none Always known causes.TooBig h = absurd h
condition_none IfTrue known causes.TooBig h = absurd h
condition_none IfFalse known causes.TooBig h = absurd h
condition_none Always known causes.BadJump h = absurd h
condition_none IfTrue known causes.BadJump h = absurd h
condition_none IfFalse known causes.BadJump h = absurd h
condition_none Always known causes.TooManyRequests h = absurd h
condition_none IfTrue known causes.TooManyRequests h = absurd h
condition_none IfFalse known causes.TooManyRequests h = absurd h
condition_none Always known causes.BadSlot h = absurd h
condition_none IfTrue known causes.BadSlot h = absurd h
condition_none IfFalse known causes.BadSlot h = absurd h
condition_none Always known causes.TooLong h = absurd h
condition_none IfTrue known causes.TooLong h = absurd h
condition_none IfFalse known causes.TooLong h = absurd h
condition_none Always known causes.BadCall h = absurd h
condition_none IfTrue known causes.BadCall h = absurd h
condition_none IfFalse known causes.BadCall h = absurd h

jump : (code : Listing) (place : ℕ) (met : Bool) (entry : Entry) (condition : Condition) (target : ℕ) (cause : Cause)
    → IsTyped code entry → IsOfStep cause → ArisesAtWord code place met entry (words.Jump condition target) cause
    → IsWrong code place entry (words.Jump condition target) cause
jump code place met entry condition target causes.BadJump t s h =
    unlawful code place entry condition target entry.result t refl h
jump code place met entry condition target causes.WrongType t s h =
    no_truth code place entry condition target entry.result t refl
    (condition_none condition entry.result causes.WrongType h)
jump code place met entry condition target causes.NoResult t s h =
    no_truth code place entry condition target entry.result t refl
    (condition_none condition entry.result causes.NoResult h)
jump code place met entry condition target causes.EmptyNesting t s h =
    no_truth code place entry condition target entry.result t refl
    (condition_none condition entry.result causes.EmptyNesting h)
jump code place met entry condition target causes.OpenNesting t s h = absurd s
jump code place met entry condition target causes.MayBeZero t s h =
    no_truth code place entry condition target entry.result t refl
    (condition_none condition entry.result causes.MayBeZero h)
jump code place met entry condition target (causes.OutOfRange found allowed) t s h =
    no_truth code place entry condition target entry.result t refl
    (condition_none condition entry.result (causes.OutOfRange found allowed) h)
jump code place met entry condition target causes.TooBig t s h =
    no_truth code place entry condition target entry.result t refl
    (condition_none condition entry.result causes.TooBig h)
jump code place met entry condition target causes.TooManyRequests t s h = absurd s
jump code place met entry condition target causes.BadSlot t s h =
    inl (no_truth code place entry condition target entry.result t refl
    (condition_none condition entry.result causes.BadSlot h))
jump code place met entry condition target causes.TooLong t s h = absurd s
jump code place met entry condition target causes.BadCall t s h = absurd s

-- ---- all words

no_cause : (code : Listing) (place : ℕ) (met : Bool) (entry : Entry) (function : ℕ) (cause : Cause) → IsOfStep cause
    → ArisesAtWord code place met entry (words.Invoke function) cause
    → IsWrong code place entry (words.Invoke function) cause
no_cause code place met entry function causes.WrongType s h = absurd h
no_cause code place met entry function causes.NoResult s h = absurd h
no_cause code place met entry function causes.EmptyNesting s h = absurd h
no_cause code place met entry function causes.OpenNesting s h = absurd s
no_cause code place met entry function causes.MayBeZero s h = absurd h
no_cause code place met entry function (causes.OutOfRange found allowed) s h = absurd h
no_cause code place met entry function causes.TooBig s h = absurd h
no_cause code place met entry function causes.BadJump s h = absurd h
no_cause code place met entry function causes.TooManyRequests s h = absurd h
no_cause code place met entry function causes.BadSlot s h = absurd h
no_cause code place met entry function causes.TooLong s h = absurd h
no_cause code place met entry function causes.BadCall s h = absurd h

pub no_whim : (word : Word) → IsNoWhim word
no_whim (words.Load negated operand) code place met entry cause t s h =
    load code place met entry negated operand cause t s h
no_whim (words.Apply operator operand) code place met entry cause t s h =
    apply code place met entry operator operand cause t s h
no_whim (words.Transform function) code place met entry cause t s h =
    transform code place met entry function cause t s h
no_whim (words.Store negated variable) code place met entry cause t s h =
    store code place met entry negated variable cause t s h
no_whim (words.Set variable) code place met entry cause t s h = set code place met entry variable cause t s h
no_whim (words.Reset variable) code place met entry cause t s h = reset code place met entry variable cause t s h
no_whim (words.Pass port block operand) code place met entry cause t s h =
    pass code place met entry port block operand cause t s h
no_whim (words.Call block) code place met entry cause t s h = call code place met entry block cause t s h
no_whim (words.Open operator) code place met entry cause t s h = opens_word code place met entry operator cause t s h
no_whim words.Close code place met entry cause t s h = close code place met entry cause t s h
no_whim (words.Jump condition target) code place met entry cause t s h =
    jump code place met entry condition target cause t s h
no_whim (words.Give operand slot) code place met entry cause t s h =
    give code place met entry operand slot cause t s h
no_whim (words.Invoke function) code place met entry cause t s h = no_cause code place met entry function cause s h
