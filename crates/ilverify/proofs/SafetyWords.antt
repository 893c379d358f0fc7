-- From each configuration that is as the entry says a word that has a rule is defined, and leaves what the rule says.
use Rattle.std.proofs.Common.{◌≡◌, ◌+◌, ◌<◌, Bool, true, false, cond, List, [], ◌∷◌, length}
use Rattle.std.proofs.Common.{Option, Some, None, refl, sym, ap, subst, arith, inl, inr}
use Rattle.std.specs.Prelude.{◌≤◌, IsTrue, nat_lt}
use Rattle.std.specs.List.{AllZip}
use Rattle.std.proofs.lemmas.Bool.{cases_lt}
use Rattle.std.proofs.lemmas.Bool.Decides.{nat_tests}
use Rattle.std.proofs.lemmas.Slice.Zip.{AllZip-long}
use Rattle.limits.specs.Limits.{most_nesting}
use Rattle.iltypes.specs.declared.value.Value.{Value}
use Rattle.iltypes.specs.declared.operator.Operator.{Operator}
use Rattle.iltypes.specs.Operators.{both}
use Rattle.ilcode.specs.declared.nesting.Opened.{Opened}
use Rattle.ilcode.specs.declared.word.Word.{Word}
use Rattle.ilcode.specs.declared.word.Word.TheVariants as words
use Rattle.ilcode.specs.Listings.{Listing}
use Rattle.ilcode.specs.Steps.{Configuration, at, opened, value_of, with_result, opens, closes, effect, is_target}
use Rattle.ilverify.specs.declared.cause.Cause.TheVariants as causes
use Rattle.ilverify.specs.declared.entry.Entry.{Entry}
use Rattle.ilverify.specs.declared.known.Known.{Known}
use Rattle.ilverify.specs.declared.mark.ResultMark.{ResultMark}
use Rattle.ilverify.specs.declared.nesting.KnownOpened.{KnownOpened}
use Rattle.ilverify.specs.Operands.{known_of}
use Rattle.ilverify.specs.Fits.{IsResultKnown, IsOpenedKnown, Fits}
use Rattle.ilverify.specs.Knowns.{IsKnown}
use Rattle.ilverify.specs.Marks.{IsMarked, mark_of_load, constant_of, mark_of_apply, mark_of_function}
use Rattle.ilverify.specs.Refusals.{open_after}
use Rattle.ilverify.specs.Rules.{IsApplied, Gives, Opens, Closes, IsEntryAfter, unmarked}
use Rattle.ilverify.specs.Safety.{IsNoInvoke, IsSoundAt}
use Rattle.ilverify.proofs.SafetyJumps.{jump_goes}
use Rattle.ilverify.proofs.SafetyMarks.{load_marked, apply_marked, function_marked}
use Rattle.ilverify.proofs.SafetyValues.{Has, operand_known, loaded_has, applied_has, result_of_operand}
use Rattle.ilverify.proofs.SafetyValues.{transformed_has}
use Rattle.ilverify.proofs.SafetyStores.{Leaves, writes, passes, gives_slot, calls_by, sets_all}

-- ---- words that leave a current result

-- what the mark says of a value that is given
abbrev IsMarkedSo : List Value → Option Value → (Known → Option ResultMark) → Type 0
IsMarkedSo slots value mark_of =
    (known : Known) (v : Value) → value ≡ Some v → IsKnown v known → IsMarked slots (Some v) (mark_of known)

gives : (code : Listing) (entry after : Entry) (c : Configuration) (nesting : List Opened)
    (waits : List KnownOpened) (mark_of : Known → Option ResultMark) (IsGiven : Known → Type 0) (value : Option Value)
    → Fits code entry c → AllZip IsOpenedKnown nesting waits → ((known : Known) → IsGiven known → Has value known)
    → IsMarkedSo c.store.slots value mark_of → Gives entry waits mark_of IsGiven after
    → Leaves code c (with_result c nesting value) after
gives code entry after c nesting waits mark_of IsGiven value f n has marked g =
    let h = has g.known g.given in
    record {
      to = at (c.place + 1) c.store (Some h.v) nesting c.calls;
      is = ap (with_result c nesting) h.is;
      leads = refl;
      calls = refl;
      kept = inl refl;
      fits = subst (λ (e : Entry). Fits code e (at (c.place + 1) c.store (Some h.v) nesting c.calls)) (sym g.is)
          (record {
            typed = f.typed;
            slots = f.slots;
            result = h.lies;
            mark = marked g.known h.v h.is h.lies;
            nesting = n;
          });
    }

-- ---- parentheses

opens_by : (code : Listing) (entry after : Entry) (c : Configuration) (operator : Operator) (result : Option Value)
    (known : Option Known) → Fits code entry c → length c.nesting < most_nesting → IsResultKnown result known
    → Opens entry operator known after → Leaves code c (opens c operator result) after
opens_by code entry after c operator result None f room k h = absurd h
opens_by code entry after c operator None (Some known) f room k h = absurd k
opens_by code entry after c operator (Some value) (Some known) f room k h =
    let to = at (c.place + 1) c.store None (opened operator value ∷ c.nesting) c.calls in
    let test : nat_lt (length c.nesting) most_nesting ≡ true = grind (arith, nat_tests) in
    record {
      to = to;
      is = ap (λ (b : Bool). cond b (Some to) None) test;
      leads = refl;
      calls = refl;
      kept = inl refl;
      fits = subst (λ (e : Entry). Fits code e to) (sym h) (record {
        typed = f.typed;
        slots = f.slots;
        result = tt;
        mark = tt;
        nesting = (record { operator = refl; saved = k }, f.nesting);
      });
    }

closes_by : (code : Listing) (entry after : Entry) (c : Configuration) (nesting : List Opened)
    (waits : List KnownOpened) → Fits code entry c → AllZip IsOpenedKnown nesting waits → Closes entry waits after
    → Leaves code c (closes c nesting) after
closes_by code entry after c nesting [] f n h = absurd h
closes_by code entry after c [] (x ∷ xs) f n h = absurd n
closes_by code entry after c (o ∷ os) (x ∷ xs) f n h =
    gives code entry after c os xs unmarked _ (both o.operator (Some o.saved) c.result) f n.1
    (λ known p. applied_has o.operator (Some o.saved) c.result (Some x.saved) entry.result known n.0.saved f.result
    (subst (λ (w : Operator). IsApplied w (Some x.saved) entry.result known) (sym n.0.operator) p))
    (λ known v e k. tt) h

-- ---- each word

leaves : (code : Listing) (entry after : Entry) (c : Configuration) (word : Word) → 1 ≤ code.buses → IsNoInvoke word
    → ¬ (most_nesting < open_after word (length entry.nesting)) → IsEntryAfter code c.place entry word after
    → Fits code entry c → Leaves code c (effect code c word) after
leaves code entry after c (words.Load negated operand) le other n h f =
    gives code entry after c c.nesting entry.nesting (mark_of_load negated operand) _ _ f f.nesting
    (λ known. loaded_has negated (value_of code c.store operand) (known_of code entry operand) known
    (operand_known code entry c operand f)) (λ known v. load_marked code c.store negated operand known v) h.1
leaves code entry after c (words.Apply operator operand) le other n h f =
    gives code entry after c c.nesting entry.nesting
    (λ known. mark_of_apply entry.mark operator (constant_of code operand)) _ _ f f.nesting
    (λ known. applied_has operator c.result (value_of code c.store operand) entry.result (known_of code entry operand)
    known f.result (result_of_operand _ _ (operand_known code entry c operand f)))
    (λ known v e k. apply_marked code c.store c.result entry.mark operator operand v f.mark e) h.1
leaves code entry after c (words.Transform function) le other n h f =
    gives code entry after c c.nesting entry.nesting (λ known. mark_of_function entry.mark function) _ _ f f.nesting
    (λ known. transformed_has function c.result entry.result known f.result)
    (λ known v e k. function_marked c.store.slots c.result entry.mark function v f.mark e) h
leaves code entry after c (words.Store negated variable) le other n h f =
    writes code entry after c variable negated f h.0 h.1
leaves code entry after c (words.Set variable) le other n h f = sets_all code entry after c variable true f h.0 h.1 h.2
leaves code entry after c (words.Reset variable) le other n h f =
    sets_all code entry after c variable false f h.0 h.1 h.2
leaves code entry after c (words.Pass port block operand) le other n h f =
    passes code entry after c operand block port f h.1 h.2
leaves code entry after c (words.Call block) le other n h f = calls_by code entry after c block le f h.1 h.2
leaves code entry after c (words.Open operator) le other n h f =
    let l = AllZip-long IsOpenedKnown c.nesting entry.nesting f.nesting in
    let room : length c.nesting < most_nesting = elim (cases_lt (length c.nesting) most_nesting) [
      | inl lt ↦ lt
      | inr ge ↦ absurd (n (omega arith))
    ] in
    opens_by code entry after c operator c.result entry.result f room f.result h
leaves code entry after c words.Close le other n h f =
    closes_by code entry after c c.nesting entry.nesting f f.nesting h
leaves code entry after c (words.Jump condition target) le other n h f = absurd h
leaves code entry after c (words.Give operand slot) le other n h f =
    gives_slot code entry after c operand slot f h.1 h.2
leaves code entry after c (words.Invoke function) le other n h f = absurd other

-- nothing is open where a jump stands
nothing_open : (opens : List Opened) (waits : List KnownOpened) → AllZip IsOpenedKnown opens waits
    → ¬ (0 < length waits) → opens ≡ []
nothing_open [] waits h n = refl
nothing_open (x ∷ xs) [] h n = absurd h
nothing_open (x ∷ xs) (y ∷ ys) h n = absurd (n (omega arith))

lawful_target : (b : Bool) → ¬ ¬ IsTrue b → b ≡ true
lawful_target true n = refl
lawful_target false n = absurd (n (λ h. let k : ⊥ = cc in k))

pub sound : (word : Word) → IsSoundAt word
sound (words.Jump condition target) code met entry ways c le other rule f =
    jump_goes code c entry condition target ways f
    (lawful_target (is_target code c.place target) (rule.lawful causes.BadJump))
    (nothing_open c.nesting entry.nesting f.nesting (λ s. rule.lawful causes.OpenNesting (inl (s, tt))))
    (rule.lawful causes.NoResult) (rule.lawful causes.WrongType) rule.leaves
sound word code met entry ways c le other rule f =
    let g = rule.leaves in
    let l = leaves code entry g.after c word le other (λ s. rule.lawful causes.OpenNesting (inr s)) g.leaves f in
    record {
      to = l.to;
      is = l.is;
      calls = l.calls;
      leads = inl l.leads;
      kept = l.kept;
      after = g.after;
      way = (l.leads, g.next);
      fits = l.fits;
    }
