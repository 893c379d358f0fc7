-- Where a word has a rule it is defined, what is known after it holds where it leads, and nothing stays open at an end.
use Rattle.std.proofs.Common.{◌≡◌, ℕ, zero, suc, ◌+◌, ◌<◌, Bool, true, false, List, [], ◌∷◌, ◌++◌, length}
use Rattle.std.proofs.Common.{Option, Some, None, refl, sym, ap, ◌∙◌, subst, arith, ◌⊎◌, inl, inr}
use Rattle.std.specs.Prelude.{ℤ, IsTrue, slice_get, map, ◌==◌, ◌||◌}
use Rattle.std.specs.List.{list_any}
use Rattle.std.proofs.lemmas.Bool.Decides.{nat_tests}
use Rattle.std.proofs.lemmas.Slice.Zip.{AllZip-long}
use Rattle.iltypes.specs.declared.condition.Condition.{Condition}
use Rattle.iltypes.specs.declared.condition.Condition.TheVariants.{Always, IfTrue, IfFalse}
use Rattle.iltypes.specs.declared.operator.Operator.{Operator}
use Rattle.ilcode.specs.declared.function.FunctionBody.{FunctionBody}
use Rattle.ilcode.specs.declared.word.Word.{Word}
use Rattle.ilcode.specs.declared.word.Word.TheVariants as words
use Rattle.ilcode.specs.Listings.{Listing, start_or, end_of}
use Rattle.ilcode.specs.Steps.{Configuration, is_start}
use Rattle.ilverify.specs.declared.cause.Cause.TheVariants as causes
use Rattle.ilverify.specs.declared.entry.Entry.{Entry}
use Rattle.ilverify.specs.declared.known.Known.{Known}
use Rattle.ilverify.specs.declared.known.Known.TheVariants as knowns
use Rattle.ilverify.specs.declared.mark.ResultMark.{ResultMark}
use Rattle.ilverify.specs.declared.mark.ResultMark.TheVariants.{Copy, Test}
use Rattle.ilverify.specs.declared.nesting.KnownOpened.{KnownOpened}
use Rattle.ilverify.specs.Fits.{IsOpenedKnown, Fits}
use Rattle.ilverify.specs.Refusals.{open_after, HasToClose}
use Rattle.ilverify.specs.Rules.{Ways, IsEntryAfter, IsTested, IsRefined, AreJumped, AreWaysOf, IsWay, IsRule}
use Rattle.ilverify.specs.Safety.{IsClosedThere, IsSafeAt}
use Rattle.ilverify.proofs.WordParentheses.{after_count}
use Rattle.ilverify.proofs.SafetyWords.{sound}

or_left : (a b : Bool) → IsTrue a → IsTrue (a || b)
or_left true b h = refl
or_left false b h = let k : ⊥ = cc in absurd k

or_right : (a b : Bool) → IsTrue b → IsTrue (a || b)
or_right true b h = refl
or_right false b h = h

-- ---- at the end of a program nothing is open

refined_nesting : (entry after : Entry) (outcome : Bool) (mark : Option ResultMark) (way : Option Entry)
    → IsRefined entry outcome mark way → way ≡ Some after → after.nesting ≡ entry.nesting
refined_nesting entry after outcome None way h e =
    let p : after ≡ entry = cc in ap (λ (x : Entry). x.nesting) p
refined_nesting entry after outcome (Some (Copy slot)) way h e =
    let p : after ≡ entry = cc in ap (λ (x : Entry). x.nesting) p
refined_nesting entry after outcome (Some (Test slot comparison limit)) way h e =
    tested_nesting entry after slot comparison outcome limit (slice_get entry.slots slot) way h e
  where
    tested_nesting : (entry after : Entry) (slot : ℕ) (comparison : Operator) (outcome : Bool) (limit : ℤ)
        (known : Option Known) (way : Option Entry) → IsTested entry slot comparison outcome limit known way
        → way ≡ Some after → after.nesting ≡ entry.nesting
    tested_nesting entry after slot comparison outcome limit None way h e =
        let p : after ≡ entry = cc in ap (λ (x : Entry). x.nesting) p
    tested_nesting entry after slot comparison outcome limit (Some knowns.Bool) way h e =
        let p : after ≡ entry = cc in ap (λ (x : Entry). x.nesting) p
    tested_nesting entry after slot comparison outcome limit (Some (knowns.Int range)) None h e = absurd (cc)
    tested_nesting entry after slot comparison outcome limit (Some (knowns.Int range)) (Some way) h e =
        let p : after ≡ way = cc in ap (λ (x : Entry). x.nesting) (p ∙ h.is)

jump_nesting : (condition : Condition) (entry after : Entry) (ways : Ways) → AreJumped condition entry ways
    → (ways.target ≡ Some after) ⊎ (ways.next ≡ Some after) → after.nesting ≡ entry.nesting
jump_nesting Always entry after ways h (inl e) =
    let t = h.0 in let p : after ≡ entry = cc in ap (λ (x : Entry). x.nesting) p
jump_nesting Always entry after ways h (inr e) = let n = h.1 in absurd (cc)
jump_nesting IfTrue entry after ways h (inl e) = refined_nesting entry after true entry.mark ways.target h.0 e
jump_nesting IfTrue entry after ways h (inr e) = refined_nesting entry after false entry.mark ways.next h.1 e
jump_nesting IfFalse entry after ways h (inl e) = refined_nesting entry after false entry.mark ways.target h.0 e
jump_nesting IfFalse entry after ways h (inr e) = refined_nesting entry after true entry.mark ways.next h.1 e

on_a_way : (target place to : ℕ) (ways : Ways) (after : Entry)
    → (to ≡ target) × (ways.target ≡ Some after) ⊎ (to ≡ place + 1) × (ways.next ≡ Some after)
    → (ways.target ≡ Some after) ⊎ (ways.next ≡ Some after)
on_a_way target place to ways after (inl w) = inl w.1
on_a_way target place to ways after (inr w) = inr w.1

-- how many are open on a way
way_count : (code : Listing) (entry after : Entry) (place to : ℕ) (word : Word) (ways : Ways)
    → AreWaysOf code place entry word ways → IsWay word place ways to after
    → length after.nesting ≡ open_after word (length entry.nesting)
way_count code entry after place to (words.Jump condition target) ways h w =
    ap (λ (n : List KnownOpened). length n)
    (jump_nesting condition entry after ways h (on_a_way target place to ways after w))
way_count code entry after place to word ways h w =
    let n = h.next in
    let m = w.1 in
    let p : after ≡ h.after = cc in
    after_count code place entry word after (subst (IsEntryAfter code place entry word) (sym p) h.leaves)

has_to_close : (code : Listing) (place to : ℕ) (met : Bool) (word : Word) (ways : Ways) (after : Entry)
    → IsWay word place ways to after → IsTrue (is_start code to) ⊎ (to ≡ length code.instructions)
    → HasToClose code place met word
has_to_close code place to met (words.Jump condition target) ways after w ends = tt
has_to_close code place to met word ways after w (inl s) =
    inl (subst (λ (p : ℕ). IsTrue (is_start code p)) w.0 s)
has_to_close code place to met word ways after w (inr e) = inr (inl (sym w.0 ∙ e))

pub closed_at_end : (code : Listing) (met : Bool) (entry after : Entry) (ways : Ways) (c to : Configuration)
    (word : Word) → IsRule code c.place met entry word ways → IsWay word c.place ways to.place after
    → Fits code after to → IsTrue (is_start code to.place) ⊎ (to.place ≡ length code.instructions)
    → to.nesting ≡ []
closed_at_end code met entry after ways c to word rule way fits ends =
    let long = AllZip-long IsOpenedKnown to.nesting after.nesting fits.nesting in
    let count = way_count code entry after c.place to.place word ways rule.leaves way in
    elim to.nesting as (λ nesting. (length after.nesting ≡ length nesting) → nesting ≡ []) [
      | [] ↦ λ l. refl
      | x ∷ xs ↦ λ l.
          let some : 0 < open_after word (length entry.nesting) = omega (arith, l, count) in
          absurd (rule.lawful causes.OpenNesting
          (inl (some, has_to_close code c.place to.place met word ways after way ends)))
    ] long

-- ---- where bodies begin and end

any_last : (p : ℕ → Bool) (xs : List ℕ) (fs : List FunctionBody) (n : ℕ) (f : FunctionBody)
    → slice_get fs n ≡ Some f → IsTrue (p f.start) → IsTrue (list_any p (xs ++ map (λ (g : FunctionBody). g.start) fs))
any_last p [] [] n f e t = absurd (cc)
any_last p [] (g ∷ fs) zero f e t =
    let q : g ≡ f = cc in
    or_left (p g.start) _ (subst (λ (h : FunctionBody). IsTrue (p h.start)) (sym q) t)
any_last p [] (g ∷ fs) (suc n) f e t = or_right (p g.start) _ (any_last p [] fs n f e t)
any_last p (x ∷ xs) fs n f e t = or_right (p x) _ (any_last p xs fs n f e t)

-- a body ends where a function begins, or behind the last word
end_is : (code : Listing) (body : ℕ)
    → IsTrue (is_start code (end_of code body)) ⊎ (end_of code body ≡ length code.instructions)
end_is code body = by_function (slice_get code.functions body) refl
  where
    by_function : (o : Option FunctionBody) → slice_get code.functions body ≡ o
        → IsTrue (is_start code (start_or o (length code.instructions)))
        ⊎ (start_or o (length code.instructions) ≡ length code.instructions)
    by_function None e = inr refl
    by_function (Some f) e =
        let same : IsTrue (f.start == f.start) = grind (arith, nat_tests) in
        inl (any_last (λ start. start == f.start) code.starts code.functions body f e same)

pub closed_there : (code : Listing) (met : Bool) (entry after : Entry) (ways : Ways) (c to : Configuration)
    (word : Word) → IsRule code c.place met entry word ways → IsWay word c.place ways to.place after
    → Fits code after to → IsClosedThere code to
closed_there code met entry after ways c to word rule way fits =
    let closed = closed_at_end code met entry after ways c to word rule way fits in
    record {
      start = λ s. closed (inl s);
      end = λ body e.
          closed
          (subst (λ (p : ℕ). IsTrue (is_start code p) ⊎ (p ≡ length code.instructions)) (sym e) (end_is code body));
    }

-- ---- the step

pub safe : (word : Word) → IsSafeAt word
safe word code met entry ways c le other rule f =
    let g = sound word code met entry ways c le other rule f in
    record { goes = g; closed = closed_there code met entry g.after ways c g.to word rule g.way g.fits }
