use Rattle.std.proofs.Common.{◌≡◌, ◌∙◌, ◌++◌, ◌⊎◌, ◌+◌, ℕ, List, ap, inl, inr, length, replicate, sym}
use Rattle.std.proofs.lemmas.List.{replicate-append-replicate}
use Rattle.std.proofs.lemmas.Result.{on_err_weaker, on_ok_weaker}
use Rattle.iltypes.specs.declared.condition.Condition.{Condition}
use Rattle.iltypes.specs.declared.condition.Condition.TheVariants.{Always, IfTrue, IfFalse}
use Rattle.ilsource.specs.declared.arguments.Argument.{Argument}
use Rattle.ilsource.specs.declared.instruction.Instruction.{Instruction}
use Rattle.ilsource.specs.declared.operand.Operand.{Operand}
use Rattle.ilsource.specs.declared.instruction.Instruction.TheVariants.{Call, Invoke}
use Rattle.ilsource.specs.Words.{places_of}
use Rattle.ilsource.proofs.Grown.{first_kept, first_of_first, further, on_err}
use Rattle.ilsource.proofs.instruction.Instruction.push_places.Goals as goal

-- a place as often as before and some times more
all_places : (old mid new : List ℕ) (n k at : ℕ) → mid ≡ old ++ replicate n at → new ≡ mid ++ replicate k at
    → new ≡ old ++ replicate (n + k) at
all_places old mid new n k at p q =
    further old mid new (replicate n at) (replicate k at) p q ∙ ap (λ ys. old ++ ys) (replicate-append-replicate n k at)

-- the places of a call's arguments and one more are the places of a call without a condition
one_more : {N L : Type 0} (i : Instruction N L) (condition : Condition) (n : N) (xs : List (Argument N)) (at : ℕ)
    (old mid new : List ℕ) → i ≡ Call condition n xs → condition ≡ Always
    → mid ≡ old ++ replicate (length xs) at → new ≡ mid ++ replicate 1 at → new ≡ old ++ places_of at i
one_more i condition n xs at old mid new e f p q = rw (e, f) (all_places old mid new (length xs) 1 at p q)

-- the places of a call's arguments and two more are the places of a call with a condition
two_more : {N L : Type 0} (i : Instruction N L) (condition : Condition) (n : N) (xs : List (Argument N)) (at : ℕ)
    (old mid new : List ℕ) → i ≡ Call condition n xs → (condition ≡ IfTrue) ⊎ (condition ≡ IfFalse)
    → mid ≡ old ++ replicate (length xs) at → new ≡ mid ++ replicate 2 at → new ≡ old ++ places_of at i
two_more i condition n xs at old mid new e (inl f) p q = rw (e, f) (all_places old mid new (length xs) 2 at p q)
two_more i condition n xs at old mid new e (inr f) p q = rw (e, f) (all_places old mid new (length xs) 2 at p q)

-- the places of a function's operands and two more are the places of its call
invoke_places : {N L : Type 0} (i : Instruction N L) (f : N) (os : List (Operand N)) (at : ℕ) (old mid new : List ℕ)
    → i ≡ Invoke f os → mid ≡ old ++ replicate (length os) at → new ≡ mid ++ replicate 2 at
    → new ≡ old ++ places_of at i
invoke_places i f os at old mid new e p q = rw e (all_places old mid new (length os) 2 at p q)

pub returns-in_ok-push_same-in-Invoke-clause-ok : goal.returns-in_ok-push_same-in-Invoke-clause-ok
returns-in_ok-push_same-in-Invoke-clause-ok g c =
    let operands : c.as_slice-in-Invoke.result.now ≡ c.in-Invoke.operands = c.as_slice-in-Invoke.ensures in
    on_ok_weaker c.push_same-in-Invoke-2.result
    (invoke_places c.args.self.now c.in-Invoke.function c.in-Invoke.operands c.args.at c.args.places.now.items
    c.push_same-in-Invoke.new.places.items c.push_same-in-Invoke-2.new.places.items c.in-Invoke.is
    (rw (← operands) c.in_ok-push_same-in-Invoke.ensures.ok))
    c.push_same-in-Invoke-2.ensures.ok

pub returns-in_ok-push_same-in-Invoke-clause-first : goal.returns-in_ok-push_same-in-Invoke-clause-first
returns-in_ok-push_same-in-Invoke-clause-first g c =
    on_err_weaker c.push_same-in-Invoke-2.result
    (first_of_first _ _ c.args.places.now.items _ c.push_same-in-Invoke.new.places.items
    c.push_same-in-Invoke-2.new.places.items c.args.places.now.ok.0 c.push_same-in-Invoke.new.places.ok.0
    c.in_ok-push_same-in-Invoke.ensures.ok)
    c.push_same-in-Invoke-2.ensures.first

pub returns-in-IfTrue-clause-ok : goal.returns-in-IfTrue-clause-ok
returns-in-IfTrue-clause-ok g c =
    let before = c.args.places.now.items in
    let arguments : c.as_slice.result.now ≡ c.in-Call.arguments = c.as_slice.ensures in
    on_ok_weaker c.push_same-in-IfTrue.result
    (two_more c.args.self.now c.in-Call.condition c.in-Call.instance c.in-Call.arguments c.args.at before
    c.push_same-in-Call.new.places.items c.push_same-in-IfTrue.new.places.items c.in-Call.is c.in-IfTrue.is
    (rw (← arguments) c.in_ok-push_same-in-Call.ensures.ok))
    c.push_same-in-IfTrue.ensures.ok

pub returns-in-Always-clause-ok : goal.returns-in-Always-clause-ok
returns-in-Always-clause-ok g c =
    let before = c.args.places.now.items in
    let arguments : c.as_slice.result.now ≡ c.in-Call.arguments = c.as_slice.ensures in
    on_ok_weaker c.push_same-in-Always.result
    (one_more c.args.self.now c.in-Call.condition c.in-Call.instance c.in-Call.arguments c.args.at before
    c.push_same-in-Call.new.places.items c.push_same-in-Always.new.places.items c.in-Call.is c.in-Always.is
    (rw (← arguments) c.in_ok-push_same-in-Call.ensures.ok))
    c.push_same-in-Always.ensures.ok

pub returns-in-Always-clause-first : goal.returns-in-Always-clause-first
returns-in-Always-clause-first g c =
    on_err_weaker c.push_same-in-Always.result
    (first_of_first _ _ c.args.places.now.items _ c.push_same-in-Call.new.places.items
    c.push_same-in-Always.new.places.items c.args.places.now.ok.0 c.push_same-in-Call.new.places.ok.0
    c.in_ok-push_same-in-Call.ensures.ok)
    c.push_same-in-Always.ensures.first

pub returns-in-IfTrue-clause-first : goal.returns-in-IfTrue-clause-first
returns-in-IfTrue-clause-first g c =
    on_err_weaker c.push_same-in-IfTrue.result
    (first_of_first _ _ c.args.places.now.items _ c.push_same-in-Call.new.places.items
    c.push_same-in-IfTrue.new.places.items c.args.places.now.ok.0 c.push_same-in-Call.new.places.ok.0
    c.in_ok-push_same-in-Call.ensures.ok)
    c.push_same-in-IfTrue.ensures.first

pub returns-in-Limit-clause-ok : goal.returns-in-Limit-clause-ok
returns-in-Limit-clause-ok g c =
    on_ok_weaker c.push_same.result
    (λ both. both ∙ ap (λ i. c.args.places.now.items ++ places_of c.args.at i) (sym c.in-Limit.is))
    c.push_same.ensures.ok

pub returns-in_err-push_places-in-Deferred-clause-first : goal.returns-in_err-push_places-in-Deferred-clause-first
returns-in_err-push_places-in-Deferred-clause-first g c =
    on_err c.from_residual-in_err-push_places-in-Deferred.result
    (first_of_first _ _ c.args.places.now.items _ c.push.new.self.items c.push_places.new.places.items
    c.args.places.now.ok.0 c.push.new.self.ok.0 c.in_ok-push-in-Deferred.ensures.items
    c.in_err-push_places-in-Deferred.ensures.first)

pub returns-in_err-push-in-Deferred-2-clause-first : goal.returns-in_err-push-in-Deferred-2-clause-first
returns-in_err-push-in-Deferred-2-clause-first g c =
    on_err c.from_residual-in_err-push-in-Deferred-2.result
    (first_kept c.args.places.now.items _ c.push-in-Deferred.new.self.items _ c.args.places.now.ok.0
    (c.in_err-push-in-Deferred-2.ensures.items
    ∙ further c.args.places.now.items c.push.new.self.items c.push_places.new.places.items _ _
    c.in_ok-push-in-Deferred.ensures.items c.in_ok-push_places-in-Deferred.ensures.ok))

pub returns-in_ok-push-in-Deferred-2-clause-ok : goal.returns-in_ok-push-in-Deferred-2-clause-ok
returns-in_ok-push-in-Deferred-2-clause-ok g c =
    let before = c.args.places.now.items in
    further before c.push.new.self.items c.push-in-Deferred.new.self.items _ _ c.in_ok-push-in-Deferred.ensures.items
    (further c.push.new.self.items c.push_places.new.places.items c.push-in-Deferred.new.self.items _ _
    c.in_ok-push_places-in-Deferred.ensures.ok c.in_ok-push-in-Deferred-2.ensures.items)
    ∙ ap (λ i. before ++ places_of c.args.at i) (sym c.in-Deferred.is)
