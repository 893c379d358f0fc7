use Rattle.std.proofs.Common.{◌≡◌, ◌∙◌, ◌∷◌, ◌++◌, [], ℕ, List, ap, flat_map, map, sym}
use Rattle.std.proofs.lemmas.Result.{on_err_weaker, on_ok_weaker}
use Rattle.iltypes.specs.declared.condition.Condition.{Condition}
use Rattle.ilsource.specs.declared.arguments.Argument.{Argument}
use Rattle.ilsource.specs.declared.instruction.Instruction.{Instruction}
use Rattle.ilsource.specs.declared.instruction.Instruction.TheVariants.{Call, Invoke}
use Rattle.ilsource.specs.declared.operand.Operand.{Operand}
use Rattle.ilsource.specs.declared.operand.Operand.TheVariants.{Name}
use Rattle.ilsource.specs.declared.uses.Purpose.TheVariants as purposes
use Rattle.ilsource.specs.declared.uses.Use.{Use}
use Rattle.ilsource.specs.Uses.{use_at, read_at, invoke_at, uses_of, uses_of_argument}
use Rattle.ilsource.proofs.Grown.{all_kept, first_kept, first_of_first, further, on_err}
use Rattle.ilsource.proofs.instruction.Instruction.push_uses.Goals as goal

-- the use of the instance and those of the arguments are the uses of a call
call_uses : {N L : Type 0} (i : Instruction N L) (condition : Condition) (n : N) (xs : List (Argument N)) (at : ℕ)
    (old mid new : List (Use N)) → i ≡ Call condition n xs → mid ≡ old ++ use_at at purposes.Call (Name n) ∷ []
    → new ≡ mid ++ flat_map (uses_of_argument at) xs → new ≡ old ++ uses_of at i
call_uses i condition n xs at old mid new e p q =
    further old mid new (use_at at purposes.Call (Name n) ∷ []) (flat_map (uses_of_argument at) xs) p q
    ∙ ap (λ j. old ++ uses_of at j) (sym e)

-- the use of the function and those of the operands are the uses of its call
invoke_uses : {N L : Type 0} (i : Instruction N L) (f : N) (os : List (Operand N)) (at : ℕ) (old mid new : List (Use N))
    → i ≡ Invoke f os → mid ≡ old ++ invoke_at at f ∷ [] → new ≡ mid ++ map (read_at at) os → new ≡ old ++ uses_of at i
invoke_uses i f os at old mid new e p q =
    further old mid new (invoke_at at f ∷ []) (map (read_at at) os) p q ∙ ap (λ j. old ++ uses_of at j) (sym e)

pub returns-in_ok-push_invoked-in-Invoke-clause-ok : goal.returns-in_ok-push_invoked-in-Invoke-clause-ok
returns-in_ok-push_invoked-in-Invoke-clause-ok g c =
    on_ok_weaker c.push_uses-in-Invoke.result
    (invoke_uses c.args.self.now c.in-Invoke.function c.in-Invoke.operands c.args.at c.args.uses.now.items
    c.push_invoked.new.uses.items c.push_uses-in-Invoke.new.uses.items c.in-Invoke.is
    c.in_ok-push_invoked-in-Invoke.ensures.ok)
    c.push_uses-in-Invoke.ensures.ok

pub returns-in_ok-push_invoked-in-Invoke-clause-first : goal.returns-in_ok-push_invoked-in-Invoke-clause-first
returns-in_ok-push_invoked-in-Invoke-clause-first g c =
    on_err_weaker c.push_uses-in-Invoke.result
    (first_of_first _ _ c.args.uses.now.items _ c.push_invoked.new.uses.items c.push_uses-in-Invoke.new.uses.items
    c.args.uses.now.ok.0 c.push_invoked.new.uses.ok.0 c.in_ok-push_invoked-in-Invoke.ensures.ok)
    c.push_uses-in-Invoke.ensures.first

pub returns-in_ok-push_use-in-Call-clause-ok : goal.returns-in_ok-push_use-in-Call-clause-ok
returns-in_ok-push_use-in-Call-clause-ok g c =
    on_ok_weaker c.push_uses-in-Call.result
    (call_uses c.args.self.now c.in-Call.condition c.in-Call.instance c.in-Call.arguments c.args.at c.args.uses.now.items
    c.push_use-in-Call.new.uses.items c.push_uses-in-Call.new.uses.items c.in-Call.is
    c.in_ok-push_use-in-Call.ensures.ok)
    c.push_uses-in-Call.ensures.ok

pub returns-in_ok-push_use-in-Call-clause-first : goal.returns-in_ok-push_use-in-Call-clause-first
returns-in_ok-push_use-in-Call-clause-first g c =
    on_err_weaker c.push_uses-in-Call.result
    (first_of_first _ _ c.args.uses.now.items _ c.push_use-in-Call.new.uses.items c.push_uses-in-Call.new.uses.items
    c.args.uses.now.ok.0 c.push_use-in-Call.new.uses.ok.0 c.in_ok-push_use-in-Call.ensures.ok)
    c.push_uses-in-Call.ensures.first

pub returns-in_ok-push_use-in-Limit-clause-ok : goal.returns-in_ok-push_use-in-Limit-clause-ok
returns-in_ok-push_use-in-Limit-clause-ok g c =
    on_ok_weaker c.push_use-in-Limit-2.result
    (λ more. further c.args.uses.now.items c.push_use-in-Limit.new.uses.items c.push_use-in-Limit-2.new.uses.items _ _
    c.in_ok-push_use-in-Limit.ensures.ok more
    ∙ ap (λ i. c.args.uses.now.items ++ uses_of c.args.at i) (sym c.in-Limit.is))
    c.push_use-in-Limit-2.ensures.ok

pub returns-in_ok-push_use-in-Limit-clause-first : goal.returns-in_ok-push_use-in-Limit-clause-first
returns-in_ok-push_use-in-Limit-clause-first g c =
    on_err_weaker c.push_use-in-Limit-2.result
    (λ same. first_kept c.args.uses.now.items _ c.push_use-in-Limit-2.new.uses.items _ c.args.uses.now.ok.0
    (same ∙ c.in_ok-push_use-in-Limit.ensures.ok))
    c.push_use-in-Limit-2.ensures.err

pub returns-in-Load-clause-ok : goal.returns-in-Load-clause-ok
returns-in-Load-clause-ok g c =
    on_ok_weaker c.push_use.result
    (λ more. more ∙ ap (λ i. c.args.uses.now.items ++ uses_of c.args.at i) (sym c.in-Load.is))
    c.push_use.ensures.ok

pub returns-in-Load-clause-first : goal.returns-in-Load-clause-first
returns-in-Load-clause-first g c =
    on_err_weaker c.push_use.result (all_kept c.args.uses.now.items _ _ c.args.uses.now.ok.0) c.push_use.ensures.err

pub returns-in-Apply-clause-ok : goal.returns-in-Apply-clause-ok
returns-in-Apply-clause-ok g c =
    on_ok_weaker c.push_use-in-Apply.result
    (λ more. more ∙ ap (λ i. c.args.uses.now.items ++ uses_of c.args.at i) (sym c.in-Apply.is))
    c.push_use-in-Apply.ensures.ok

pub returns-in-Apply-clause-first : goal.returns-in-Apply-clause-first
returns-in-Apply-clause-first g c =
    on_err_weaker c.push_use-in-Apply.result (all_kept c.args.uses.now.items _ _ c.args.uses.now.ok.0) c.push_use-in-Apply.ensures.err

pub returns-in-Store-clause-ok : goal.returns-in-Store-clause-ok
returns-in-Store-clause-ok g c =
    on_ok_weaker c.push_write.result
    (λ more. more ∙ ap (λ i. c.args.uses.now.items ++ uses_of c.args.at i) (sym c.in-Store.is))
    c.push_write.ensures.ok

pub returns-in-Store-clause-first : goal.returns-in-Store-clause-first
returns-in-Store-clause-first g c =
    on_err_weaker c.push_write.result (all_kept c.args.uses.now.items _ _ c.args.uses.now.ok.0) c.push_write.ensures.err

pub returns-in-Set-clause-ok : goal.returns-in-Set-clause-ok
returns-in-Set-clause-ok g c =
    on_ok_weaker c.push_write-in-Set.result
    (λ more. more ∙ ap (λ i. c.args.uses.now.items ++ uses_of c.args.at i) (sym c.in-Set.is))
    c.push_write-in-Set.ensures.ok

pub returns-in-Set-clause-first : goal.returns-in-Set-clause-first
returns-in-Set-clause-first g c =
    on_err_weaker c.push_write-in-Set.result (all_kept c.args.uses.now.items _ _ c.args.uses.now.ok.0) c.push_write-in-Set.ensures.err

pub returns-in-Reset-clause-ok : goal.returns-in-Reset-clause-ok
returns-in-Reset-clause-ok g c =
    on_ok_weaker c.push_write-in-Reset.result
    (λ more. more ∙ ap (λ i. c.args.uses.now.items ++ uses_of c.args.at i) (sym c.in-Reset.is))
    c.push_write-in-Reset.ensures.ok

pub returns-in-Reset-clause-first : goal.returns-in-Reset-clause-first
returns-in-Reset-clause-first g c =
    on_err_weaker c.push_write-in-Reset.result (all_kept c.args.uses.now.items _ _ c.args.uses.now.ok.0) c.push_write-in-Reset.ensures.err

pub returns-in_err-push_use-in-Limit-clause-first : goal.returns-in_err-push_use-in-Limit-clause-first
returns-in_err-push_use-in-Limit-clause-first g c =
    on_err c.from_residual.result
    (all_kept c.args.uses.now.items _ _ c.args.uses.now.ok.0 c.in_err-push_use-in-Limit.ensures.err)

pub returns-in_err-push_use-in-Call-clause-first : goal.returns-in_err-push_use-in-Call-clause-first
returns-in_err-push_use-in-Call-clause-first g c =
    on_err c.from_residual-in_err-push_use-in-Call.result
    (all_kept c.args.uses.now.items _ _ c.args.uses.now.ok.0 c.in_err-push_use-in-Call.ensures.err)

pub returns-in_err-push_invoked-in-Invoke-clause-first : goal.returns-in_err-push_invoked-in-Invoke-clause-first
returns-in_err-push_invoked-in-Invoke-clause-first g c =
    on_err c.from_residual-in_err-push_invoked-in-Invoke.result
    (all_kept c.args.uses.now.items _ _ c.args.uses.now.ok.0 c.in_err-push_invoked-in-Invoke.ensures.err)
