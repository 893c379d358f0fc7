-- Lines that are read have no more parentheses open at once than the limit, each after an operator that may be deferred.
use Rattle.std.proofs.Common.{◌≡◌, ℕ, zero, suc, ◌+◌, ◌≤◌, Bool, true, false, List, [], ◌∷◌, Option, Some, None}
use Rattle.std.specs.Prelude.{IsTrue, ⊤}
use Rattle.std.proofs.Common.{Ok, inl, inr, refl, sym, subst, ◌∙◌, arith}
use Rattle.limits.specs.Limits.{most_nesting}
use Rattle.iltypes.specs.declared.operator.Operator.{Operator}
use Rattle.iltypes.specs.Operators.{may_defer}
use Rattle.ilsource.specs.declared.instruction.Instruction.TheVariants as instructions
use Rattle.ilsource.specs.Trees.{Tree, depth}
use Rattle.ilsource.specs.Words.{MayDefer, IsShallow, AreShallow}
use Rattle.iltokens.specs.Items.{Item, alt, opt_whole, many_whole}
use Rattle.ilsource.specs.declared.name.Name.{Name}
use Rattle.ilsource.specs.declared.symbol.Symbol.{Symbol}
use Rattle.iltext.specs.declared.roles.OperatorRole.{OperatorRole}
use Rattle.iltext.specs.declared.roles.OperatorRole.TheVariants as roles
use Rattle.iltext.specs.declared.token.Token.{Token}
use Rattle.iltext.specs.Terminals.{ended}
use Rattle.iltext.specs.Instructions.{TextInstruction, TextLine, grown, grows, grows_by, on_operand, on_content}
use Rattle.iltext.specs.Instructions.{on_either}
use Rattle.iltext.specs.Instructions.{operands, invoked, invocation, load, beginning, inner_operation, inner_of}
use Rattle.iltext.specs.Instructions.{content_of, applied, operation, instruction, labelled, after_label, after_name}
use Rattle.iltext.specs.Instructions.{named_line, line, lines}
use Rattle.iltext.proofs.InstructionLaws.{Lawful-lines}

-- parentheses of the instruction have room, where so many may be open at once
abbrev HasRoom : ℕ → Option TextInstruction → Type 0
HasRoom more (Some (instructions.Deferred operator u close)) =
    IsTrue (may_defer operator) × MayDefer u × (depth u + 1 ≤ more)
HasRoom more _ = ⊤

abbrev Fits : ℕ → TextLine → Type 0
Fits more line = HasRoom more line.instruction

abbrev AllFit : ℕ → Item Token TextLine → Type 0
AllFit more item = (ts : List Token) (line : TextLine) → item.whole ts line → Fits more line

abbrev Within : ℕ → Tree Symbol → Type 0
Within more t = MayDefer t × (depth t ≤ more)

abbrev AllWithin : ℕ → Item Token (Tree Symbol) → Type 0
AllWithin more item = (ts : List Token) (t : Tree Symbol) → item.whole ts t → Within more t

-- ---- what follows an operator

module _ (more : ℕ) where
  operand_fits : (operator : Operator) (at : ℕ) → AllFit more (on_operand operator at)
  unfolding on_operand
  operand_fits operator at ts l w = subst (Fits more) (sym w.2) tt

  operands_fit : (of : Operator → ℕ → Item Token TextLine)
      → ((operator : Operator) (at : ℕ) → AllFit more (of operator at))
      → (role : OperatorRole) (at : ℕ) → AllFit more (operands of role at)
  operands_fit of fit (roles.Load negated) at ts l w = subst (Fits more) (sym w.2) tt
  operands_fit of fit (roles.Apply operator) at ts l w = fit operator at ts l w
  operands_fit of fit (roles.Transform function) at ts l w = subst (Fits more) (sym w.1) tt
  operands_fit of fit roles.Limit at ts l w = subst (Fits more) (sym w.2) tt
  operands_fit of fit (roles.Store negated) at ts l w = subst (Fits more) (sym w.2) tt
  operands_fit of fit roles.Set at ts l w = subst (Fits more) (sym w.2) tt
  operands_fit of fit roles.Reset at ts l w = subst (Fits more) (sym w.2) tt
  operands_fit of fit (roles.Jump condition) at ts l w = subst (Fits more) (sym w.2) tt
  operands_fit of fit (roles.Return condition) at ts l w = subst (Fits more) (sym w.1) tt
  operands_fit of fit (roles.Call condition) at ts l w = subst (Fits more) (sym w.2) tt

  -- ---- calls of functions

  invoked_fits : (n : Name) → AllFit more (invoked n)
  unfolding invoked
  invoked_fits n ts l w = subst (Fits more) (sym w.2) tt

  invocation_fits : AllFit more invocation
  unfolding invocation
  invocation_fits ts l w = invoked_fits w.2 w.1 l w.5

  -- ---- what stands in parentheses

  grown_within : (t : Tree Symbol) (at : ℕ) (i : Option TextInstruction)
      → Within more t → HasRoom more i → Within more (grown t at i)
  grown_within t at (Some (instructions.Deferred operator u close)) h room =
      let low = h.1 in let high = room.2 in
      ((h.0, room.0, room.1), omega arith)
  grown_within t at _ h room = h

  loads_within : AllWithin more load
  unfolding load
  loads_within ts t w = subst (Within more) (sym w.2) (tt, omega arith)

  begins_within : (at : ℕ) → AllWithin more (beginning at)
  unfolding beginning
  begins_within at ts t (inl w) =
      let next = w.1.4 in let load_line = next.1.3 in
      subst (Within more) (sym (w.2 ∙ next.2)) (loads_within _ _ load_line)
  begins_within at ts t (inr w) =
      subst (Within more) (sym (w.2 ∙ w.1.3.2)) (tt, omega arith)

  grows_within : (item : Item Token TextLine) (ts : List Token) (t : Tree Symbol) (lines : List TextLine)
      → AllFit more item → Within more t → many_whole item ts lines → Within more (grows_by t lines)
  grows_within item ts t [] fit h w = h
  grows_within item ts t (l ∷ ls) fit h w =
      let first : Fits more l = fit w.0 l w.3 in
      grows_within item w.1 (grows t l) ls fit (grown_within t l.at l.instruction h first) w.4

  ended_fits : (item : Item Token TextLine) → AllFit more item → AllFit more (ended item)
  ended_fits item fit ts l w = subst (Fits more) (sym w.2) (fit w.1.0 w.0.0 w.1.3)

  module _ (of : Operator → ℕ → Item Token TextLine)
      (fit : (operator : Operator) (at : ℕ) → AllFit more (of operator at)) where
    inner_fits : AllFit more (inner_of of)
    unfolding inner_of inner_operation
    inner_fits ts l (inl w) = operands_fit of fit w.2.0 w.2.1 w.1 l w.5
    inner_fits ts l (inr w) = invocation_fits ts l w

    content_within : (at : ℕ) → AllWithin more (content_of of at)
    unfolding content_of
    content_within at ts t w =
        let first = begins_within at w.1.0 w.0.0 w.1.3 in
        subst (Within more) (sym w.2)
        (grows_within (ended (inner_of of)) w.1.1 w.0.0 w.0.1 (ended_fits (inner_of of) inner_fits) first w.1.4)

-- ---- parentheses

either_fits : (more : ℕ) (content : ℕ → Item Token (Tree Symbol)) → ((at : ℕ) → AllWithin more (content at))
    → (may : Bool) (operator : Operator) (at : ℕ) → may_defer operator ≡ may
    → AllFit (suc more) (on_either may content operator at)
unfolding on_content
either_fits more content within true operator at e ts l (inl w) =
    let inside = within at w.1.4.0 w.0.1.0 w.1.4.3 in
    let deep = inside.1 in
    subst (Fits (suc more)) (sym w.2) (e, inside.0, omega arith)
either_fits more content within true operator at e ts l (inr w) = operand_fits (suc more) operator at ts l w
either_fits more content within false operator at e ts l w = operand_fits (suc more) operator at ts l w

applied_fits : (more : ℕ) (operator : Operator) (at : ℕ) → AllFit more (applied more operator at)
unfolding applied
applied_fits zero operator at ts l w = operand_fits 0 operator at ts l w
applied_fits (suc more) operator at ts l w =
    either_fits more (content_of (applied more)) (content_within more (applied more) (applied_fits more))
    (may_defer operator) operator at refl ts l w

-- ---- lines

operation_fits : AllFit most_nesting operation
unfolding operation
operation_fits ts l w =
    operands_fit most_nesting (applied most_nesting) (applied_fits most_nesting) w.2.0 w.2.1 w.1 l w.5

instruction_fits : AllFit most_nesting instruction
unfolding instruction
instruction_fits ts l (inl w) = operation_fits ts l w
instruction_fits ts l (inr w) = invocation_fits most_nesting ts l w

labelled_fits : (n : Name) (ts : List Token) (o : Option TextLine)
    → opt_whole instruction ts o → Fits most_nesting (labelled n o)
labelled_fits n ts None w = tt
labelled_fits n ts (Some l) w = instruction_fits ts l w

after_name_fits : (n : Name) → AllFit most_nesting (after_name n)
unfolding after_name after_label
after_name_fits n ts l (inl w) = subst (Fits most_nesting) (sym w.2) (labelled_fits n w.1.1 w.0.1 w.1.4)
after_name_fits n ts l (inr w) = invoked_fits most_nesting n ts l w

content_fits : AllFit most_nesting (alt named_line operation)
unfolding named_line
content_fits ts l (inl w) = after_name_fits w.2 w.1 l w.5
content_fits ts l (inr w) = operation_fits ts l w

line_fits : AllFit most_nesting line
unfolding line
line_fits ts l w = ended_fits most_nesting (alt named_line operation) content_fits ts l w

shallow_one : (i : Option TextInstruction) → HasRoom most_nesting i → IsShallow i
shallow_one (Some (instructions.Deferred operator u close)) room = room
shallow_one _ room = tt

all_fit : (ts : List Token) (ls : List TextLine) → many_whole line ts ls → AreShallow ls
all_fit ts [] w = tt
all_fit ts (l ∷ ls) w = (shallow_one l.instruction (line_fits w.0 l w.3), all_fit w.1 ls w.4)

whole_fit : (ts : List Token) (ls : List TextLine) → lines.whole ts ls → AreShallow ls
unfolding lines
whole_fit ts ls w = all_fit ts ls w

pub are_shallow : (ts rest : List Token) (ls : List TextLine) → lines.read ts ≡ Ok (ls, rest) → AreShallow ls
are_shallow ts rest ls e = let t = Lawful-lines.ok ts ls rest e in whole_fit t.front ls t.whole
