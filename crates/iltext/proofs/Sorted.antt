-- What lines that are read name may stand there: operands are constants, variables and ports, block instances are
-- called, arguments are given to ports, and functions are invoked.
use Rattle.std.proofs.Common.{◌≡◌, ℕ, zero, suc, Bool, true, false, List, [], ◌∷◌, ◌++◌, Option, Some, None, Ok, inl, inr}
use Rattle.std.proofs.Common.{◌+◌, sym, subst, ◌∙◌}
use Rattle.std.specs.Prelude.{⊤, map, flat_map, unwrap_or}
use Rattle.std.specs.List.{AllByRecursion}
use Rattle.std.specs.Option.{option_map_or}
use Rattle.limits.specs.Limits.{most_nesting}
use Rattle.iltypes.specs.declared.value.Value.{Value}
use Rattle.iltypes.specs.declared.operator.Operator.{Operator}
use Rattle.iltypes.specs.declared.operator.Operator.TheVariants.{Min, Max}
use Rattle.iltypes.specs.Operators.{may_defer}
use Rattle.ilsource.specs.declared.arguments.Argument.{Argument}
use Rattle.ilsource.specs.declared.instruction.Instruction.TheVariants as instructions
use Rattle.ilsource.specs.declared.nested.Action.TheVariants as actions
use Rattle.ilsource.specs.declared.nested.Piece.{Piece}
use Rattle.ilsource.specs.declared.operand.Operand.{Operand}
use Rattle.ilsource.specs.declared.operand.Operand.TheVariants.{Name as Named}
use Rattle.ilsource.specs.declared.uses.Purpose.TheVariants.{Read, Write, Pass}
use Rattle.ilsource.specs.declared.uses.Use.{Use}
use Rattle.ilsource.specs.Trees.{Tree, piece, give_pieces, call_pieces, pieces_of}
use Rattle.ilsource.specs.Uses.{read_at, uses_in, uses_of, uses_of_argument, uses_of_piece}
use Rattle.iltokens.specs.Items.{Item, alt, opt_whole, many_whole}
use Rattle.ilsource.specs.declared.name.Name.{Name}
use Rattle.ilsource.specs.declared.symbol.Symbol.{Symbol}
use Rattle.ilsource.specs.Programs.{MayStand, MayBeUsed, AreSorted}
use Rattle.iltext.specs.declared.roles.OperatorRole.{OperatorRole}
use Rattle.iltext.specs.declared.roles.OperatorRole.TheVariants as roles
use Rattle.iltext.specs.Calls.{argument, arguments, call, called, more_arguments, next_argument, passed}
use Rattle.iltext.specs.Instructions.{after_label, after_name, applied, beginning, bounds, content_of, grown, grows}
use Rattle.iltext.specs.Instructions.{grows_by, inner_of, inner_operation, instruction, invocation, invoked, labelled}
use Rattle.iltext.specs.Instructions.{line, lines, load, named_line, on_content, on_either, on_operand, operands}
use Rattle.iltext.specs.Instructions.{operation, TextInstruction, TextLine}
use Rattle.iltext.specs.Invocations.{handed, more_operands, next_operand, some_operands}
use Rattle.iltext.specs.Operands.{literal, named_or, operand, spaced_operand, spaced_symbol, symbol, symbol_of}
use Rattle.iltext.specs.Terminals.{ended, spaced}
use Rattle.iltext.specs.declared.token.Token.{Token}
use Rattle.iltext.proofs.InstructionLaws.{Lawful-lines}

abbrev MayAll : List (Use Symbol) → Type 0
MayAll uses = AllByRecursion MayBeUsed uses

both : (us vs : List (Use Symbol)) → MayAll us → MayAll vs → MayAll (us ++ vs)
both [] vs h k = k
both (u ∷ us) vs h k = (h.0, both us vs h.1 k)

front : (us vs : List (Use Symbol)) → MayAll (us ++ vs) → MayAll us
front [] vs h = tt
front (u ∷ us) vs h = (h.0, front us vs h.1)

back : (us vs : List (Use Symbol)) → MayAll (us ++ vs) → MayAll vs
back [] vs h = h
back (u ∷ us) vs h = back us vs h.1

-- what pieces use, and more pieces
abbrev used : List (Piece Symbol) → List (Use Symbol)
used ps = flat_map uses_of_piece ps

more_used : (ps qs : List (Piece Symbol)) → MayAll (used ps) → MayAll (used qs) → MayAll (used (ps ++ qs))
more_used [] qs h k = k
more_used (p ∷ ps) qs h k =
    both (uses_of_piece p) (used (ps ++ qs)) (front (uses_of_piece p) (used ps) h)
    (more_used ps qs (back (uses_of_piece p) (used ps) h) k)

abbrev TreeMay : Tree Symbol → Type 0
TreeMay t = MayAll (used (pieces_of t))

abbrev LineMay : TextLine → Type 0
LineMay l = MayAll (uses_in l)

abbrev AllLinesMay : Item Token TextLine → Type 0
AllLinesMay item = (ts : List Token) (l : TextLine) → item.whole ts l → LineMay l

abbrev AllTreesMay : Item Token (Tree Symbol) → Type 0
AllTreesMay item = (ts : List Token) (t : Tree Symbol) → item.whole ts t → TreeMay t

-- ---- operands, and what is written

read_symbol : (name : Name) (port : Option Name) → MayStand Read (Named (symbol_of name port))
read_symbol name None = tt
read_symbol name (Some port) = tt

written_symbol : (name : Name) (port : Option Name) → MayStand Write (Named (symbol_of name port))
written_symbol name None = tt
written_symbol name (Some port) = tt

named_may : (named : Item Token Symbol) (value : Item Token Value)
    → ((ts : List Token) (s : Symbol) → named.whole ts s → MayStand Read (Named s))
    → (ts : List Token) (o : Operand Symbol) → (named_or named value).whole ts o → MayStand Read o
named_may named value may ts o (inl w) = subst (MayStand Read) (sym w.2) (may ts w.0 w.1)
named_may named value may ts o (inr w) = subst (MayStand Read) (sym w.2) tt

symbol_read : (ts : List Token) (s : Symbol) → symbol.whole ts s → MayStand Read (Named s)
unfolding symbol
symbol_read ts s w =
    subst (λ (x : Symbol). MayStand Read (Named x)) (sym w.2) (read_symbol w.0.0 w.0.1)

symbol_written : (ts : List Token) (s : Symbol) → symbol.whole ts s → MayStand Write (Named s)
unfolding symbol
symbol_written ts s w =
    subst (λ (x : Symbol). MayStand Write (Named x)) (sym w.2) (written_symbol w.0.0 w.0.1)

spaced_read : (ts : List Token) (s : Symbol) → spaced_symbol.whole ts s → MayStand Read (Named s)
unfolding spaced_symbol
spaced_read ts s w =
    subst (λ (x : Symbol). MayStand Read (Named x)) (sym w.2) (read_symbol w.0.0 w.0.1)

operand_may : (ts : List Token) (o : Operand Symbol) → operand.whole ts o → MayStand Read o
unfolding operand
operand_may ts o w = named_may symbol literal symbol_read ts o w

spaced_may : (ts : List Token) (o : Operand Symbol) → spaced_operand.whole ts o → MayStand Read o
unfolding spaced_operand
spaced_may ts o w = named_may spaced_symbol (spaced literal) spaced_read ts o w

-- ---- calls

abbrev ArgumentMay : Argument Symbol → Type 0
ArgumentMay x = MayStand Pass (Named x.port) × MayStand Read x.operand

abbrev ArgumentsMay : List (Argument Symbol) → Type 0
ArgumentsMay xs = AllByRecursion ArgumentMay xs

arguments_used : (at : ℕ) (xs : List (Argument Symbol)) → ArgumentsMay xs → MayAll (flat_map (uses_of_argument at) xs)
arguments_used at [] h = tt
arguments_used at (x ∷ xs) h = (h.0.0, (h.0.1, arguments_used at xs h.1))

module _ (block : Name) where
  argument_may : (ts : List Token) (x : Argument Symbol) → (argument block).whole ts x → ArgumentMay x
  unfolding argument
  argument_may ts x w = subst ArgumentMay (sym w.2) (tt, spaced_may _ _ w.1.4.4)

  next_may : (ts : List Token) (x : Argument Symbol) → (next_argument block).whole ts x → ArgumentMay x
  unfolding next_argument
  next_may ts x w = subst ArgumentMay (sym w.2) (argument_may _ _ w.1.4)

  many_may : (ts : List Token) (xs : List (Argument Symbol)) → many_whole (next_argument block) ts xs → ArgumentsMay xs
  many_may ts [] w = tt
  many_may ts (x ∷ xs) w = (next_may w.0 x w.3, many_may w.1 xs w.4)

  more_may : (ts : List Token) (xs : List (Argument Symbol)) → (more_arguments block).whole ts xs → ArgumentsMay xs
  unfolding more_arguments
  more_may ts xs w = many_may ts xs w

  arguments_may : (ts : List Token) (xs : List (Argument Symbol)) → (arguments block).whole ts xs → ArgumentsMay xs
  unfolding arguments
  arguments_may ts xs w = subst ArgumentsMay (sym w.2) (argument_may _ _ w.1.3, more_may _ _ w.1.4)

  passed_may : (ts : List Token) (xs : List (Argument Symbol)) → (passed block).whole ts xs → ArgumentsMay xs
  unfolding passed
  passed_may ts xs w = subst ArgumentsMay (sym w.2) (arguments_may _ _ w.1.4.3)

  called_may : (ts : List Token) (o : Option (List (Argument Symbol))) → opt_whole (passed block) ts o
      → ArgumentsMay (called block o).1
  called_may ts None w = tt
  called_may ts (Some xs) w = passed_may ts xs w

call_may : (ts : List Token) (x : Name × List (Argument Symbol)) → call.whole ts x → ArgumentsMay x.1
unfolding call
call_may ts x w =
    subst (λ (y : Name × List (Argument Symbol)). ArgumentsMay y.1) (sym w.5.2) (called_may w.2 w.1 w.5.0 w.5.1)

-- ---- what follows an operator

applied_may : (operator : Operator) (at : ℕ) → AllLinesMay (on_operand operator at)
unfolding on_operand
applied_may operator at ts l w = subst LineMay (sym w.2) (operand_may _ _ w.1, tt)

bounds_may : (ts : List Token) (x : Operand Symbol × Operand Symbol) → bounds.whole ts x
    → MayStand Read x.0 × MayStand Read x.1
unfolding bounds
bounds_may ts x w =
    subst (λ (y : Operand Symbol × Operand Symbol). MayStand Read y.0 × MayStand Read y.1) (sym w.2)
    (operand_may _ _ w.1.3, operand_may _ _ w.1.4.4)

module _ (of : Operator → ℕ → Item Token TextLine) (may : (operator : Operator) (at : ℕ) → AllLinesMay (of operator at))
  where
    operands_may : (role : OperatorRole) (at : ℕ) → AllLinesMay (operands of role at)
    operands_may (roles.Load negated) at ts l w = subst LineMay (sym w.2) (operand_may _ _ w.1, tt)
    operands_may (roles.Apply operator) at ts l w = may operator at ts l w
    operands_may (roles.Transform function) at ts l w = subst LineMay (sym w.1) tt
    operands_may roles.Limit at ts l w =
        let two = bounds_may _ _ w.1 in subst LineMay (sym w.2) (two.0, (two.1, tt))
    operands_may (roles.Store negated) at ts l w = subst LineMay (sym w.2) (symbol_written _ _ w.1, tt)
    operands_may roles.Set at ts l w = subst LineMay (sym w.2) (symbol_written _ _ w.1, tt)
    operands_may roles.Reset at ts l w = subst LineMay (sym w.2) (symbol_written _ _ w.1, tt)
    operands_may (roles.Jump condition) at ts l w = subst LineMay (sym w.2) tt
    operands_may (roles.Return condition) at ts l w = subst LineMay (sym w.1) tt
    operands_may (roles.Call condition) at ts l w =
        subst LineMay (sym w.2) (tt, arguments_used at w.0.1 (call_may _ _ w.1))

-- ---- calls of functions

abbrev OperandsMay : List (Operand Symbol) → Type 0
OperandsMay os = AllByRecursion (MayStand Read) os

next_operand_may : (ts : List Token) (o : Operand Symbol) → next_operand.whole ts o → MayStand Read o
unfolding next_operand
next_operand_may ts o w = subst (MayStand Read) (sym w.2) (operand_may _ _ w.1.4)

many_operands_may : (ts : List Token) (os : List (Operand Symbol)) → many_whole next_operand ts os → OperandsMay os
many_operands_may ts [] w = tt
many_operands_may ts (o ∷ os) w = (next_operand_may w.0 o w.3, many_operands_may w.1 os w.4)

more_operands_may : (ts : List Token) (os : List (Operand Symbol)) → more_operands.whole ts os → OperandsMay os
unfolding more_operands
more_operands_may ts os w = many_operands_may ts os w

some_operands_may : (ts : List Token) (os : List (Operand Symbol)) → some_operands.whole ts os → OperandsMay os
unfolding some_operands
some_operands_may ts os w = subst OperandsMay (sym w.2) (operand_may _ _ w.1.3, more_operands_may _ _ w.1.4)

optional_operands_may : (ts : List Token) (o : Option (List (Operand Symbol))) → opt_whole some_operands ts o
    → OperandsMay (unwrap_or o [])
optional_operands_may ts None w = tt
optional_operands_may ts (Some os) w = some_operands_may ts os w

handed_may : (ts : List Token) (os : List (Operand Symbol)) → handed.whole ts os → OperandsMay os
unfolding handed
handed_may ts os w = subst OperandsMay (sym w.2) (optional_operands_may _ _ w.1)

read_may : (at : ℕ) (os : List (Operand Symbol)) → OperandsMay os → MayAll (map (read_at at) os)
read_may at [] h = tt
read_may at (o ∷ os) h = (h.0, read_may at os h.1)

invoked_may : (n : Name) → AllLinesMay (invoked n)
unfolding invoked
invoked_may n ts l w = subst LineMay (sym w.2) (tt, read_may n.from w.0 (handed_may _ _ w.1))

invocation_may : AllLinesMay invocation
unfolding invocation
invocation_may ts l w = invoked_may w.2 w.1 l w.5

-- ---- what stands in parentheses

given_may : (at : ℕ) (f : Symbol) (number : ℕ) (os : List (Operand Symbol)) → MayAll (map (read_at at) os)
    → MayAll (used (give_pieces at f number os))
given_may at f number [] h = tt
given_may at f number (o ∷ os) h = (h.0, given_may at f (number + 1) os h.1)

grown_may : (t : Tree Symbol) (at : ℕ) (i : Option TextInstruction) → TreeMay t
    → MayAll (option_map_or (uses_of at) i []) → TreeMay (grown t at i)
grown_may t at (Some (instructions.Load negated o)) h k =
    more_used (pieces_of t) (piece at (actions.Load negated o) ∷ []) h k
grown_may t at (Some (instructions.Apply operator o)) h k =
    more_used (pieces_of t) (piece at (actions.Apply operator o) ∷ []) h k
grown_may t at (Some (instructions.Deferred operator u close)) h k =
    more_used (pieces_of t) (piece at (actions.Open operator) ∷ (pieces_of u ++ piece close actions.Close ∷ [])) h
    (more_used (pieces_of u) (piece close actions.Close ∷ []) k tt)
grown_may t at (Some (instructions.Transform function)) h k =
    more_used (pieces_of t) (piece at (actions.Transform function) ∷ []) h tt
grown_may t at (Some (instructions.Limit low high)) h k =
    more_used (pieces_of t ++ piece at (actions.Apply Max low) ∷ []) (piece at (actions.Apply Min high) ∷ [])
    (more_used (pieces_of t) (piece at (actions.Apply Max low) ∷ []) h (k.0, tt)) (k.1.0, tt)
grown_may t at (Some (instructions.Invoke f os)) h k =
    more_used (pieces_of t) (call_pieces at f os) h
    (k.0, more_used (give_pieces at f 1 os) (piece at (actions.Invoke f) ∷ []) (given_may at f 1 os k.1) tt)
grown_may t at _ h k = h

load_may : AllTreesMay load
unfolding load
load_may ts t w = subst TreeMay (sym w.2) (operand_may _ _ w.1.4, tt)

beginning_may : (at : ℕ) → AllTreesMay (beginning at)
unfolding beginning
beginning_may at ts t (inl w) =
    let next = w.1.4 in let load_line = next.1.3 in
    subst TreeMay (sym (w.2 ∙ next.2)) (load_may _ _ load_line)
beginning_may at ts t (inr w) = subst TreeMay (sym (w.2 ∙ w.1.3.2)) (operand_may _ _ w.1.3.1, tt)

grows_may : (item : Item Token TextLine) (ts : List Token) (t : Tree Symbol) (ls : List TextLine)
    → AllLinesMay item → TreeMay t → many_whole item ts ls → TreeMay (grows_by t ls)
grows_may item ts t [] may h w = h
grows_may item ts t (l ∷ ls) may h w =
    let first : LineMay l = may w.0 l w.3 in
    grows_may item w.1 (grows t l) ls may (grown_may t l.at l.instruction h first) w.4

ended_may : (item : Item Token TextLine) → AllLinesMay item → AllLinesMay (ended item)
ended_may item may ts l w = subst LineMay (sym w.2) (may w.1.0 w.0.0 w.1.3)

module _ (of : Operator → ℕ → Item Token TextLine) (may : (operator : Operator) (at : ℕ) → AllLinesMay (of operator at))
  where
    inner_may : AllLinesMay (inner_of of)
    unfolding inner_of inner_operation
    inner_may ts l (inl w) = operands_may of may w.2.0 w.2.1 w.1 l w.5
    inner_may ts l (inr w) = invocation_may ts l w

    content_may : (at : ℕ) → AllTreesMay (content_of of at)
    unfolding content_of
    content_may at ts t w =
        let first = beginning_may at w.1.0 w.0.0 w.1.3 in
        subst TreeMay (sym w.2)
        (grows_may (ended (inner_of of)) w.1.1 w.0.0 w.0.1 (ended_may (inner_of of) inner_may) first w.1.4)

-- ---- parentheses

either_may : (content : ℕ → Item Token (Tree Symbol)) → ((at : ℕ) → AllTreesMay (content at))
    → (may : Bool) (operator : Operator) (at : ℕ) → AllLinesMay (on_either may content operator at)
unfolding on_content
either_may content of true operator at ts l (inl w) =
    subst LineMay (sym w.2) (of at w.1.4.0 w.0.1.0 w.1.4.3)
either_may content of true operator at ts l (inr w) = applied_may operator at ts l w
either_may content of false operator at ts l w = applied_may operator at ts l w

all_applied : (more : ℕ) (operator : Operator) (at : ℕ) → AllLinesMay (applied more operator at)
unfolding applied
all_applied zero operator at ts l w = applied_may operator at ts l w
all_applied (suc more) operator at ts l w =
    either_may (content_of (applied more)) (content_may (applied more) (all_applied more)) (may_defer operator) operator
    at ts l w

-- ---- lines

operation_may : AllLinesMay operation
unfolding operation
operation_may ts l w = operands_may (applied most_nesting) (all_applied most_nesting) w.2.0 w.2.1 w.1 l w.5

instruction_may : AllLinesMay instruction
unfolding instruction
instruction_may ts l (inl w) = operation_may ts l w
instruction_may ts l (inr w) = invocation_may ts l w

labelled_may : (n : Name) (ts : List Token) (o : Option TextLine) → opt_whole instruction ts o → LineMay (labelled n o)
labelled_may n ts None w = tt
labelled_may n ts (Some l) w = instruction_may ts l w

after_name_may : (n : Name) → AllLinesMay (after_name n)
unfolding after_name after_label
after_name_may n ts l (inl w) = subst LineMay (sym w.2) (labelled_may n w.1.1 w.0.1 w.1.4)
after_name_may n ts l (inr w) = invoked_may n ts l w

unended_may : AllLinesMay (alt named_line operation)
unfolding named_line
unended_may ts l (inl w) = after_name_may w.2 w.1 l w.5
unended_may ts l (inr w) = operation_may ts l w

line_may : AllLinesMay line
unfolding line
line_may ts l w = ended_may (alt named_line operation) unended_may ts l w

all_may : (ts : List Token) (ls : List TextLine) → many_whole line ts ls → AreSorted ls
all_may ts [] w = tt
all_may ts (l ∷ ls) w = both (uses_in l) (flat_map uses_in ls) (line_may w.0 l w.3) (all_may w.1 ls w.4)

whole_may : (ts : List Token) (ls : List TextLine) → lines.whole ts ls → AreSorted ls
unfolding lines
whole_may ts ls w = all_may ts ls w

pub are_sorted : (ts rest : List Token) (ls : List TextLine) → lines.read ts ≡ Ok (ls, rest) → AreSorted ls
are_sorted ts rest ls e = let t = Lawful-lines.ok ts ls rest e in whole_may t.front ls t.whole
