-- The constants of instances, of which those of a program that was seen already add none.
use Rattle.std.proofs.Common.{◌≡◌, ℕ, zero, suc, ◌+◌, ◌<◌, List, [], ◌∷◌, ◌++◌, length, take, get_or, Bool, true, false}
use Rattle.std.proofs.Common.{◌||◌, sym, ap, ◌∙◌, subst, inl, inr, append-nil}
use Rattle.std.specs.Prelude.{Option, Some, replicate, slice_get, slice_set, ◌==◌}
use Rattle.std.specs.List.{list_any}
use Rattle.std.proofs.lemmas.Bool.Decides.{Decides-eqb}
use Rattle.std.proofs.lemmas.Grind.{flat_map-append}
use Rattle.std.proofs.lemmas.List.Folds.{list_any-append}
use Rattle.iltypes.specs.declared.value.Value.{Value}
use Rattle.ilsource.specs.declared.uses.Use.{Use}
use Rattle.ilsource.specs.Uses.{uses_in}
use Rattle.ilsource.specs.SourceTrees.{Tree}
use Rattle.ilsource.specs.declared.symbol.Symbol.{Symbol}
use Rattle.ildeclared.specs.Faults.{SomeOf}
use Rattle.ildeclared.proofs.Least.{some_front, some_last}
use Rattle.ilscope.specs.Declarations.{declared_programs, DeclaredProgram}
use Rattle.ilplan.specs.Constants.{constants_used, same_value}
use Rattle.ilscope.specs.Uses.{uses_of}
use Rattle.ilsyms.specs.CountingSteps.{AreCounted, AreSeen}
use Rattle.ilsyms.specs.TaskSteps.{AreThere, instances_of}
use Rattle.ilsyms.specs.Tasks.{NamedProgram, instance_named}
use Rattle.ilsyms.specs.Variables.{lines_of}
use Rattle.ilsyms.specs.declared.tasks.TaskInstance.{TaskInstance}
use Rattle.ilsyms.proofs.CountingUses.{AreKnown, known_counted, used_append}
use Rattle.ilsyms.proofs.Lists.{either, or_true}
use Rattle.ilsyms.proofs.TaskSets.{elsewhere}
use Rattle.ilsyms.proofs.TaskInstances.{taken_more}

-- what the lines of instances use, with one instance more
uses_more : (front : List NamedProgram) (x : NamedProgram)
    → uses_of (lines_of (front ++ x ∷ [])) ≡ uses_of (lines_of front) ++ uses_of x.program.program.lines
uses_more front x =
    ap uses_of (flat_map-append (λ (i : NamedProgram). i.program.program.lines) front (x ∷ []))
    ∙ ap (λ ls. uses_of (lines_of front ++ ls)) (append-nil x.program.program.lines)
    ∙ flat_map-append uses_in (lines_of front) x.program.program.lines

-- the constants of a program of the instances are among theirs
among_theirs : (tree : Tree) (number : ℕ) (p : DeclaredProgram) → slice_get (declared_programs tree) number ≡ Some p
    → (front : List NamedProgram) → SomeOf (λ i. slice_get (declared_programs tree) number ≡ Some i.program) front
    → AreKnown (uses_of (lines_of front)) (uses_of p.program.lines)
among_theirs tree number p is [] s v e = absurd s
among_theirs tree number p is (x ∷ front) (inl h) v e =
    let both : Some p ≡ Some x.program = sym is ∙ h in
    let same : p ≡ x.program = cc in
    let here = ap (λ (q : DeclaredProgram). list_any (same_value v) (constants_used (uses_of q.program.lines))) same in
    ap (λ us. list_any (same_value v) (constants_used us))
    (flat_map-append uses_in x.program.program.lines (lines_of front))
    ∙ ap (list_any (same_value v)) (used_append (uses_of x.program.program.lines) (uses_of (lines_of front)))
    ∙ list_any-append (same_value v) (constants_used (uses_of x.program.program.lines))
    (constants_used (uses_of (lines_of front)))
    ∙ ap (λ b. b || list_any (same_value v) (constants_used (uses_of (lines_of front)))) (sym here ∙ e)
among_theirs tree number p is (x ∷ front) (inr s) v e =
    ap (λ us. list_any (same_value v) (constants_used us))
    (flat_map-append uses_in x.program.program.lines (lines_of front))
    ∙ ap (list_any (same_value v)) (used_append (uses_of x.program.program.lines) (uses_of (lines_of front)))
    ∙ list_any-append (same_value v) (constants_used (uses_of x.program.program.lines))
    (constants_used (uses_of (lines_of front)))
    ∙ ap (λ b. list_any (same_value v) (constants_used (uses_of x.program.program.lines)) || b)
    (among_theirs tree number p is front s v e)
    ∙ or_true (list_any (same_value v) (constants_used (uses_of x.program.program.lines)))

module _ (tree : Tree) (given : List TaskInstance) (there : AreThere tree given) (i : ℕ) (d : TaskInstance)
    (below : i < length given) (p : DeclaredProgram)
    (is : slice_get (declared_programs tree) (get_or given i d).program ≡ Some p) where
  abbrev front : List NamedProgram
  front = take i (instances_of tree given)

  abbrev next : List NamedProgram
  next = take (i + 1) (instances_of tree given)

  abbrev number : ℕ
  number = (get_or given i d).program

  abbrev last : NamedProgram
  last = instance_named (get_or given i d).name p

  whole : next ≡ front ++ last ∷ []
  whole = taken_more tree given there i d below p is

  module _ (marks : List Bool) (seen : AreSeen tree front marks) where
    pub seen_kept : AreSeen tree next marks
    seen_kept n e =
        subst (λ (is : List NamedProgram). SomeOf (λ x. slice_get (declared_programs tree) n ≡ Some x.program) is)
        (sym whole) (some_front (λ x. slice_get (declared_programs tree) n ≡ Some x.program) front last (seen n e))

    pub seen_more : number < length marks → AreSeen tree next (slice_set marks number true)
    seen_more low n e =
        subst (λ (is : List NamedProgram). SomeOf (λ x. slice_get (declared_programs tree) n ≡ Some x.program) is)
        (sym whole)
        (either (number == n)
        (λ t. some_last (λ x. slice_get (declared_programs tree) n ≡ Some x.program) front last
        (ap (slice_get (declared_programs tree)) (sym ((Decides-eqb number n).0 t)) ∙ is))
        (λ f. some_front (λ x. slice_get (declared_programs tree) n ≡ Some x.program) front last
        (seen n (sym (elsewhere marks number n true
        (λ s. let t : number == n ≡ true = (Decides-eqb number n).1 s in absurd cc))
        ∙ e))))

    pub counted_kept : (known : List Value) (excess : Option ℕ) → slice_get marks number ≡ Some true
        → AreCounted (uses_of (lines_of front)) known excess → AreCounted (uses_of (lines_of next)) known excess
    counted_kept known excess marked c =
        subst (λ (us : List (Use Symbol)). AreCounted us known excess)
        (sym (ap (λ (is : List NamedProgram). uses_of (lines_of is)) whole ∙ uses_more front last))
        (known_counted (uses_of p.program.lines) (uses_of (lines_of front)) known excess
        (among_theirs tree number p is front (seen number marked)) c)

  pub counted_more : (known : List Value) (excess : Option ℕ)
      → AreCounted (uses_of (lines_of front) ++ uses_of p.program.lines) known excess
      → AreCounted (uses_of (lines_of next)) known excess
  counted_more known excess c =
      subst (λ (us : List (Use Symbol)). AreCounted us known excess)
      (sym (ap (λ (is : List NamedProgram). uses_of (lines_of is)) whole ∙ uses_more front last)) c

-- at first none is marked
unmarked : (n k : ℕ) (b : Bool) → slice_get (replicate n false) k ≡ Some b → b ≡ false
unmarked zero k b e = absurd cc
unmarked (suc n) zero b e = cc
unmarked (suc n) (suc k) b e = unmarked n k b e

pub none_seen : (tree : Tree) (marks : List Bool) (n : ℕ) → marks ≡ replicate n false → AreSeen tree [] marks
none_seen tree marks n is number e =
    let f = unmarked n number true (ap (λ (ms : List Bool). slice_get ms number) (sym is) ∙ e) in
    absurd cc
