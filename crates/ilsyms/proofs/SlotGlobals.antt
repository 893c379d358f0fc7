-- The slots of global variables: which of them are named, one program after another, and that none is of an instance.
use Rattle.std.proofs.Common.{◌≡◌, ℕ, ◌+◌, ◌<◌, List, [], ◌∷◌, ◌++◌, take, length, get_or, replicate, refl, sym, ap}
use Rattle.std.proofs.Common.{◌∙◌, arith, subst, Bool, true, false, ◌||◌, append-nil, inl, inr}
use Rattle.std.specs.Prelude.{slice_get, Some, None, filter_map, if◌then◌else◌}
use Rattle.std.specs.List.{cons_option, enumerate_from, list_any}
use Rattle.std.proofs.lemmas.List.{take_more, length-replicate, get_or-replicate}
use Rattle.std.proofs.lemmas.List.Elements.{filter_map-append}
use Rattle.std.proofs.lemmas.List.Folds.{list_any-append}
use Rattle.std.proofs.lemmas.List.FromFn.{length-enumerate_from, get_or-enumerate_from}
use Rattle.ilsource.specs.SourceTrees.{Tree}
use Rattle.ildeclared.specs.Faults.{SomeOf}
use Rattle.ildeclared.specs.declared.global.DeclaredGlobal.{DeclaredGlobal}
use Rattle.ilscope.specs.Configured.{globals_of}
use Rattle.ilscope.specs.Declarations.{declared_programs, DeclaredProgram}
use Rattle.ilsource.specs.declared.name.Name.{Name}
use Rattle.ilplan.specs.declared.slot.Slot.{Slot}
use Rattle.ilsyms.specs.SlotSteps.{AddsWhere, AreNamed}
use Rattle.ilsyms.specs.Tasks.{NamedProgram}
use Rattle.ilsyms.specs.Variables.{is_among, is_named, global_slot, named_slot, global_slots}
use Rattle.ilsyms.specs.Meaning.{is_own}
use Rattle.ilsyms.proofs.Lists.{either, or_false}

-- ---- no slot of a global variable is one of an instance

module _ (tree : Tree) (is : List NamedProgram) where
  -- what holds of each slot of a global variable holds of those that are named
  abbrev named : List (ℕ × DeclaredGlobal) → List Slot
  named gs = filter_map (named_slot tree is) gs

  -- none is a variable of an instance
  none_own : (text : List ℕ) (instance name : Name) (gs : List (ℕ × DeclaredGlobal))
      → list_any (λ s. is_own text instance name s.variable) (named gs) ≡ false
  none_own text instance name [] = refl
  none_own text instance name (g ∷ gs) = by (none_own text instance name gs) (is_named tree is g.0)
    where
      by : list_any (λ s. is_own text instance name s.variable) (named gs) ≡ false → (b : Bool)
          → list_any (λ s. is_own text instance name s.variable)
          (cons_option (if b then Some (global_slot g.0 g.1) else None) (named gs))
          ≡ false
      by e true = e
      by e false = e

pub no_own_global : (tree : Tree) (is : List NamedProgram) (text : List ℕ) (instance name : Name)
    → list_any (λ s. is_own text instance name s.variable) (global_slots tree is) ≡ false
no_own_global tree is text instance name = none_own tree is text instance name (enumerate_from 0 (globals_of tree))

or_assoc : (a b c : Bool) → ((a || b) || c) ≡ (a || (b || c))
or_assoc true b c = refl
or_assoc false b c = refl

pub adds_both : (f g h : ℕ → Bool) (a b c : List Bool) → AddsWhere f a b → AddsWhere g b c
    → ((n : ℕ) → h n ≡ (f n || g n)) → AddsWhere h a c
adds_both f g h a b c first second e =
    record {
      many = second.many ∙ first.many;
      each = λ n within.
          let there : n < length b = subst (λ m. n < m) (sym first.many) within in
          second.each n there ∙ ap (λ x. x || g n) (first.each n within) ∙ or_assoc (get_or a n false) (f n) (g n)
          ∙ ap (λ x. get_or a n false || x) (sym (e n));
    }

-- the programs of instances up to one, and of one more
pub named_more : (tree : Tree) (is : List NamedProgram) (i : NamedProgram) (number : ℕ)
    → is_named tree (is ++ i ∷ []) number ≡ (is_named tree is number || is_among tree number i.program.externals)
named_more tree is i number =
    list_any-append (λ j. is_among tree number j.program.externals) is (i ∷ [])
    ∙ ap (λ b. is_named tree is number || b) (or_false (is_among tree number i.program.externals))

-- a program of some of the instances names no other global variable
among_named : (tree : Tree) (number : ℕ) (p : DeclaredProgram) → slice_get (declared_programs tree) number ≡ Some p
    → (front : List NamedProgram) → SomeOf (λ i. slice_get (declared_programs tree) number ≡ Some i.program) front
    → (n : ℕ) → is_among tree n p.externals ≡ true → is_named tree front n ≡ true
among_named tree number p is [] s n e = absurd s
among_named tree number p is (x ∷ front) (inl h) n e =
    let both : Some p ≡ Some x.program = sym is ∙ h in
    let same : p ≡ x.program = cc in
    let here : is_among tree n x.program.externals ≡ true =
    ap (λ (q : DeclaredProgram). is_among tree n q.externals) (sym same) ∙ e
    in
    rw here refl
among_named tree number p is (x ∷ front) (inr s) n e =
    let rest = among_named tree number p is front s n e in
    either (is_among tree n x.program.externals) (λ t. rw t refl) (λ f. rw f rest)

pub named_still : (tree : Tree) (number : ℕ) (i : NamedProgram)
    → slice_get (declared_programs tree) number ≡ Some i.program → (front : List NamedProgram)
    → SomeOf (λ j. slice_get (declared_programs tree) number ≡ Some j.program) front → (n : ℕ)
    → is_named tree (front ++ i ∷ []) n ≡ is_named tree front n
named_still tree number i is front s n =
    named_more tree front i n
    ∙ either (is_among tree n i.program.externals)
    (λ t. let there = among_named tree number i.program is front s n t in rw (t, there) refl)
    (λ f. rw f (or_false (is_named tree front n)))

pub adds_same : (f h : ℕ → Bool) (a b : List Bool) → ((n : ℕ) → h n ≡ f n) → AddsWhere f a b → AddsWhere h a b
adds_same f h a b e adds =
    record {
      many = adds.many;
      each = λ n within. adds.each n within ∙ ap (λ x. get_or a n false || x) (sym (e n));
    }

-- what is added to nothing
pub added_to_none : (test : ℕ → Bool) (count : ℕ) (named : List Bool) → AddsWhere test (replicate count false) named
    → AreNamed test count named
added_to_none test count named h =
    let long = length-replicate count false in
    record {
      many = h.many ∙ long;
      each = λ n within.
          h.each n (subst (λ m. n < m) (sym long) within)
          ∙ ap (λ b. b || test n) (get_or-replicate count n false false within);
    }

-- one global variable more
module _ (tree : Tree) (is : List NamedProgram) (n : ℕ) (g : DeclaredGlobal) (below : n < length (globals_of tree))
    (got : g ≡ get_or (globals_of tree) n g) where
  abbrev rows : List (ℕ × DeclaredGlobal)
  rows = enumerate_from 0 (globals_of tree)

  row : take (n + 1) rows ≡ take n rows ++ (n, g) ∷ []
  row =
      let long = length-enumerate_from 0 (globals_of tree) in
      let at = get_or-enumerate_from 0 (globals_of tree) n (n, g) below in
      let zero_plus : 0 + n ≡ n = omega arith in
      take_more rows n (n, g) (omega (arith, below, long))
      ∙ ap (λ r. take n rows ++ r ∷ []) (at ∙ (λ j. (zero_plus j, sym got j)))

  slots_more : (b : Bool) → is_named tree is n ≡ b
      → filter_map (named_slot tree is) (take (n + 1) rows)
      ≡ filter_map (named_slot tree is) (take n rows) ++ cons_option (if b then Some (global_slot n g) else None) []
  slots_more b e =
      ap (filter_map (named_slot tree is)) row ∙ filter_map-append (named_slot tree is) (take n rows) ((n, g) ∷ [])
      ∙ ap (λ c. filter_map (named_slot tree is) (take n rows) ++ cons_option
      (if c then Some (global_slot n g) else None) []) e

  pub one_named : is_named tree is n ≡ true
      → filter_map (named_slot tree is) (take n rows) ++ global_slot n g ∷ []
      ≡ filter_map (named_slot tree is) (take (n + 1) rows)
  one_named e = sym (slots_more true e)

  pub none_named : is_named tree is n ≡ false
      → filter_map (named_slot tree is) (take n rows) ≡ filter_map (named_slot tree is) (take (n + 1) rows)
  none_named e = sym (slots_more false e ∙ append-nil _)

-- at first nothing is added
pub nothing_added : (named : List Bool) → AddsWhere (λ n. false) named named
nothing_added named = record { many = refl; each = λ n within. sym (or_false (get_or named n false)) }
