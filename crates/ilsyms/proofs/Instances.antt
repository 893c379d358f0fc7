-- In a well-named text each name in the lines of a program or a function is declared.
use Rattle.std.proofs.Common.{◌≡◌, ℕ, List, [], Bool, true, refl, sym, subst, inl, inr, ◌⊎◌}
use Rattle.std.specs.Prelude.{Some, None, slice_get}
use Rattle.std.specs.List.{list_any}
use Rattle.std.proofs.lemmas.Bool.{both_ways}
use Rattle.wordlines.specs.Wirings.{Wiring}
use Rattle.ilsource.specs.declared.operand.Operand.TheVariants.{Name as Named}
use Rattle.ilsource.specs.declared.uses.Use.{Use}
use Rattle.ilsource.specs.Names.{SameName}
use Rattle.ilsource.specs.SourceTrees.{Tree}
use Rattle.ilsource.specs.declared.name.Name.{Name}
use Rattle.ilsource.specs.declared.symbol.Symbol.{Symbol}
use Rattle.ilsource.specs.declared.symbol.Symbol.TheVariants.{Variable, Port, Block, Function}
use Rattle.ildeclared.specs.Faults.{SomeOf}
use Rattle.ildeclared.specs.declared.block.DeclaredBlock.{DeclaredBlock}
use Rattle.ildeclared.specs.declared.external.DeclaredExternal.{DeclaredExternal}
use Rattle.ildeclared.specs.declared.fault.NameCause.TheVariants.{Twice, Unknown}
use Rattle.ildeclared.specs.declared.variable.DeclaredVariable.{DeclaredVariable}
use Rattle.ilscope.specs.Configured.{global_number}
use Rattle.ilscope.specs.Declarations.{as_program, bodies_of, declared_functions, declared_programs}
use Rattle.ilscope.specs.Declarations.{DeclaredFunction, DeclaredProgram}
use Rattle.ilscope.specs.Faults.{IsUnknownName}
use Rattle.ilscope.specs.UseFaults.{IsUnknownOperand, IsUnknownSymbol, IsUnknownUse, functions_above, place_of_port}
use Rattle.ilscope.specs.UseFaults.{port_number}
use Rattle.ilscope.specs.SameNames.{same_name}
use Rattle.ilscope.specs.Uses.{uses_of}
use Rattle.ilscope.proofs.Lists.{at_some, some_at}
use Rattle.ilscope.proofs.SameNames.{alike, same_as}
use Rattle.ilsyms.specs.Faults.{IsWellNamed}
use Rattle.ilsyms.specs.Tasks.{NamedProgram}
use Rattle.ilsyms.proofs.Lists.{either}
use Rattle.ilsyms.specs.Placed.{HasExternal}
use Rattle.ilsyms.proofs.PlacedLists.{each_at, passes_some, some_passes}
use Rattle.ilsyms.proofs.Names.{HasVariable, IsUnambiguous, functions_unambiguous, programs_unambiguous}
use Rattle.ilsyms.proofs.TextBodies.{IsFunctionOf, IsOfText, IsProgramOf, in_bodies}

-- ---- one instance of a program of a well-named text, or one that stands for a function

module _ (tree : Tree) (wiring : Wiring) (well : IsWellNamed tree wiring) (i : NamedProgram)
    (of_text : IsOfText tree i) where
  its_body : (d : ℕ) × (slice_get (bodies_of tree) d ≡ Some i.program)
  its_body = in_bodies tree i of_text

  -- an external is a global variable
  pub externals_known : (place : ℕ)
      → ¬ SomeOf (λ e. IsUnknownName (global_number tree) place e.name) i.program.externals
  externals_known place s = by of_text
    where
      by : IsProgramOf tree i ⊎ IsFunctionOf tree i → ⊥
      by (inl p) =
          well place Unknown (inl (inr (inl (at_some _ (declared_programs tree) p.0 i.program p.1 s))))
      by (inr f) =
          subst (λ (p : DeclaredProgram). SomeOf (λ e. IsUnknownName (global_number tree) place e.name) p.externals)
          f.3 s

  -- each name is that of one thing that is declared
  pub unambiguous : IsUnambiguous tree.text i.program
  unambiguous = by of_text
    where
      by : IsProgramOf tree i ⊎ IsFunctionOf tree i → IsUnambiguous tree.text i.program
      by (inl p) =
          each_at (IsUnambiguous tree.text) (declared_programs tree) p.0 i.program
          (programs_unambiguous tree.text tree.elements [] (λ place s. well place Twice (inl (inr (inl s)))))
          p.1
      by (inr f) =
          subst (IsUnambiguous tree.text) (sym f.3)
          (each_at (λ (g : DeclaredFunction). IsUnambiguous tree.text (as_program g)) (declared_functions tree) f.0
          f.1
          (functions_unambiguous tree.text tree.elements [] (λ place s. well place Twice (inl (inr (inr (inl s))))))
          f.2)

  abbrev uses : List (Use Symbol)
  uses = uses_of i.program.program.lines

  -- what is used is known, whatever it is used for
  known : (symbol : Symbol) → SomeOf (λ u. u.operand ≡ Named symbol) uses
      → (u : Use Symbol) × ((place : ℕ) → ¬ IsUnknownSymbol tree i.program place u.purpose symbol)
  known symbol used =
      let s = some_at (λ (u : Use Symbol). u.operand ≡ Named symbol) uses used in (
        s.1,
        λ place unknown.
            well place Unknown
            (inr (at_some _ (bodies_of tree) its_body.0 i.program its_body.1
            (at_some (IsUnknownUse tree i.program place) uses s.0 s.1 s.2
            (subst (IsUnknownOperand tree i.program place s.1.purpose) (sym s.3) unknown)))),
      )

  -- so a variable is declared, its own or an external
  pub variable_declared : (name : Name) → SomeOf (λ u. u.operand ≡ Named (Variable name)) uses
      → HasVariable tree.text i.program name ⊎ HasExternal tree.text i.program name
  variable_declared name used =
      let its = known (Variable name) used in
      let own : DeclaredVariable → Bool = λ v. same_name tree.text name v.name in
      let shared : DeclaredExternal → Bool = λ e. same_name tree.text name e.name in
      either (list_any own i.program.variables)
      (λ t. inl (passes_some (λ (v : DeclaredVariable). SameName tree.text name v.name) own
      (λ v. alike tree.text name v.name) i.program.variables t))
      (λ f. either (list_any shared i.program.externals)
      (λ t. inr (passes_some (λ (e : DeclaredExternal). SameName tree.text name e.name) shared
      (λ e. alike tree.text name e.name) i.program.externals t))
      (λ g. absurd (its.1 name.from (
        (
          (λ s. both_ways _ f (some_passes (λ (v : DeclaredVariable). SameName tree.text name v.name) own
              (λ v. same_as tree.text name v.name) i.program.variables s)),
          (λ s. both_ways _ g (some_passes (λ (e : DeclaredExternal). SameName tree.text name e.name) shared
              (λ e. same_as tree.text name e.name) i.program.externals s)),
        ),
        refl,
      ))))

  -- a block instance that is called
  pub block_declared : (name : Name) → SomeOf (λ u. u.operand ≡ Named (Block name)) uses
      → list_any (λ b. same_name tree.text name b.name) i.program.blocks ≡ true
  block_declared name used =
      let its = known (Block name) used in
      either (list_any (λ b. same_name tree.text name b.name) i.program.blocks)
      (λ t. t)
      (λ f. absurd (its.1 name.from (
        (λ s.
            both_ways _ f (some_passes (λ (b : DeclaredBlock). SameName tree.text name b.name)
            (λ b. same_name tree.text name b.name) (λ b. same_as tree.text name b.name) i.program.blocks s)),
        refl,
      )))

  -- and the port of one
  pub port_declared : (block port : Name) → SomeOf (λ u. u.operand ≡ Named (Port block port)) uses
      → ¬ (port_number tree.text i.program block port ≡ None)
  port_declared block port used none =
      let its = known (Port block port) used in
      its.1 (place_of_port its.0.purpose block port) (none, refl)

  -- and a function above
  pub function_declared : (name : Name) → SomeOf (λ u. u.operand ≡ Named (Function name)) uses
      → list_any (λ f. same_name tree.text name f.function.name) (functions_above tree i.program) ≡ true
  function_declared name used =
      let its = known (Function name) used in
      either (list_any (λ f. same_name tree.text name f.function.name) (functions_above tree i.program))
      (λ t. t)
      (λ f. absurd (its.1 name.from (
        (λ s.
            both_ways _ f (some_passes (λ (g : DeclaredFunction). SameName tree.text name g.function.name)
            (λ g. same_name tree.text name g.function.name) (λ g. same_as tree.text name g.function.name)
            (functions_above tree i.program) s)),
        refl,
      )))
