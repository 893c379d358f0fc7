-- In a well-named text the names of each task and of each function have their places.
use Rattle.std.proofs.Common.{◌≡◌, ℕ, List, map, ap, subst, inl, inr}
use Rattle.std.specs.Prelude.{Some, bytes_eq, slice_get}
use Rattle.std.specs.List.{AllByRecursion, position_or_len}
use Rattle.wordlines.specs.Wirings.{Wiring}
use Rattle.ilsource.specs.declared.operand.Operand.TheVariants.{Name as Named}
use Rattle.ilsource.specs.declared.name.Name.{Name}
use Rattle.ilsource.specs.Names.{SameName, folded}
use Rattle.ilsource.specs.SourceTrees.{Tree}
use Rattle.ilsource.specs.declared.symbol.Symbol.{Symbol}
use Rattle.ilsource.specs.declared.symbol.Symbol.TheVariants.{Variable, Port, Block, Function}
use Rattle.ildeclared.specs.Faults.{SomeLater, SomeOf}
use Rattle.ildeclared.specs.declared.fault.NameCause.TheVariants.{Twice}
use Rattle.ildeclared.specs.declared.global.DeclaredGlobal.{DeclaredGlobal}
use Rattle.ilscope.specs.Configured.{globals_of}
use Rattle.ilscope.specs.Declarations.{DeclaredFunction, declared_functions}
use Rattle.ilplan.specs.declared.place.Place.{Place}
use Rattle.ilplan.specs.declared.place.Place.TheVariants as places
use Rattle.ilscope.specs.Uses.{uses_of}
use Rattle.ilsyms.specs.Faults.{IsWellNamed}
use Rattle.ilsyms.specs.Meaning.{function_in_text, place_of}
use Rattle.ilsyms.specs.PlanningSteps.{AreApart}
use Rattle.ilsyms.specs.Tasks.{NamedProgram, SourceTask, tasks_of}
use Rattle.ilsyms.specs.Variables.{alone, blocks_of, slots_of}
use Rattle.ilsyms.specs.Placed.{HavePlaces, HavePlacesIn, IsPlaceOf, MeanOne, NameInLines, place_in}
use Rattle.ilsyms.proofs.FunctionNames.{functions_once}
use Rattle.ilsyms.proofs.Instances.{block_declared, externals_known, function_declared, port_declared, unambiguous}
use Rattle.ilsyms.proofs.Instances.{variable_declared}
use Rattle.ilsyms.proofs.Names.{IsUnambiguous, later_twice}
use Rattle.ilsyms.proofs.Once.{one_place}
use Rattle.ilsyms.proofs.Pairs.{made_later}
use Rattle.ilsyms.proofs.PlacedLists.{at_each, each_at}
use Rattle.ilsyms.proofs.PlanLimits.{names_apart}
use Rattle.ilsyms.proofs.Sharing.{IsStored, moved, one_thing}
use Rattle.ilsyms.proofs.Standing.{block_stands, function_stands, port_stands, variable_stands}
use Rattle.ilsyms.proofs.TextBodies.{IsOfText, function_of_text, task_of_text}

-- ---- instances of programs, and of functions as such, with names of their own

module _ (tree : Tree) (wiring : Wiring) (well : IsWellNamed tree wiring) (is : List NamedProgram)
    (of_text : AllByRecursion (IsOfText tree) is) (apart : AreApart tree.text is) where
  its_text : (n : ℕ) (i : NamedProgram) → slice_get is n ≡ Some i → IsOfText tree i
  its_text n i there = each_at (IsOfText tree) is n i of_text there

  placed : (n : ℕ) (i : NamedProgram) → slice_get is n ≡ Some i → (s : Symbol)
      → SomeOf (λ u. u.operand ≡ Named s) (uses_of i.program.program.lines)
      → IsPlaceOf tree is i s (place_of tree (slots_of tree is) (blocks_of is) i s)
  placed n i there (Variable name) used =
      let its = its_text n i there in
      variable_stands tree is apart n i there name (externals_known tree wiring well i its)
      (variable_declared tree wiring well i its name used)
  placed n i there (Port block port) used =
      let its = its_text n i there in
      port_stands tree is apart n i there block port (port_declared tree wiring well i its block port used)
  placed n i there (Block name) used =
      let its = its_text n i there in
      block_stands tree is apart n i there name (block_declared tree wiring well i its name used)
  placed n i there (Function name) used =
      let its = its_text n i there in
      function_stands tree is apart n i there name (function_declared tree wiring well i its name used)

  each_placed : (one : NameInLines is) → IsPlaceOf tree is one.instance one.symbol (place_in tree is one)
  each_placed one = placed one.number one.instance one.there one.symbol one.used

  its_unambiguous : (one : NameInLines is) → IsUnambiguous tree.text one.instance.program
  its_unambiguous one =
      unambiguous tree wiring well one.instance (its_text one.number one.instance one.there)

  globals_once : ¬ SomeLater (λ g h. SameName tree.text g.name h.name) (globals_of tree)
  globals_once s =
      let twice = later_twice tree.text (map (λ (g : DeclaredGlobal). g.name) (globals_of tree))
      (made_later (λ (g : DeclaredGlobal). g.name) (SameName tree.text) (globals_of tree) s)
      in
      well twice.0 Twice (inl (inr (inr (inr (inl twice.1)))))

  same_place : (one : NameInLines is) (p q : Place) → IsPlaceOf tree is one.instance one.symbol p
      → IsPlaceOf tree is one.instance one.symbol q → p ≡ q
  same_place one p q a b =
      one_place tree is apart
      (at_each (λ (i : NamedProgram). IsUnambiguous tree.text i.program) is
      (λ n i there. unambiguous tree wiring well i (its_text n i there)))
      globals_once (functions_once tree wiring well) one.number one.instance one.there one.symbol p q a b

  -- two names that mean one thing have one place
  moved_place : (one other : NameInLines is) → IsStored one.symbol
      → MeanOne tree.text one other one.symbol other.symbol → place_in tree is one ≡ place_in tree is other
  moved_place one other stored same =
      let unlike = its_unambiguous one in
      same_place other (place_in tree is one) (place_in tree is other)
      (moved tree is one other unlike.unlike one.symbol other.symbol stored same (place_in tree is one)
      (each_placed one))
      (each_placed other)

  abbrev place_at : NameInLines is → Symbol → Place
  place_at one symbol = place_of tree (slots_of tree is) (blocks_of is) one.instance symbol

  one_function : (name its : Name) → SameName tree.text name its
      → function_in_text tree name ≡ function_in_text tree its
  one_function name its same =
      ap (λ key. position_or_len (λ (f : DeclaredFunction). bytes_eq key (folded tree.text f.function.name))
      (declared_functions tree)) same

  shared_place : (one other : NameInLines is) → MeanOne tree.text one other one.symbol other.symbol
      → place_in tree is one ≡ place_in tree is other
  shared_place one other same =
      by one.symbol other.symbol (moved_place one other) same
    where
      by : (s r : Symbol)
          → (IsStored s → MeanOne tree.text one other s r → place_at one s ≡ place_at other r)
          → MeanOne tree.text one other s r → place_at one s ≡ place_at other r
      by (Variable name) r stored same = stored tt same
      by (Port block port) r stored same = stored tt same
      by (Block name) r stored same = stored tt same
      by (Function name) (Variable its) stored same = absurd same
      by (Function name) (Port block port) stored same = absurd same
      by (Function name) (Block its) stored same = absurd same
      by (Function name) (Function its) stored same = ap places.Function (one_function name its same)

  pub have_places : HavePlacesIn tree is
  have_places = record {
    each = λ one place. (
      (λ e. subst (IsPlaceOf tree is one.instance one.symbol) e (each_placed one)),
      (λ h. same_place one (place_in tree is one) place (each_placed one) h),
    );
    shared = λ one other. (
      (λ e. one_thing tree is apart one other one.symbol other.symbol (place_in tree is other)
          (subst (IsPlaceOf tree is one.instance one.symbol) e (each_placed one)) (each_placed other)),
      (λ same. shared_place one other same),
    );
  }

-- ---- all tasks and functions

pub all_have_places : (tree : Tree) (wiring : Wiring) → IsWellNamed tree wiring → HavePlaces tree
all_have_places tree wiring well =
    record {
      tasks =
          at_each (λ (t : SourceTask). HavePlacesIn tree t.instances) (tasks_of tree)
          (λ number t stands. have_places tree wiring well t.instances (task_of_text tree number t stands)
          (names_apart tree wiring well number t stands));
      functions =
          at_each (λ (f : DeclaredFunction). HavePlacesIn tree (alone f)) (declared_functions tree)
          (λ number f stands. have_places tree wiring well (alone f) (function_of_text tree number f stands)
          (tt, tt));
    }
