-- The places of the words of instances by those of their programs, one instance after another.
use Rattle.std.proofs.Common.{◌≡◌, ℕ, ◌+◌, ◌<◌, List, [], ◌∷◌, ◌++◌, length, map, take, get_or, refl, sym, ap, ◌∙◌}
use Rattle.std.proofs.Common.{append-nil}
use Rattle.std.specs.Prelude.{Option, Some, None, flat_map, option_map, slice_get, unwrap_or}
use Rattle.std.specs.List.{cons_option}
use Rattle.std.proofs.lemmas.Grind.{flat_map-append}
use Rattle.std.proofs.lemmas.List.{get_or_default}
use Rattle.std.proofs.lemmas.Option.{slice_get-map, unwrap_or-slice_get}
use Rattle.ilsource.specs.Words.{places_in}
use Rattle.ilsource.specs.SourceTrees.{Tree}
use Rattle.ildeclared.proofs.Least.{take_more}
use Rattle.ilscope.specs.Declarations.{declared_programs, DeclaredProgram}
use Rattle.ilsyms.specs.TaskSteps.{instance_at, instances_of}
use Rattle.ilsyms.specs.WordSteps.{places_at, places_of_program}
use Rattle.ilsyms.specs.Tasks.{NamedProgram, instance_named}
use Rattle.ilsyms.specs.Variables.{lines_of}
use Rattle.ilsyms.specs.declared.tasks.TaskInstance.{TaskInstance}

-- the places of the words of instances
abbrev pub words_in : List (List ℕ) → List TaskInstance → List ℕ
words_in words is = flat_map (λ i. places_at words i.program) is

module _ (words : List (List ℕ)) (given : List TaskInstance) where
  abbrev places : List TaskInstance → List ℕ
  places is = words_in words is

  module _ (i : ℕ) (d : TaskInstance) (own e : List ℕ) (below : i < length given)
      (there : (get_or given i d).program < length words)
      (is : own ≡ get_or words (get_or given i d).program e) where
    its : own ≡ places_at words (get_or given i d).program
    its =
        is ∙ get_or_default words (get_or given i d).program e [] there
        ∙ sym (unwrap_or-slice_get words (get_or given i d).program [])

    pub places_more : places (take (i + 1) given) ≡ places (take i given) ++ own
    places_more =
        ap places (take_more given i (get_or given i d) below (get_or_default given i d (get_or given i d) below))
        ∙ flat_map-append (λ x. places_at words x.program) (take i given) (get_or given i d ∷ [])
        ∙ ap (λ ps. places (take i given) ++ ps) (append-nil (places_at words (get_or given i d).program) ∙ sym its)

-- those of all instances are those of their lines
pub words_same : (tree : Tree) (given : List TaskInstance)
    → words_in (map places_of_program (declared_programs tree)) given
    ≡ flat_map places_in (lines_of (instances_of tree given))
words_same tree [] = refl
words_same tree (i ∷ given) = by (slice_get (declared_programs tree) i.program) refl (words_same tree given)
  where
    words : List (List ℕ)
    words = map places_of_program (declared_programs tree)

    rest : List NamedProgram
    rest = instances_of tree given

    at : slice_get words i.program ≡ option_map places_of_program (slice_get (declared_programs tree) i.program)
    at = slice_get-map places_of_program (declared_programs tree) i.program

    by : (o : Option DeclaredProgram) → slice_get (declared_programs tree) i.program ≡ o
        → words_in words given ≡ flat_map places_in (lines_of rest)
        → places_at words i.program ++ words_in words given
        ≡ flat_map places_in (lines_of (cons_option (instance_at tree i) rest))
    by None e more =
        let none : places_at words i.program ≡ [] =
        ap (λ o. unwrap_or o []) (at ∙ ap (option_map places_of_program) e) in
        (λ j. none j ++ more j)
        ∙ sym (ap (λ o. flat_map places_in (lines_of (cons_option o rest)))
        (ap (option_map (instance_named i.name)) e))
    by (Some p) e more =
        let some : places_at words i.program ≡ places_of_program p =
        ap (λ o. unwrap_or o []) (at ∙ ap (option_map places_of_program) e) in
        (λ j. some j ++ more j)
        ∙ sym (ap (λ o. flat_map places_in (lines_of (cons_option o rest)))
        (ap (option_map (instance_named i.name)) e)
        ∙ flat_map-append places_in p.program.lines (lines_of rest))
