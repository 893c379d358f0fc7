use Rattle.std.proofs.Common.{◌≡◌, ◌∙◌, ◌++◌, List, ap, map, sym}
use Rattle.std.proofs.lemmas.List.{map-append}
use Rattle.std.specs.Prelude.{bytes_eq}
use Rattle.ilsource.specs.Names.{text_of}
use Rattle.ilsource.specs.declared.name.Name.{Name}
use Rattle.ildeclared.specs.declared.variable.DeclaredVariable.{DeclaredVariable}
use Rattle.ilscope.specs.Tables.{first_at}
use Rattle.ilscope.proofs.numbers.numbers_of_own.Goals as goal

pub returns : goal.returns
returns c key =
    let name_of = λ (v : DeclaredVariable). v.name in
    let names : c.deref-2.result.now ≡ map name_of (c.args.inputs.now ++ c.args.variables.now) =
    c.deref-2.ensures.value
    ∙ c.in_ok-extend_from_slice.ensures.items
    ∙ (λ i. c.in_ok-names.ensures i ++ (c.deref.ensures.value ∙ c.in_ok-others.ensures) i)
    ∙ sym (map-append name_of c.args.inputs.now c.args.variables.now)
    in
    c.in_ok-numbers.ensures.numbers key
    ∙ ap (λ (ns : List Name). first_at (bytes_eq key) (map (text_of c.args.lower.now) ns)) names
