-- What a program's lines leave, by recursion on the lines that are left: a jump passes over lines up to the next one
-- with its label, so there is no way back (profile: jumps go forward). And what a scan leaves: programs, one after
-- another.
use Rattle.std.specs.Prelude.{List, [], ◌∷◌, Bool, true, false, if◌then◌else◌, Option, Some, None}
use Rattle.std.specs.Option.{option_and_then}
use Rattle.iltypes.specs.declared.value.Value.{Value}
use Rattle.ilsource.specs.declared.instruction.Line.{Line}
use Rattle.ilsource.specs.Meaning.{Access, Way, On, To, Out, line_does}

-- the line has this label, or one that is the same
abbrev pub has_label : {L : Type 0} → (L → L → Bool) → L → Option L → Bool
has_label same l None = false
has_label same l (Some m) = same l m

-- on this way the line is carried out
abbrev pub takes : {L : Type 0} → (L → L → Bool) → Way L → Option L → Bool
takes same On label = true
takes same (To l) label = has_label same l label
takes same Out label = false

-- past the last line: a label that is still looked for is not there
abbrev pub at_end : {L S : Type 0} → Way L → S → Option S
at_end On s = Some s
at_end (To l) s = None
at_end Out s = Some s

-- the store that lines leave, from a result or none and a store on, where they leave one
abbrev pub passes : {N L S : Type 0} → (L → L → Bool) → Access N S → List (Line N L) → Way L → Option Value → S
    → Option S
passes same a [] way r s = at_end way s
passes same a (line ∷ lines) way r s =
    if takes same way line.label
    then option_and_then (λ x. passes same a lines x.way x.result x.store) (line_does a line.instruction r s)
    else passes same a lines way r s

-- the store that programs leave, one after another, each from its first line with no result
abbrev pub scan : {N L S : Type 0} → (L → L → Bool) → Access N S → List (List (Line N L)) → S → Option S
scan same a [] s = Some s
scan same a (lines ∷ more) s = option_and_then (scan same a more) (passes same a lines On None s)
