use Rattle.std.proofs.Common.{List, ap, ◌∙◌, map, subst}
use Rattle.std.specs.Prelude.{bytes_eq}
use Rattle.std.proofs.lemmas.List.{take_all}
use Rattle.ilsource.specs.Names.{text_of}
use Rattle.ilsource.specs.declared.name.Name.{Name}
use Rattle.ildeclared.specs.Faults.{IsNextOf, OfCause}
use Rattle.ildeclared.specs.declared.fault.NameCause.TheVariants.{Twice}
use Rattle.ilscope.specs.Faults.{IsTwiceIn}
use Rattle.ilscope.specs.Tables.{first_at}
use Rattle.ilscope.proofs.Numbered.{numbers_more, twice_more}
use Rattle.ilscope.proofs.numbers.numbers_of.Goals as goal

first : Name
first = record { from = 0; to = 0 }

pub loop-number-preserved : goal.loop-number-preserved
unfolding first
loop-number-preserved c =
    let spelled = text_of c.args.lower.now in
    record {
      numbers =
          numbers_more spelled c.args.names.now c.loop-number.number first c.loop-number-test.true c.loop-number.numbers
          c.add_name.new.numbers
          c.in_ok-again.ensures.numbers c.loop-number.invariant.numbers;
      twice =
          rw c.lesser_of-least.ensures
          (twice_more spelled c.args.names.now c.loop-number.number first c.loop-number-test.true c.args.after
          c.loop-number.numbers
          c.loop-number.least c.in_ok-again.again
          c.loop-number.invariant.numbers c.loop-number.invariant.twice c.in_ok-again.ensures.twice);
    }

pub returns-clause-numbers : goal.returns-clause-numbers
returns-clause-numbers c key =
    c.loop-number.invariant.numbers key
    ∙ ap (λ (ns : List Name). first_at (bytes_eq key) (map (text_of c.args.lower.now) ns))
    (take_all c.loop-number.number c.args.names.now c.loop-number-test.false)

pub returns-clause-twice : goal.returns-clause-twice
returns-clause-twice c =
    subst (λ (ns : List Name). IsNextOf c.args.after (OfCause Twice (IsTwiceIn (text_of c.args.lower.now) ns))
    c.loop-number.least)
    (take_all c.loop-number.number c.args.names.now c.loop-number-test.false) c.loop-number.invariant.twice
