use Rattle.std.proofs.Common.{◌∙◌, [], ◌∷◌, ◌++◌, map, sym, ap, take}
use Rattle.std.proofs.lemmas.List.{take_all, map-append}
use Rattle.ilsource.specs.Renaming.{rename_line}
use Rattle.ildeclared.proofs.Least.{take_more}
use Rattle.ilsyms.specs.NumberingSteps.{label_of, numbers}
use Rattle.ilsyms.proofs.numbering.Numbering.lines.Goals as goal

pub loop-line-preserved : goal.loop-line-preserved
loop-line-preserved c =
    let rename = rename_line (numbers c.args.self.now) (label_of c.args.self.now) in
    let before = take c.loop-line.line-index c.args.lines.now in
    c.in_ok-push.ensures.items
    ∙ (λ i. c.loop-line.invariant i ++ c.in_ok-line.ensures i ∷ [])
    ∙ sym (map-append rename before (c.line-item.result ∷ []))
    ∙ ap (map rename)
    (sym (take_more c.args.lines.now c.loop-line.line-index c.line-item.result c.loop-line-test.true c.line-item.is))

pub returns : goal.returns
returns c =
    c.loop-line.invariant
    ∙ ap (map (rename_line (numbers c.args.self.now) (label_of c.args.self.now)))
    (take_all c.loop-line.line-index c.args.lines.now c.loop-line-test.false)
