use Rattle.std.proofs.Common.{◌∙◌, ap, List, ℕ}
use Rattle.ilsource.specs.Names.{folded, text_of}
use Rattle.ilsource.specs.SourceTrees.{Tree}
use Rattle.ilscope.proofs.Spelling.{key_is}
use Rattle.ilscope.proofs.tables.Tables.spelling.Goals as goal

pub returns : goal.returns
returns c = record {
  value =
      c.text.ensures
      ∙ ap (λ (l : List ℕ). text_of l c.args.name) (c.deref.ensures.value ∙ c.self.invariant.text)
      ∙ key_is c.self.inside.source.now.text c.args.name
      ∙ ap (λ (t : Tree). folded t.text c.args.name) c.self.view_is;
}
