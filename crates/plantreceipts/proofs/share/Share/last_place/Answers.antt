use Rattle.std.proofs.Common.{◌∙◌, ap}
use Rattle.plantreceipts.specs.Receipts.{ShareParts, reach_of}
use Rattle.plantreceipts.proofs.Noting.{reaches, one_less}
use Rattle.plantreceipts.proofs.share.Share.last_place.Goals as goal

pub overflow_sub-result : goal.overflow_sub-result
overflow_sub-result g c =
    reaches c.args.self.now.receipts c.self.inside.reach c.requires.some
    (c.self.invariant.last ∙ ap (λ (s : ShareParts). reach_of s.receipts) c.self.view_is)

pub returns : goal.returns
returns g c = record {
  value = one_less c.args.self.now.receipts c.self.inside.reach c.requires.some
      (c.self.invariant.last ∙ ap (λ (s : ShareParts). reach_of s.receipts) c.self.view_is);
}
