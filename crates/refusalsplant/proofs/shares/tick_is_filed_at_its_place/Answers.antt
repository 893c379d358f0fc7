use Rattle.std.proofs.Common.{◌≢◌, [], ◌∷◌, ap, arith}
use Rattle.plantreceipts.specs.Receipts.{reach_of}
use Rattle.refusalsplant.proofs.shares.tick_is_filed_at_its_place.Goals as goal

pub last_place-requires : goal.last_place-requires
last_place-requires g c = record { some = λ none. let newest = c.note.ensures.noted.receipts in absurd (cc) }

pub returns : goal.returns
returns g c = record {
  reserved = c.note.ensures.noted.reserved;
  number = let mine = c.note.ensures.mine in omega arith;
  place = let newest = ap reach_of c.note.ensures.noted.receipts in let last = c.last_place.ensures.value in omega arith;
}
