use Rattle.ilsource.specs.declared.nested.Piece.{Piece}
use Rattle.ilplan.specs.declared.place.Place.{Place}
use Rattle.ilcompile.specs.Layout.{word_of}
use Rattle.ilcompile.proofs.TwoPasses.{all_made, near_later, near_next, one_made}
use Rattle.ilcompile.proofs.words.push_pieces.Goals as goal

pub word-requires : goal.word-requires
word-requires c =
    let near = near_next (λ (p : Piece Place). word_of c.args.numbers.now p.action) c.args.pieces.now
    c.loop-piece.piece-index _ c.loop-piece-test.true c.loop-piece.invariant.near in
    record { near = near.0 }

pub loop-piece-preserved : goal.loop-piece-preserved
loop-piece-preserved c =
    let f = λ (p : Piece Place). word_of c.args.numbers.now p.action in
    let i = c.loop-piece.piece-index in
    record {
      items = one_made f c.args.pieces.now i _ c.loop-piece.words.items c.push.new.self.items _ c.word.result
          c.loop-piece-test.true c.loop-piece.invariant.items c.in_ok-push.ensures.items c.word.ensures;
      near = near_later f c.args.pieces.now i c.loop-piece-test.true c.loop-piece.invariant.near;
    }

pub returns : goal.returns
returns c =
    all_made (λ (p : Piece Place). word_of c.args.numbers.now p.action) c.args.pieces.now c.loop-piece.piece-index
    c.loop-piece.words.items _ c.loop-piece.invariant.items c.loop-piece-test.false
