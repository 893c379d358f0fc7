use Rattle.std.proofs.Common.{◌≡◌, ◌↔◌, List, ℕ, [], sym, subst}
use Rattle.std.specs.Prelude.{IsTrue}
use Rattle.std.specs.Option.{option_copied}
use Rattle.wordlines.specs.WordLines.{parts_of}
use Rattle.wordlines.proofs.CutParts.{none_left}
use Rattle.wordlines.proofs.words.Words.is_empty.Goals as goal

pub returns : goal.returns
returns c =
    let view : c.args.self.now ≡ parts_of 32 (option_copied c.self.inside.rest) = cc in
    subst (λ (ws : List (List ℕ)). IsTrue c.is_none.result ↔ (ws ≡ [])) (sym view)
    (none_left c.self.inside.rest c.is_none.result c.is_none.ensures)
