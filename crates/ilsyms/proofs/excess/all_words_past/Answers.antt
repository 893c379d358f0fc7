use Rattle.std.specs.Prelude.{flat_map}
use Rattle.limits.specs.Limits.{most_words}
use Rattle.ilsyms.specs.FunctionSteps.{Needs, marked}
use Rattle.ilsyms.proofs.PastParts.{place_known, still_at}
use Rattle.ilsyms.proofs.WordPast.{words_in}
use Rattle.ilsyms.proofs.excess.all_words_past.Goals as goal
use Rattle.std.proofs.Common.{sym}

pub returns-in-At : goal.returns-in-At
returns-in-At c =
    sym (still_at (words_in c.args.words.now c.args.instances.now)
    (flat_map (λ (one : Needs). one.words) (marked c.args.used.now c.args.needs.now)) most_words c.in-At.place
    c.in-At.ensures)

pub returns-in-Left : goal.returns-in-Left
returns-in-Left c =
    let places = flat_map (λ (one : Needs). one.words) (marked c.args.used.now c.args.needs.now) in
    place_known (words_in c.args.words.now c.args.instances.now) places most_words c.in-Left.left c.place_past.result
    c.in-Left.ensures (c.place_past.ensures places c.in-Left.left c.word_past_functions.ensures)
