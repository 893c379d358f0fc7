use Rattle.std.proofs.Common.{◌≡◌, ◌<◌, ◌+◌, [], List, Bor, length, map, subst, sym, take}
use Rattle.std.proofs.lemmas.Bool.Decides.{Decides-eqb}
use Rattle.clap.specs.Words.{Text}
use Rattle.commandline.proofs.WatchedLists.{one_name_more, room_left, seventeenth}
use Rattle.commandline.specs.WatchedNames.{AreWatched}
use Rattle.commandline.proofs.watched_names.watched_of.Goals as goal

-- what stands past the end
abbrev no_text : Bor Text
no_text = record { ref_ptr = (0, 0); now = [] }

pub returns-then-is_full : goal.returns-then-is_full
returns-then-is_full c =
    let full : length c.loop-word.watched.items ≡ 16 = (Decides-eqb _ 16).0 (sym c.if-is_full.ensures.value) in
    seventeenth c.args.words.now c.loop-word.watched.items c.loop-word.word-index no_text c.loop-word-test.true
    c.loop-word.invariant full

pub loop-word-preserved : goal.loop-word-preserved
loop-word-preserved c =
    let watched = c.loop-word.watched.items in
    let words = c.args.words.now in
    let i = c.loop-word.word-index in
    let room : length watched < 16 = room_left watched c.if-is_full.ensures.value c.if-is_full.ensures.fits in
    let more = one_name_more words watched i no_text c.loop-word-test.true c.loop-word.invariant room in
    subst (λ (all : List (Bor Text)). AreWatched (map (λ word. word.now) (take (i + 1) words)) all)
    (sym c.push.ensures.items) more
