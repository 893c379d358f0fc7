use Rattle.std.proofs.Common.{◌≡◌, ℕ, ◌+◌, ◌<◌, List, [], ◌∷◌, ◌++◌, length, get_or, drop, ap, sym, ◌∙◌, subst}
use Rattle.std.proofs.Common.{append_assoc}
use Rattle.std.specs.List.{AllByRecursion}
use Rattle.std.proofs.lemmas.List.{append-nil, drop_all, drop_more}
use Rattle.ilcode.specs.declared.word.Word.{Word}
use Rattle.ilcode.specs.Words.{HasWord}
use Rattle.ilcode.proofs.packed.pack.Goals as goal

-- what is left begins with a word that the format can hold
next_held : (words : List Word) (i : ℕ) (d : Word) → i < length words → AllByRecursion HasWord (drop i words)
    → HasWord (get_or words i d) × AllByRecursion HasWord (drop (i + 1) words)
next_held words i d below held = subst (AllByRecursion HasWord) (drop_more words i d below) held

-- one word more is packed
one_more : (words packed more : List Word) (i : ℕ) (d word : Word) → i < length words → packed ++ drop i words ≡ words
    → more ≡ packed ++ word ∷ [] → word ≡ get_or words i d → more ++ drop (i + 1) words ≡ words
one_more words packed more i d word below so_far push is =
    let rest = drop (i + 1) words in
    ap (λ (ws : List Word). ws ++ rest) push
    ∙ (append_assoc packed (word ∷ []) rest
    ∙ (ap (λ (w : Word). packed ++ w ∷ rest) is
    ∙ (ap (λ (ws : List Word). packed ++ ws) (sym (drop_more words i d below)) ∙ so_far)))

pub of-requires : goal.of-requires
of-requires c =
    let next = next_held c.args.words.now c.loop-word.word-index _ c.loop-word-test.true c.loop-word.invariant.held in
    next.0

pub loop-word-preserved : goal.loop-word-preserved
loop-word-preserved c =
    let next = next_held c.args.words.now c.loop-word.word-index c.of.result c.loop-word-test.true
    c.loop-word.invariant.held in
    record {
      packed = one_more c.args.words.now c.loop-word.packed.items c.push.new.self.items c.loop-word.word-index _
          c.of.result c.loop-word-test.true c.loop-word.invariant.packed c.in_ok-push.ensures.items c.of.ensures;
      held = next.1;
    }

pub returns : goal.returns
returns c =
    let packed = c.loop-word.packed.items in
    sym (append-nil packed)
    ∙ (ap (λ (ws : List Word). packed ++ ws)
    (sym (drop_all c.loop-word.word-index c.args.words.now c.loop-word-test.false))
    ∙ c.loop-word.invariant.packed)
