-- What the parts of a word around its first `=` say is expected.
use Rattle.std.proofs.Common.{◌≡◌, ◌∙◌, ◌<◌, Option, Some, None, arith, subst, sym, length}
use Rattle.std.specs.Prelude.{MatchOption}
use Rattle.std.specs.Borrow.{Bor}
use Rattle.std.proofs.lemmas.List.{get_or_default}
use Rattle.std.proofs.lemmas.Str.Pattern.{IsSplitOnceResult, split_after, split_parts}
use Rattle.clap.specs.Words.{Text}
use Rattle.commandline.specs.ExpectedWords.{IsExpectedWord}
use Rattle.commandline.specs.LineWords.{equals_sign}
use Rattle.commandoptions.specs.declared.expected_word.ExpectedWord.{ExpectedWord}
use Rattle.commandline.proofs.LineParts.{nowhere}

-- a word says what is expected in one way
in_one_way : (word : Text) (split : Option (Bor Text × Bor Text)) → IsSplitOnceResult equals_sign word split
    → (one : ExpectedWord) → IsExpectedWord word one
    → MatchOption split ⊥ (λ x. (x.0.now ≡ one.name.now) × (x.1.now ≡ one.value.now))
in_one_way word split parts one is =
    split_after equals_sign word one.name.now one.value.now split parts (omega arith) is.spelled
    (nowhere equals_sign one.name.now is.first)

pub no_sign : (word : Text) → IsSplitOnceResult equals_sign word None → (one : ExpectedWord) → ¬ IsExpectedWord word one
no_sign word parts one is = absurd (in_one_way word None parts one is)

pub no_part : (word : Text) (x : Bor Text × Bor Text) → IsSplitOnceResult equals_sign word (Some x)
    → (0 < length x.0.now → ¬ (0 < length x.1.now)) → (one : ExpectedWord) → ¬ IsExpectedWord word one
no_part word x parts empty one is =
    let same = in_one_way word (Some x) parts one is in
    empty (subst (λ (t : Text). 0 < length t) (sym same.0) is.has_name)
    (subst (λ (t : Text). 0 < length t) (sym same.1) is.has_value)

pub both_parts : (word : Text) (x : Bor Text × Bor Text) → IsSplitOnceResult equals_sign word (Some x)
    → 0 < length x.0.now → 0 < length x.1.now → IsExpectedWord word (record { name = x.0; value = x.1 })
both_parts word x parts name value =
    let split = split_parts equals_sign word (Some x) parts (omega arith) in
    record {
      spelled = split.0;
      first = λ there. split.1 there.0 there.1 (get_or_default x.0.now there.0 0 equals_sign there.1 ∙ there.2);
      has_name = name;
      has_value = value;
    }
