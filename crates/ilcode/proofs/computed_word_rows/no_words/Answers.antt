use Rattle.std.proofs.Common.{refl}
use Rattle.ilcode.proofs.Spellings.{no_held, no_word}
use Rattle.ilcode.proofs.computed_word_rows.no_words.Goals as goal

pub returns : goal.returns
returns c =
    record {
      operation = no_word 37 refl;
      nothing_given = no_word 35 refl;
      high_number_of_call = no_word 1048612 refl;
      no_operand = no_word 0 refl;
      stored_constant = no_word 130 refl;
      operand_of_not = no_word 76 refl;
      operand_of_jump = no_word 92 refl;
      number_of_close = no_word 289 refl;
      high_number_of_ld = no_word 1048640 refl;
      type_past_the_last = no_word 1563 refl;
      deferred_min = no_held 6178 (λ e. cc);
      deferred_not = no_held 3106 (λ e. cc);
    }
