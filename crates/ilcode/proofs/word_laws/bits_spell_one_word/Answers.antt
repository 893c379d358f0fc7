use Rattle.ilcode.proofs.Spellings.{again, spelled_once, spelling_small}
use Rattle.ilcode.proofs.word_laws.bits_spell_one_word.Goals as goal

pub returns : goal.returns
returns c = record { small = spelling_small; again = again; one = spelled_once }
