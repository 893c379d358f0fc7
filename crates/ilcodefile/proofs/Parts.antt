-- Where the tables of a code stand in its file.
use Rattle.std.proofs.Common.{◌≡◌, ℕ, ◌*◌, List, ◌++◌, take, refl, sym, ap, ◌∙◌, subst}
use Rattle.ilcode.specs.Listings.{Listing}
use Rattle.ilcodefile.specs.Files.{HasFile, blocks, constants, file, functions, numbers, slots, version, words}
use Rattle.ilcodefile.specs.Faults.{Counts, counts_in}
use Rattle.ilcodefile.specs.TableSteps.{after_blocks, after_constants, after_functions, after_head, after_slots}
use Rattle.ilcodefile.specs.TableSteps.{after_starts, after_words}
use Rattle.ilcodefile.proofs.Lengths.{after_head_in, blocks_long, constants_long, counts_are, counts_of}
use Rattle.ilcodefile.proofs.Lengths.{functions_long, numbers_long, slots_long, split, words_long}

pub record AreParts (code : Listing) (bytes : List ℕ) (c : Counts) : Type 0 where
  pub counts : c ≡ counts_of code
  pub constants : take (16 * c.constants) (after_head bytes c) ≡ constants code.constants
  pub slots : take (24 * c.slots) (after_constants bytes c) ≡ slots code.slots
  pub blocks : take c.blocks (after_slots bytes c) ≡ blocks code.kinds
  pub starts : take (4 * c.starts) (after_blocks bytes c) ≡ numbers code.starts
  pub functions : take (16 * c.functions) (after_starts bytes c) ≡ functions code.functions
  pub words : take (4 * c.words) (after_functions bytes c) ≡ words code.instructions
  pub lines : after_words bytes c ≡ numbers code.lines

parts_of : (code : Listing) → AreParts code (file code) (counts_of code)
parts_of code =
    let c = counts_of code in
    let bytes = file code in
    let ls = numbers code.lines in
    let ws = words code.instructions ++ ls in
    let fs = functions code.functions ++ ws in
    let ss = numbers code.starts ++ fs in
    let bs = blocks code.kinds ++ ss in
    let ts = slots code.slots ++ bs in
    let one = split (after_head bytes c) (constants code.constants) ts (16 * c.constants)
    (after_head_in (version code) code) (constants_long code.constants) in
    let two = split (after_constants bytes c) (slots code.slots) bs (24 * c.slots) one.dropped
    (slots_long code.slots) in
    let three = split (after_slots bytes c) (blocks code.kinds) ss c.blocks two.dropped (blocks_long code.kinds) in
    let four = split (after_blocks bytes c) (numbers code.starts) fs (4 * c.starts) three.dropped
    (numbers_long code.starts) in
    let five = split (after_starts bytes c) (functions code.functions) ws (16 * c.functions) four.dropped
    (functions_long code.functions) in
    let six = split (after_functions bytes c) (words code.instructions) ls (4 * c.words) five.dropped
    (words_long code.instructions) in
    record {
      counts = refl;
      constants = one.taken;
      slots = two.taken;
      blocks = three.taken;
      starts = four.taken;
      functions = five.taken;
      words = six.taken;
      lines = six.dropped;
    }

-- in bytes that are a file
pub parts : (code : Listing) (bytes : List ℕ) (c : Counts) → HasFile code → file code ≡ bytes → c ≡ counts_in bytes
    → AreParts code bytes c
parts code bytes c h e is =
    let counts = is ∙ ap counts_in (sym e) ∙ counts_are code h in
    subst (λ (bs : List ℕ). AreParts code bs c) e (subst (AreParts code (file code)) (sym counts) (parts_of code))
