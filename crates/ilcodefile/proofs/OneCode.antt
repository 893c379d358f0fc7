-- Codes with one file are one code: each table of a file is that of one list.
use Rattle.std.proofs.Common.{◌≡◌, ℕ, ℤ, ◌<◌, ◌^◌, List, [], ◌∷◌, take, drop, length, refl, sym}
use Rattle.std.proofs.Common.{ap, ◌∙◌, arith, lit<, Bool, true, false}
use Rattle.std.specs.Prelude.{FitsSigned, flat_map, slice_index, ⊤, ◌==◌, if◌then◌else◌}
use Rattle.std.specs.Int.{w32, w64, cast_signed, cast_unsigned, from_le_bytes}
use Rattle.std.specs.List.{AllByRecursion}
use Rattle.std.proofs.lemmas.Int.{to_z-of_z}
use Rattle.std.proofs.lemmas.List.{take_at, drop_at}
use Rattle.std.proofs.lemmas.Nat.{from_le_bytes-to_le_bytes_4, from_le_bytes-to_le_bytes_8}
use Rattle.iltypes.proofs.Equality.{same_limits}
use Rattle.iltypes.specs.declared.value.IlType.{IlType}
use Rattle.iltypes.specs.declared.value.IlType.TheVariants as types
use Rattle.iltypes.specs.declared.value.Value.{Value}
use Rattle.iltypes.specs.declared.value.Value.TheVariants as values
use Rattle.ilblocks.specs.declared.kind.BlockKind.{BlockKind}
use Rattle.ilblocks.specs.declared.kind.BlockKind.TheVariants as kinds
use Rattle.ilcode.proofs.Spellings.{spelled_once, spelling_small}
use Rattle.ilcode.specs.Words.{HasWord, spelling}
use Rattle.ilcode.specs.declared.function.FunctionBody.{FunctionBody}
use Rattle.ilcode.specs.declared.word.Word.{Word}
use Rattle.ilcode.specs.Listings.{Listing, listing_of}
use Rattle.ilcodefile.specs.Faults.{Counts}
use Rattle.ilcodefile.specs.Files.{FitsType, FitsValue, HasFile, block, block_number, constant, file, function, number}
use Rattle.ilcodefile.specs.Files.{slot, truth, whole, word}
use Rattle.ilcodefile.specs.BodySteps.{IsSmall}
use Rattle.ilcodefile.proofs.BodyOrder.{small_functions}
use Rattle.ilcodefile.proofs.FieldLaws.{bits_small}
use Rattle.ilcodefile.proofs.Lengths.{block_long, constant_long, counts_are, counts_of, function_long, number_long}
use Rattle.ilcodefile.proofs.Lengths.{slot_long, small_starts, word_long}
use Rattle.ilcodefile.proofs.Parts.{parts}
use Rattle.ilcodefile.proofs.Sections.{all_top}

-- ---- lists of items of one length

module _ {A : Type 0} (print : A → List ℕ) (Fit : A → Type 0) (w : ℕ) (long : (x : A) → length (print x) ≡ w)
    (one : (x y : A) → Fit x → Fit y → print x ≡ print y → x ≡ y) where
  same_list : (xs ys : List A) → length xs ≡ length ys → AllByRecursion Fit xs → AllByRecursion Fit ys
      → flat_map print xs ≡ flat_map print ys → xs ≡ ys
  same_list [] [] n fit fits e = refl
  same_list [] (y ∷ ys) n fit fits e = absurd (omega arith)
  same_list (x ∷ xs) [] n fit fits e = absurd (omega arith)
  same_list (x ∷ xs) (y ∷ ys) n fit fits e =
      let rest = flat_map print xs in
      let others = flat_map print ys in
      let first : print x ≡ print y =
      sym (take_at (print x) rest w (long x)) ∙ ap (take w) e ∙ take_at (print y) others w (long y)
      in
      let later : rest ≡ others =
      sym (drop_at (print x) rest w (long x)) ∙ ap (drop w) e ∙ drop_at (print y) others w (long y)
      in
      let here = one x y fit.0 fits.0 first in
      let more = same_list xs ys (omega arith) fit.1 fits.1 later in
      λ i. here i ∷ more i

-- ---- items

whole_again : (z : ℤ) → FitsSigned w64 z → cast_signed w64 (from_le_bytes w64 (whole z)) ≡ z
whole_again z fits =
    ap (cast_signed w64) (from_le_bytes-to_le_bytes_8 (cast_unsigned w64 z) (bits_small z fits)) ∙ to_z-of_z w64 z fits

same_whole : (a b : ℤ) → FitsSigned w64 a → FitsSigned w64 b → whole a ≡ whole b → a ≡ b
same_whole a b fit fits e =
    sym (whole_again a fit) ∙ ap (λ (bs : List ℕ). cast_signed w64 (from_le_bytes w64 bs)) e ∙ whole_again b fits

same_number : (m n : ℕ) → m < 2 ^ 32 → n < 2 ^ 32 → number m ≡ number n → m ≡ n
same_number m n small less e =
    sym (from_le_bytes-to_le_bytes_4 m small) ∙ ap (from_le_bytes w32) e ∙ from_le_bytes-to_le_bytes_4 n less

differ : (m n : ℕ) → m ≡ n → m < n → ⊥
differ m n e less = omega arith

same_truth : (b c : Bool) → whole (truth b) ≡ whole (truth c) → b ≡ c
same_truth false false e = refl
same_truth true true e = refl
same_truth false true e = absurd (differ 0 1 (ap (λ (bs : List ℕ). slice_index bs 0) e) (lit< tt))
same_truth true false e = absurd (differ 0 1 (ap (λ (bs : List ℕ). slice_index bs 0) (sym e)) (lit< tt))

same_constant : (v w : Value) → FitsValue v → FitsValue w → constant v ≡ constant w → v ≡ w
same_constant (values.Bool b) (values.Bool c) fit fits e = ap (λ t. values.Bool t) (same_truth b c (ap (drop 8) e))
same_constant (values.Int a) (values.Int b) fit fits e =
    ap (λ z. values.Int z) (same_whole a b fit fits (ap (drop 8) e))
same_constant (values.Bool b) (values.Int z) fit fits e =
    absurd (differ 0 1 (ap (λ (bs : List ℕ). slice_index bs 0) e) (lit< tt))
same_constant (values.Int z) (values.Bool b) fit fits e =
    absurd (differ 0 1 (ap (λ (bs : List ℕ). slice_index bs 0) (sym e)) (lit< tt))

same_slot : (s t : IlType) → FitsType s → FitsType t → slot s ≡ slot t → s ≡ t
same_slot types.Bool types.Bool fit fits e = refl
same_slot (types.Int a) (types.Int b) fit fits e =
    let low = same_whole a.lo b.lo fit.0 fits.0 (ap (λ (bs : List ℕ). take 8 (drop 8 bs)) e) in
    let high = same_whole a.hi b.hi fit.1 fits.1 (ap (λ (bs : List ℕ). drop 16 bs) e) in
    ap (λ r. types.Int r) (same_limits a b (low, high))
same_slot types.Bool (types.Int b) fit fits e =
    absurd (differ 0 1 (ap (λ (bs : List ℕ). slice_index bs 0) e) (lit< tt))
same_slot (types.Int a) types.Bool fit fits e =
    absurd (differ 0 1 (ap (λ (bs : List ℕ). slice_index bs 0) (sym e)) (lit< tt))

abbrev kind_in : ℕ → BlockKind
kind_in n =
    if n == 0 then kinds.RTrig else if n == 1 then kinds.Ctu else if n == 2 then kinds.Ton
    else if n == 3 then kinds.GearLevel else if n == 4 then kinds.GearDo else if n == 5 then kinds.GearSet
    else if n == 6 then kinds.GearPair else if n == 7 then kinds.GearAsk else if n == 8 then kinds.GearRead
    else if n == 9 then kinds.DevDo else if n == 10 then kinds.DevScheme else kinds.DevAsk

kind_again : (k : BlockKind) → kind_in (block_number k) ≡ k
kind_again kinds.RTrig = refl
kind_again kinds.Ctu = refl
kind_again kinds.Ton = refl
kind_again kinds.GearLevel = refl
kind_again kinds.GearDo = refl
kind_again kinds.GearSet = refl
kind_again kinds.GearPair = refl
kind_again kinds.GearAsk = refl
kind_again kinds.GearRead = refl
kind_again kinds.DevDo = refl
kind_again kinds.DevScheme = refl
kind_again kinds.DevAsk = refl

same_block : (a b : BlockKind) → ⊤ → ⊤ → block a ≡ block b → a ≡ b
same_block a b fit fits e =
    sym (kind_again a) ∙ ap (λ (bs : List ℕ). kind_in (slice_index bs 0)) e ∙ kind_again b

same_function : (f g : FunctionBody) → IsSmall f → IsSmall g → function f ≡ function g → f ≡ g
same_function f g h k e =
    let start = same_number f.start g.start h.start k.start (ap (take 4) e) in
    let first = same_number f.first g.first h.first k.first (ap (λ (bs : List ℕ). take 4 (drop 4 bs)) e) in
    let inputs = same_number f.inputs g.inputs h.inputs k.inputs (ap (λ (bs : List ℕ). take 4 (drop 8 bs)) e) in
    let slots = same_number f.slots g.slots h.slots k.slots (ap (drop 12) e) in
    λ i. record { start = start i; first = first i; inputs = inputs i; slots = slots i }

same_word : (v w : Word) → HasWord v → HasWord w → word v ≡ word w → v ≡ w
same_word v w h k e =
    spelled_once v w h k (same_number (spelling v) (spelling w) (spelling_small v h) (spelling_small w k) e)

-- ---- codes

pub one_code : (a b : Listing) → HasFile a → HasFile b → file a ≡ file b → a ≡ b
one_code a b h k e =
    let c = counts_of a in
    let mine = parts a (file a) c h refl (sym (counts_are a h)) in
    let its = parts b (file a) c k (sym e) (sym (counts_are a h)) in
    let counts : c ≡ counts_of b = its.counts in
    let buses : a.buses ≡ b.buses = ap (λ (bs : List ℕ). slice_index bs 5) e in
    let constants = same_list constant FitsValue 16 constant_long same_constant a.constants b.constants
    (ap (λ (c : Counts). c.constants) counts) h.constants k.constants (sym mine.constants ∙ its.constants) in
    let slots = same_list slot FitsType 24 slot_long same_slot a.slots b.slots
    (ap (λ (c : Counts). c.slots) counts) h.slots k.slots (sym mine.slots ∙ its.slots) in
    let blocks = same_list block (λ (kind : BlockKind). ⊤) 1 block_long same_block a.kinds b.kinds
    (ap (λ (c : Counts). c.blocks) counts) (all_top a.kinds) (all_top b.kinds) (sym mine.blocks ∙ its.blocks) in
    let starts = same_list number (λ (n : ℕ). n < 2 ^ 32) 4 number_long same_number a.starts b.starts
    (ap (λ (c : Counts). c.starts) counts) (small_starts a h.lawful) (small_starts b k.lawful)
    (sym mine.starts ∙ its.starts) in
    let functions = same_list function IsSmall 16 function_long same_function a.functions b.functions
    (ap (λ (c : Counts). c.functions) counts) (small_functions a h.lawful) (small_functions b k.lawful)
    (sym mine.functions ∙ its.functions) in
    let words = same_list word HasWord 4 word_long same_word a.instructions b.instructions
    (ap (λ (c : Counts). c.words) counts) h.lawful.words k.lawful.words (sym mine.words ∙ its.words) in
    let lines = same_list number (λ (n : ℕ). n < 2 ^ 32) 4 number_long same_number a.lines b.lines
    (h.lawful.lines ∙ ap (λ (c : Counts). c.words) counts ∙ sym k.lawful.lines) h.lawful.numbers k.lawful.numbers
    (sym mine.lines ∙ its.lines) in
    λ i. listing_of (buses i) (constants i) (slots i) (blocks i) (starts i) (words i) (lines i) (functions i)
