-- How long the parts of a file are, and where they stand in it.
use Rattle.std.proofs.Common.{◌≡◌, ℕ, ◌+◌, ◌*◌, ◌≤◌, ◌<◌, ◌^◌, List, [], ◌∷◌, ◌++◌, take, drop, length, refl, ap}
use Rattle.std.proofs.Common.{◌∙◌, sym, arith, length-append, suc, Bool, true, false, inl, inr, lit≤}
use Rattle.std.specs.List.{AllByRecursion}
use Rattle.std.specs.Prelude.{All, nat_le, if◌then◌else◌, ◌==◌}
use Rattle.std.proofs.lemmas.Bool.{leb-true, and_parts, eqb-true}
use Rattle.std.proofs.lemmas.List.{take_at, drop_at}
use Rattle.std.proofs.lemmas.Nat.{from_le_bytes-to_le_bytes_4}
use Rattle.iltypes.specs.declared.value.IlType.{IlType}
use Rattle.iltypes.specs.declared.value.IlType.TheVariants as types
use Rattle.iltypes.specs.declared.value.Value.{Value}
use Rattle.iltypes.specs.declared.value.Value.TheVariants as values
use Rattle.ilblocks.specs.declared.kind.BlockKind.{BlockKind}
use Rattle.ilcode.specs.declared.function.FunctionBody.{FunctionBody}
use Rattle.ilcode.specs.declared.word.Word.{Word}
use Rattle.ilcode.specs.Listings.{Listing, IsLawful, is_old}
use Rattle.limits.specs.Limits.{few_buses, most_buses}
use Rattle.ilcodefile.specs.Files.{HasFile, block, blocks, constant, constants, file, file_in, function, functions}
use Rattle.ilcodefile.specs.Files.{number, numbers, slot, slots, tables, version, word, words}
use Rattle.ilcodefile.specs.Faults.{AreBuses, AreFew, BeginsWell, Counts, HasHead, counts_in, functions_in, head_size}
use Rattle.ilcodefile.specs.Faults.{most_buses_of, size, version_in}
use Rattle.ilcodefile.specs.declared.version.FileVersion.{FileVersion}
use Rattle.ilcodefile.specs.declared.version.FileVersion.TheVariants.{One, Two}

-- ---- tables

pub constant_long : (v : Value) → length (constant v) ≡ 16
constant_long (values.Bool b) = refl
constant_long (values.Int z) = refl

pub slot_long : (t : IlType) → length (slot t) ≡ 24
slot_long types.Bool = refl
slot_long (types.Int range) = refl

pub block_long : (kind : BlockKind) → length (block kind) ≡ 1
block_long kind = refl

pub number_long : (n : ℕ) → length (number n) ≡ 4
number_long n = refl

pub function_long : (f : FunctionBody) → length (function f) ≡ 16
function_long f = refl

pub word_long : (w : Word) → length (word w) ≡ 4
word_long w = refl

pub constants_long : (xs : List Value) → length (constants xs) ≡ 16 * length xs
constants_long [] = refl
constants_long (x ∷ xs) =
    let one = constant_long x in
    let rest = constants_long xs in
    length-append (constant x) (constants xs) ∙ omega arith

pub slots_long : (xs : List IlType) → length (slots xs) ≡ 24 * length xs
slots_long [] = refl
slots_long (x ∷ xs) =
    let one = slot_long x in
    let rest = slots_long xs in
    length-append (slot x) (slots xs) ∙ omega arith

pub blocks_long : (xs : List BlockKind) → length (blocks xs) ≡ length xs
blocks_long [] = refl
blocks_long (x ∷ xs) = let rest = blocks_long xs in length-append (block x) (blocks xs) ∙ omega arith

pub numbers_long : (xs : List ℕ) → length (numbers xs) ≡ 4 * length xs
numbers_long [] = refl
numbers_long (x ∷ xs) = let rest = numbers_long xs in length-append (number x) (numbers xs) ∙ omega arith

pub functions_long : (xs : List FunctionBody) → length (functions xs) ≡ 16 * length xs
functions_long [] = refl
functions_long (x ∷ xs) =
    let one = function_long x in
    let rest = functions_long xs in
    length-append (function x) (functions xs) ∙ omega arith

pub words_long : (xs : List Word) → length (words xs) ≡ 4 * length xs
words_long [] = refl
words_long (x ∷ xs) = let rest = words_long xs in length-append (word x) (words xs) ∙ omega arith

-- a table at the front, and what follows it
pub record Split (bytes front back : List ℕ) (n : ℕ) : Type 0 where
  pub taken : take n bytes ≡ front
  pub dropped : drop n bytes ≡ back

pub split : (bytes front back : List ℕ) (n : ℕ) → bytes ≡ front ++ back → length front ≡ n → Split bytes front back n
split bytes front back n e long =
    record {
      taken = ap (take n) e ∙ take_at front back n long;
      dropped = ap (drop n) e ∙ drop_at front back n long;
    }

-- ---- the head

-- the counts of a code
abbrev pub counts_of : Listing → Counts
counts_of code =
    record {
      version = version code;
      constants = length code.constants;
      slots = length code.slots;
      blocks = length code.kinds;
      starts = length code.starts;
      words = length code.instructions;
      functions = length code.functions;
    }

pub few_counts : (code : Listing) → HasFile code → AreFew (counts_of code)
few_counts code h =
    let l = h.lawful in
    record {
      constants = l.most_constants;
      slots = l.most_slots;
      blocks = l.most_blocks;
      starts = l.most_starts;
      words = l.most_instructions;
      functions = l.functions.most;
    }

-- the version of a file is read as it was printed, and the tables follow the head
version_again : (v : FileVersion) (code : Listing) → version_in (file_in v code) ≡ v
version_again One code = refl
version_again Two code = refl

pub after_head_in : (v : FileVersion) (code : Listing) → drop (head_size v) (file_in v code) ≡ tables code
after_head_in One code = refl
after_head_in Two code = refl

-- an old code has few buses and no functions
few_of_old : (buses : ℕ) (fs : List FunctionBody) → is_old buses fs ≡ true → buses ≤ few_buses
few_of_old buses fs is = leb-true buses few_buses (and_parts (nat_le buses few_buses) (length fs == 0) is).0

none_of_old : (buses : ℕ) (fs : List FunctionBody) → is_old buses fs ≡ true → length fs ≡ 0
none_of_old buses fs is = eqb-true (length fs) 0 (and_parts (nat_le buses few_buses) (length fs == 0) is).1

-- so its file needs no number of functions
functions_again : (code : Listing) (old : Bool) → is_old code.buses code.functions ≡ old
    → length code.functions < 2 ^ 32
    → functions_in (if old then One else Two) (file_in (if old then One else Two) code) ≡ length code.functions
functions_again code true is small = sym (none_of_old code.buses code.functions is)
functions_again code false is small = from_le_bytes-to_le_bytes_4 (length code.functions) small

-- the other counts stand in the same places in both versions
pub counts_are : (code : Listing) → HasFile code → counts_in (file code) ≡ counts_of code
counts_are code h =
    let few = few_counts code h in
    let c = few.constants in
    let s = few.slots in
    let b = few.blocks in
    let t = few.starts in
    let w = few.words in
    let f = few.functions in
    let again = version_again (version code) code in
    let counted = ap (λ (v : FileVersion). functions_in v (file code)) again
    ∙ functions_again code (is_old code.buses code.functions) refl (omega arith) in
    λ i. record {
      version = again i;
      constants = from_le_bytes-to_le_bytes_4 (length code.constants) (omega arith) i;
      slots = from_le_bytes-to_le_bytes_4 (length code.slots) (omega arith) i;
      blocks = from_le_bytes-to_le_bytes_4 (length code.kinds) (omega arith) i;
      starts = from_le_bytes-to_le_bytes_4 (length code.starts) (omega arith) i;
      words = from_le_bytes-to_le_bytes_4 (length code.instructions) (omega arith) i;
      functions = counted i;
    }

tables_long : (code : Listing) → length code.lines ≡ length code.instructions
    → head_size (version code) + length (tables code) ≡ size (counts_of code)
tables_long code each =
    let cs = constants_long code.constants in
    let ss = slots_long code.slots in
    let bs = blocks_long code.kinds in
    let ts = numbers_long code.starts in
    let fs = functions_long code.functions in
    let ws = words_long code.instructions in
    let ls = numbers_long code.lines in
    let after_functions = words code.instructions ++ numbers code.lines in
    let after_starts = functions code.functions ++ after_functions in
    let after_blocks = numbers code.starts ++ after_starts in
    let after_slots = blocks code.kinds ++ after_blocks in
    let after_constants = slots code.slots ++ after_slots in
    let a = length-append (words code.instructions) (numbers code.lines) in
    let b = length-append (functions code.functions) after_functions in
    let c = length-append (numbers code.starts) after_starts in
    let d = length-append (blocks code.kinds) after_blocks in
    let e = length-append (slots code.slots) after_slots in
    let f = length-append (constants code.constants) after_constants in
    omega arith

long_in : (v : FileVersion) (code : Listing) → length (file_in v code) ≡ head_size v + length (tables code)
long_in One code = omega arith
long_in Two code = omega arith

pub file_long : (code : Listing) → HasFile code → length (file code) ≡ size (counts_of code)
file_long code h = long_in (version code) code ∙ tables_long code h.lawful.lines

begins_in : (v : FileVersion) (code : Listing) → BeginsWell (file_in v code)
begins_in One code = inl refl
begins_in Two code = inr refl

pub has_head : (code : Listing) → HasHead (file code)
has_head code =
    let v = version code in
    let long = long_in v code in
    let same = ap head_size (version_again v code) in
    (begins_in v code, omega arith)

-- a code has no more buses than its version may have
fit_version : (buses : ℕ) (fs : List FunctionBody) (old : Bool) → is_old buses fs ≡ old → buses ≤ most_buses
    → buses ≤ most_buses_of (if old then One else Two)
fit_version buses fs true is most = few_of_old buses fs is
fit_version buses fs false is most = most

pub has_buses : (code : Listing) → HasFile code → AreBuses (file code)
has_buses code h =
    let fit = fit_version code.buses code.functions (is_old code.buses code.functions) refl h.lawful.most_buses in
    let same = ap most_buses_of (version_again (version code) code) in
    record { least = h.lawful.bus; most = omega arith; first = refl; second = refl }

-- and no version may have more than a code may have
pub most_of_versions : (v : FileVersion) → most_buses_of v ≤ most_buses
most_of_versions One = lit≤ tt
most_of_versions Two = lit≤ tt

-- starts are not beyond the end, and so they are small
pub small_starts : (code : Listing) → IsLawful code → AllByRecursion (λ (n : ℕ). n < 2 ^ 32) code.starts
small_starts code lawful = small code.starts lawful.starts.within
  where
    small : (starts : List ℕ) → All (λ start. start ≤ length code.instructions) starts
        → AllByRecursion (λ (n : ℕ). n < 2 ^ 32) starts
    small [] within = tt
    small (start ∷ starts) within =
        let most = lawful.most_instructions in
        let first = within 0 start (omega arith) in
        (omega arith, small starts (λ k d below. within (suc k) d (omega arith)))
