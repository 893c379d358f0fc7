-- Parts that were read of bytes whose head and length are right are lawful.
use Rattle.std.proofs.Common.{◌≡◌, ℕ, ◌<◌, ◌≤◌, ◌^◌, List, length, sym, ap, ◌∙◌, arith, subst}
use Rattle.std.specs.Prelude.{slice_index}
use Rattle.std.specs.List.{AllByRecursion}
use Rattle.iltypes.specs.declared.value.IlType.{IlType}
use Rattle.iltypes.specs.declared.value.Value.{Value}
use Rattle.ilblocks.specs.declared.kind.BlockKind.{BlockKind}
use Rattle.ilcode.specs.declared.function.FunctionBody.{FunctionBody}
use Rattle.ilcode.specs.declared.word.Word.{Word}
use Rattle.ilcode.specs.Words.{HasWord}
use Rattle.ilcode.specs.Listings.{IsLawful, end_of, listing_of}
use Rattle.ilcodefile.specs.Faults.{Counts, IsShaped, counts_in, version_in}
use Rattle.ilcodefile.specs.BodySteps.{AreBodies, Follow}
use Rattle.ilcodefile.proofs.BodyOrder.{are_functions, start_within}
use Rattle.ilcodefile.proofs.Lengths.{most_of_versions}
use Rattle.ilcodefile.proofs.Starts.{starts_are, starts_within}

module _ (bytes : List ℕ) (k : Counts) (shaped : IsShaped bytes) (counts : k ≡ counts_in bytes) where
  pub lawful : (buses : ℕ) (constants : List Value) (slots : List IlType) (kinds : List BlockKind) (starts : List ℕ)
      (words : List Word) (lines : List ℕ) (functions : List FunctionBody) → buses ≡ slice_index bytes 5
      → length constants ≡ k.constants → length slots ≡ k.slots → length kinds ≡ k.blocks → length starts ≡ k.starts
      → length words ≡ k.words → length lines ≡ k.words → length functions ≡ k.functions
      → AllByRecursion HasWord words → AllByRecursion (λ (n : ℕ). n < 2 ^ 32) lines
      → AreBodies buses k.slots starts words functions
      → IsLawful (listing_of buses constants slots kinds starts words lines functions)
  lawful buses constants slots kinds starts words lines functions bus cs ss bs ts ws ls fs held small bodies =
      let few = shaped.few in
      let least = shaped.buses.least in
      let most = shaped.buses.most in
      let limit = most_of_versions (version_in bytes) in
      let fc = few.constants in
      let fo = few.slots in
      let fb = few.blocks in
      let ft = few.starts in
      let fw = few.words in
      let ff = few.functions in
      let ec = ap (λ (c : Counts). c.constants) counts in
      let es = ap (λ (c : Counts). c.slots) counts in
      let eb = ap (λ (c : Counts). c.blocks) counts in
      let et = ap (λ (c : Counts). c.starts) counts in
      let ew = ap (λ (c : Counts). c.words) counts in
      let ef = ap (λ (c : Counts). c.functions) counts in
      let code = listing_of buses constants slots kinds starts words lines functions in
      let end = end_of code 0 in
      let follow : Follow (length words) (length slots) functions =
      subst (λ (n : ℕ). Follow (length words) n functions) (sym ss) bodies.follow in
      let far : end ≤ length words = start_within (length words) (length slots) functions follow in
      record {
        bus = omega arith;
        most_buses = omega arith;
        most_constants = omega arith;
        most_slots = omega arith;
        most_blocks = omega arith;
        most_starts = omega arith;
        most_instructions = omega arith;
        words = held;
        lines = ls ∙ sym ws;
        numbers = small;
        starts = starts_are end starts words far bodies.begin;
        functions =
            are_functions code (omega arith) follow (starts_within end starts words bodies.begin);
        old = bodies.old;
      }
