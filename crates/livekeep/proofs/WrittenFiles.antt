-- What is written is what is read: the file that is made of values is one of these values.
use Rattle.std.proofs.Common.{◌≡◌, ℕ, ℤ, pos, negsuc, suc, neg_ℤ, ◌+◌, ◌<◌, ◌≤◌, ◌^◌, List, [], ◌∷◌, ◌++◌}
use Rattle.std.proofs.Common.{length, map}
use Rattle.std.proofs.Common.{Bool, true, false, ◌||◌, Option, Some, None, inr}
use Rattle.std.proofs.Common.{refl, ap, sym, subst, ◌∙◌, arith, append_assoc, length-append}
use Rattle.std.specs.Prelude.{◌==◌, nat_lt, if◌then◌else◌, bytes_eq, codes, decimal, flat_map, option_and_then, option_map}
use Rattle.std.specs.List.{AllByRecursion, IsDistinct, list_all}
use Rattle.std.specs.Str.Lines.{lines}
use Rattle.std.proofs.lemmas.Fmt.{decimal_is_IsNumeral}
use Rattle.std.proofs.lemmas.List.{append-nil}
use Rattle.std.proofs.lemmas.Slice.Eq.{bytes_eq-Decides}
use Rattle.iltypes.specs.declared.value.Value.{Value}
use Rattle.iltypes.specs.declared.value.Value.TheVariants as values_of
use Rattle.iltypes.specs.Printed as values
use Rattle.wordlines.proofs.SpelledNumbers.{upto_some}
use Rattle.wordlines.specs.LineRules.{AllLead, Leads}
use Rattle.wordlines.specs.WordLines.{IsSkipped, number_upto, words}
use Rattle.livekeep.specs.CheckSums.{sum_of}
use Rattle.livekeep.specs.KeptFiles.{IsKeptFile, KeptEntry, SaidLine, SoFar, entry_of, has_name, kept_rules, most_number}
use Rattle.livekeep.specs.KeptFiles.{dated_head_in, kept_at_of, nothing, said, state_of, sum_line, value_of, whole}
use Rattle.livekeep.specs.KeptFiles.{whole_number}
use Rattle.livekeep.specs.KeptFiles.SaidLine.{Head, Entry, End, Sum}
use Rattle.livekeep.specs.Printed.{AreKeepable, IsPlain, IsWritable, end_line, entry_line, head_line, printed_file}
use Rattle.livekeep.specs.Printed.{printed_lines}
use Rattle.livekeep.specs.declared.kept_at.KeptAt.{KeptAt}
use Rattle.livekeep.specs.declared.stage.Stage.TheVariants as stages
use Rattle.livekeep.proofs.ChangedSums.{sum_small}
use Rattle.livekeep.proofs.WrittenLines.{AreAbove, above_append, above_less, above_tested, decimal_above}
use Rattle.livekeep.proofs.WrittenLines.{false_unless, line_read, other, split_at, split_none}

-- ---- numbers and values

small : (number : ℕ) → number ≤ most_number → number < 2 ^ 64
small number h = omega (arith, h)

number_read : (number : ℕ) → number ≤ most_number → number_upto most_number (decimal number) ≡ Some number
number_read number h =
    let numeral = decimal_is_IsNumeral number (small number h) in
    sym (upto_some most_number (decimal number) number numeral.0 (sym numeral.1) h)

-- a word of which a number is read is none of the two truth values
no_word : (word text : List ℕ) (number : ℕ) → number_upto most_number word ≡ Some number
    → number_upto most_number text ≡ None → bytes_eq word text ≡ false
no_word word text number read none =
    false_unless (bytes_eq word text) (λ is.
    let same : word ≡ text = (bytes_eq-Decides word text).0 is in
    let wrong : Some number ≡ None = sym read ∙ (ap (number_upto most_number) same ∙ none) in cc)

-- what is read of a number's digits
abbrev positive : Option ℕ → Option ℤ
positive digits = option_map (λ (n : ℕ). pos n) digits

abbrev negative : Option ℕ → Option ℤ
negative digits = option_map (λ (n : ℕ). neg_ℤ (pos n)) digits

abbrev signed : Bool → Option ℕ → Option ℕ → Option ℤ
signed below digits all = if below then negative digits else positive all

-- a number is read as whole where no `-` stands before it
whole_from : (word : List ℕ) (number : ℕ) → AreAbove 47 word → number_upto most_number word ≡ Some number
    → whole_number word ≡ Some (pos number)
whole_from [] number above read = cc
whole_from (first ∷ digits) number above read =
    let digit : (first == 45) ≡ false = other 47 45 first (omega arith) above.0 in
    ap (λ (t : Bool). signed t (number_upto most_number digits) (number_upto most_number (first ∷ digits))) digit
    ∙ ap positive read

-- what is read of a word that may be a truth value, else of the number
abbrev number_value : Option ℤ → Option Value
number_value number = option_map (λ (n : ℤ). values_of.Int n) number

abbrev or_truth : Bool → Bool → Option Value → Option Value
or_truth is truth rest = if is then Some (values_of.Bool truth) else rest

value_if : (word : List ℕ) (number : ℤ) → bytes_eq word (codes "TRUE") ≡ false → bytes_eq word (codes "FALSE") ≡ false
    → whole_number word ≡ Some number → value_of word ≡ Some (values_of.Int number)
value_if word number untrue unfalse is =
    let rest = number_value (whole_number word) in
    let first : value_of word ≡ or_truth (bytes_eq word (codes "FALSE")) false rest =
    ap (λ (t : Bool). or_truth t true (or_truth (bytes_eq word (codes "FALSE")) false rest)) untrue in
    let second : or_truth (bytes_eq word (codes "FALSE")) false rest ≡ rest =
    ap (λ (t : Bool). or_truth t false rest) unfalse in
    first ∙ second ∙ ap number_value is

value_read : (value : Value) → IsWritable value → value_of (values.printed value) ≡ Some value
value_read (values_of.Bool true) h = refl
value_read (values_of.Bool false) h = refl
value_read (values_of.Int (pos number)) h =
    let read = number_read number h in
    value_if (decimal number) (pos number) (no_word (decimal number) (codes "TRUE") number read refl)
    (no_word (decimal number) (codes "FALSE") number read refl)
    (whole_from (decimal number) number (decimal_above number (small number h)) read)
value_read (values_of.Int (negsuc number)) h =
    value_if (45 ∷ decimal (suc number)) (negsuc number) refl refl
    (ap negative (number_read (suc number) (omega (arith, h))))

value_above : (value : Value) → IsWritable value → AreAbove 44 (values.printed value)
value_above (values_of.Bool true) h = above_tested 44 (codes "TRUE") refl
value_above (values_of.Bool false) h = above_tested 44 (codes "FALSE") refl
value_above (values_of.Int (pos number)) h =
    above_less 44 47 (decimal number) (omega arith) (decimal_above number (small number h))
value_above (values_of.Int (negsuc number)) h = (
  omega arith,
  above_less 44 47 (decimal (suc number)) (omega arith) (decimal_above (suc number) (omega (arith, h))),
)

-- ---- lines without their ends

abbrev head_text : KeptAt → List ℕ
head_text at = codes "kept by dalictl live at " ++ (decimal at.date ++ (codes " moment " ++ decimal at.moment))

abbrev entry_text : KeptEntry → List ℕ
entry_text entry = entry.name ++ (codes " = " ++ values.printed entry.value)

abbrev end_text : ℕ → List ℕ
end_text count = codes "end " ++ decimal count

abbrev sum_text : ℕ → List ℕ
sum_text sum = codes "sum " ++ decimal sum

head_ended : (at : KeptAt) → head_line at ≡ head_text at ++ 10 ∷ []
head_ended at =
    ap (λ (t : List ℕ). codes "kept by dalictl live at " ++ t)
    (sym (append_assoc (decimal at.date) (codes " moment " ++ decimal at.moment) (10 ∷ [])))

entry_ended : (entry : KeptEntry) → entry_line entry ≡ entry_text entry ++ 10 ∷ []
entry_ended entry = sym (append_assoc entry.name (codes " = " ++ values.printed entry.value) (10 ∷ []))

-- a line with its end before the rest
ended_read : (line text rest : List ℕ) → line ≡ text ++ 10 ∷ [] → AreAbove 31 text
    → lines (line ++ rest) ≡ text ∷ lines rest
ended_read line text rest is above =
    ap (λ (l : List ℕ). lines (l ++ rest)) is
    ∙ ap lines (append_assoc text (10 ∷ []) rest)
    ∙ line_read text rest above

digits_above : (number : ℕ) → number ≤ most_number → AreAbove 31 (decimal number)
digits_above number h = above_less 31 47 (decimal number) (omega arith) (decimal_above number (small number h))

no_blank : (number : ℕ) → number ≤ most_number → AreAbove 32 (decimal number)
no_blank number h = above_less 32 47 (decimal number) (omega arith) (decimal_above number (small number h))

-- texts of the lines that begin with these
from_text : (front back : List ℕ) → list_all (λ byte. nat_lt 31 byte) front ≡ true → AreAbove 31 back
    → AreAbove 31 (front ++ back)
from_text front back tested h = above_append 31 front back (above_tested 31 front tested) h

head_above : (at : KeptAt) → at.date ≤ most_number → at.moment ≤ most_number → AreAbove 31 (head_text at)
head_above at date moment =
    let back = from_text (codes " moment ") (decimal at.moment) refl (digits_above at.moment moment) in
    from_text (codes "kept by dalictl live at ") (decimal at.date ++ (codes " moment " ++ decimal at.moment)) refl
    (above_append 31 (decimal at.date) (codes " moment " ++ decimal at.moment) (digits_above at.date date) back)

entry_above : (entry : KeptEntry) → IsPlain entry.name → IsWritable entry.value → AreAbove 31 (entry_text entry)
entry_above entry plain writable =
    let value = above_less 31 44 (values.printed entry.value) (omega arith) (value_above entry.value writable) in
    above_append 31 entry.name (codes " = " ++ values.printed entry.value)
    (above_less 31 35 entry.name (omega arith) plain)
    (from_text (codes " = ") (values.printed entry.value) refl value)

end_above : (count : ℕ) → count ≤ most_number → AreAbove 31 (end_text count)
end_above count h = from_text (codes "end ") (decimal count) refl (digits_above count h)

sum_above : (sum : ℕ) → sum ≤ most_number → AreAbove 31 (sum_text sum)
sum_above sum h = from_text (codes "sum ") (decimal sum) refl (digits_above sum h)

-- ---- the words of lines

head_words : (at : KeptAt) → at.date ≤ most_number → at.moment ≤ most_number
    → words (head_text at) ≡ codes "kept" ∷ codes "by" ∷ codes "dalictl" ∷ codes "live" ∷ codes "at" ∷ decimal at.date
    ∷ codes "moment" ∷ decimal at.moment ∷ []
head_words at date moment =
    ap (λ (ws : List (List ℕ)). codes "kept" ∷ codes "by" ∷ codes "dalictl" ∷ codes "live" ∷ codes "at" ∷ ws)
    (split_at 32 32 (decimal at.date) (codes "moment " ++ decimal at.moment) (omega arith) (no_blank at.date date)
    ∙ ap (λ (ws : List (List ℕ)). decimal at.date ∷ codes "moment" ∷ ws)
    (split_none 32 32 (decimal at.moment) (omega arith) (no_blank at.moment moment)))

entry_words : (entry : KeptEntry) → IsPlain entry.name → IsWritable entry.value
    → words (entry_text entry) ≡ entry.name ∷ codes "=" ∷ values.printed entry.value ∷ []
entry_words entry plain writable =
    split_at 32 32 entry.name (codes "= " ++ values.printed entry.value) (omega arith)
    (above_less 32 35 entry.name (omega arith) plain)
    ∙ ap (λ (ws : List (List ℕ)). entry.name ∷ codes "=" ∷ ws)
    (split_none 32 32 (values.printed entry.value) (omega arith)
    (above_less 32 44 (values.printed entry.value) (omega arith) (value_above entry.value writable)))

end_words : (count : ℕ) → count ≤ most_number → words (end_text count) ≡ codes "end" ∷ decimal count ∷ []
end_words count h =
    ap (λ (ws : List (List ℕ)). codes "end" ∷ ws) (split_none 32 32 (decimal count) (omega arith) (no_blank count h))

sum_words : (sum : ℕ) → sum ≤ most_number → words (sum_text sum) ≡ codes "sum" ∷ decimal sum ∷ []
sum_words sum h =
    ap (λ (ws : List (List ℕ)). codes "sum" ∷ ws) (split_none 32 32 (decimal sum) (omega arith) (no_blank sum h))

-- ---- what lines say

-- a head with these numbers
abbrev dated : Option ℕ → Option ℕ → Option SaidLine
dated date moment =
    dated_head_in (Some (Head None)) (option_and_then (λ d. option_map (λ m. kept_at_of d m) moment) date)

head_said : (at : KeptAt) → at.date ≤ most_number → at.moment ≤ most_number
    → said (words (head_text at)) ≡ Some (Head (Some at))
head_said at date moment =
    ap said (head_words at date moment)
    ∙ (ap (λ (d : Option ℕ). dated d (number_upto most_number (decimal at.moment))) (number_read at.date date)
    ∙ ap (λ (m : Option ℕ). dated (Some at.date) m) (number_read at.moment moment))

entry_said : (entry : KeptEntry) → IsPlain entry.name → IsWritable entry.value
    → said (words (entry_text entry)) ≡ Some (Entry entry)
entry_said entry plain writable =
    ap said (entry_words entry plain writable)
    ∙ ap (λ (v : Option Value). option_map (λ value. Entry (entry_of entry.name value)) v)
    (value_read entry.value writable)

end_said : (count : ℕ) → count ≤ most_number → said (words (end_text count)) ≡ Some (End count)
end_said count h =
    ap said (end_words count h) ∙ ap (λ (n : Option ℕ). option_map (λ number. End number) n) (number_read count h)

sum_said : (sum : ℕ) → sum ≤ most_number → said (words (sum_text sum)) ≡ Some (Sum sum)
sum_said sum h =
    ap said (sum_words sum h) ∙ ap (λ (n : Option ℕ). option_map (λ number. Sum number) n) (number_read sum h)

-- ---- where lines lead

-- after the values so far
abbrev midway : KeptAt → List KeptEntry → SoFar
midway at done = record { stage = stages.Values; at = Some at; values = done; sum = 0 }

not_skipped : (name back : List ℕ) → IsPlain name → ¬ IsSkipped (name ++ 32 ∷ back)
not_skipped [] back plain skipped = let wrong : 32 ≡ 35 = skipped in omega (arith, wrong)
not_skipped (first ∷ name) back plain skipped = let is : first ≡ 35 = skipped in omega (arith, is, plain.0)

module _ (at : KeptAt) (date : at.date ≤ most_number) (moment : at.moment ≤ most_number) where
  head_leads : Leads kept_rules nothing (head_text at) (midway at [])
  head_leads =
      inr (
        Head (Some at),
        record {
          read = λ skipped. let wrong : 107 ≡ 35 = skipped in omega (arith, wrong);
          says = head_said at date moment;
          follows = refl;
        },
        refl,
      )

  entry_leads : (done : List KeptEntry) (entry : KeptEntry) → IsPlain entry.name → IsWritable entry.value
      → has_name done entry.name ≡ false
      → Leads kept_rules (midway at done) (entry_text entry) (midway at (done ++ entry ∷ []))
  entry_leads done entry plain writable new =
      inr (
        Entry entry,
        record {
          read = not_skipped entry.name (codes "= " ++ values.printed entry.value) plain;
          says = entry_said entry plain writable;
          follows = (refl, new);
        },
        refl,
      )

  end_leads : (done : List KeptEntry) (sum : ℕ) → length done ≤ most_number → sum ≤ most_number
      → AllLead kept_rules (midway at done) (end_text (length done) ∷ sum_text sum ∷ [])
      (whole (state_of (Some at) done) sum)
  end_leads done sum count few =
      let counted : SoFar = record { stage = stages.End; at = Some at; values = done; sum = 0 } in (
        counted,
        inr (
          End (length done),
          record {
            read = λ skipped. let wrong : 101 ≡ 35 = skipped in omega (arith, wrong);
            says = end_said (length done) count;
            follows = (refl, refl);
          },
          refl,
        ),
        (
          whole (state_of (Some at) done) sum,
          inr (
            Sum sum,
            record {
              read = λ skipped. let wrong : 115 ≡ 35 = skipped in omega (arith, wrong);
              says = sum_said sum few;
              follows = (refl, refl);
            },
            refl,
          ),
          refl,
        ),
      )

-- one more name
none_of : (one more others : Bool) → (one || more) ≡ false → (more ≡ false → others ≡ false)
    → (one || others) ≡ false
none_of true more others h k = cc
none_of false more others h k = k h

named_more : (done : List KeptEntry) (entry : KeptEntry) (name : List ℕ) → has_name done name ≡ false
    → bytes_eq entry.name name ≡ false → has_name (done ++ entry ∷ []) name ≡ false
named_more [] entry name h k = ap (λ (t : Bool). t || false) k
named_more (first ∷ done) entry name h k =
    none_of (bytes_eq first.name name) (has_name done name) (has_name (done ++ entry ∷ []) name) h
    (λ none. named_more done entry name none k)

abbrev pub same_name : KeptEntry → KeptEntry → Bool
same_name one other = bytes_eq one.name other.name

-- the names of these are none of those before them
abbrev AreNew : List KeptEntry → List KeptEntry → Type 0
AreNew done left = AllByRecursion (λ entry. has_name done entry.name ≡ false) left

new_more : (done : List KeptEntry) (entry : KeptEntry) (left : List KeptEntry) → AreNew done left
    → AllByRecursion (λ other. same_name entry other ≡ false) left → AreNew (done ++ entry ∷ []) left
new_more done entry [] new apart = tt
new_more done entry (first ∷ left) new apart =
    (named_more done entry first.name new.0 apart.0, new_more done entry left new.1 apart.1)

all_new : (left : List KeptEntry) → AreNew [] left
all_new [] = tt
all_new (entry ∷ left) = (refl, all_new left)

pub apart_parts : (entry : KeptEntry) (left : List KeptEntry) → IsDistinct same_name (entry ∷ left)
    → AllByRecursion (λ other. same_name entry other ≡ false) left × IsDistinct same_name left
unfolding IsDistinct
apart_parts entry left apart = apart

values_lead : (at : KeptAt) (date : at.date ≤ most_number) (moment : at.moment ≤ most_number)
    (done left all : List KeptEntry) (sum : ℕ) → all ≡ done ++ left → length all ≤ most_number → sum ≤ most_number
    → AllByRecursion (λ entry. IsPlain entry.name) left → AllByRecursion (λ entry. IsWritable entry.value) left
    → AreNew done left → IsDistinct same_name left
    → AllLead kept_rules (midway at done) (map entry_text left ++ (end_text (length all) ∷ sum_text sum ∷ []))
    (whole (state_of (Some at) all) sum)
values_lead at date moment done [] all sum is count few plain writable new apart =
    subst (λ (vs : List KeptEntry). AllLead kept_rules (midway at vs) (end_text (length all) ∷ sum_text sum ∷ [])
    (whole (state_of (Some at) all) sum)) (is ∙ append-nil done) (end_leads at date moment all sum count few)
values_lead at date moment done (entry ∷ left) all sum is count few plain writable new apart =
    let parts = apart_parts entry left apart in (
      midway at (done ++ entry ∷ []),
      entry_leads at date moment done entry plain.0 writable.0 new.0,
      values_lead at date moment (done ++ entry ∷ []) left all sum
          (is ∙ sym (append_assoc done (entry ∷ []) left)) count few plain.1 writable.1
          (new_more done entry left new.1 parts.0) parts.1,
    )

-- ---- files

-- there are no more values than bytes
count_short : (kept : List KeptEntry) → length kept ≤ length (flat_map entry_line kept)
count_short [] = omega arith
count_short (entry ∷ kept) =
    let more = values.printed entry.value ++ 10 ∷ [] in
    let whole : length (entry_line entry ++ flat_map entry_line kept)
    ≡ length (entry_line entry) + length (flat_map entry_line kept) =
    length-append (entry_line entry) (flat_map entry_line kept) in
    let line : length (entry_line entry) ≡ length entry.name + length (32 ∷ 61 ∷ 32 ∷ more) =
    length-append entry.name (32 ∷ 61 ∷ 32 ∷ more) in
    omega (arith, count_short kept, whole, line)

value_lines : (kept : List KeptEntry) (rest : List ℕ) → AllByRecursion (λ entry. IsPlain entry.name) kept
    → AllByRecursion (λ entry. IsWritable entry.value) kept
    → lines (flat_map entry_line kept ++ rest) ≡ map entry_text kept ++ lines rest
value_lines [] rest plain writable = refl
value_lines (entry ∷ kept) rest plain writable =
    ap lines (append_assoc (entry_line entry) (flat_map entry_line kept) rest)
    ∙ (ended_read (entry_line entry) (entry_text entry) (flat_map entry_line kept ++ rest) (entry_ended entry)
    (entry_above entry plain.0 writable.0)
    ∙ ap (λ (ls : List (List ℕ)). entry_text entry ∷ ls) (value_lines kept rest plain.1 writable.1))

module _ (at : KeptAt) (kept : List KeptEntry) (may : AreKeepable at kept) where
  abbrev total : ℕ
  total = sum_of (printed_lines at kept)

  abbrev values_text : List ℕ
  values_text = flat_map entry_line kept

  few : total ≤ most_number
  few = omega (arith, sum_small (printed_lines at kept))

  count : length kept ≤ most_number
  count =
      let file : length (printed_file at kept) ≡ length (printed_lines at kept) + length (sum_line total) =
      length-append (printed_lines at kept) (sum_line total) in
      let lines_before : length (printed_lines at kept)
      ≡ length (head_line at) + length (values_text ++ end_line (length kept)) =
      length-append (head_line at) (values_text ++ end_line (length kept)) in
      let lines_after : length (values_text ++ end_line (length kept))
      ≡ length values_text + length (end_line (length kept)) =
      length-append values_text (end_line (length kept)) in
      omega (arith, may.short, count_short kept, file, lines_before, lines_after)

  nested : printed_file at kept ≡ head_line at ++ (values_text ++ (end_line (length kept) ++ sum_line total))
  nested =
      append_assoc (head_line at) (values_text ++ end_line (length kept)) (sum_line total)
      ∙ ap (λ (t : List ℕ). head_line at ++ t) (append_assoc values_text (end_line (length kept)) (sum_line total))

  file_lines : lines (printed_file at kept)
      ≡ head_text at ∷ (map entry_text kept ++ (end_text (length kept) ∷ sum_text total ∷ []))
  file_lines =
      ap lines nested
      ∙ (ended_read (head_line at) (head_text at) (values_text ++ (end_line (length kept) ++ sum_line total))
      (head_ended at) (head_above at may.date may.moment)
      ∙ ap (λ (ls : List (List ℕ)). head_text at ∷ ls)
      (value_lines kept (end_line (length kept) ++ sum_line total) may.plain may.writable
      ∙ ap (λ (ls : List (List ℕ)). map entry_text kept ++ ls)
      (ended_read (end_line (length kept)) (end_text (length kept)) (sum_line total) refl
      (end_above (length kept) count)
      ∙ ap (λ (ls : List (List ℕ)). end_text (length kept) ∷ ls)
      (line_read (sum_text total) [] (sum_above total few)))))

  pub written_file : IsKeptFile (printed_file at kept) (state_of (Some at) kept)
  written_file =
      record {
        sum = total;
        lines = record {
          short = may.short;
          lead = subst (λ (ls : List (List ℕ)). AllLead kept_rules nothing ls (whole (state_of (Some at) kept) total))
              (sym file_lines) (
                midway at [],
                head_leads at may.date may.moment,
                values_lead at may.date may.moment [] kept kept total refl count few may.plain may.writable
                    (all_new kept) may.distinct,
              );
        };
        sealed = record { body = printed_lines at kept; are = refl; is = refl };
      }
