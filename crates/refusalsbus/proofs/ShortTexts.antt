-- Texts that are too short for what a line is to say.
use Rattle.std.proofs.Common.{◌≡◌, ◌∙◌, ◌<◌, ◌≤◌, ℕ, List, [], ◌∷◌, ◌++◌, length, codes, slice_index_or}
use Rattle.std.proofs.Common.{Option, Some, None, Result, Ok, Err, IfOk, Bool, false, true, inl, inr, refl, sym, ap, arith}
use Rattle.std.proofs.Common.{length-append, is_ok, subst, ◌+◌, lit≤}
use Rattle.std.specs.Fmt.{decimal, digits}
use Rattle.std.specs.Io.KnownBytes.{Appends, Consumes}
use Rattle.std.proofs.KnownBytes.{Appends-trans}
use Rattle.buslink.specs.declared.marks.Reply.{Reply}
use Rattle.buslink.specs.declared.marks.Reply.TheVariants.{Quiet, Answer, Damaged, Lost}
use Rattle.liveline.specs.Exchanges.{IsAnnounced, IsAnswered, IsExchange, IsHeard, IsReadPast, LineState}
use Rattle.liveline.specs.Greetings.{Ends, GreetedLine, IsAsked, IsGreeted, IsGreetedAsBefore, IsGreetedPlainly, Refuses, ends_of}
use Rattle.liveline.specs.Lines.{IsMessage, IsReply, ended, fault_line, greeting, hear_line, line_end, none_line}
use Rattle.liveline.specs.Lines.{numbered_answer, numbered_greeting, said_by}

-- bytes that were read of a text begin it
pub record BeginBy (text bytes : List ℕ) (left : Option (List ℕ)) : Type 0 where
  pub rest : List ℕ
  pub is : left ≡ Some rest
  pub are : text ≡ bytes ++ rest

pub begin_by : (old new : Option (List ℕ)) (text bytes : List ℕ) → old ≡ Some text → Consumes old new bytes
    → BeginBy text bytes new
begin_by None new text bytes is read = absurd cc
begin_by (Some xs) None text bytes is read = absurd read
begin_by (Some xs) (Some ys) text bytes is read =
    let same : xs ≡ text = cc in record { rest = ys; is = refl; are = sym same ∙ read }

-- bytes that were read of a text leave so many less of it
pub record Leaves (n : ℕ) (text : List ℕ) (left : Option (List ℕ)) : Type 0 where
  pub rest : List ℕ
  pub is : left ≡ Some rest
  pub long : length rest + n ≤ length text

leaves : (old new : Option (List ℕ)) (text front line : List ℕ) → old ≡ Some text
    → Consumes old new (front ++ (line ++ line_end)) → Leaves (length line + 1) text new
leaves old new text front line is read =
    let begun = begin_by old new text (front ++ (line ++ line_end)) is read in record {
      rest = begun.rest;
      is = begun.is;
      long = omega (
        arith,
        ap length begun.are,
        length-append (front ++ (line ++ line_end)) begun.rest,
        length-append front (line ++ line_end),
        length-append line line_end,
      );
    }

-- ---- a message

message_long : (message : Option ℕ) (line : List ℕ) → IsMessage message line → 4 ≤ length line
message_long None line says = omega (arith, ap length says)
message_long (Some frame) line says = omega (arith, ap length says.1, length-append (codes "event ") says.0)

no_answer : (announces : Bool) (line text : List ℕ) (old new : Option (List ℕ)) (before after : List ℕ)
    → old ≡ Some text → length text < 5 → 4 ≤ length line → ¬ IsReadPast announces line old new before after
no_answer announces line text old new before after is short long past =
    let left = leaves old new text (said_by past.events) line is past.read in let least = left.long in
    omega (arith, least, short, long)

no_heard : (announces : Bool) (message : Option ℕ) (old new : LineState) (text : List ℕ) → old.announces ≡ announces
    → old.unread ≡ Some text → length text < 5 → old.kept ≡ [] → ¬ IsHeard message old new
no_heard announces message old new text speaks is short none (inl taken) = cc
no_heard false message old new text speaks is short none (inr said) =
    let exchange : IsExchange hear_line (λ line. IsMessage message line) old new =
    subst (λ (b : Bool). IsAnswered b message old new) speaks said.1 in
    no_answer old.announces exchange.line text old.unread new.unread old.kept new.kept is short
    (message_long message exchange.line exchange.says) exchange.answer
no_heard true message old new text speaks is short none (inr said) =
    let announced : IsAnnounced message old new =
    subst (λ (b : Bool). IsAnswered b message old new) speaks said.1 in
    no_answer true none_line text old.unread new.unread [] announced.frames is short (lit≤ tt) announced.answer

pub no_message : {E : Type 0} (given : Result (Option ℕ) E) (old new : LineState) (text : List ℕ)
    → old.unread ≡ Some text → length text < 5 → old.kept ≡ [] → IfOk given (λ message. IsHeard message old new)
    → is_ok given ≡ false
no_message (Err fault) old new text is short none said = refl
no_message (Ok message) old new text is short none said =
    absurd (no_heard old.announces message old new text refl is short none said)

-- ---- a reply

reply_of_four : (reply : Reply) (line : List ℕ) → IsReply reply line → length line < 5 → reply ≡ Lost
reply_of_four Quiet line says short = absurd (omega (arith, ap length says))
reply_of_four (Answer byte) line says short =
    absurd (omega (arith, ap length says.1, length-append (codes "answer ") says.0))
reply_of_four Damaged line says short = absurd (omega (arith, ap length says))
reply_of_four Lost line says short = refl

-- a text of five bytes says that a frame was lost, or nothing
pub lost_alone : {E : Type 0} (asked : List ℕ) (given : Result Reply E) (old new : LineState) (text : List ℕ)
    → old.unread ≡ Some text → length text < 6
    → IfOk given (λ reply. IsExchange asked (λ line. IsReply reply line) old new) → IfOk given (λ reply. reply ≡ Lost)
lost_alone asked (Err fault) old new text is short said = tt
lost_alone asked (Ok reply) old new text is short said =
    let left = leaves old.unread new.unread text (said_by said.answer.events) said.line is said.answer.read in
    let least = left.long in reply_of_four reply said.line said.says (omega (arith, least, short))

-- ---- a greeting

one_digit : (length (decimal 2) ≡ 1) × (length (decimal 3) ≡ 1)
unfolding digits
one_digit = (refl, refl)

two_digits : length (decimal 10) ≡ 2
unfolding digits
two_digits = refl

answer_long : (version number : ℕ)
    → length (numbered_answer version number) ≡ 15 + (length (decimal version) + length (decimal number))
answer_long version number =
    omega (
      arith,
      length-append (codes "gushewa " ++ decimal version ++ codes " hears ") (decimal number),
      length-append (codes "gushewa " ++ decimal version) (codes " hears "),
      length-append (codes "gushewa ") (decimal version),
    )

asked_leaves : (version number : ℕ) (line text : List ℕ) (old new : Ends) → old.unread ≡ Some text
    → IsAsked version number line old new → Leaves (length line + 1) text new.unread
asked_leaves version number line text old new is asked =
    leaves old.unread new.unread text (ended asked.answer.passed) line is asked.answer.read

plain_leaves : (text : List ℕ) (old new : Ends) → old.unread ≡ Some text → IsGreetedPlainly old new
    → 10 ≤ length text
plain_leaves text old new is greeted =
    let away = begin_by old.unread greeted.silent text greeted.read_away.0 is greeted.read_away.1 in
    let last = begin_by greeted.silent new.unread away.rest (greeting ++ line_end) away.is greeted.answer in
    omega (
      arith,
      ap length away.are,
      length-append greeted.read_away.0 away.rest,
      ap length last.are,
      length-append (greeting ++ line_end) last.rest,
    )

-- what an interface says that does not know version 3 takes 16 bytes, and more in version 2
before_long : (number : ℕ) (text : List ℕ) (old new : Ends) → old.unread ≡ Some text → IsGreetedAsBefore number old new
    → 16 ≤ length text
before_long number text old new is (inl knows) =
    let left = asked_leaves 2 number (numbered_answer 2 number) text old new is knows in let least = left.long in
    omega (arith, least, answer_long 2 number)
before_long number text old new is (inr refuses) =
    let left = asked_leaves 2 number fault_line text old refuses.refused is refuses.refusal in
    let least = left.long in
    let plain = plain_leaves left.rest refuses.refused new left.is refuses.after in omega (arith, least, plain)

refused_long : (number : ℕ) (text : List ℕ) (old new : Ends) → old.unread ≡ Some text
    → Refuses 3 number (IsGreetedAsBefore number) old new → 22 ≤ length text
refused_long number text old new is refuses =
    let left = asked_leaves 3 number fault_line text old refuses.refused is refuses.refusal in
    let least = left.long in
    let before = before_long number left.rest refuses.refused new left.is refuses.after in omega (arith, least, before)

too_short : (text : List ℕ) (old : Ends) (new : GreetedLine) → old.unread ≡ Some text → length text < 16
    → ¬ IsGreeted 7 old new
too_short text old new is short (inl greeted) =
    let left = asked_leaves 3 7 (numbered_answer 3 7) text old (ends_of new) is greeted.1 in let least = left.long in
    omega (arith, least, short, answer_long 3 7)
too_short text old new is short (inr greeted) =
    let long = refused_long 7 text old (ends_of new) is greeted.1 in omega (arith, long, short)

pub no_greeting : {E : Type 0} (given : Result GreetedLine E) (old : Ends) (text : List ℕ) → old.unread ≡ Some text
    → length text < 16 → IfOk given (λ greeted. IsGreeted 7 old greeted) → is_ok given ≡ false
no_greeting (Err fault) old text is short greeted = refl
no_greeting (Ok new) old text is short greeted = absurd (too_short text old new is short greeted)

-- a text that has no room for a refusal and another greeting is one of version 3
pub announces_alone : (text : List ℕ) (old : Ends) (new : GreetedLine) → old.unread ≡ Some text → length text < 22
    → IsGreeted 7 old new → new.announces ≡ true
announces_alone text old new is short (inl greeted) = greeted.0
announces_alone text old new is short (inr greeted) =
    let long = refused_long 7 text old (ends_of new) is greeted.1 in absurd (omega (arith, long, short))

-- ---- the answer to the greeting 9

-- no refusal in it has room for a greeting behind
no_refusal : (before rest : List ℕ) → codes "gushewa 3 hears 9\n" ≡ (before ++ (fault_line ++ line_end)) ++ rest
    → length rest < 10
no_refusal [] rest are =
    let same : 103 ≡ 102 = ap (λ (bytes : List ℕ). slice_index_or bytes 0 0) are in absurd (omega (arith, same))
no_refusal (a ∷ []) rest are =
    let same : 117 ≡ 102 = ap (λ (bytes : List ℕ). slice_index_or bytes 1 0) are in absurd (omega (arith, same))
no_refusal (a ∷ b ∷ []) rest are =
    let same : 115 ≡ 102 = ap (λ (bytes : List ℕ). slice_index_or bytes 2 0) are in absurd (omega (arith, same))
no_refusal (a ∷ b ∷ c ∷ more) rest are =
    omega (
      arith,
      ap length are,
      length-append (more ++ (fault_line ++ line_end)) rest,
      length-append more (fault_line ++ line_end),
    )

-- it does not let the line be greeted by 10, to which the answer is longer
too_late : (old : Ends) (new : GreetedLine) → old.unread ≡ Some (codes "gushewa 3 hears 9\n") → ¬ IsGreeted 10 old new
too_late old new is (inl greeted) =
    let text = codes "gushewa 3 hears 9\n" in
    let left = asked_leaves 3 10 (numbered_answer 3 10) text old (ends_of new) is greeted.1 in
    let least = left.long in omega (arith, least, answer_long 3 10, one_digit.1, two_digits)
too_late old new is (inr greeted) =
    let text = codes "gushewa 3 hears 9\n" in
    let refusal = greeted.1.refusal.answer in
    let bytes = ended refusal.passed ++ (fault_line ++ line_end) in
    let first = begin_by old.unread greeted.1.refused.unread text bytes is refusal.read in
    let few = no_refusal (ended refusal.passed) first.rest first.are in
    let long = before_long 10 first.rest greeted.1.refused (ends_of new) first.is greeted.1.after in
    omega (arith, few, long)

pub no_late_greeting : {E : Type 0} (given : Result GreetedLine E) (old : Ends)
    → old.unread ≡ Some (codes "gushewa 3 hears 9\n") → IfOk given (λ greeted. IsGreeted 10 old greeted)
    → is_ok given ≡ false
no_late_greeting (Err fault) old is greeted = refl
no_late_greeting (Ok new) old is greeted = absurd (too_late old new is greeted)

-- ---- a greeting in version 1

-- what is said where the interface knows no numbered greeting
abbrev pub plain_greetings : List ℕ
plain_greetings =
    (numbered_greeting 3 7 ++ line_end) ++ ((numbered_greeting 2 7 ++ line_end) ++ (greeting ++ line_end))

-- a text that is shorter than a refusal and the answer of version 2 lets the line be greeted in version 3 or 1 alone
pub said_plainly : (text : List ℕ) (old : Ends) (new : GreetedLine) → old.unread ≡ Some text → length text < 23
    → IsGreeted 7 old new → new.announces ≡ false → Appends old.written new.written plain_greetings
said_plainly text old new is short (inl greeted) silent = absurd (cc)
said_plainly text old new is short (inr greeted) silent =
    let refuses = greeted.1 in
    let left = asked_leaves 3 7 fault_line text old refuses.refused is refuses.refusal in let least = left.long in
    Appends-trans old.written refuses.refused.written new.written (numbered_greeting 3 7 ++ line_end)
    ((numbered_greeting 2 7 ++ line_end) ++ (greeting ++ line_end)) refuses.refusal.request
    (then_plainly left.rest refuses.refused (ends_of new) left.is (omega (arith, least, short)) refuses.after)
  where
    then_plainly : (text : List ℕ) (old new : Ends) → old.unread ≡ Some text → length text < 17
        → IsGreetedAsBefore 7 old new
        → Appends old.written new.written ((numbered_greeting 2 7 ++ line_end) ++ (greeting ++ line_end))
    then_plainly text old new is short (inl knows) =
        let left = asked_leaves 2 7 (numbered_answer 2 7) text old new is knows in let least = left.long in
        absurd (omega (arith, least, short, answer_long 2 7, one_digit.0))
    then_plainly text old new is short (inr plain) =
        Appends-trans old.written plain.refused.written new.written (numbered_greeting 2 7 ++ line_end)
        (greeting ++ line_end) plain.refusal.request plain.after.request
