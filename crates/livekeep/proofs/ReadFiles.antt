-- A file of kept values is read as one thing at most, whatever is made of its lines.
use Rattle.std.proofs.Common.{◌≡◌, ◌≢◌, ℕ, List, [], ◌∷◌, ◌++◌, Some, length, Result, Ok, Err, refl, ap, sym}
use Rattle.std.proofs.Common.{subst, ◌∙◌, arith}
use Rattle.std.specs.Prelude.{Bool, false, IfErr, IfOk, ◌==◌, Option, None, IsTrue, ◌↔◌, ⊤}
use Rattle.std.specs.Str.Lines.{lines}
use Rattle.wordlines.proofs.LineReading as reading
use Rattle.wordlines.specs.LineFiles.{AreBadAt, IsReport, IsTooLong, KeepSome, LeadTo}
use Rattle.wordlines.specs.declared.fault.LineCause.TheVariants.{BadLine, TooLong}
use Rattle.wordlines.specs.declared.fault.LineFault.{LineFault}
use Rattle.wordlines.specs.declared.fault.LineFault.TheVariants as faults
use Rattle.livekeep.specs.KeptFiles.{IsKeptFile, IsSealed, KeptState, SoFar, kept_rules, last_stage, nothing}
use Rattle.livekeep.specs.KeptFiles.{IsSummed, state_of, sum_line, whole}
use Rattle.livekeep.specs.CheckSums.{sum_of}
use Rattle.std.proofs.lemmas.Bool.Decides.{Decides-eqb}
use Rattle.std.proofs.lemmas.List.{append_cancel_right}
use Rattle.livekeep.specs.Faults.{AreTorn, IsEnded, IsJudged, IsKeptFaultOrMemory, IsReadAs, of_line}
use Rattle.livekeep.specs.declared.fault.KeptFault.{KeptFault}
use Rattle.livekeep.specs.declared.fault.KeptFault.TheVariants.{Memory, Empty, Torn}
use Rattle.livekeep.specs.declared.kept_at.KeptAt.{KeptAt}
use Rattle.livekeep.specs.declared.stage.Stage.TheVariants as stages

-- ---- one answer

-- a line says one thing
says_one : reading.SayOne kept_rules
says_one words e f s t = let same : Some e ≡ Some f = sym s ∙ t in cc

led_one : (bytes : List ℕ) (a b : SoFar) → LeadTo kept_rules nothing bytes a → LeadTo kept_rules nothing bytes b
    → a ≡ b
led_one bytes a b f g = reading.led_one kept_rules says_one nothing bytes a b f g

-- no whole file ends before its first line
some_stage : (at : Option KeptAt) → last_stage at ≡ stages.Nothing → ⊥
some_stage None stage = cc
some_stage (Some at) stage = cc

not_at_once : (kept : KeptState) (sum : ℕ) → whole kept sum ≡ nothing → ⊥
not_at_once kept sum same = some_stage kept.at (ap (λ (s : SoFar). s.stage) same)

-- no bytes are no file
none_of_empty : (bytes : List ℕ) (kept : KeptState) → bytes ≡ [] → ¬ IsKeptFile bytes kept
none_of_empty bytes kept none file =
    let led = subst (λ (b : List ℕ). LeadTo kept_rules nothing b (whole kept file.sum)) none file.lines in
    not_at_once kept file.sum led.lead

-- files of the same bytes are of the same values
same_file : (bytes : List ℕ) (a b : KeptState) → IsKeptFile bytes a → IsKeptFile bytes b → a ≡ b
same_file bytes a b f g =
    ap (λ (s : SoFar). state_of s.at s.values) (led_one bytes (whole a f.sum) (whole b g.sum) f.lines g.lines)

pub read_as_one : (bytes : List ℕ) (a b : Result KeptState KeptFault) → IsReadAs bytes a → IsReadAs bytes b → a ≡ b
read_as_one bytes (Ok v) (Ok w) f g = ap Ok (same_file bytes v w f g)
read_as_one bytes (Ok v) (Err Memory) f g = absurd g
read_as_one bytes (Ok v) (Err Empty) f g = absurd (none_of_empty bytes v g f)
read_as_one bytes (Ok v) (Err Torn) f g = absurd (g.none v f)
read_as_one bytes (Err Memory) b f g = absurd f
read_as_one bytes (Err Empty) (Ok w) f g = absurd (none_of_empty bytes w f g)
read_as_one bytes (Err Empty) (Err Memory) f g = absurd g
read_as_one bytes (Err Empty) (Err Empty) f g = refl
read_as_one bytes (Err Empty) (Err Torn) f g = absurd (g.some f)
read_as_one bytes (Err Torn) (Ok w) f g = absurd (f.none w g)
read_as_one bytes (Err Torn) (Err Memory) f g = absurd g
read_as_one bytes (Err Torn) (Err Empty) f g = absurd (f.some g)
read_as_one bytes (Err Torn) (Err Torn) f g = refl

-- ---- what is made of lines

-- a file whose lines were read to the end is what it is judged to be
pub file_of : (bytes : List ℕ) (read : SoFar) (kept : KeptState) → LeadTo kept_rules nothing bytes read
    → (read ≡ whole kept read.sum) × IsSealed kept.at bytes read.sum → IsKeptFile bytes kept
file_of bytes read kept led judged =
    record {
      sum = read.sum;
      lines = subst (λ (s : SoFar). LeadTo kept_rules nothing bytes s) judged.0 led;
      sealed = judged.1;
    }

-- a file has been read to its end
ended_of : (bytes : List ℕ) (kept : KeptState) (sum : ℕ) (read : SoFar) → read ≡ whole kept sum
    → IsSealed kept.at bytes sum → IsEnded bytes read
ended_of bytes kept sum read same sealed =
    subst (λ (s : SoFar). IsEnded bytes s) (sym same) (record { stage = refl; sealed = sealed })

torn_if : (bytes : List ℕ) (read : SoFar) → LeadTo kept_rules nothing bytes read → ¬ IsEnded bytes read
    → (kept : KeptState) → ¬ IsKeptFile bytes kept
torn_if bytes read led early kept file =
    early (ended_of bytes kept file.sum read (led_one bytes read (whole kept file.sum) led file.lines) file.sealed)

judged_fault : (bytes : List ℕ) (read : SoFar) (fault : KeptFault) → bytes ≢ []
    → LeadTo kept_rules nothing bytes read → IsJudged bytes read (Err fault) → IsKeptFaultOrMemory bytes fault
judged_fault bytes read Memory some led judged = tt
judged_fault bytes read Empty some led judged = absurd judged
judged_fault bytes read Torn some led judged = record { some = some; none = torn_if bytes read led judged }

-- a bad line, and too many bytes, are those of a torn file
torn_at : (bytes : List ℕ) (line : ℕ) → bytes ≢ [] → AreBadAt kept_rules nothing bytes line → AreTorn bytes
torn_at bytes line some bad =
    record {
      some = some;
      none = λ kept file.
          reading.led_not_bad kept_rules says_one nothing bytes line (whole kept file.sum) bad file.lines;
    }

torn_long : (bytes : List ℕ) (line : ℕ) → bytes ≢ [] → IsTooLong bytes line → AreTorn bytes
torn_long bytes line some long =
    record { some = some; none = λ kept file. omega (arith, long.long, file.lines.short) }

pub judged_result : (bytes : List ℕ) (read : SoFar) (r : Result KeptState KeptFault) → bytes ≢ []
    → LeadTo kept_rules nothing bytes read → IsJudged bytes read r → IfErr r (IsKeptFaultOrMemory bytes)
judged_result bytes read (Ok kept) some led judged = tt
judged_result bytes read (Err fault) some led judged = judged_fault bytes read fault some led judged

pub judged_file : (bytes : List ℕ) (read : SoFar) (r : Result KeptState KeptFault)
    → LeadTo kept_rules nothing bytes read → IsJudged bytes read r → IfOk r (IsKeptFile bytes)
judged_file bytes read (Ok kept) led judged = file_of bytes read kept led judged
judged_file bytes read (Err fault) led judged = tt

reported : {Of : Type 0} (bytes : List ℕ) (fault : LineFault Of) → bytes ≢ []
    → IsReport {Value = SoFar} (LeadTo kept_rules nothing bytes) (AreBadAt kept_rules nothing bytes)
    (KeepSome kept_rules nothing (λ _. ⊤) (lines bytes)) bytes (Err fault)
    → IsKeptFaultOrMemory bytes (of_line fault)
reported bytes faults.Memory some report = tt
reported bytes (faults.At line BadLine) some report = torn_at bytes line some report
reported bytes (faults.At line TooLong) some report = torn_long bytes line some report

pub line_fault : {Of : Type 0} (bytes : List ℕ) (r : Result SoFar (LineFault Of)) (fault : LineFault Of)
    → bytes ≢ [] → r ≡ Err fault
    → IsReport (LeadTo kept_rules nothing bytes) (AreBadAt kept_rules nothing bytes)
    (KeepSome kept_rules nothing (λ _. ⊤) (lines bytes)) bytes r
    → IsKeptFaultOrMemory bytes (of_line fault)
line_fault {Of} bytes r fault some is report =
    reported bytes fault some (subst (λ (s : Result SoFar (LineFault Of)).
    IsReport (LeadTo kept_rules nothing bytes) (AreBadAt kept_rules nothing bytes)
    (KeepSome kept_rules nothing (λ _. ⊤) (lines bytes)) bytes s) is report)

-- there are bytes where a test says so
pub some_if : (bytes : List ℕ) (empty : Bool) → empty ≡ (length bytes == 0) → empty ≡ false → bytes ≢ []
some_if [] empty tested known none = absurd (cc)
some_if (x ∷ bytes) empty tested known none = absurd (cc)

-- ---- the end of a file

pub whole_of : (bytes : List ℕ) (read : SoFar) → IsEnded bytes read
    → IsJudged bytes read (Ok (state_of read.at read.values))
whole_of bytes read e =
    (λ i. record { stage = e.stage i; at = read.at; values = read.values; sum = read.sum }, e.sealed)

-- a file of version 1 ends with the number of its values
pub ended_old : (bytes : List ℕ) (read : SoFar) (test : Bool) → read.at ≡ None
    → IsTrue test ↔ (read.stage ≡ stages.End) → IsTrue test ↔ IsEnded bytes read
ended_old bytes read test none tested = (
  λ t. record {
    stage = tested.0 t ∙ sym (ap last_stage none);
    sealed = subst (λ (a : Option KeptAt). IsSealed a bytes read.sum) (sym none) tt;
  },
  λ e. tested.1 (e.stage ∙ ap last_stage none),
)

-- one of version 2 with its check sum
ended_new : (bytes : List ℕ) (read : SoFar) (at : KeptAt) (test : Bool) → read.at ≡ Some at
    → read.stage ≡ stages.Sum → IsTrue test ↔ IsSummed bytes read.sum → IsTrue test ↔ IsEnded bytes read
ended_new bytes read at test some stage tested = (
  λ t. record {
    stage = stage ∙ sym (ap last_stage some);
    sealed = subst (λ (a : Option KeptAt). IsSealed a bytes read.sum) (sym some) (tested.0 t);
  },
  λ e. tested.1 (subst (λ (a : Option KeptAt). IsSealed a bytes read.sum) some e.sealed),
)

-- as it is answered
pub ended_result : {E : Type 0} (bytes : List ℕ) (read : SoFar) (at : KeptAt) (r : Result Bool E) → read.at ≡ Some at
    → read.stage ≡ stages.Sum → IfOk r (λ summed. IsTrue summed ↔ IsSummed bytes read.sum)
    → IfOk r (λ ended. IsTrue ended ↔ IsEnded bytes read)
ended_result bytes read at (Ok test) some stage summed = ended_new bytes read at test some stage summed
ended_result bytes read at (Err fault) some stage summed = tt

pub ended_early : (bytes : List ℕ) (read : SoFar) (at : KeptAt) (test : Bool) → read.at ≡ Some at
    → IsTrue test ↔ (read.stage ≡ stages.Sum) → test ≡ false → IsTrue false ↔ IsEnded bytes read
ended_early bytes read at test some tested early = (
  λ wrong. cc,
  λ e. let wrong : IsTrue test = tested.1 (e.stage ∙ ap last_stage some) in cc,
)

-- ---- check sums

-- no bytes before the line of the check sum
pub none_summed : (bytes line : List ℕ) (sum : ℕ) → line ≡ sum_line sum → ((body : List ℕ) → bytes ≢ body ++ line)
    → IsTrue false ↔ IsSummed bytes sum
none_summed bytes line sum is none = (
  λ wrong. cc,
  λ summed. absurd (none summed.body (summed.are ∙ ap (λ (l : List ℕ). summed.body ++ l) (sym is))),
)

-- these bytes before it
pub body_summed : (bytes line body : List ℕ) (sum total : ℕ) → line ≡ sum_line sum → bytes ≡ body ++ line
    → total ≡ sum_of body → IsTrue (total == sum) ↔ IsSummed bytes sum
body_summed bytes line body sum total is are own = (
  λ same. record {
    body = body;
    are = are ∙ ap (λ (l : List ℕ). body ++ l) is;
    is = sym ((Decides-eqb total sum).0 same) ∙ own;
  },
  λ summed.
      let both : body ++ sum_line sum ≡ summed.body ++ sum_line sum =
      sym (are ∙ ap (λ (l : List ℕ). body ++ l) is) ∙ summed.are in
      let one : body ≡ summed.body = append_cancel_right body summed.body (sum_line sum) both in
      (Decides-eqb total sum).1 (own ∙ (ap sum_of one ∙ sym summed.is)),
)
