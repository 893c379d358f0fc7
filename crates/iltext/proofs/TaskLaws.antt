-- The items of tasks and of program instances are lawful.
use Rattle.std.proofs.Common.{◌≡◌, ◌||◌, ℕ, ℤ, Bool, true, false, List, Option, refl}
use Rattle.std.proofs.lemmas.Bool.{false≢true}
use Rattle.iltokens.specs.Items.{lead, opt}
use Rattle.iltokens.proofs.Laws.{Lawful}
use Rattle.iltokens.proofs.Firm.{Firm, Firm-one, Firm-map, Firm-seq, Firm-lead, from_opt, from_many}
use Rattle.ilsource.specs.declared.configuration.InstanceDeclaration.{InstanceDeclaration}
use Rattle.ilsource.specs.declared.configuration.TaskDeclaration.{TaskDeclaration}
use Rattle.ilsource.specs.declared.name.Name.{Name}
use Rattle.iltokens.specs.declared.keyword.Keyword.TheVariants as words
use Rattle.iltokens.specs.declared.lexed.Delimiter.TheVariants as delimiters
use Rattle.iltokens.specs.declared.lexed.What.TheVariants as whats
use Rattle.iltext.specs.declared.token.TokenKind.{TokenKind}
use Rattle.iltext.specs.declared.token.TokenKind.TheVariants as kinds
use Rattle.iltext.specs.declared.token.Token.{Token}
use Rattle.iltext.specs.Terminals.{word, delimiter}
use Rattle.iltext.proofs.Delimiters.{Anything, token_of, Firm-word, Firm-delimiter, apart_word, apart_delimiter}
use Rattle.iltext.proofs.Ends.{NoEnd, Firm-name, Firm-number, Firm-spaced, word_no_end, delimiter_no_end}
use Rattle.iltext.proofs.Ends.{name_no_end, number_no_end}
use Rattle.iltext.specs.Tasks.{duration, single, interval, priority, inputs, task, tasks}
use Rattle.iltext.specs.Tasks.{with_task, program_instance, program_instances}
use Rattle.iltext.proofs.Apart.{no_word, no_end}

-- ---- tasks

Firm-duration : Firm Token ℕ duration Anything
unfolding duration
Firm-duration = Firm-one _ (token_of (kinds.Good (whats.Time 0)) 0 0) 0 refl

duration_no_end : (k : TokenKind) (f g : ℕ) → duration.starts (token_of k f g) ≡ true → NoEnd (token_of k f g)
unfolding duration delimiter
duration_no_end (kinds.Good (whats.Delimiter m)) f g e = absurd (false≢true e)
duration_no_end _ f g e = refl

Firm-single : Firm Token Name single NoEnd
unfolding single
Firm-single = Firm-map _ (Firm-seq (Firm-spaced (Firm-word words.Single))
    (λ t e. delimiter_no_end delimiters.Assign refl t e)
    (Firm-seq (Firm-spaced (Firm-delimiter delimiters.Assign)) (λ t e. name_no_end t.kind t.from t.to e)
    (Firm-seq (Firm-spaced Firm-name) (λ t e. delimiter_no_end delimiters.Comma refl t e)
    (Firm-spaced (Firm-delimiter delimiters.Comma)))))

Firm-interval : Firm Token ℕ interval NoEnd
unfolding interval
Firm-interval = Firm-map _ (Firm-seq (Firm-spaced (Firm-word words.Interval))
    (λ t e. delimiter_no_end delimiters.Assign refl t e)
    (Firm-seq (Firm-spaced (Firm-delimiter delimiters.Assign)) (λ t e. duration_no_end t.kind t.from t.to e)
    (Firm-seq (Firm-spaced Firm-duration) (λ t e. delimiter_no_end delimiters.Comma refl t e)
    (Firm-spaced (Firm-delimiter delimiters.Comma)))))

Firm-priority : Firm Token ℤ priority NoEnd
unfolding priority
Firm-priority = Firm-map _ (Firm-seq (Firm-spaced (Firm-word words.Priority))
    (λ t e. delimiter_no_end delimiters.Assign refl t e)
    (Firm-seq (Firm-spaced (Firm-delimiter delimiters.Assign)) (λ t e. number_no_end t.kind t.from t.to e)
    (Firm-spaced Firm-number)))

priority_apart : (t : Token) → (word words.Priority).starts t ≡ true → NoEnd t × (interval.starts t ≡ false)
unfolding interval word
priority_apart t e = (
  word_no_end words.Priority t e,
  apart_word words.Priority (word words.Interval).starts (λ f g. refl) t.kind t.from t.to e,
)

interval_apart : (k : TokenKind) (f g : ℕ) → (lead (opt interval) priority).starts (token_of k f g) ≡ true
    → NoEnd (token_of k f g) × (single.starts (token_of k f g) ≡ false)
unfolding single interval priority word delimiter
interval_apart k f g e = (
  no_end (lead (opt interval) priority).starts (λ f g. refl) k f g e,
  no_word words.Single (lead (opt interval) priority).starts (λ f g. refl) k f g e,
)

Firm-inputs : Firm Token (Option Name × (Option ℕ × ℤ)) inputs NoEnd
unfolding inputs priority
Firm-inputs = Firm-lead {b = lead (opt interval) priority} (from_opt Firm-single)
    (λ t e. interval_apart t.kind t.from t.to e)
    (Firm-lead (from_opt Firm-interval) (λ t e. priority_apart t e) Firm-priority)

inputs_no_end : (k : TokenKind) (f g : ℕ) → inputs.starts (token_of k f g) ≡ true → NoEnd (token_of k f g)
unfolding inputs single interval priority word delimiter
inputs_no_end (kinds.Good (whats.Delimiter m)) f g e = absurd (false≢true e)
inputs_no_end _ f g e = refl

pub Firm-task : Firm Token TaskDeclaration task NoEnd
unfolding task
Firm-task = Firm-map _ (Firm-seq (Firm-spaced (Firm-word words.Task)) (λ t e. name_no_end t.kind t.from t.to e)
    (Firm-seq (Firm-spaced Firm-name) (λ t e. delimiter_no_end delimiters.Open refl t e)
    (Firm-seq (Firm-spaced (Firm-delimiter delimiters.Open)) (λ t e. inputs_no_end t.kind t.from t.to e)
    (Firm-seq Firm-inputs (λ t e. delimiter_no_end delimiters.Close refl t e)
    (Firm-seq (Firm-spaced (Firm-delimiter delimiters.Close)) (λ t e. delimiter_no_end delimiters.Semicolon refl t e)
    (Firm-spaced (Firm-delimiter delimiters.Semicolon)))))))

abbrev pub NoTask : Token → Type 0
NoTask t = task.starts t ≡ false

pub Lawful-tasks : Lawful Token (List TaskDeclaration) tasks (λ t. NoEnd t × NoTask t)
unfolding tasks task
Lawful-tasks = from_many (λ t e. word_no_end words.Task t e) Firm-task

-- ---- program instances

Firm-with_task : Firm Token Name with_task NoEnd
unfolding with_task
Firm-with_task = Firm-map _ (Firm-seq (Firm-spaced (Firm-word words.With))
    (λ t e. name_no_end t.kind t.from t.to e) (Firm-spaced Firm-name))

colon_apart : (t : Token) → (delimiter delimiters.Colon).starts t ≡ true → NoEnd t × (with_task.starts t ≡ false)
unfolding with_task word delimiter
colon_apart t e = (
  delimiter_no_end delimiters.Colon refl t e,
  apart_delimiter delimiters.Colon (word words.With).starts (λ f g. refl) t.kind t.from t.to e,
)

abbrev of_task : Token → Bool
of_task t = with_task.starts t || (delimiter delimiters.Colon).starts t

of_task_no_end : (k : TokenKind) (f g : ℕ) → of_task (token_of k f g) ≡ true → NoEnd (token_of k f g)
unfolding with_task word delimiter
of_task_no_end (kinds.Good (whats.Delimiter delimiters.LineEnd)) f g e = absurd (false≢true e)
of_task_no_end _ f g e = refl

pub Firm-program_instance : Firm Token InstanceDeclaration program_instance NoEnd
unfolding program_instance
Firm-program_instance = Firm-map _ (Firm-seq (Firm-spaced (Firm-word words.Program))
    (λ t e. name_no_end t.kind t.from t.to e)
    (Firm-seq (Firm-spaced Firm-name) (λ t e. of_task_no_end t.kind t.from t.to e)
    (Firm-lead (from_opt Firm-with_task) (λ t e. colon_apart t e)
    (Firm-seq (Firm-spaced (Firm-delimiter delimiters.Colon)) (λ t e. name_no_end t.kind t.from t.to e)
    (Firm-seq (Firm-spaced Firm-name) (λ t e. delimiter_no_end delimiters.Semicolon refl t e)
    (Firm-spaced (Firm-delimiter delimiters.Semicolon)))))))

abbrev pub NoInstance : Token → Type 0
NoInstance t = program_instance.starts t ≡ false

pub Lawful-program_instances : Lawful Token (List InstanceDeclaration) program_instances (λ t. NoEnd t × NoInstance t)
unfolding program_instances program_instance
Lawful-program_instances = from_many (λ t e. word_no_end words.Program t e) Firm-program_instance
