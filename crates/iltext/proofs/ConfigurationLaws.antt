-- The items of configurations are lawful.
use Rattle.std.proofs.Common.{◌≡◌, ℕ, Bool, true, false, List, refl}
use Rattle.iltokens.specs.Items.{lead}
use Rattle.iltokens.proofs.Laws.{Lawful, Lawful-lead_open}
use Rattle.iltokens.proofs.Firm.{Firm, Firm-map, Firm-seq, Firm-lead, Firm-alt, Firm-fewer}
use Rattle.ilsource.specs.Configurations.{Configured}
use Rattle.ilsource.specs.declared.configuration.InstanceDeclaration.{InstanceDeclaration}
use Rattle.ilsource.specs.declared.configuration.TaskDeclaration.{TaskDeclaration}
use Rattle.iltokens.specs.declared.keyword.Keyword.{Keyword}
use Rattle.iltokens.specs.declared.keyword.Keyword.TheVariants as words
use Rattle.iltokens.specs.declared.lexed.What.TheVariants as whats
use Rattle.iltext.specs.declared.token.TokenKind.{TokenKind}
use Rattle.iltext.specs.declared.token.TokenKind.TheVariants as kinds
use Rattle.iltext.specs.declared.token.Token.{Token}
use Rattle.iltext.specs.Terminals.{Seen, word, delimiter, spaced}
use Rattle.iltext.proofs.Delimiters.{token_of, Firm-word, apart_word}
use Rattle.iltext.proofs.Ends.{NoEnd, Firm-name, Firm-spaced, word_no_end, name_no_end}
use Rattle.iltext.specs.Configurations.{body, resource_head, resource, end, contents, configuration}
use Rattle.iltext.specs.Globals.{global_blocks, var_global}
use Rattle.iltext.specs.Tasks.{tasks, task, program_instances, program_instance}
use Rattle.iltext.proofs.Apart.{no_word, no_end}
use Rattle.iltext.proofs.GlobalLaws.{NoGlobal, Lawful-global_blocks}
use Rattle.iltext.proofs.TaskLaws.{NoTask, Lawful-tasks, NoInstance, Lawful-program_instances}

-- ---- tasks and program instances

instance_apart : (t : Token) → (word words.Program).starts t ≡ true → NoEnd t × NoTask t
unfolding task word
instance_apart t e = (
  word_no_end words.Program t e,
  apart_word words.Program (word words.Task).starts (λ f g. refl) t.kind t.from t.to e,
)

abbrev NoBody : Token → Type 0
NoBody t = (NoEnd t × NoTask t) × (NoEnd t × NoInstance t)

Lawful-body : Lawful Token (List TaskDeclaration × List InstanceDeclaration) body NoBody
unfolding body program_instances program_instance
Lawful-body = Lawful-lead_open _ _ _ _ _ _ _ Lawful-tasks Lawful-program_instances (λ t e. instance_apart t e)

-- the words that end a resource and a configuration begin nothing of its body
abbrev IsApart : (Token → Bool) → Keyword → Type 0
IsApart begins w = (f g : ℕ) → begins (token_of (kinds.Good (whats.Keyword w)) f g) ≡ false

word_apart : (w : Keyword) → IsApart task.starts w → IsApart program_instance.starts w → (t : Token)
    → (word w).starts t ≡ true → NoBody t
word_apart w no_task no_instance t e = (
  (word_no_end w t e, apart_word w task.starts no_task t.kind t.from t.to e),
  (word_no_end w t e, apart_word w program_instance.starts no_instance t.kind t.from t.to e),
)

end_resource_apart : (t : Token) → (word words.EndResource).starts t ≡ true → NoBody t
unfolding task program_instance word
end_resource_apart t e = word_apart words.EndResource (λ f g. refl) (λ f g. refl) t e

end_apart : (t : Token) → (word words.EndConfiguration).starts t ≡ true → NoBody t
unfolding task program_instance word
end_apart t e = word_apart words.EndConfiguration (λ f g. refl) (λ f g. refl) t e

-- ---- a resource

Firm-resource_head : Firm Token Seen resource_head NoEnd
unfolding resource_head
Firm-resource_head = Firm-map _ (Firm-seq (Firm-spaced (Firm-word words.Resource))
    (λ t e. name_no_end t.kind t.from t.to e)
    (Firm-seq (Firm-spaced Firm-name) (λ t e. word_no_end words.On t e)
    (Firm-seq (Firm-spaced (Firm-word words.On)) (λ t e. name_no_end t.kind t.from t.to e) (Firm-spaced Firm-name))))

Firm-inside : Firm Token ((List TaskDeclaration × List InstanceDeclaration) × Seen)
    (lead body (spaced (word words.EndResource))) NoEnd
unfolding body
Firm-inside = Firm-lead Lawful-body (λ t e. end_resource_apart t e) (Firm-spaced (Firm-word words.EndResource))

inside_apart : (k : TokenKind) (f g : ℕ) → (lead body (spaced (word words.EndResource))).starts (token_of k f g) ≡ true
    → NoEnd (token_of k f g) × NoGlobal (token_of k f g)
unfolding body tasks task program_instances program_instance var_global word delimiter
inside_apart k f g e = (
  no_end (lead body (spaced (word words.EndResource))).starts (λ f g. refl) k f g e,
  no_word words.VarGlobal (lead body (spaced (word words.EndResource))).starts (λ f g. refl) k f g e,
)

abbrev begins_globals : Token → Bool
begins_globals t = (lead global_blocks (lead body (spaced (word words.EndResource)))).starts t

globals_no_end : (k : TokenKind) (f g : ℕ) → begins_globals (token_of k f g) ≡ true → NoEnd (token_of k f g)
unfolding global_blocks body tasks task program_instances program_instance var_global word delimiter
globals_no_end k f g e = no_end begins_globals (λ f g. refl) k f g e

Firm-resource : Firm Token Configured resource NoEnd
unfolding resource
Firm-resource = Firm-map _ (Firm-seq {b = lead global_blocks (lead body (spaced (word words.EndResource)))}
    Firm-resource_head (λ t e. globals_no_end t.kind t.from t.to e)
    (Firm-lead {b = lead body (spaced (word words.EndResource))} Lawful-global_blocks
    (λ t e. inside_apart t.kind t.from t.to e) Firm-inside))

-- ---- a configuration

Firm-end : Firm Token Seen end NoEnd
unfolding end
Firm-end = Firm-spaced (Firm-word words.EndConfiguration)

body_apart : (k : TokenKind) (f g : ℕ) → (lead body end).starts (token_of k f g) ≡ true
    → resource.starts (token_of k f g) ≡ false
unfolding end body tasks task program_instances program_instance resource resource_head word
body_apart k f g e = no_word words.Resource (lead body end).starts (λ f g. refl) k f g e

Firm-contents : Firm Token Configured contents NoEnd
unfolding contents body end
Firm-contents = Firm-fewer NoEnd (λ t e. (e, e))
    (Firm-alt (Firm-map _ (Firm-seq Firm-resource (λ t e. word_no_end words.EndConfiguration t e) Firm-end))
    (λ t e. body_apart t.kind t.from t.to e)
    (Firm-map _ (Firm-lead Lawful-body (λ t e. end_apart t e) Firm-end)))

contents_apart : (k : TokenKind) (f g : ℕ) → contents.starts (token_of k f g) ≡ true
    → NoEnd (token_of k f g) × NoGlobal (token_of k f g)
unfolding contents end body tasks task program_instances program_instance resource resource_head var_global word
    delimiter
contents_apart k f g e = (
  no_end contents.starts (λ f g. refl) k f g e,
  no_word words.VarGlobal contents.starts (λ f g. refl) k f g e,
)

contents_no_end : (k : TokenKind) (f g : ℕ) → (lead global_blocks contents).starts (token_of k f g) ≡ true
    → NoEnd (token_of k f g)
unfolding global_blocks var_global word delimiter
contents_no_end k f g e = go (var_global.starts (token_of k f g)) refl
  where
    go : (b : Bool) → var_global.starts (token_of k f g) ≡ b → NoEnd (token_of k f g)
    go true is = word_no_end words.VarGlobal (token_of k f g) is
    go false is = (contents_apart k f g (rw is at e)).0

pub Firm-configuration : Firm Token Configured configuration NoEnd
unfolding configuration
Firm-configuration = Firm-map _ (Firm-seq (Firm-spaced (Firm-word words.Configuration))
    (λ t e. name_no_end t.kind t.from t.to e)
    (Firm-seq {b = lead global_blocks contents} (Firm-spaced Firm-name) (λ t e. contents_no_end t.kind t.from t.to e)
    (Firm-lead Lawful-global_blocks (λ t e. contents_apart t.kind t.from t.to e) Firm-contents)))
