-- Declarations and configurations have no operator that may be deferred.
use Rattle.std.proofs.Common.{◌≡◌, false, Some, refl}
use Rattle.iltokens.specs.declared.keyword.Keyword.{Keyword}
use Rattle.iltokens.specs.declared.keyword.Keyword.TheVariants as words
use Rattle.iltokens.specs.declared.lexed.Delimiter.TheVariants as delimiters
use Rattle.iltokens.specs.declared.lexed.What.TheVariants as whats
use Rattle.iltext.specs.declared.token.TokenKind.{TokenKind}
use Rattle.iltext.specs.declared.token.TokenKind.TheVariants as kinds
use Rattle.iltext.specs.declared.token.Token.{Token}
use Rattle.iltext.specs.Roles.{role_of_word}
use Rattle.iltext.specs.Terminals.{word, delimiter, name, spaced}
use Rattle.iltext.specs.Faults.{defers}
use Rattle.iltext.specs.Declarations.{integer_word, integer_at, integer, simple_word, simple_at, simple, interval}
use Rattle.iltext.specs.Declarations.{range}
use Rattle.iltext.specs.Declarations.{specification, initial, typing, type_declaration, next_name, more_names}
use Rattle.iltext.specs.Declarations.{names_after, names, block_of_word, block_at, block, instances, declared}
use Rattle.iltext.specs.Declarations.{declaration, declarations, vars, external, externals, var_external, variables}
use Rattle.iltext.specs.Globals.{address_at, address, located, unlocated, global_named, global, globals, var_global}
use Rattle.iltext.specs.Globals.{global_blocks}
use Rattle.iltext.specs.Tasks.{duration_at, duration, single, interval as interval_of_task, priority, inputs, task}
use Rattle.iltext.specs.Tasks.{tasks}
use Rattle.iltext.specs.Tasks.{with_task, program_instance, program_instances}
use Rattle.iltext.specs.Configurations.{body, resource_head, resource, end, contents, configuration}
use Rattle.iltext.proofs.Tokens.{Holds, Holds-one, Holds-map, Holds-seq, Holds-lead, Holds-select, Holds-alt}
use Rattle.iltext.proofs.Tokens.{Holds-opt}
use Rattle.iltext.proofs.Tokens.{Holds-many}
use Rattle.iltext.proofs.Free.{Free, Free-word, Free-delimiter, Free-name, Free-number, Free-constant, Free-spaced}

-- ---- single tokens and the line ends after them

pub spaced_word : (w : Keyword) → defers (kinds.Good (whats.Keyword w)) ≡ false → Holds Free (spaced (word w))
spaced_word w h = Free-spaced (Free-word w h)

pub spaced_delimiter : (m : _) → defers (kinds.Good (whats.Delimiter m)) ≡ false → Holds Free (spaced (delimiter m))
spaced_delimiter m h = Free-spaced (Free-delimiter m h)

pub spaced_name : Holds Free (spaced name)
spaced_name = Free-spaced Free-name

-- ---- types

free_integer_word : (w : Keyword) (x : _) → integer_word w ≡ Some x → defers (kinds.Good (whats.Keyword w)) ≡ false
unfolding role_of_word
free_integer_word words.Sint x e = refl
free_integer_word words.Int x e = refl
free_integer_word words.Dint x e = refl
free_integer_word words.Usint x e = refl
free_integer_word words.Uint x e = refl
free_integer_word words.Udint x e = refl
free_integer_word _ x e = absurd cc

free_integer : (k : TokenKind) (x : _) → integer_at k ≡ Some x → defers k ≡ false
free_integer (kinds.Good (whats.Keyword w)) x e = free_integer_word w x e
free_integer _ x e = absurd cc

Free-integer : Holds Free integer
unfolding integer
Free-integer = Holds-one Free _ (λ t x e. free_integer t.kind x e)

free_simple_word : (w : Keyword) (x : _) → simple_word w ≡ Some x → defers (kinds.Good (whats.Keyword w)) ≡ false
unfolding role_of_word
free_simple_word words.Bool x e = refl
free_simple_word words.Time x e = refl
free_simple_word _ x e = absurd cc

free_simple : (k : TokenKind) (t : Token) (x : _) → simple_at k t ≡ Some x → defers k ≡ false
free_simple (kinds.Good (whats.Keyword w)) t x e = free_simple_word w x e
free_simple (kinds.Good whats.Name) t x e = refl
free_simple _ t x e = absurd cc

Free-simple : Holds Free simple
unfolding simple
Free-simple = Holds-one Free _ (λ t x e. free_simple t.kind t x e)

Free-interval : Holds Free interval
unfolding interval
Free-interval =
    Holds-map Free _ (Holds-seq Free (spaced_delimiter delimiters.Open refl)
    (Holds-seq Free (Free-spaced Free-number) (Holds-seq Free (spaced_delimiter delimiters.Range refl)
    (Holds-seq Free (Free-spaced Free-number) (spaced_delimiter delimiters.Close refl)))))

Free-range : Holds Free range
unfolding range
Free-range = Holds-map Free _ (Holds-seq Free (Free-spaced Free-integer) (Holds-opt Free Free-interval))

pub Free-specification : Holds Free specification
unfolding specification
Free-specification = Holds-alt Free (Free-spaced Free-simple) Free-range

Free-initial : Holds Free initial
unfolding initial
Free-initial =
    Holds-opt Free (Holds-map Free _ (Holds-seq Free (spaced_delimiter delimiters.Assign refl)
    (Free-spaced Free-constant)))

Free-typing : Holds Free typing
unfolding typing
Free-typing =
    Holds-map Free _ (Holds-seq Free Free-specification
    (Holds-lead Free Free-initial (spaced_delimiter delimiters.Semicolon refl)))

pub Free-type_declaration : Holds Free type_declaration
unfolding type_declaration
Free-type_declaration =
    Holds-map Free _ (Holds-seq Free spaced_name (Holds-seq Free (spaced_delimiter delimiters.Colon refl) Free-typing))

-- ---- variables and block instances

Free-next_name : Holds Free next_name
unfolding next_name
Free-next_name = Holds-map Free _ (Holds-seq Free (spaced_delimiter delimiters.Comma refl) spaced_name)

Free-names_after : (first : _) → Holds Free (names_after first)
unfolding names_after more_names
Free-names_after first = Holds-map Free _ (Holds-many Free Free-next_name)

pub Free-names : Holds Free names
unfolding names
Free-names = Holds-select Free spaced_name Free-names_after

free_block_word : (w : Keyword) (x : _) → block_of_word w ≡ Some x → defers (kinds.Good (whats.Keyword w)) ≡ false
unfolding role_of_word
free_block_word words.RTrig x e = refl
free_block_word words.Ctu x e = refl
free_block_word words.Ton x e = refl
free_block_word words.GearLevel x e = refl
free_block_word words.GearDo x e = refl
free_block_word words.GearSet x e = refl
free_block_word words.GearPair x e = refl
free_block_word words.GearAsk x e = refl
free_block_word words.GearRead x e = refl
free_block_word words.DevDo x e = refl
free_block_word words.DevScheme x e = refl
free_block_word words.DevAsk x e = refl
free_block_word _ x e = absurd cc

free_block : (k : TokenKind) (x : _) → block_at k ≡ Some x → defers k ≡ false
free_block (kinds.Good (whats.Keyword w)) x e = free_block_word w x e
free_block _ x e = absurd cc

Free-block : Holds Free block
unfolding block
Free-block = Holds-one Free _ (λ t x e. free_block t.kind x e)

Free-instances : Holds Free instances
unfolding instances
Free-instances =
    Holds-map Free _ (Holds-seq Free (Free-spaced Free-block) (spaced_delimiter delimiters.Semicolon refl))

Free-declared : Holds Free declared
unfolding declared
Free-declared = Holds-alt Free (Holds-map Free _ Free-instances) (Holds-map Free _ Free-typing)

Free-declaration : Holds Free declaration
unfolding declaration
Free-declaration =
    Holds-map Free _ (Holds-seq Free Free-names (Holds-seq Free (spaced_delimiter delimiters.Colon refl) Free-declared))

pub Free-vars : Holds Free vars
unfolding vars declarations role_of_word
Free-vars =
    Holds-map Free _ (Holds-seq Free (spaced_word words.Var refl)
    (Holds-lead Free (Holds-many Free Free-declaration) (spaced_word words.EndVar refl)))

Free-external : Holds Free external
unfolding external
Free-external =
    Holds-map Free _ (Holds-seq Free spaced_name (Holds-seq Free (spaced_delimiter delimiters.Colon refl)
    (Holds-seq Free Free-specification (spaced_delimiter delimiters.Semicolon refl))))

Free-var_external : Holds Free var_external
unfolding var_external externals role_of_word
Free-var_external =
    Holds-map Free _ (Holds-seq Free (spaced_word words.VarExternal refl)
    (Holds-lead Free (Holds-many Free Free-external) (spaced_word words.EndVar refl)))

pub Free-variables : Holds Free variables
unfolding variables
Free-variables = Holds-alt Free Free-vars Free-var_external

-- ---- globals

free_address : (k : TokenKind) (t : Token) (x : _) → address_at k t ≡ Some x → defers k ≡ false
free_address (kinds.Good (whats.Address kind bus place)) t x e = refl
free_address _ t x e = absurd cc

Free-address : Holds Free address
unfolding address
Free-address = Holds-one Free _ (λ t x e. free_address t.kind t x e)

Free-located : (first : _) → Holds Free (located first)
unfolding located role_of_word
Free-located first =
    Holds-map Free _ (Holds-seq Free (spaced_word words.At refl) (Holds-seq Free (Free-spaced Free-address)
    (Holds-seq Free (spaced_delimiter delimiters.Colon refl) Free-typing)))

Free-unlocated : (first : _) → Holds Free (unlocated first)
unfolding unlocated
Free-unlocated first =
    Holds-map Free _ (Holds-lead Free (Free-names_after first)
    (Holds-seq Free (spaced_delimiter delimiters.Colon refl) Free-typing))

Free-global_named : (first : _) → Holds Free (global_named first)
unfolding global_named
Free-global_named first = Holds-alt Free (Free-located first) (Free-unlocated first)

Free-global : Holds Free global
unfolding global
Free-global = Holds-select Free spaced_name Free-global_named

Free-var_global : Holds Free var_global
unfolding var_global globals role_of_word
Free-var_global =
    Holds-map Free _ (Holds-seq Free (spaced_word words.VarGlobal refl)
    (Holds-lead Free (Holds-many Free Free-global) (spaced_word words.EndVar refl)))

Free-global_blocks : Holds Free global_blocks
unfolding global_blocks
Free-global_blocks = Holds-map Free _ (Holds-many Free Free-var_global)

-- ---- tasks and program instances

free_duration : (k : TokenKind) (x : _) → duration_at k ≡ Some x → defers k ≡ false
free_duration (kinds.Good (whats.Time n)) x e = refl
free_duration _ x e = absurd cc

Free-duration : Holds Free duration
unfolding duration
Free-duration = Holds-one Free _ (λ t x e. free_duration t.kind x e)

Free-single : Holds Free single
unfolding single role_of_word
Free-single =
    Holds-map Free _ (Holds-seq Free (spaced_word words.Single refl)
    (Holds-seq Free (spaced_delimiter delimiters.Assign refl)
    (Holds-seq Free spaced_name (spaced_delimiter delimiters.Comma refl))))

Free-interval_of_task : Holds Free interval_of_task
unfolding interval_of_task role_of_word
Free-interval_of_task =
    Holds-map Free _ (Holds-seq Free (spaced_word words.Interval refl)
    (Holds-seq Free (spaced_delimiter delimiters.Assign refl)
    (Holds-seq Free (Free-spaced Free-duration) (spaced_delimiter delimiters.Comma refl))))

Free-priority : Holds Free priority
unfolding priority role_of_word
Free-priority =
    Holds-map Free _ (Holds-seq Free (spaced_word words.Priority refl)
    (Holds-seq Free (spaced_delimiter delimiters.Assign refl) (Free-spaced Free-number)))

Free-inputs : Holds Free inputs
unfolding inputs
Free-inputs =
    Holds-lead Free (Holds-opt Free Free-single) (Holds-lead Free (Holds-opt Free Free-interval_of_task) Free-priority)

Free-task : Holds Free task
unfolding task role_of_word
Free-task =
    Holds-map Free _ (Holds-seq Free (spaced_word words.Task refl) (Holds-seq Free spaced_name
    (Holds-seq Free (spaced_delimiter delimiters.Open refl) (Holds-seq Free Free-inputs
    (Holds-seq Free (spaced_delimiter delimiters.Close refl) (spaced_delimiter delimiters.Semicolon refl))))))

Free-with_task : Holds Free with_task
unfolding with_task role_of_word
Free-with_task = Holds-map Free _ (Holds-seq Free (spaced_word words.With refl) spaced_name)

Free-program_instance : Holds Free program_instance
unfolding program_instance role_of_word
Free-program_instance =
    Holds-map Free _ (Holds-seq Free (spaced_word words.Program refl) (Holds-seq Free spaced_name
    (Holds-lead Free (Holds-opt Free Free-with_task) (Holds-seq Free (spaced_delimiter delimiters.Colon refl)
    (Holds-seq Free spaced_name (spaced_delimiter delimiters.Semicolon refl))))))

-- ---- configurations

Free-body : Holds Free body
unfolding body tasks program_instances
Free-body = Holds-lead Free (Holds-many Free Free-task) (Holds-many Free Free-program_instance)

Free-resource_head : Holds Free resource_head
unfolding resource_head role_of_word
Free-resource_head =
    Holds-map Free _ (Holds-seq Free (spaced_word words.Resource refl) (Holds-seq Free spaced_name
    (Holds-seq Free (spaced_word words.On refl) spaced_name)))

Free-resource : Holds Free resource
unfolding resource role_of_word
Free-resource =
    Holds-map Free _ (Holds-seq Free Free-resource_head (Holds-lead Free Free-global_blocks
    (Holds-lead Free Free-body (spaced_word words.EndResource refl))))

Free-end : Holds Free end
unfolding end role_of_word
Free-end = spaced_word words.EndConfiguration refl

Free-contents : Holds Free contents
unfolding contents
Free-contents =
    Holds-alt Free (Holds-map Free _ (Holds-seq Free Free-resource Free-end))
    (Holds-map Free _ (Holds-lead Free Free-body Free-end))

pub Free-configuration : Holds Free configuration
unfolding configuration role_of_word
Free-configuration =
    Holds-map Free _ (Holds-seq Free (spaced_word words.Configuration refl) (Holds-seq Free spaced_name
    (Holds-lead Free Free-global_blocks Free-contents)))
