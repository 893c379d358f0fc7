-- Configurations (IEC 61131-3, 2.7.1, with this project's profile), as items over tokens. A configuration has one
-- resource at most, which may be left out; its own name, the resource's and that after ON say nothing.
use Rattle.std.specs.Prelude.{List, [], ◌++◌}
use Rattle.iltokens.specs.Items.{Item, map, seq, lead, alt}
use Rattle.ilsource.specs.Configurations.{Configured, DeclaredGlobals, configured_of}
use Rattle.ilsource.specs.declared.configuration.InstanceDeclaration.{InstanceDeclaration}
use Rattle.ilsource.specs.declared.configuration.TaskDeclaration.{TaskDeclaration}
use Rattle.iltokens.specs.declared.keyword.Keyword.TheVariants as words
use Rattle.iltext.specs.declared.token.Token.{Token}
use Rattle.iltext.specs.Terminals.{Seen, word, name, spaced}
use Rattle.iltext.specs.Globals.{global_blocks}
use Rattle.iltext.specs.Tasks.{tasks, program_instances}

-- {task} {program_instance}
unfoldable pub body : Item Token (List TaskDeclaration × List InstanceDeclaration)
body = lead tasks program_instances

-- RESOURCE name ON name
unfoldable pub resource_head : Item Token Seen
resource_head = map (λ x. tt)
    (seq (spaced (word words.Resource)) (seq (spaced name) (seq (spaced (word words.On)) (spaced name))))

-- resource_head {var_global} body END_RESOURCE
unfoldable pub resource : Item Token Configured
resource = map (λ x. configured_of x.1.0 x.1.1.0.0 x.1.1.0.1)
    (seq resource_head (lead global_blocks (lead body (spaced (word words.EndResource)))))

unfoldable pub end : Item Token Seen
end = spaced (word words.EndConfiguration)

-- resource END_CONFIGURATION, or body END_CONFIGURATION
unfoldable pub contents : Item Token Configured
contents = alt (map (λ x. x.0) (seq resource end)) (map (λ x. configured_of [] x.0.0 x.0.1) (lead body end))

-- the globals of a configuration, before those of its resource
abbrev pub with_globals : List DeclaredGlobals → Configured → Configured
with_globals globals c = configured_of (globals ++ c.globals) c.tasks c.instances

-- CONFIGURATION name {var_global} contents
unfoldable pub configuration : Item Token Configured
configuration = map (λ x. with_globals x.1.1.0 x.1.1.1)
    (seq (spaced (word words.Configuration)) (seq (spaced name) (lead global_blocks contents)))
