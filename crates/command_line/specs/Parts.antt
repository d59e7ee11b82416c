-- A command's arguments, as the grammar's parts spell them. (For private functions.)
use Rattle.std.specs.Prelude.{List, [], ◌∷◌}
use Rattle.clap.specs.Words.{App, Rule, Text, new_app, with_rule, with_subcommand}
use Rattle.command_line.specs.Commands.{flag_rule, number_rule, required_rule, several_rule, text_rule}
use Rattle.command_line.specs.declared.parts.Form.{Form}
use Rattle.command_line.specs.declared.parts.Form.TheVariants.{Required, Several, Number, Flag, Text as Texts}
use Rattle.command_line.specs.declared.parts.Part.{Part}
use Rattle.command_line.specs.declared.parts.CommandParts.{CommandParts}

-- the rule of an argument that is given so
abbrev pub rule_of_form : Text → Form → Rule
rule_of_form id Required = required_rule id
rule_of_form id Several = several_rule id
rule_of_form id (Number low high) = number_rule id low high
rule_of_form id Flag = flag_rule id
rule_of_form id Texts = text_rule id

abbrev pub rule_for : Part → Rule
rule_for part = rule_of_form part.id.now part.form

-- a command with all of these
abbrev pub app_with : App → List Part → App
app_with app [] = app
app_with app (part ∷ parts) = app_with (with_rule app (rule_for part)) parts

abbrev pub command_app : CommandParts → App
command_app command = app_with (new_app command.name.now) command.parts.now

-- a command with all of these as subcommands
abbrev pub app_over : App → List CommandParts → App
app_over app [] = app
app_over app (command ∷ commands) = app_over (with_subcommand app (command_app command).top) commands
