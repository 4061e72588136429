-- What the tables of a command line mean: `clap`'s commands.
use Rattle.std.specs.Prelude.{Bool, List, [], ◌∷◌, map, Some, true, pos}
use Rattle.clap.specs.declared.builder.action.ArgAction.TheVariants.{Append, SetTrue}
use Rattle.clap.specs.declared.builder.value_parser.ValueParser.TheVariants.{Signed}
use Rattle.clap.specs.Words.{App, Rule, Text, new_app, new_rule, with_rule, with_subcommand}
use Rattle.command_words.specs.declared.table.Kind.{Kind}
use Rattle.command_words.specs.declared.table.Kind.TheVariants.{File, Files, OptionalFile, Flag, Value, Values, RequiredValue, Number}
use Rattle.command_words.specs.declared.table.Argument.{Argument}
use Rattle.command_words.specs.declared.table.Word.{Word}
use Rattle.command_words.specs.declared.table.Program.{Program}

-- NAME, which has to be there
abbrev pub file_rule : Text → Rule
file_rule name = record (new_rule name) { required = true }

-- NAME, which has to be there, once or more
abbrev pub files_rule : Text → Rule
files_rule name = record (new_rule name) { required = true; action = Some Append }

-- --NAME
abbrev pub flag_rule : Text → Rule
flag_rule name = record (new_rule name) { long = Some name; action = Some SetTrue }

-- --NAME VALUE
abbrev pub value_rule : Text → Rule
value_rule name = record (new_rule name) { long = Some name; value_names = 1 }

-- --NAME VALUE, which may be given more than once
abbrev pub values_rule : Text → Rule
values_rule name = record (value_rule name) { action = Some Append }

-- --NAME VALUE, which has to be there
abbrev pub required_value_rule : Text → Rule
required_value_rule name = record (value_rule name) { required = true }

-- --NAME N, a number below 2^32
abbrev pub number_rule : Text → Rule
number_rule name = record (value_rule name) { parser = Some (Signed (pos 0) (pos 4294967295)) }

-- an argument of this name and kind
abbrev pub rule_for : Text → Kind → Rule
rule_for name File = file_rule name
rule_for name Files = files_rule name
rule_for name OptionalFile = new_rule name
rule_for name Flag = flag_rule name
rule_for name (Value value) = value_rule name
rule_for name (Values value) = values_rule name
rule_for name (RequiredValue value) = required_value_rule name
rule_for name (Number value) = number_rule name

-- the rule of an argument of the table
abbrev pub argument_rule : Argument → Rule
argument_rule argument = rule_for argument.name.now argument.kind

-- a command with these arguments after its own
abbrev pub with_rules : App → List Rule → App
with_rules app [] = app
with_rules app (rule ∷ rest) = with_rules (with_rule app rule) rest

-- a word with its arguments
abbrev pub word_app : Word → App
word_app word = with_rules (new_app word.name.now) (map argument_rule word.arguments.now)

-- a command with these words after its own
abbrev pub with_words : App → List App → App
with_words app [] = app
with_words app (word ∷ rest) = with_words (with_subcommand app word.top) rest

-- a program of this name that tells its version, and whether one of its words has to be given
abbrev pub program_top : Text → Bool → App
program_top name needs_word = let app = new_app name in record app { top = record app.top { has_version = true; subcommand_required = needs_word } }

-- a program with its words
abbrev pub program_app : Program → App
program_app program = with_words (program_top program.name.now program.needs_word) (map word_app program.words.now)
