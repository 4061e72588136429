use Rattle.std.proofs.Common.{◌≡◌, drop, map}
use Rattle.clap.specs.declared.builder.command.Command.TheViews.{out-Command as fields_of}
use Rattle.clap.specs.Words.{app_of}
use Rattle.command_words.specs.Table.{argument_rule, with_rules}
use Rattle.command_words.proofs.command.with_arguments.Given as goal

-- the arguments that are left make of this command what all of them make of the first
abbrev pub invariant-loop-argument : goal.invariant-loop-argument
invariant-loop-argument l = record {
  app : with_rules (app_of l.command) (map argument_rule (drop l.argument-index l.arguments)) ≡ with_rules (app_of l.initial.command) (map argument_rule l.arguments);
  own : (fields_of l.command).has_globals ≡ (fields_of l.initial.command).has_globals;
}
