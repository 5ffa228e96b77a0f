-- For private clauses: the command line as `clap` sees it, one command with a subcommand for each of ours and no options.
use Rattle.std.specs.Prelude.{◌≡◌, true, false, List, [], codes, map, Some}
use Rattle.clap.specs.Lexer.{usize_max}
use Rattle.clap.specs.Simple.{App, Shape, app_of, new_rule, new_shape}
use Rattle.clap.specs.Walk.{Rule, Text}
use Rattle.clap.specs.declared.builder.command.Command.{Command as Parser}
use Rattle.clap.specs.declared.builder.command.Command.TheViews.{out-Command as fields_of}
use Rattle.c2_usage.specs.CommandLine.{commands, name_of, words_of}
use Rattle.c2_usage.specs.declared.types.Command.{Command}
use Rattle.c2_usage.specs.declared.types.Role.{Role}
use Rattle.c2_usage.specs.declared.types.Role.TheVariants.{Media, Other, Definition, Signature, Store, Collected, Out, Count, Algorithm, Judges}

-- what `clap` calls the words of a role: the objects of one call have different names
abbrev pub id_of : Role → Text
id_of Media = codes "MEDIA"
id_of Other = codes "SECOND"
id_of Definition = codes "SECOND"
id_of Signature = codes "THIRD"
id_of Store = codes "SECOND"
id_of Collected = codes "FOURTH"
id_of Out = codes "OUT"
id_of Count = codes "N"
id_of Algorithm = codes "ALG"
id_of Judges = codes "JUDGE"

-- a word that must be there
abbrev pub one_word : Text → Rule
one_word id = record (new_rule id) { required = true }

-- names of judges, or none
abbrev pub judge_words : Rule
judge_words = record (new_rule (codes "JUDGE")) { range = Some (record { start_inclusive = 1; end_inclusive = usize_max }) }

-- the name of an algorithm, or no word
abbrev pub algorithm_word : Rule
algorithm_word = new_rule (codes "ALG")

-- the words of a role
abbrev pub rule_for : Role → Rule
rule_for Judges = judge_words
rule_for Algorithm = algorithm_word
rule_for role = one_word (id_of role)

-- a subcommand of this name with these words
abbrev pub leaf : Text → List Rule → Shape
leaf name rules = record (new_shape name) { rules = rules }

-- a subcommand as it is built: it has nothing else
pub record IsLeaf (s : Shape) (p : Parser) : Type 0 where
  pub app : app_of p ≡ record { top = s; subs = [] }
  pub globals : (fields_of p).has_globals ≡ false

-- the subcommand of a command
abbrev pub leaf_of : Command → Shape
leaf_of c = leaf (name_of c) (map rule_for (words_of c))

-- the whole: no program's name is among the words, and neither `help` nor a flag is anything but a word
abbrev pub top : Shape
top = record (new_shape (codes "c2")) {
  is_leaf = false;
  no_binary_name = true;
  disable_help_flag = true;
  disable_help_subcommand = true;
  disable_version_flag = true;
  subcommand_required = true;
}

-- a command line: one of these subcommands
abbrev pub command_line : App
command_line = record { top = top; subs = map leaf_of commands }
