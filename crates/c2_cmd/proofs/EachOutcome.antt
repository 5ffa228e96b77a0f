-- Words and inputs whose files are bytes come to an outcome, and to a list of questions.
use Rattle.c2_cmd_building.proofs.TheLaws.{each_building_outcome_outcome, each_building_outcome_questions}
use Rattle.c2_cmd_collect.proofs.TheLaws.{each_collect_outcome_outcome, each_collect_outcome_questions}
use Rattle.c2_cmd_extract.proofs.TheLaws.{an_extract_comes_to_one_outcome_each}
use Rattle.c2_cmd_front.proofs.TheLaws.{each_front_outcome_embed, each_front_outcome_plan}
use Rattle.c2_cmd_reading.proofs.TheLaws.{each_reading_outcome_outcome, each_reading_outcome_questions}
use Rattle.c2_cmd_strip.proofs.TheLaws.{a_strip_comes_to_one_outcome_each}
use Rattle.std.proofs.Common.{◌≡◌, true, refl, List, [], Option, Some, None}
use Rattle.c2_base.specs.declared.values.Question.{Question}
use Rattle.c2_new_file_spec.specs.Fresh.{GivesDigests}
use Rattle.c2_cmd_outcome.specs.Outcome.{Outcome, reports}
use Rattle.c2_cmd_outcome.specs.declared.types.Answer.TheVariants as answer
use Rattle.c2_texts.specs.Texts.{usage_line}
use Rattle.c2_usage.specs.CommandLine.{makes_media}
use Rattle.c2_usage.specs.declared.types.Command.{Command}
use Rattle.c2_usage.specs.declared.types.Command.TheVariants as command
use Rattle.c2_usage.specs.declared.types.Roles.{Roles}
use Rattle.c2_cmd.specs.Outcome.{AreBytes, Asks, CommandAsks, HasDigests, Inputs, IsCommandOutcome, IsOutcome, digest_alg, pieces_in}
use Rattle.c2_cmd.specs.Sources.{the_fourth, the_media, the_second, the_third}

-- every command has an outcome where its files are bytes
each_command : (c : Command) (roles : Roles) (i : Inputs)
    → AreBytes i → (makes_media c ≡ true → GivesDigests i.hash) → (e : Outcome) × IsCommandOutcome c roles i e
each_command command.Digest roles i held gives =
    each_reading_outcome_outcome.digest (i.hash (digest_alg roles)) i.files.media (held the_media)
each_command command.List roles i held gives = each_reading_outcome_outcome.list i.files.media (held the_media)
each_command command.Show roles i held gives = each_reading_outcome_outcome.show i.files.media (held the_media)
each_command command.Questions roles i held gives =
    each_reading_outcome_outcome.questions i.said i.files.media (held the_media)
each_command command.Validate roles i held gives =
    each_reading_outcome_outcome.validate i.hash i.said i.files.media (held the_media)
each_command command.Compare roles i held gives =
    each_reading_outcome_outcome.compare i.hash i.said i.files.media i.files.second (held the_media) (held the_second)
each_command command.Plan roles i held gives =
    each_building_outcome_outcome.plan i.hash i.said i.files.media i.files.second (held the_media)
each_command command.Embed roles i held gives =
    each_building_outcome_outcome.embed i.hash i.said i.files.media i.files.second i.files.third (held the_media)
    (held the_third)
each_command command.Sample roles i held gives =
    each_building_outcome_outcome.sample i.hash i.said (pieces_in roles) (gives refl)
each_command command.Strip roles i held gives = a_strip_comes_to_one_outcome_each i.files.media (held the_media)
each_command command.Extract roles i held gives = an_extract_comes_to_one_outcome_each i.files.media (held the_media)
each_command command.ValidateExternal roles i held gives =
    each_reading_outcome_outcome.external i.hash i.said i.files.media i.files.second (held the_media) (held the_second)
each_command command.PlanFront roles i held gives =
    each_front_outcome_plan i.hash i.files.media i.files.second (held the_media)
each_command command.EmbedFront roles i held gives =
    each_front_outcome_embed i.hash i.files.media i.files.second i.files.third (held the_media) (held the_third)
each_command command.PlanCollect roles i held gives =
    each_collect_outcome_outcome.plan i.hash i.said i.files.media i.files.second i.files.fourth (held the_media)
    (held the_fourth)
each_command command.EmbedCollect roles i held gives =
    each_collect_outcome_outcome.embed i.hash i.said i.files.media i.files.second i.files.third i.files.fourth
    (held the_media) (held the_third) (held the_fourth)

-- a call whose files are bytes has an outcome, whether its words fit a command or none
pub each_outcome : (roles : Option Roles) (i : Inputs)
    → AreBytes i → HasDigests roles i → (e : Outcome) × IsOutcome roles i e
each_outcome None i held gives = (reports answer.Usage usage_line, refl)
each_outcome (Some roles) i held gives =
    each_command roles.command roles i held gives

-- every command has a list of questions for its judges where its files are bytes
each_asks : (c : Command) (roles : Roles) (i : Inputs)
    → AreBytes i → (makes_media c ≡ true → GivesDigests i.hash) → (qs : List Question) × CommandAsks c roles i qs
each_asks command.Digest roles i held gives = ([], refl)
each_asks command.List roles i held gives = ([], refl)
each_asks command.Show roles i held gives = ([], refl)
each_asks command.Questions roles i held gives =
    each_reading_outcome_questions.questions i.files.media (held the_media)
each_asks command.Validate roles i held gives =
    each_reading_outcome_questions.validate i.hash i.said i.files.media (held the_media)
each_asks command.Compare roles i held gives =
    each_reading_outcome_questions.compare i.hash i.said i.files.media i.files.second (held the_media) (held the_second)
each_asks command.Plan roles i held gives =
    each_building_outcome_questions.plan i.hash i.said i.files.media i.files.second (held the_media)
each_asks command.Embed roles i held gives =
    each_building_outcome_questions.embed i.hash i.said i.files.media i.files.second i.files.third (held the_media)
    (held the_third)
each_asks command.Sample roles i held gives =
    each_building_outcome_questions.sample i.hash i.said (pieces_in roles) (gives refl)
each_asks command.Strip roles i held gives = ([], refl)
each_asks command.Extract roles i held gives = ([], refl)
each_asks command.ValidateExternal roles i held gives =
    each_reading_outcome_questions.external i.hash i.said i.files.media i.files.second (held the_media) (held the_second)
each_asks command.PlanFront roles i held gives = ([], refl)
each_asks command.EmbedFront roles i held gives = ([], refl)
each_asks command.PlanCollect roles i held gives =
    each_collect_outcome_questions.plan i.hash i.said i.files.media i.files.second i.files.fourth (held the_media)
    (held the_fourth)
each_asks command.EmbedCollect roles i held gives =
    each_collect_outcome_questions.embed i.hash i.said i.files.media i.files.second i.files.third i.files.fourth
    (held the_media) (held the_third) (held the_fourth)

-- a call whose files are bytes has a list of questions: an empty one where its words fit no command
pub each_list : (roles : Option Roles) (i : Inputs)
    → AreBytes i → HasDigests roles i → (qs : List Question) × Asks roles i qs
each_list None i held gives = ([], refl)
each_list (Some roles) i held gives = each_asks roles.command roles i held gives
