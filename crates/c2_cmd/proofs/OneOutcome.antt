-- Words and inputs come to one outcome, and to one list of questions.
use Rattle.c2_cmd_collect.proofs.TheLaws.{one_collect_outcome_outcome, one_collect_outcome_questions}
use Rattle.c2_cmd_building.proofs.TheLaws.{one_building_outcome_outcome, one_building_outcome_questions}
use Rattle.c2_cmd_strip.proofs.TheLaws.{a_strip_comes_to_one_outcome_once}
use Rattle.c2_cmd_extract.proofs.TheLaws.{an_extract_comes_to_one_outcome_once}
use Rattle.c2_cmd_reading.proofs.TheLaws.{one_reading_outcome_outcome, one_reading_outcome_questions}
use Rattle.c2_cmd_front.proofs.TheLaws.{one_front_outcome_embed, one_front_outcome_plan}
use Rattle.std.proofs.Common.{◌≡◌, sym, ◌∙◌, List, Option, Some, None}
use Rattle.c2_base.specs.declared.values.Question.{Question}
use Rattle.c2_cmd_outcome.specs.Outcome.{Outcome}
use Rattle.c2_usage.specs.declared.types.Command.{Command}
use Rattle.c2_usage.specs.declared.types.Command.TheVariants as command
use Rattle.c2_usage.specs.declared.types.Roles.{Roles}
use Rattle.c2_cmd.specs.Outcome.{Asks, CommandAsks, Inputs, IsCommandOutcome, IsOutcome, digest_alg, pieces_in}

-- a command has one outcome at most for what it is handed
one_command : (c : Command) (roles : Roles) (i : Inputs) (x y : Outcome)
    → IsCommandOutcome c roles i x → IsCommandOutcome c roles i y → x ≡ y
one_command command.Digest roles i x y h k =
    one_reading_outcome_outcome.digest (i.hash (digest_alg roles)) i.files.media x y h k
one_command command.List roles i x y h k = one_reading_outcome_outcome.list i.files.media x y h k
one_command command.Show roles i x y h k = one_reading_outcome_outcome.show i.files.media x y h k
one_command command.Questions roles i x y h k = one_reading_outcome_outcome.questions i.said i.files.media x y h k
one_command command.Validate roles i x y h k = one_reading_outcome_outcome.validate i.hash i.said i.files.media x y h k
one_command command.Compare roles i x y h k =
    one_reading_outcome_outcome.compare i.hash i.said i.files.media i.files.second x y h k
one_command command.Plan roles i x y h k =
    one_building_outcome_outcome.plan i.hash i.said i.files.media i.files.second x y h k
one_command command.Embed roles i x y h k =
    one_building_outcome_outcome.embed i.hash i.said i.files.media i.files.second i.files.third x y h k
one_command command.Sample roles i x y h k = one_building_outcome_outcome.sample i.hash i.said (pieces_in roles) x y h k
one_command command.Strip roles i x y h k = a_strip_comes_to_one_outcome_once i.files.media x y h k
one_command command.Extract roles i x y h k = an_extract_comes_to_one_outcome_once i.files.media x y h k
one_command command.ValidateExternal roles i x y h k =
    one_reading_outcome_outcome.external i.hash i.said i.files.media i.files.second x y h k
one_command command.PlanFront roles i x y h k = one_front_outcome_plan i.hash i.files.media i.files.second x y h k
one_command command.EmbedFront roles i x y h k =
    one_front_outcome_embed i.hash i.files.media i.files.second i.files.third x y h k
one_command command.PlanCollect roles i x y h k =
    one_collect_outcome_outcome.plan i.hash i.said i.files.media i.files.second i.files.fourth x y h k
one_command command.EmbedCollect roles i x y h k =
    one_collect_outcome_outcome.embed i.hash i.said i.files.media i.files.second i.files.third i.files.fourth x y h k

-- a call has one outcome at most, whether its words fit a command or none
pub one_outcome : (roles : Option Roles) (i : Inputs) (x y : Outcome)
    → IsOutcome roles i x → IsOutcome roles i y → x ≡ y
one_outcome None i x y h k = h ∙ sym k
one_outcome (Some roles) i x y h k = one_command roles.command roles i x y h k

-- a command has one list of questions at most for what it is handed
one_asks : (c : Command) (roles : Roles) (i : Inputs) (ps qs : List Question) → CommandAsks c roles i ps
    → CommandAsks c roles i qs → ps ≡ qs
one_asks command.Digest roles i ps qs h k = h ∙ sym k
one_asks command.List roles i ps qs h k = h ∙ sym k
one_asks command.Show roles i ps qs h k = h ∙ sym k
one_asks command.Questions roles i ps qs h k = one_reading_outcome_questions.questions i.files.media ps qs h k
one_asks command.Validate roles i ps qs h k =
    one_reading_outcome_questions.validate i.hash i.said i.files.media ps qs h k
one_asks command.Compare roles i ps qs h k =
    one_reading_outcome_questions.compare i.hash i.said i.files.media i.files.second ps qs h k
one_asks command.Plan roles i ps qs h k =
    one_building_outcome_questions.plan i.hash i.said i.files.media i.files.second ps qs h k
one_asks command.Embed roles i ps qs h k =
    one_building_outcome_questions.embed i.hash i.said i.files.media i.files.second i.files.third ps qs h k
one_asks command.Sample roles i ps qs h k =
    one_building_outcome_questions.sample i.hash i.said (pieces_in roles) ps qs h k
one_asks command.Strip roles i ps qs h k = h ∙ sym k
one_asks command.Extract roles i ps qs h k = h ∙ sym k
one_asks command.ValidateExternal roles i ps qs h k =
    one_reading_outcome_questions.external i.hash i.said i.files.media i.files.second ps qs h k
one_asks command.PlanFront roles i ps qs h k = h ∙ sym k
one_asks command.EmbedFront roles i ps qs h k = h ∙ sym k
one_asks command.PlanCollect roles i ps qs h k =
    one_collect_outcome_questions.plan i.hash i.said i.files.media i.files.second i.files.fourth ps qs h k
one_asks command.EmbedCollect roles i ps qs h k =
    one_collect_outcome_questions.embed i.hash i.said i.files.media i.files.second i.files.third i.files.fourth ps qs h
    k

-- a call has one list of questions at most, whether its words fit a command or none
pub one_list : (roles : Option Roles) (i : Inputs) (ps qs : List Question) → Asks roles i ps → Asks roles i qs → ps ≡ qs
one_list None i ps qs h k = h ∙ sym k
one_list (Some roles) i ps qs h k = one_asks roles.command roles i ps qs h k
