-- The outcome of a run: a relation between the roles of its words, what it is handed, and its outcome.
use Rattle.std.specs.Prelude.{◌≡◌, ⊤, ℕ, ◌<◌, ◌^◌, All, Bool, true, false, List, [], unwrap_or, Some, None}
use Rattle.std.specs.declared.option.Option.{Option}
use Rattle.std.specs.declared.result.Result.TheVariants.{Ok}
use Rattle.c2_base.specs.declared.values.Question.{Question}
use Rattle.c2_spec.specs.declared.digest.Alg.{Alg}
use Rattle.c2_spec.specs.declared.digest.Alg.TheVariants.{Sha256}
use Rattle.c2_spec.specs.declared.panel.Verdict.{Verdict}
use Rattle.c2_spec.specs.Container.{IsLocated}
use Rattle.c2_spec.specs.Located.{absent}
use Rattle.c2_rules.specs.Validated.{AreQuestions, CheckAsks}
use Rattle.c2_compare_spec.specs.Comparison.{CompareAsks}
use Rattle.c2_cmd_building.specs.Building.{Built, EmbedAsks, IsEmbedded, PlanAsks}
use Rattle.c2_cmd_building.specs.Meeting.{BuiltMeets}
use Rattle.c2_new_file_spec.specs.Fresh.{GivesDigests}
use Rattle.c2_collect_spec.specs.Made.{CollectedMeets}
use Rattle.c2_collect_spec.specs.Outcomes.{CollectAsks, CollectPlanAsks, IsCollectMade, NewFile as CollectedFile}
use Rattle.c2_new_front_spec.specs.Made.{FrontMeets}
use Rattle.c2_new_front_spec.specs.Outcomes.{IsFrontMade, NewFile}
use Rattle.c2_cmd_building.specs.Restored.{Restores}
use Rattle.c2_cmd_building.specs.Sample.{SampleAsks}
use Rattle.c2_texts.specs.Texts.{usage_line}
use Rattle.c2_validate.specs.External.{ExternalAsks}
use Rattle.c2_cmd_outcome.specs.Outcome.{Outcome, reports}
use Rattle.c2_cmd_outcome.specs.declared.types.Answer.TheVariants as answer
use Rattle.c2_cmd_reading.specs.Outcomes.{IsCompareOutcome, IsDigestOutcome, IsExternalOutcome, IsListOutcome, IsMediaOutcome, IsQuestioned, IsShown, IsValidated}
use Rattle.c2_cmd_building.specs.Outcomes.{IsEmbedOutcome, IsPlanOutcome, IsSampleOutcome}
use Rattle.c2_cmd_collect.specs.Outcomes.{IsEmbedCollectOutcome, IsPlanCollectOutcome}
use Rattle.c2_cmd_extract.specs.Outcomes.{IsExtractOutcome}
use Rattle.c2_cmd_front.specs.Outcomes.{IsEmbedFrontOutcome, IsPlanFrontOutcome}
use Rattle.c2_cmd_strip.specs.Outcomes.{IsStripOutcome}
use Rattle.c2_usage.specs.declared.types.Command.{Command}
use Rattle.c2_usage.specs.declared.types.Command.TheVariants as command
use Rattle.c2_usage.specs.declared.types.Roles.{Roles}
use Rattle.c2_usage.specs.CommandLine.{has_word, makes_media, reports_whole}
use Rattle.c2_usage.specs.declared.types.Role.{Role}
use Rattle.c2_cmd.specs.Sources.{Each, SourceName, map_each, of_source}

-- what an outcome depends on beside the words: the bytes of the sources, what the panel of judges says of a question,
-- and the hash
pub record Inputs : Type 0 where
  pub files : Each (List ℕ)
  pub said : Question → Verdict
  pub hash : Alg → List ℕ → List ℕ

-- each source of these inputs is a list of bytes
abbrev pub AreBytes : Inputs → Type 0
AreBytes i = (s : SourceName) → All (λ b. b < 2 ^ 8) (of_source i.files s)

-- the inputs of a run whose sources have these bytes, where they are known
abbrev pub inputs : Each (Option (List ℕ)) → (Question → Verdict) → (Alg → List ℕ → List ℕ) → Inputs
inputs known said hash = record { files = map_each (λ bytes. unwrap_or bytes []) known; said = said; hash = hash }

-- the algorithm of `digest`: SHA-256 where the words name none
abbrev pub digest_alg : Roles → Alg
digest_alg roles = unwrap_or roles.alg Sha256

-- how many pieces are asked for: 0 where the roles have no number, which those of `sample` have
abbrev pub pieces_in : Roles → ℕ
pieces_in roles = unwrap_or roles.count 0

-- the outcome of a command with these roles
abbrev pub IsCommandOutcome : Command → Roles → Inputs → Outcome → Type 0
IsCommandOutcome command.Digest roles i expected = IsDigestOutcome (i.hash (digest_alg roles)) i.files.media expected
IsCommandOutcome command.List roles i expected = IsListOutcome i.files.media expected
IsCommandOutcome command.Show roles i expected = IsMediaOutcome IsShown i.files.media expected
IsCommandOutcome command.Questions roles i expected = IsMediaOutcome (IsQuestioned i.said) i.files.media expected
IsCommandOutcome command.Validate roles i expected = IsValidated i.hash i.said i.files.media expected
IsCommandOutcome command.Compare roles i expected = IsCompareOutcome i.hash i.said i.files.media i.files.second expected
IsCommandOutcome command.Plan roles i expected = IsPlanOutcome i.hash i.said i.files.media i.files.second expected
IsCommandOutcome command.Embed roles i expected = IsEmbedOutcome i.hash i.said i.files.media i.files.second i.files.third expected
IsCommandOutcome command.Sample roles i expected = IsSampleOutcome i.hash i.said (pieces_in roles) expected
IsCommandOutcome command.Strip roles i expected = IsStripOutcome i.files.media expected
IsCommandOutcome command.Extract roles i expected = IsExtractOutcome i.files.media expected
IsCommandOutcome command.ValidateExternal roles i expected = IsExternalOutcome i.hash i.said i.files.media i.files.second expected
IsCommandOutcome command.PlanFront roles i expected = IsPlanFrontOutcome i.hash i.files.media i.files.second expected
IsCommandOutcome command.EmbedFront roles i expected = IsEmbedFrontOutcome i.hash i.files.media i.files.second i.files.third expected
IsCommandOutcome command.PlanCollect roles i expected = IsPlanCollectOutcome i.hash i.said i.files.media i.files.second i.files.fourth expected
IsCommandOutcome command.EmbedCollect roles i expected = IsEmbedCollectOutcome i.hash i.said i.files.media i.files.second i.files.third i.files.fourth expected

-- the outcome of words with these roles, or with none
abbrev pub IsOutcome : Option Roles → Inputs → Outcome → Type 0
IsOutcome None i expected = expected ≡ reports answer.Usage usage_line
IsOutcome (Some roles) i expected = IsCommandOutcome roles.command roles i expected

-- the hash gives digests, for words with roles by which a file is built of made media: so this file is bytes
abbrev pub HasDigests : Option Roles → Inputs → Type 0
HasDigests None i = ⊤
HasDigests (Some roles) i = makes_media roles.command ≡ true → GivesDigests i.hash

-- whether words with these roles, or with none, have a word of such a role
abbrev pub names : (Role → Bool) → Option Roles → Bool
names is None = false
names is (Some roles) = has_word is roles.command

-- whether the whole report is there before any of it is written, by words with these roles or with none
abbrev pub has_whole_report : Option Roles → Bool
has_whole_report None = true
has_whole_report (Some roles) = reports_whole roles.command

-- the judges are asked these questions, in this order, by a command
abbrev pub CommandAsks : Command → Roles → Inputs → List Question → Type 0
CommandAsks command.Digest roles i qs = qs ≡ []
CommandAsks command.List roles i qs = qs ≡ []
CommandAsks command.Show roles i qs = qs ≡ []
CommandAsks command.Questions roles i qs = AreQuestions i.files.media qs
CommandAsks command.Validate roles i qs = CheckAsks i.hash i.said i.files.media qs
CommandAsks command.Compare roles i qs = CompareAsks i.hash i.said i.files.media i.files.second qs
CommandAsks command.Plan roles i qs = PlanAsks i.hash i.said i.files.media i.files.second qs
CommandAsks command.Embed roles i qs = EmbedAsks i.hash i.said i.files.media i.files.second i.files.third qs
CommandAsks command.Sample roles i qs = SampleAsks i.hash i.said (pieces_in roles) qs
CommandAsks command.Strip roles i qs = qs ≡ []
CommandAsks command.Extract roles i qs = qs ≡ []
CommandAsks command.ValidateExternal roles i qs = ExternalAsks i.hash i.files.second i.files.media i.said qs
CommandAsks command.PlanFront roles i qs = qs ≡ []
CommandAsks command.EmbedFront roles i qs = qs ≡ []
CommandAsks command.PlanCollect roles i qs = CollectPlanAsks i.hash i.said i.files.media i.files.second i.files.fourth qs
CommandAsks command.EmbedCollect roles i qs = CollectAsks i.hash i.said i.files.media i.files.second i.files.third i.files.fourth qs

-- the judges are asked these questions, in order, by words with these roles; words without roles ask none
abbrev pub Asks : Option Roles → Inputs → List Question → Type 0
Asks None i qs = qs ≡ []
Asks (Some roles) i qs = CommandAsks roles.command roles i qs

-- A file that `embed` builds meets what is promised of it. All rules hold but for the verdict on it, and it asks over what `plan` gives to be
-- signed and then what the media's store asks. What the media holds outside its embedded range is kept byte by byte in the same order,
-- around the new range and an older box that is freed. Where the media has no store, `strip` of the new file is the media.
pub record HasBuilt (i : Inputs) (b : Built) : Type 0 where
  pub meets : BuiltMeets i.hash i.said i.files.media i.files.second i.files.third b
  pub restores : IsLocated i.files.media absent → Restores b i.files.media

-- The new file of a command meets what is promised of it, where it is built. One with its store in front meets all rules but for the verdict
-- on it, and each chunk offset that told a place of the media from the store's on tells where the same byte is, unless that byte is in such an
-- offset itself. One with a store that collects meets all rules but for the verdict on it, asks over what `plan-collect` gives and then what one of
-- both media files asks and the judges approve, and keeps what the media holds outside its embedded range.
abbrev pub CommandMeets : Command → Inputs → Type 0
CommandMeets command.Embed i = (b : Built) → IsEmbedded i.hash i.said i.files.media i.files.second i.files.third (Ok b) → HasBuilt i b
CommandMeets command.EmbedFront i = (b : NewFile) → IsFrontMade i.hash i.files.media i.files.second i.files.third (Ok b) → FrontMeets i.hash i.files.media i.files.second i.files.third b
CommandMeets command.EmbedCollect i = (b : CollectedFile) → IsCollectMade i.hash i.said i.files.media i.files.second i.files.third i.files.fourth (Ok b) → CollectedMeets i.hash i.said i.files.media i.files.second i.files.third i.files.fourth b
CommandMeets c i = ⊤

-- the new file of words with these roles meets what is promised of it, where it is built
abbrev pub Meets : Option Roles → Inputs → Type 0
Meets None i = ⊤
Meets (Some roles) i = CommandMeets roles.command i
