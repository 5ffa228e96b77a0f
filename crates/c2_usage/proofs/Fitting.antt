-- Words that fit are words that `clap` takes.
use Rattle.std.proofs.Common.{◌≡◌, ◌∙◌, refl, sym, ap, ap₂, arith, ℕ, ◌≤◌, ◌&&◌, Bool, true, false, cond, nat_le, List, [], ◌∷◌, ◌++◌, length, append-nil, append_assoc, map, Option, Some, None, is_some, true≢false, leb-true}
use Rattle.std.specs.Prelude.{bytes_eq, option_and_then, option_map}
use Rattle.std.specs.List.{find, fold, list_all}
use Rattle.std.specs.Option.{option_map_or}
use Rattle.std.proofs.lemmas.Slice.Eq.{bytes_eq-Decides}
use Rattle.clap.specs.Walk.{Names, Row, Text, Walk, answers_to, arg_by_index, finished, nothing_held, settled, walk_from, walked}
use Rattle.clap.specs.Simple.{App, Shape, built, built_leaf, entered, inherited, label_of, marked_built, names_of, rows_at, with_leaf_noted}
use Rattle.clap.specs.Takes.{default_passes, entered_passes, is_valid, level_passes, settle_passes, takes, turn_passes, use_passes, walk_passes}
use Rattle.c2_base.specs.declared.limits.TheConstants.{MAX_JUDGE_NAMES}
use Rattle.c2_usage.specs.CommandLine.{command_of, commands, fit, is_name, name_of, roles_as, roles_of_names, roles_with, words_of}
use Rattle.c2_usage.specs.Parsing.{command_line, leaf, rule_for, top}
use Rattle.c2_usage.specs.declared.types.Command.{Command}
use Rattle.c2_usage.specs.declared.types.Command.TheVariants as command
use Rattle.c2_usage.specs.declared.types.Role.{Role}
use Rattle.c2_usage.specs.declared.types.Role.TheVariants.{Media, Other, Definition, Signature, Collected, Out, Count, Algorithm, Judges}
use Rattle.c2_usage.specs.declared.types.Roles.{Roles}
use Rattle.c2_usage.proofs.Walking.{ends_well, goes, goes_well, judges_at, judges_go, judges_used, judging, level, start}
use Rattle.c2_lemmas.proofs.Bools.{both_true}
use Rattle.c2_lemmas.proofs.Options.{none_some}

-- ---- the words behind the command

-- the subcommand of this name with words of these roles, as it is built
abbrev built_as : Text → List Role → Shape
built_as name roles = built_leaf (inherited (with_leaf_noted (marked_built top)) (leaf name (map rule_for roles)))

-- the subcommand of a command
abbrev built_of : Command → Shape
built_of c = built_as (name_of c) (words_of c)

-- a subcommand takes these words
abbrev Takes : Shape → List Text → Type 0
Takes l words = (goes_well l start words ≡ true) × (ends_well l (goes l.rules start words).held ≡ true)

-- words that fit these roles are taken behind every name
abbrev TakesFit : List Role → Type 0
TakesFit roles = (name : Text) (words : List Text) → fit roles words ≡ true → Takes (built_as name roles) words

-- what is found for these words
abbrev rows_after : Shape → List Text → List Row
rows_after l words = (settled l.rules (goes l.rules start words).held).rows

-- the rest of a level's tests, once what is pending is used
abbrev rest_passes : Shape → ℕ → List Row → List Text → Bool
rest_passes l k rows vs =
    list_all default_passes l.rules && is_valid l (finished l.rules (judging k rows vs).held) false

-- names of judges are taken at the end, where a name of one is met and what is found before passes
judged : (l : Shape) (k : ℕ) (rows : List Row) (words : List Text) (j : Text) (js : List Text)
    → Some (judges_at k) ≡ arg_by_index l.rules k
    → goes_well l (judging k rows (j ∷ [])) js ≡ goes_well l start words
    → goes l.rules (judging k rows (j ∷ [])) js ≡ goes l.rules start words
    → (use_passes false (judges_at k) (j ∷ js) rows && rest_passes l k rows (j ∷ js)) ≡ ends_well l (judging k rows (j ∷ js)).held
    → true ≡ rest_passes l k rows (j ∷ js)
    → nat_le (length (j ∷ js)) MAX_JUDGE_NAMES ≡ true → Takes l words
judged l k rows words j js at well end ends rest few =
    let most : length (j ∷ js) ≤ 64 = leb-true (length (j ∷ js)) MAX_JUDGE_NAMES few in
    let go = judges_go l k rows (sym at) (j ∷ []) js in (
      sym well ∙ go.0,
      ap (λ s. ends_well l s.held) (sym end ∙ go.1)
          ∙ sym ends
          ∙ ap₂ (λ (x y : Bool). x && y) (judges_used false k rows j js (omega (arith, most))) (sym rest),
    )

-- no word fits where one is missing, and none where there is one too many
no_words : {A : Type 0} → false ≡ true → A
no_words e = absurd (true≢false (sym e))

-- a media file
media_taken : TakesFit (Media ∷ [])
media_taken name [] e = no_words e
media_taken name (m ∷ []) e = (refl, refl)
media_taken name (m ∷ (x ∷ xs)) e = no_words e

-- a media file and judges
judged_taken : TakesFit (Media ∷ Judges ∷ [])
judged_taken name [] e = no_words e
judged_taken name (m ∷ []) e = (refl, refl)
judged_taken name (m ∷ (j ∷ js)) e = let l = built_as name (Media ∷ Judges ∷ []) in judged l 2 (rows_after l (m ∷ [])) (m ∷ j ∷ js) j js refl refl refl refl refl e

-- two files and judges
second_taken : TakesFit (Media ∷ Other ∷ Judges ∷ [])
second_taken name [] e = no_words e
second_taken name (m ∷ []) e = no_words e
second_taken name (m ∷ (s ∷ [])) e = (refl, refl)
second_taken name (m ∷ (s ∷ (j ∷ js))) e = let l = built_as name (Media ∷ Other ∷ Judges ∷ []) in judged l 3 (rows_after l (m ∷ s ∷ [])) (m ∷ s ∷ j ∷ js) j js refl refl refl refl refl e

-- three files, a new one and judges
out_taken : TakesFit (Media ∷ Definition ∷ Signature ∷ Out ∷ Judges ∷ [])
out_taken name [] e = no_words e
out_taken name (m ∷ []) e = no_words e
out_taken name (m ∷ (s ∷ [])) e = no_words e
out_taken name (m ∷ (s ∷ (t ∷ []))) e = no_words e
out_taken name (m ∷ (s ∷ (t ∷ (o ∷ [])))) e = (refl, refl)
out_taken name (m ∷ (s ∷ (t ∷ (o ∷ (j ∷ js))))) e = let l = built_as name (Media ∷ Definition ∷ Signature ∷ Out ∷ Judges ∷ []) in judged l 5 (rows_after l (m ∷ s ∷ t ∷ o ∷ [])) (m ∷ s ∷ t ∷ o ∷ j ∷ js) j js refl refl refl refl refl e

-- a number
count_taken : TakesFit (Count ∷ [])
count_taken name [] e = no_words e
count_taken name (n ∷ []) e = (refl, refl)
count_taken name (n ∷ (x ∷ xs)) e = absurd (true≢false (sym (both_true _ false e).1))

-- a media file, and an algorithm or none
algorithm_taken : TakesFit (Media ∷ Algorithm ∷ [])
algorithm_taken name [] e = no_words e
algorithm_taken name (m ∷ []) e = (refl, refl)
algorithm_taken name (m ∷ (a ∷ [])) e = (refl, refl)
algorithm_taken name (m ∷ (a ∷ (x ∷ xs))) e = absurd (true≢false (sym (both_true _ false e).1))

-- a media file and a new one
new_taken : TakesFit (Media ∷ Out ∷ [])
new_taken name [] e = no_words e
new_taken name (m ∷ []) e = no_words e
new_taken name (m ∷ (o ∷ [])) e = (refl, refl)
new_taken name (m ∷ (o ∷ (x ∷ xs))) e = no_words e

-- a media file and a definition
planned_taken : TakesFit (Media ∷ Definition ∷ [])
planned_taken name [] e = no_words e
planned_taken name (m ∷ []) e = no_words e
planned_taken name (m ∷ (d ∷ [])) e = (refl, refl)
planned_taken name (m ∷ (d ∷ (x ∷ xs))) e = no_words e

-- a media file, a definition, a signed message and a new file
built_taken : TakesFit (Media ∷ Definition ∷ Signature ∷ Out ∷ [])
built_taken name [] e = no_words e
built_taken name (m ∷ []) e = no_words e
built_taken name (m ∷ (d ∷ [])) e = no_words e
built_taken name (m ∷ (d ∷ (s ∷ []))) e = no_words e
built_taken name (m ∷ (d ∷ (s ∷ (o ∷ [])))) e = (refl, refl)
built_taken name (m ∷ (d ∷ (s ∷ (o ∷ (x ∷ xs))))) e = no_words e

-- a media file, a definition, another media file and judges
collected_taken : TakesFit (Media ∷ Definition ∷ Collected ∷ Judges ∷ [])
collected_taken name [] e = no_words e
collected_taken name (m ∷ []) e = no_words e
collected_taken name (m ∷ (d ∷ [])) e = no_words e
collected_taken name (m ∷ (d ∷ (c ∷ []))) e = (refl, refl)
collected_taken name (m ∷ (d ∷ (c ∷ (j ∷ js)))) e = let l = built_as name (Media ∷ Definition ∷ Collected ∷ Judges ∷ []) in judged l 4 (rows_after l (m ∷ d ∷ c ∷ [])) (m ∷ d ∷ c ∷ j ∷ js) j js refl refl refl refl refl e

-- four files, a new one and judges
four_taken : TakesFit (Media ∷ Definition ∷ Signature ∷ Collected ∷ Out ∷ Judges ∷ [])
four_taken name [] e = no_words e
four_taken name (m ∷ []) e = no_words e
four_taken name (m ∷ (d ∷ [])) e = no_words e
four_taken name (m ∷ (d ∷ (s ∷ []))) e = no_words e
four_taken name (m ∷ (d ∷ (s ∷ (c ∷ [])))) e = no_words e
four_taken name (m ∷ (d ∷ (s ∷ (c ∷ (o ∷ []))))) e = (refl, refl)
four_taken name (m ∷ (d ∷ (s ∷ (c ∷ (o ∷ (j ∷ js)))))) e = let l = built_as name (Media ∷ Definition ∷ Signature ∷ Collected ∷ Out ∷ Judges ∷ []) in judged l 6 (rows_after l (m ∷ d ∷ s ∷ c ∷ o ∷ [])) (m ∷ d ∷ s ∷ c ∷ o ∷ j ∷ js) j js refl refl refl refl refl e

-- words that fit a command are those that it takes
taken : (c : Command) → TakesFit (words_of c)
taken command.Digest = algorithm_taken
taken command.List = media_taken
taken command.Show = media_taken
taken command.Questions = judged_taken
taken command.Validate = judged_taken
taken command.Compare = second_taken
taken command.Plan = second_taken
taken command.Embed = out_taken
taken command.Sample = count_taken
taken command.Strip = new_taken
taken command.Extract = new_taken
taken command.ValidateExternal = second_taken
taken command.PlanFront = planned_taken
taken command.EmbedFront = built_taken
taken command.PlanCollect = collected_taken
taken command.EmbedCollect = four_taken

-- where there are roles, the words fit
with_roles : (c : Command) (words : List Text) (roles : Roles) → roles_with c words ≡ Some roles
    → fit (words_of c) words ≡ true
with_roles c words roles e = go (fit (words_of c) words) e
  where
    go : (b : Bool) → cond b (Some (roles_as c words)) None ≡ Some roles → b ≡ true
    go true h = refl
    go false h = absurd (none_some roles h)

-- ---- the word of the command

-- what is found passes the test
passes : (p : Command → Bool) (cs : List Command) (c : Command) → find p cs ≡ Some c → p c ≡ true
passes p [] c e = absurd (none_some c e)
passes p (x ∷ xs) c e = go (p x) refl (λ h. passes p xs c h) e
  where
    go : (b : Bool) → p x ≡ b → (find p xs ≡ Some c → p c ≡ true) → cond b (Some x) (find p xs) ≡ Some c → p c ≡ true
    go true at rest h = let same : x ≡ c = cc (h) in ap p (sym same) ∙ at
    go false at rest h = rest h

-- a command's word is its own
named : (first : Text) (c : Command) → command_of first ≡ Some c → first ≡ name_of c
named first c e = (bytes_eq-Decides first (name_of c)).0 (passes (λ x. bytes_eq first (name_of x)) commands c e)

-- ---- the first level

-- the whole, as it is built
abbrev whole : App
whole = built command_line

-- the names of its subcommands
abbrev names : Names
names = names_of whole

-- the walk once it has met this subcommand, and these words behind it
abbrev stopped : Text → List Text → Walk
stopped name vs = record (walk_from nothing_held) { stopped = Some (name, vs) }

-- the walk that has met a subcommand only takes up the words from there on
takes_up : (name : Text) (vs rest : List Text)
    → (walk_passes whole.top names (stopped name vs) rest ≡ true) × (fold (walked whole.top.rules names) (stopped name vs) rest ≡ stopped name (vs ++ rest))
unfolding walked walk_passes
takes_up name vs [] = (refl, ap (stopped name) (sym (append-nil vs)))
takes_up name vs (w ∷ ws) =
    let next = takes_up name (vs ++ w ∷ []) ws in
    (next.0, next.1 ∙ ap (stopped name) (append_assoc vs (w ∷ []) ws))

-- the word of a command stops it and passes, and its subcommand is found
record IsMet (c : Command) : Type 0 where
  stops : walked whole.top.rules names (walk_from nothing_held) (name_of c) ≡ stopped (name_of c) []
  turned : turn_passes whole.top names (walk_from nothing_held) (name_of c) ≡ true
  found : find (λ s. answers_to (name_of c) (label_of s)) whole.subs ≡ Some (built_of c)

met : (c : Command) → IsMet c
unfolding walked
met command.Digest = record { stops = refl; turned = refl; found = refl }
met command.List = record { stops = refl; turned = refl; found = refl }
met command.Show = record { stops = refl; turned = refl; found = refl }
met command.Questions = record { stops = refl; turned = refl; found = refl }
met command.Validate = record { stops = refl; turned = refl; found = refl }
met command.Compare = record { stops = refl; turned = refl; found = refl }
met command.Plan = record { stops = refl; turned = refl; found = refl }
met command.Embed = record { stops = refl; turned = refl; found = refl }
met command.Sample = record { stops = refl; turned = refl; found = refl }
met command.Strip = record { stops = refl; turned = refl; found = refl }
met command.Extract = record { stops = refl; turned = refl; found = refl }
met command.ValidateExternal = record { stops = refl; turned = refl; found = refl }
met command.PlanFront = record { stops = refl; turned = refl; found = refl }
met command.EmbedFront = record { stops = refl; turned = refl; found = refl }
met command.PlanCollect = record { stops = refl; turned = refl; found = refl }
met command.EmbedCollect = record { stops = refl; turned = refl; found = refl }

-- what is tested of a walk over the first level
abbrev stopped_passes : Walk → Bool → Bool
stopped_passes w passes =
    entered_passes whole w.stopped
    && (passes && (settle_passes whole.top.rules whole.top.args_override_self w.held
    && (list_all default_passes whole.top.rules && is_valid whole.top (finished whole.top.rules w.held) (is_some (entered whole w.stopped)))))

-- by what was found of the subcommand that it met, whose words these are
abbrev found_passes : Option Shape → List Text → Bool
found_passes o words =
    option_map_or (λ s. level_passes s [] nothing_held words false) o true
    && (true && (true && (true && is_valid whole.top [] (is_some (option_map (λ s. rows_at s words) o)))))

-- words behind a command that the command takes are taken
whole_takes : (c : Command) (words : List Text) → level_passes (built_of c) [] nothing_held words false ≡ true
    → takes command_line (name_of c ∷ words) ≡ true
unfolding walk_passes
whole_takes c words below =
    let next = takes_up (name_of c) [] words in
    let walk_is : fold (walked whole.top.rules names) (walked whole.top.rules names (walk_from nothing_held) (name_of c)) words ≡ stopped (name_of c) words
    = ap (λ (w : Walk). fold (walked whole.top.rules names) w words) (met c).stops ∙ next.1 in
    let passes : walk_passes whole.top names (walk_from nothing_held) (name_of c ∷ words) ≡ true
    = ap₂ (λ (x y : Bool). x && y) (met c).turned (ap (λ (w : Walk). walk_passes whole.top names w words) (met c).stops ∙ next.0) in
    ap (λ (w : Walk). stopped_passes w (walk_passes whole.top names (walk_from nothing_held) (name_of c ∷ words)))
    walk_is
    ∙ ap (stopped_passes (stopped (name_of c) words)) passes
    ∙ ap (λ (o : Option Shape). found_passes o words) (met c).found
    ∙ ap (λ (b : Bool). b && true) below

-- ---- all words

-- words that fit are taken
pub fitting : (words : List Text) (roles : Roles) → list_all is_name words ≡ true → roles_of_names words ≡ Some roles
    → takes command_line words ≡ true
fitting [] roles all e = absurd (none_some roles e)
fitting (first ∷ words) roles all e = go (command_of first) refl e
  where
    go : (o : Option Command) → command_of first ≡ o → option_and_then (λ c. roles_with c words) o ≡ Some roles
        → takes command_line (first ∷ words) ≡ true
    go None at e = absurd (none_some roles e)
    go (Some c) at e =
        ap (λ (t : Text). takes command_line (t ∷ words)) (named first c at)
        ∙ whole_takes c words
        (level (built_of c) words (both_true (is_name first) (list_all is_name words) all).1 (taken c (name_of c) words (with_roles c words roles e)))

-- words that aren't taken don't fit
pub unfit : (words : List Text) → list_all is_name words ≡ true → (takes command_line words ≡ true → ⊥)
    → roles_of_names words ≡ None
unfit words all refused = go (roles_of_names words) refl
  where
    go : (o : Option Roles) → roles_of_names words ≡ o → roles_of_names words ≡ None
    go None e = e
    go (Some roles) e = absurd (refused (fitting words roles all e))
