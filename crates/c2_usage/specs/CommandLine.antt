-- The commands, and which word of a command line is which. All that differs from command to command stands in `usage_parts`,
-- `name_of` and `words_of`; the usage line, the words that fit and the roles follow.
use Rattle.std.specs.Prelude.{◌≡◌, ℕ, ◌+◌, min, Bool, true, false, not, ◌==◌, ◌&&◌, nat_le, bytes_eq, List, [], ◌∷◌, ◌++◌, length, codes, count_by, find, flat_map, is_some, position, slice_get, Ok, Err, Some, None, ⊤, option_map, option_and_then, if◌then◌else◌}
use Rattle.std.specs.Char.{is_ascii_digit}
use Rattle.std.specs.Str.Parse.{digits_value}
use Rattle.std.specs.declared.option.Option.{Option}
use Rattle.std.specs.List.{join_by, list_all, list_any}
use Rattle.std.specs.declared.result.Result.{Result}
use Rattle.c2_base.specs.declared.limits.TheConstants.{MAX_JUDGE_NAMES}
use Rattle.c2_spec.specs.Digest.{alg_named}
use Rattle.c2_usage.specs.declared.types.Command.{Command}
use Rattle.c2_usage.specs.declared.types.Command.TheVariants.{Digest, List as ListBoxes, Show, Questions, Validate, Compare, Plan, Embed, Sample, Strip, Extract, ValidateExternal, PlanFront, EmbedFront, PlanCollect, EmbedCollect}
use Rattle.c2_usage.specs.declared.types.Role.{Role}
use Rattle.c2_usage.specs.declared.types.Role.TheVariants.{Media, Other, Definition, Signature, Store, Collected, Out, Count, Algorithm, Judges}
use Rattle.c2_usage.specs.declared.types.Roles.{Roles}
use Rattle.c2_usage.specs.declared.types.RolesError.{RolesError}
use Rattle.c2_usage.specs.declared.types.TheConstants.{MAX_PIECES}
use Rattle.c2_usage.specs.declared.types.RolesError.TheVariants.{Usage, NoMemory}

-- ---- the commands

-- the commands as the usage line has them: those of one part have the same words
abbrev pub usage_parts : List (List Command)
usage_parts =
    (Digest ∷ [])
    ∷ (ListBoxes ∷ Show ∷ [])
    ∷ (Questions ∷ Validate ∷ [])
    ∷ (Compare ∷ [])
    ∷ (Plan ∷ [])
    ∷ (Embed ∷ [])
    ∷ (Sample ∷ [])
    ∷ (Strip ∷ Extract ∷ [])
    ∷ (ValidateExternal ∷ [])
    ∷ (PlanFront ∷ [])
    ∷ (EmbedFront ∷ [])
    ∷ (PlanCollect ∷ [])
    ∷ (EmbedCollect ∷ [])
    ∷ []

-- the word of a command
abbrev pub name_of : Command → List ℕ
name_of Digest = codes "digest"
name_of ListBoxes = codes "list"
name_of Show = codes "show"
name_of Questions = codes "questions"
name_of Validate = codes "validate"
name_of Compare = codes "compare"
name_of Plan = codes "plan"
name_of Embed = codes "embed"
name_of Sample = codes "sample"
name_of Strip = codes "strip"
name_of Extract = codes "extract"
name_of ValidateExternal = codes "validate-external"
name_of PlanFront = codes "plan-front"
name_of EmbedFront = codes "embed-front"
name_of PlanCollect = codes "plan-collect"
name_of EmbedCollect = codes "embed-collect"

-- what each word behind a command's own is, in order
abbrev pub words_of : Command → List Role
words_of Digest = Media ∷ Algorithm ∷ []
words_of ListBoxes = Media ∷ []
words_of Show = Media ∷ []
words_of Questions = Media ∷ Judges ∷ []
words_of Validate = Media ∷ Judges ∷ []
words_of Compare = Media ∷ Other ∷ Judges ∷ []
words_of Plan = Media ∷ Definition ∷ Judges ∷ []
words_of Embed = Media ∷ Definition ∷ Signature ∷ Out ∷ Judges ∷ []
words_of Sample = Count ∷ []
words_of Strip = Media ∷ Out ∷ []
words_of Extract = Media ∷ Out ∷ []
words_of ValidateExternal = Media ∷ Store ∷ Judges ∷ []
words_of PlanFront = Media ∷ Definition ∷ []
words_of EmbedFront = Media ∷ Definition ∷ Signature ∷ Out ∷ []
words_of PlanCollect = Media ∷ Definition ∷ Collected ∷ Judges ∷ []
words_of EmbedCollect = Media ∷ Definition ∷ Signature ∷ Collected ∷ Out ∷ Judges ∷ []

-- all commands
abbrev pub commands : List Command
commands = flat_map (λ part. part) usage_parts

-- the command of a word
abbrev pub command_of : List ℕ → Option Command
command_of word = find (λ c. bytes_eq word (name_of c)) commands

-- ---- what a role is

-- how a usage line names a role
abbrev pub role_text : Role → List ℕ
role_text Media = codes "MEDIA"
role_text Other = codes "OTHER"
role_text Definition = codes "DEFINITION"
role_text Signature = codes "SIGNATURE"
role_text Store = codes "STORE"
role_text Collected = codes "OTHER"
role_text Out = codes "OUT"
role_text Count = codes "N"
role_text Algorithm = codes "[ALG]"
role_text Judges = codes "[JUDGE..]"

-- the media file is the first source
abbrev pub is_media : Role → Bool
is_media Media = true
is_media role = false

-- the other file of `compare`, the definition file and an external store are the second source
abbrev pub is_second : Role → Bool
is_second Other = true
is_second Definition = true
is_second Store = true
is_second role = false

-- the signed message is the third source
abbrev pub is_third : Role → Bool
is_third Signature = true
is_third role = false

-- another media file whose manifests are taken in is the fourth source
abbrev pub is_fourth : Role → Bool
is_fourth Collected = true
is_fourth role = false

-- the new file is `out`
abbrev pub is_out : Role → Bool
is_out Out = true
is_out role = false

-- how many pieces the made media has
abbrev pub is_count : Role → Bool
is_count Count = true
is_count role = false

-- the algorithm of a digest
abbrev pub is_algorithm : Role → Bool
is_algorithm Algorithm = true
is_algorithm role = false

-- names of judges
abbrev pub is_judges : Role → Bool
is_judges Judges = true
is_judges role = false

-- one word, and not names of judges
abbrev pub is_one_word : Role → Bool
is_one_word role = not (is_judges role)

-- judges are asked by commands that name them, and by the one that makes its media
abbrev pub lets_ask : Role → Bool
lets_ask role = if is_judges role then true else is_count role

-- ---- what a command names

-- whether a command has a word of such a role
abbrev pub has_word : (Role → Bool) → Command → Bool
has_word is c = list_any is (words_of c)

-- whether a command makes its media, of a number of pieces
abbrev pub makes_media : Command → Bool
makes_media c = has_word is_count c

-- whether a command may ask judges
abbrev pub asks_judges : Command → Bool
asks_judges c = has_word lets_ask c

-- whether a command has its whole report before it writes any of it: `compare` writes evidence while it reads it
abbrev pub reports_whole : Command → Bool
reports_whole Compare = false
reports_whole c = true

-- ---- the usage line

-- a part of the usage line: its commands, and the words of the first
abbrev pub part_text : List Command → List ℕ
part_text [] = []
part_text (c ∷ more) = join_by name_of (codes "|") (c ∷ more) ++ flat_map (λ role. codes " " ++ role_text role) (words_of c)

-- the usage line, without its line feed
abbrev pub usage_text : List ℕ
usage_text = codes "usage: c2 " ++ join_by part_text (codes "; ") usage_parts

-- these commands have the same words
abbrev pub HaveSameWords : List Command → Type 0
HaveSameWords [] = ⊤
HaveSameWords (c ∷ []) = ⊤
HaveSameWords (c ∷ (d ∷ more)) = (words_of c ≡ words_of d) × HaveSameWords (d ∷ more)

-- each of these parts has commands with the same words
abbrev pub EachHasSameWords : List (List Command) → Type 0
EachHasSameWords [] = ⊤
EachHasSameWords (part ∷ parts) = HaveSameWords part × EachHasSameWords parts

-- ---- words

-- the dash, with which no word begins
abbrev pub dash : ℕ
dash = 0x2D

-- a word that may be a name: it isn't empty and doesn't begin with a dash
abbrev pub is_name : List ℕ → Bool
is_name [] = false
is_name (first ∷ rest) = not (first == dash)

-- the digit with which no number begins
abbrev pub zero_digit : ℕ
zero_digit = 0x30

-- a number: decimal digits without a leading zero
abbrev pub is_number : List ℕ → Bool
is_number [] = false
is_number (first ∷ rest) = not (first == zero_digit) && list_all is_ascii_digit (first ∷ rest)

-- how many pieces a word asks for, if it is a number and they aren't too many
abbrev pub pieces_of : List ℕ → Option ℕ
pieces_of word = if is_number word && nat_le (digits_value 10 word) MAX_PIECES then Some (digits_value 10 word) else None

-- a word has the form of its role: any name is that of a file, and an algorithm is named
abbrev pub has_form : Role → List ℕ → Bool
has_form Count word = is_some (pieces_of word)
has_form Algorithm word = is_some (alg_named word)
has_form role word = true

-- these words fit roles: a word of its form for each, where an algorithm may be missing, and names of judges, which come last
abbrev pub fit : List Role → List (List ℕ) → Bool
fit [] [] = true
fit [] (word ∷ words) = false
fit (Judges ∷ roles) words = nat_le (length words) MAX_JUDGE_NAMES
fit (Algorithm ∷ roles) [] = fit roles []
fit (role ∷ roles) [] = false
fit (role ∷ roles) (word ∷ words) = has_form role word && fit roles words

-- ---- roles

-- which word is that of a role, counted from the command's own
abbrev pub place_of : (Role → Bool) → List Role → Option ℕ
place_of is roles = option_map (λ i. i + 1) (position is roles)

-- the word of a role among those behind the command's own
abbrev pub word_as : (Role → Bool) → List Role → List (List ℕ) → Option (List ℕ)
word_as is roles words = option_and_then (λ i. slice_get words i) (position is roles)

-- where names of judges begin: behind the other words
abbrev pub first_judge : List Role → List (List ℕ) → ℕ
first_judge roles words = min (length words) (count_by is_one_word roles) + 1

-- the roles of a command with these words behind it, which fit
abbrev pub roles_as : Command → List (List ℕ) → Roles
roles_as c words = record {
  command = c;
  media = place_of is_media (words_of c);
  second = place_of is_second (words_of c);
  third = place_of is_third (words_of c);
  fourth = place_of is_fourth (words_of c);
  out = place_of is_out (words_of c);
  judges = first_judge (words_of c) words;
  count = option_and_then pieces_of (word_as is_count (words_of c) words);
  alg = option_and_then alg_named (word_as is_algorithm (words_of c) words);
}

-- the roles of a command with these words behind it, if they fit
abbrev pub roles_with : Command → List (List ℕ) → Option Roles
roles_with c words = if fit (words_of c) words then Some (roles_as c words) else None

-- the roles of words that may all be names: the first of them names the command, if they fit
abbrev pub roles_of_names : List (List ℕ) → Option Roles
roles_of_names [] = None
roles_of_names (first ∷ words) = option_and_then (λ c. roles_with c words) (command_of first)

-- the roles of these words, if they fit
abbrev pub roles_of : List (List ℕ) → Option Roles
roles_of words = if list_all is_name words then roles_of_names words else None

-- the answer of `roles`
abbrev pub GivesRoles : List (List ℕ) → Result Roles RolesError → Type 0
GivesRoles words (Ok roles) = roles_of words ≡ Some roles
GivesRoles words (Err Usage) = roles_of words ≡ None
GivesRoles words (Err NoMemory) = ⊤
