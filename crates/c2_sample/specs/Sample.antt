-- What `sample` makes, and what that comes to: a JPEG file of so many pieces, the file that is built of it, and the check of that.
use Rattle.std.specs.Prelude.{◌≡◌, ◌⊎◌, ℕ, zero, suc, ◌+◌, ◌*◌, ◌%◌, Bool, true, false, ⊤, List, [], ◌∷◌, ◌++◌, length, replicate, codes, decimal}
use Rattle.std.specs.declared.result.Result.{Result}
use Rattle.std.specs.declared.result.Result.TheVariants.{Ok, Err}
use Rattle.c2_base.specs.declared.values.Question.{Question}
use Rattle.c2_spec.specs.Container.{IsLocated}
use Rattle.c2_spec.specs.Judges.Panel.{panel_says}
use Rattle.c2_spec.specs.Located.{Located, refused, absent, here}
use Rattle.c2_spec.specs.declared.digest.Alg.{Alg}
use Rattle.c2_spec.specs.declared.panel.Verdict.{Verdict}
use Rattle.c2_rules.specs.Asking.{Heard, broken, part}
use Rattle.c2_rules.specs.Validated.{CheckAsks, IsAnswer}
use Rattle.c2_rules.specs.declared.answer.Answer.{Answer}
use Rattle.c2_new_file_spec.specs.Fresh.{GivesDigests}
use Rattle.c2_build_refusals.specs.Kinds.{ErrorKind, judge_fault, no_memory, read_fault, write_fault}
use Rattle.c2_build_refusals.specs.declared.error.BuildError.{BuildError}
use Rattle.c2_build_plain.specs.Building.{Built, IsEmbedded}
use Rattle.c2_opening.specs.declared.error.ValidateError.{ValidateError}
use Rattle.c2_opening.specs.declared.error.ValidateError.TheVariants as check
use Rattle.c2_sample.specs.declared.building.NewFile.{NewFile}
use Rattle.c2_sample.specs.declared.building.NewFile.TheVariants as new
use Rattle.c2_sample.specs.declared.media.TheConstants.{PIECE_BYTES}
use Rattle.c2_sample.specs.declared.types.Lengths.{Lengths}
use Rattle.c2_sample.specs.declared.types.SampleError.{SampleError}
use Rattle.c2_sample.specs.declared.types.SampleError.TheVariants.{JudgeFault, NoMemory}
use Rattle.c2_sample.specs.declared.types.Sampled.{Sampled}
use Rattle.c2_sample.specs.declared.types.Sampled.TheVariants.{Checked, Refused}

-- ---- what is made

-- the byte at place `j` of the piece at place `i`
abbrev pub piece_byte : ℕ → ℕ → ℕ
piece_byte i j = (31 * i + 7 * j) % 256

-- the first bytes of the piece at place `i`
unfoldable pub piece_bytes : ℕ → ℕ → List ℕ
piece_bytes i zero = []
piece_bytes i (suc j) = piece_bytes i j ++ piece_byte i j ∷ []

-- a piece: a comment segment (ITU-T T.81, section B.2.4.5)
abbrev pub piece : ℕ → List ℕ
piece i = 0xFF ∷ (0xFE ∷ (0x03 ∷ (0xEA ∷ piece_bytes i PIECE_BYTES)))

-- so many pieces one after the other
unfoldable pub pieces : ℕ → List ℕ
pieces zero = []
pieces (suc n) = pieces n ++ piece n

-- the media file: SOI, the pieces, EOI
abbrev pub sample_media : ℕ → List ℕ
sample_media n = 0xFF ∷ (0xD8 ∷ (pieces n ++ (0xFF ∷ (0xD9 ∷ []))))

-- the definition file
abbrev pub sample_definition : List ℕ
sample_definition = codes "{\"label\":\"urn:c2pa:00000000-0000-4000-8000-000000000000\",\"instance_id\":\"xmp:iid:sample\",\"generator\":\"c2\",\"protected\":\"a10126\",\"reserve\":256,\"assertions\":[{\"label\":\"c2pa.actions.v2\",\"kind\":\"cbor\",\"hex\":\"a167616374696f6e7381a166616374696f6e6c633270612e63726561746564\"}]}"

-- the signed message: a signature of 64 zero bytes under the definition's protected header
abbrev pub sample_message : List ℕ
sample_message = 0xD2 ∷ (0x84 ∷ (0x43 ∷ (0xA1 ∷ (0x01 ∷ (0x26 ∷ (0xA0 ∷ (0xF6 ∷ (0x58 ∷ (0x40 ∷ replicate 64 0)))))))))

-- ---- what it comes to

-- what a panel without judges says, as nobody is asked while the file is built
abbrev pub no_judges : Question → Verdict
no_judges = panel_says []

-- what is built of them
abbrev pub IsSampleBuilt : (Alg → List ℕ → List ℕ) → ℕ → Result Built BuildError → Type 0
IsSampleBuilt hash n r = IsEmbedded hash no_judges (sample_media n) sample_definition sample_message r

-- how many bytes the store has that a file is found to have
abbrev pub store_len : Located → ℕ
store_len (refused reason number) = 0
store_len absent = 0
store_len (here start len store) = length store

-- the lengths of this media, this file and its store
abbrev pub lengths_of : ℕ → List ℕ → Located → Lengths
lengths_of media file l = record { media = media; file = length file; store = store_len l }

-- what a new file comes to, over media of this length: its lengths, and what the check answers
pub record IsFileSampled (hash : Alg → List ℕ → List ℕ) (said : Question → Verdict) (media : ℕ) (file : List ℕ) (s : Sampled) : Type 0 where
  pub located : Located
  pub is_located : IsLocated file located
  pub answer : Answer
  pub is_answer : IsAnswer hash said file answer
  pub is : s ≡ Checked (lengths_of media file located) answer

-- what a build comes to
abbrev pub IsBuildSampled : (Alg → List ℕ → List ℕ) → (Question → Verdict) → ℕ → Result Built BuildError → Sampled → Type 0
IsBuildSampled hash said media (Ok b) s = IsFileSampled hash said media b.file s
IsBuildSampled hash said media (Err e) s = s ≡ Refused e

-- what so many pieces come to
abbrev pub IsSampled : (Alg → List ℕ → List ℕ) → (Question → Verdict) → ℕ → Sampled → Type 0
IsSampled hash said n s =
    (r : Result Built BuildError) × IsSampleBuilt hash n r × IsBuildSampled hash said (length (sample_media n)) r s

-- ---- what is asked

-- the check of a new file asks these questions; where there is none, nothing is asked
abbrev pub BuildAsks : (Alg → List ℕ → List ℕ) → (Question → Verdict) → Result Built BuildError → List Question → Type 0
BuildAsks hash said (Ok b) qs = CheckAsks hash said b.file qs
BuildAsks hash said (Err e) qs = qs ≡ []

-- these questions are asked of so many pieces: no judge is asked while the file is built
abbrev pub SampleAsks : (Alg → List ℕ → List ℕ) → (Question → Verdict) → ℕ → List Question → Type 0
SampleAsks hash said n qs = (r : Result Built BuildError) × IsSampleBuilt hash n r × BuildAsks hash said r qs

-- how far the call came with its questions that ended with this error
abbrev pub sample_heard : SampleError → Heard
sample_heard JudgeFault = broken
sample_heard NoMemory = part

-- ---- its line

-- what is reported of the files of so many pieces
abbrev pub sample_line : ℕ → Lengths → List ℕ
sample_line n l =
    codes "sample " ++ decimal n ++ codes " media=" ++ decimal l.media ++ codes " file=" ++ decimal l.file
    ++ codes " store=" ++ decimal l.store ++ codes "\n"

-- ---- laws

-- a sample of so many pieces has one outcome at most
abbrev pub OneSample : Type 0
OneSample = (hash : Alg → List ℕ → List ℕ) (said : Question → Verdict) (n : ℕ) (s t : Sampled)
    → IsSampled hash said n s → IsSampled hash said n t → s ≡ t

-- a sample of so many pieces asks one list of questions at most
abbrev pub OneSampleAsks : Type 0
OneSampleAsks = (hash : Alg → List ℕ → List ℕ) (said : Question → Verdict) (n : ℕ) (ps qs : List Question)
    → SampleAsks hash said n ps → SampleAsks hash said n qs → ps ≡ qs

-- a sample of so many pieces has an outcome, where the hash gives digests
abbrev pub EachSample : Type 0
EachSample = (hash : Alg → List ℕ → List ℕ) (said : Question → Verdict) (n : ℕ) → GivesDigests hash → (s : Sampled) × IsSampled hash said n s

-- a sample of so many pieces asks a list of questions, where the hash gives digests
abbrev pub EachSampleAsks : Type 0
EachSampleAsks = (hash : Alg → List ℕ → List ℕ) (said : Question → Verdict) (n : ℕ) → GivesDigests hash → (qs : List Question) × SampleAsks hash said n qs

-- ---- for private clauses

-- whether an error of this kind is a refusal of what is built
abbrev pub is_refusal : ErrorKind → Bool
is_refusal read_fault = false
is_refusal judge_fault = false
is_refusal write_fault = false
is_refusal no_memory = false
is_refusal k = true

-- the kind of an error of a build in memory: a refusal, or that memory ran out
abbrev pub IsSureKind : ErrorKind → Type 0
IsSureKind k = (is_refusal k ≡ true) ⊎ (k ≡ no_memory)

-- what is built of this media, or what is refused
abbrev pub IsNewFile : (Alg → List ℕ → List ℕ) → List ℕ → NewFile → Type 0
IsNewFile hash media (new.Built file) = (b : Built) × IsEmbedded hash no_judges media sample_definition sample_message (Ok b) × (file ≡ b.file)
IsNewFile hash media (new.Refused e) = IsEmbedded hash no_judges media sample_definition sample_message (Err e)

-- this is the length of the store that a file is found to have
abbrev pub IsLength : List ℕ → ℕ → Type 0
IsLength file n = (l : Located) × IsLocated file l × (n ≡ store_len l)

-- an error of a check in memory: the source doesn't fail
abbrev pub IsSureFault : ValidateError → Type 0
IsSureFault check.ReadFault = ⊥
IsSureFault check.JudgeFault = ⊤
IsSureFault check.NoMemory = ⊤

-- this error of a sample is that error of the check
abbrev pub IsSameError : ValidateError → SampleError → Type 0
IsSameError check.ReadFault f = ⊥
IsSameError check.JudgeFault f = f ≡ JudgeFault
IsSameError check.NoMemory f = f ≡ NoMemory
