-- What the inputs of a build come to: one thing each, by what calls of other crates answered.
use Rattle.c2_opening.proofs.TheLaws.{one_opening_file}
use Rattle.c2_definition.proofs.TheLaws.{definitions_are_well_formed, each_definition_is_read_one_way_one, each_definition_is_read_one_way_some}
use Rattle.c2_new_signature.proofs.TheLaws.{one_message_read, some_message_read}
use Rattle.c2_lemmas.proofs.Stages.{IsOne, Something, one_stage, some_stage, stage_value}
use Rattle.std.proofs.Common.{◌≡◌, ◌⊎◌, inl, inr, ℕ, Bool, List, length, refl, sym, ap, subst, ◌^◌, ◌<◌, All, cond, arith}
use Rattle.std.specs.Prelude.{Result, Ok, Err}
use Rattle.c2_spec.specs.C2pa.Sign1.{SignParts, SpellsMessage}
use Rattle.c2_rules.specs.Opened.{IsOpened}
use Rattle.c2_definition.specs.DefinitionFile.{IsDefinition, IsWellFormed, Agrees, definition_in, definition_of}
use Rattle.c2_definition.specs.declared.types.Definition.{Definition}
use Rattle.c2_definition.specs.declared.types.DefinitionField.{DefinitionField}
use Rattle.c2_new_signature.specs.Message.{IsAccepted, IsMessageRead}
use Rattle.c2_new_signature.specs.declared.error.SignaturePart.{SignaturePart}
use Rattle.c2_build_refusals.specs.Stages.{IsDefinitionRefused, IsDefinitionStage, IsMediaRefused, IsMediaStage, IsMessageRefused, IsMessageStage, MediaKind, definition_stage, media_stage, message_stage}
use Rattle.c2_build_refusals.specs.declared.error.BuildError.{BuildError}
use Rattle.std.proofs.lemmas.Bool.{lt-ltb}
use Rattle.c2_base.specs.declared.limits.TheConstants.{MAX_INPUT_LEN}
use Rattle.c2_definition.specs.declared.error.DefinitionError.{DefinitionError}
use Rattle.c2_definition.specs.declared.error.DefinitionError.TheVariants as error
use Rattle.c2_definition.specs.declared.types.DefinitionField.TheVariants as field
use Rattle.c2_new_signature.specs.Refusals.{RefusesMessage}
use Rattle.c2_new_signature.specs.declared.error.MessageError.{MessageError}
use Rattle.c2_new_signature.specs.declared.error.MessageError.TheVariants as refusal
use Rattle.c2_new_signature.specs.declared.error.SignaturePart.TheVariants as part
use Rattle.c2_build_refusals.specs.declared.error.BuildError.TheVariants.{BadDefinition, BadSignature}
use Rattle.c2_definition.specs.Json.{object_of}
use Rattle.c2_spec.specs.Cbor.Fields.{require}

-- ---- the media

-- a media file is one thing to a build
pub one_media : (media : List ℕ) → IsOne (IsMediaStage media)
one_media media = one_stage media_stage (IsOpened media) (one_opening_file media)

-- a media file that is refused isn't one that isn't
pub not_both_media : (media : List ℕ) (kind : MediaKind) {P : Type 0} → IsMediaStage media (Ok kind)
    → IsMediaRefused media → P
not_both_media media kind {P} h refused =
    absurd (let bad = one_media media (Ok kind) (Err refused.0) h refused.1 in cc (bad))

-- one answer
abbrev same_answer : MediaKind → MediaKind → Type 0
same_answer k l = ◌≡◌ {A = Result MediaKind BuildError} (Ok k) (Ok l)

-- is one kind
pub same_kind : (k l : MediaKind) → same_answer k l → k ≡ l
same_kind k l h = cc (h)

-- ---- the definition

-- a definition file has one outcome
pub one_definition : (file : List ℕ) → IsOne (IsDefinitionStage file)
one_definition file = one_stage definition_stage (IsDefinition file) (each_definition_is_read_one_way_one file)

-- a definition file isn't both read and refused
pub not_both_definitions : (file : List ℕ) (d : Definition) {P : Type 0} → IsDefinitionStage file (Ok d)
    → IsDefinitionRefused file → P
not_both_definitions file d {P} h refused =
    absurd (let bad = one_definition file (Ok d) (Err refused.0) h refused.1 in cc (bad))

-- definitions that are read are one
pub same_definition : (d e : Definition) → ◌≡◌ {A = Result Definition BuildError} (Ok d) (Ok e) → d ≡ e
same_definition d e h = cc (h)

-- each definition file comes to something
pub some_definition : (file : List ℕ) → Something (IsDefinitionStage file)
some_definition file = some_stage definition_stage (IsDefinition file) (each_definition_is_read_one_way_some file)

-- a definition that was read is well formed
pub read_formed : (file : List ℕ) (d : Definition) → IsDefinitionStage file (Ok d) → IsWellFormed d
read_formed file d h = definitions_are_well_formed file d (stage_value BadDefinition (IsDefinition file) d h)

-- a definition file that is too long is refused for its size
pub long_definition : (file : List ℕ) → MAX_INPUT_LEN < length file
    → IsDefinitionStage file (Err (BadDefinition field.Size))
long_definition file long =
    let d = each_definition_is_read_one_way_some file in
    let size : definition_in d.1.payloads file ≡ Err field.Size =
    ap (λ (b : Bool). cond b (Err field.Size) (require field.Json (object_of file) (definition_of d.1.payloads)))
    (lt-ltb MAX_INPUT_LEN (length file) long) in
    (Err field.Size, record { payloads = d.1.payloads; told = d.1.told; is = sym size }, refl)

-- a definition that was read is the file
pub is_read : (file : List ℕ) (d : Definition)
    → ((r : Result Definition DefinitionField) → IsDefinition file r → Agrees r (Ok d)) → IsDefinition file (Ok d)
is_read file d agrees = let r = each_definition_is_read_one_way_some file in subst (IsDefinition file) (agrees r.0 r.1) r.1

-- what was refused of it is
pub is_bad : (file : List ℕ) (f : DefinitionField) (e : DefinitionError) → e ≡ error.BadDefinition f
    → ((r : Result Definition DefinitionField) → IsDefinition file r → Agrees r (Err e)) → IsDefinition file (Err f)
is_bad file f e is agrees =
    let r = each_definition_is_read_one_way_some file in
    let told : Agrees r.0 (Err (error.BadDefinition f)) =
    subst (λ (x : DefinitionError). Agrees r.0 (Err x)) is (agrees r.0 r.1) in
    subst (IsDefinition file) told r.1

-- ---- the message

-- a message has one outcome in a build
pub one_message : (protected bytes : List ℕ) → IsOne (IsMessageStage protected bytes)
one_message protected bytes =
    one_stage message_stage (IsMessageRead protected bytes)
    (one_message_read protected bytes)

-- a message that is refused isn't one that isn't
pub not_both_messages : (definition message : List ℕ) (d : Definition) (p : SignParts) {P : Type 0}
    → IsDefinitionStage definition (Ok d) → IsMessageStage d.protected message (Ok p)
    → IsMessageRefused definition message → P
not_both_messages definition message d p {P} is stage refused =
    let same : refused.0 ≡ d =
    same_definition refused.0 d (one_definition definition (Ok refused.0) (Ok d) refused.1 is) in
    let bad = subst (λ (x : Definition). IsMessageStage x.protected message (Err refused.2.0)) same refused.2.1 in
    absurd (let both = one_message d.protected message (Ok p) (Err refused.2.0) stage bad in cc (both))

-- each message comes to something
pub some_message : (protected bytes : List ℕ) → All (λ b. b < 2 ^ 8) bytes
    → Something (IsMessageStage protected bytes)
some_message protected bytes are =
    some_stage message_stage (IsMessageRead protected bytes)
    (some_message_read protected bytes are)

-- a message that is too long is refused for its size
pub long_message : (protected file : List ℕ) → MAX_INPUT_LEN < length file
    → IsMessageStage protected file (Err (BadSignature part.Size))
long_message protected file long = (Err part.Size, inl (refl, λ small. omega (arith, long, small)), refl)

-- a message that was read, of these bytes
pub taken_message : (protected bytes file : List ℕ) (p : SignParts) → bytes ≡ file → IsAccepted protected bytes
    → SpellsMessage bytes p → IsMessageStage protected file (Ok p)
taken_message protected bytes file p same accepted spelled =
    subst (λ (s : List ℕ). IsMessageStage protected s (Ok p)) same (Ok p, (accepted, spelled), refl)

-- one that was refused
pub refused_message : (protected bytes file : List ℕ) (test : SignaturePart) (e : MessageError) → bytes ≡ file
    → e ≡ refusal.BadSignature test → RefusesMessage protected bytes e
    → IsMessageStage protected file (Err (BadSignature test))
refused_message protected bytes file test e same is told =
    subst (λ (s : List ℕ). IsMessageStage protected s (Err (BadSignature test))) same
    (Err test, subst (RefusesMessage protected bytes) is told, refl)

-- ---- inputs that are due

-- the bytes of a source that is due are told
pub told_where_due : {P N : Type 0} → P ⊎ N → (N → P) → P
told_where_due {P} (inl p) due = p
told_where_due {P} (inr n) due = due n

-- the bytes of a source are known that is due unless one of two reasons holds
pub told_where_both : {P M N : Type 0} → P ⊎ (M ⊎ N) → (M → P) → (N → P) → P
told_where_both {P} (inl p) first second = p
told_where_both {P} (inr (inl m)) first second = first m
told_where_both {P} (inr (inr n)) first second = second n
