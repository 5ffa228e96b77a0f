-- The inputs that are due, and those that are left.
use Rattle.c2_opening.proofs.TheLaws.{one_opening_file}
use Rattle.std.proofs.Common.{◌≡◌, ◌⊎◌, inl, inr, ℕ, List, Option, Some, subst}
use Rattle.std.specs.Prelude.{Ok}
use Rattle.c2_base.specs.declared.values.Question.{Question}
use Rattle.c2_spec.specs.C2pa.Sign1.{SignParts}
use Rattle.c2_spec.specs.declared.digest.Alg.{Alg}
use Rattle.c2_spec.specs.declared.panel.Verdict.{Verdict}
use Rattle.c2_definition.specs.declared.types.Definition.{Definition}
use Rattle.c2_build_refusals.specs.Stages.{IsDefinitionRefused, IsDefinitionStage, IsDefinitionTold, IsMediaStage, IsMessageRefused, IsMessageStage, IsMessageTold, IsToldRefused, MediaKind}
use Rattle.c2_build_refusals.proofs.Inputs.{not_both_definitions, not_both_media, not_both_messages, told_where_both, told_where_due}
use Rattle.c2_build_collect_base.specs.Grounds.{IsOtherTold, IsParentRefused, opening_of}
use Rattle.c2_build_collect.specs.Answers.{IsNotAccepted, IsOtherDue}
use Rattle.c2_build_collect.proofs.Stages.{opened_kind}

-- ---- the media

module _ (hash : Alg → List ℕ → List ℕ) (said : Question → Verdict) (file : List ℕ) (kind : MediaKind) (is : IsMediaStage file (Ok kind)) where
  -- a media file of a kind isn't accepted where a rule fails of its store
  pub not_accepted : IsNotAccepted hash said file → IsParentRefused hash said file (opening_of kind)
  not_accepted (inl refused) = not_both_media file kind is refused
  not_accepted (inr parent) =
      subst (IsParentRefused hash said file)
      (one_opening_file file parent.0 (opening_of kind) parent.1 (opened_kind file kind is)) parent.2

  -- the bytes of the other file are told, unless such a rule fails
  pub other_told : {NotDue : Type 0} (known : Option (List ℕ)) (others : List ℕ) → (NotDue → ⊥)
      → IsOtherDue hash said file NotDue known others → IsOtherTold hash said file (opening_of kind) known others
  other_told known others due (inl told) = inl told
  other_told known others due (inr (inl refused)) = inr (not_accepted refused)
  other_told known others due (inr (inr undue)) = absurd (due undue)

  -- the bytes of the definition file are told
  pub definition_told : (known : Option (List ℕ)) (bytes : List ℕ) → IsDefinitionTold file known bytes
      → known ≡ Some bytes
  definition_told known bytes told = told_where_due told (λ refused. not_both_media file kind is refused)

  -- the bytes of the message are known, where the definition isn't refused
  pub message_told : (d : Definition) (bytes : List ℕ) → IsDefinitionStage bytes (Ok d)
      → (known : Option (List ℕ)) (signed : List ℕ) → IsMessageTold file bytes known signed → known ≡ Some signed
  message_told d bytes stage known signed told =
      told_where_both told (λ refused. not_both_media file kind is refused)
      (λ refused. not_both_definitions bytes d stage refused)

-- ---- the other inputs

-- a definition that isn't refused isn't one that is
pub undefined : (d : Definition) (bytes : List ℕ) → IsDefinitionStage bytes (Ok d) → IsDefinitionRefused bytes → ⊥
undefined d bytes stage refused = not_both_definitions bytes d stage refused

-- a definition and its message aren't refused where both passed
pub unsigned : (d : Definition) (p : SignParts) (bytes signed : List ℕ) → IsDefinitionStage bytes (Ok d)
    → IsMessageStage d.protected signed (Ok p) → IsDefinitionRefused bytes ⊎ IsMessageRefused bytes signed → ⊥
unsigned d p bytes signed stage read (inl refused) = not_both_definitions bytes d stage refused
unsigned d p bytes signed stage read (inr refused) =
    not_both_messages bytes signed d p stage read refused

-- a definition and its message aren't known to be refused where both passed as far as they are known
pub untold : (d : Definition) (p : SignParts) (definition message : Option (List ℕ))
    → ((bytes : List ℕ) → definition ≡ Some bytes → IsDefinitionStage bytes (Ok d))
    → ((signed : List ℕ) → message ≡ Some signed → IsMessageStage d.protected signed (Ok p))
    → IsToldRefused definition message → ⊥
untold d p definition message stage read told =
    not_both_messages told.0 told.2.0 d p (stage told.0 told.1)
    (read told.2.0 told.2.1) told.2.2
