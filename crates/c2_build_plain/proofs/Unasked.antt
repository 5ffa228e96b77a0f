-- Nobody is asked of a media file that has nothing to ask, nor where the definition or the message is refused.
use Rattle.std.proofs.Common.{◌≡◌, ◌⊎◌, ℕ, List, [], Option, Some, inl, inr, refl, sym, subst}
use Rattle.std.specs.Prelude.{Ok, Err}
use Rattle.c2_base.specs.declared.values.Question.{Question}
use Rattle.c2_spec.specs.C2pa.Sign1.{SignParts}
use Rattle.c2_spec.specs.declared.digest.Alg.{Alg}
use Rattle.c2_spec.specs.declared.panel.Verdict.{Verdict}
use Rattle.c2_definition.specs.declared.types.Definition.{Definition}
use Rattle.c2_build_plain.specs.Answers.{AsksEmbedded, AsksPlanned}
use Rattle.c2_build_plain.specs.Steps.{AsksWith}
use Rattle.c2_build_refusals.specs.Kinds.{WithoutFault}
use Rattle.c2_build_refusals.specs.Stages.{HasNothingToAsk, IsDefinitionRefused, IsDefinitionStage, IsDefinitionTold, IsMediaStage, IsMessageStage, IsMessageTold, IsToldOf, IsToldRefused, KindAsks, MediaKind, fresh}
use Rattle.c2_build_base.specs.Grounds.{IsKind, KindHears}
use Rattle.c2_build_base.specs.declared.media.MediaRead.{MediaRead}
use Rattle.c2_build_refusals.specs.declared.error.BuildError.{BuildError}
use Rattle.c2_build_refusals.proofs.Outside.{outside_all, outside_map, said_each}
use Rattle.c2_build_refusals.proofs.Inputs.{not_both_definitions, not_both_media, not_both_messages, one_definition, one_media, one_message, same_kind, told_where_both, told_where_due}
use Rattle.c2_lemmas.proofs.Asks.{asks_behind, asks_none}

-- a file with nothing to ask asks nothing
pub kind_asks : (hash : Alg → List ℕ → List ℕ) (said : Question → Verdict) (media : List ℕ) (kind : MediaKind)
    → IsMediaStage media (Ok kind) → HasNothingToAsk media → KindAsks hash said media kind []
kind_asks hash said media kind is (inl refused) = not_both_media media kind is refused
kind_asks hash said media kind is (inr none) =
    let same : fresh ≡ kind = same_kind fresh kind (one_media media (Ok fresh) (Ok kind) none is) in
    subst (λ k. KindAsks hash said media k []) same refl

-- ---- what `plan` asks

module _ (hash : Alg → List ℕ → List ℕ) (said : Question → Verdict) (media definition : Option (List ℕ)) where
  -- nothing where the media is refused
  pub refused_plan : (e : BuildError)
      → ((file : List ℕ) → media ≡ Some file → WithoutFault e (IsMediaStage file (Err e)))
      → WithoutFault e ((qs : List Question) → AsksPlanned hash media definition said qs → qs ≡ [])
  refused_plan e stage = said_each e {A = List Question} (λ (qs : List Question). AsksPlanned hash media definition said qs → qs ≡ []) (λ qs. said_each e {A = AsksPlanned hash media definition said qs} (λ (k : AsksPlanned hash media definition said qs). qs ≡ []) (λ k. by qs k))
    where
      by : (qs : List Question) → AsksPlanned hash media definition said qs → WithoutFault e (qs ≡ [])
      by qs (inl k) =
          outside_map e (λ is. asks_none (IsMediaStage k.file) _ e qs (one_media k.file) is k.asks)
          (stage k.file k.is_file)
      by qs (inr h) = outside_all e h.0

  module _ (m : MediaRead) (found : (file : List ℕ) → media ≡ Some file → (kind : MediaKind) × IsKind file m kind) where
    -- the bytes of the definition are told, where the media isn't refused
    definition_told : (file bytes : List ℕ) → media ≡ Some file → IsDefinitionTold file definition bytes
        → definition ≡ Some bytes
    definition_told file bytes known told = let k = found file known in told_where_due told (λ refused. not_both_media file k.0 k.1.stage refused)

    -- nothing where the definition is refused
    pub undefined_plan : (e : BuildError)
        → ((bytes : List ℕ) → definition ≡ Some bytes → WithoutFault e (IsDefinitionStage bytes (Err e)))
        → WithoutFault e ((qs : List Question) → AsksPlanned hash media definition said qs → qs ≡ [])
    undefined_plan e stage = said_each e {A = List Question} (λ (qs : List Question). AsksPlanned hash media definition said qs → qs ≡ []) (λ qs. said_each e {A = AsksPlanned hash media definition said qs} (λ (k : AsksPlanned hash media definition said qs). qs ≡ []) (λ k. by qs k))
      where
        by : (qs : List Question) → AsksPlanned hash media definition said qs → WithoutFault e (qs ≡ [])
        by qs (inl k) =
            let kind = found k.file k.is_file in
            outside_map e
            (λ is. asks_none (IsDefinitionStage k.bytes) _ e qs (one_definition k.bytes) is (asks_behind (IsMediaStage k.file) _ kind.0 qs (one_media k.file) kind.1.stage k.asks))
            (stage k.bytes (definition_told k.file k.bytes k.is_file k.is_bytes))
        by qs (inr h) = outside_all e h.0

    -- where the definition isn't refused, a plan asks what the media does
    pub planned_asks : (d : Definition) → ((bytes : List ℕ) → definition ≡ Some bytes → IsDefinitionStage bytes (Ok d))
        → (qs : List Question) → AsksPlanned hash media definition said qs → KindHears hash media m said qs
    planned_asks d stage qs (inl k) =
        let kind = found k.file k.is_file in
        record {
          bytes = k.file;
          is_known = k.is_file;
          kind = kind.0;
          is = kind.1;
          asks = asks_behind (IsDefinitionStage k.bytes) _ d qs (one_definition k.bytes) (stage k.bytes (definition_told k.file k.bytes k.is_file k.is_bytes))
              (asks_behind (IsMediaStage k.file) _ kind.0 qs (one_media k.file) kind.1.stage k.asks);
        }
    planned_asks d stage qs (inr h) = by h.1
      where
        by : IsToldOf media HasNothingToAsk ⊎ IsToldOf definition IsDefinitionRefused → KindHears hash media m said qs
        by (inl told) =
            let kind = found told.0 told.1 in
            record
            { bytes = told.0; is_known = told.1; kind = kind.0; is = kind.1; asks = subst (KindAsks hash said told.0 kind.0) (sym h.0) (kind_asks hash said told.0 kind.0 kind.1.stage told.2) }
        by (inr told) = not_both_definitions told.0 d (stage told.0 told.1) told.2

-- ---- what `embed` asks

module _ (hash : Alg → List ℕ → List ℕ) (said : Question → Verdict) (media definition message : Option (List ℕ)) where
  -- nothing where the media is refused
  pub refused_embed : (e : BuildError)
      → ((file : List ℕ) → media ≡ Some file → WithoutFault e (IsMediaStage file (Err e)))
      → WithoutFault e ((qs : List Question) → AsksEmbedded hash media definition message said qs → qs ≡ [])
  refused_embed e stage = said_each e {A = List Question} (λ (qs : List Question). AsksEmbedded hash media definition message said qs → qs ≡ [])
      (λ qs. said_each e {A = AsksEmbedded hash media definition message said qs} (λ (k : AsksEmbedded hash media definition message said qs). qs ≡ []) (λ k. by qs k))
    where
      by : (qs : List Question) → AsksEmbedded hash media definition message said qs → WithoutFault e (qs ≡ [])
      by qs (inl k) =
          outside_map e (λ is. asks_none (IsMediaStage k.file) _ e qs (one_media k.file) is k.asks)
          (stage k.file k.is_file)
      by qs (inr h) = outside_all e h.0

  module _ (m : MediaRead) (found : (file : List ℕ) → media ≡ Some file → (kind : MediaKind) × IsKind file m kind) where
    -- the bytes of the definition are told, where the media isn't refused
    told_definition : (file bytes : List ℕ) → media ≡ Some file → IsDefinitionTold file definition bytes
        → definition ≡ Some bytes
    told_definition file bytes known told = let k = found file known in told_where_due told (λ refused. not_both_media file k.0 k.1.stage refused)

    -- nothing where the definition is refused
    pub undefined_embed : (e : BuildError)
        → ((bytes : List ℕ) → definition ≡ Some bytes → WithoutFault e (IsDefinitionStage bytes (Err e)))
        → WithoutFault e ((qs : List Question) → AsksEmbedded hash media definition message said qs → qs ≡ [])
    undefined_embed e stage = said_each e {A = List Question} (λ (qs : List Question). AsksEmbedded hash media definition message said qs → qs ≡ [])
        (λ qs. said_each e {A = AsksEmbedded hash media definition message said qs} (λ (k : AsksEmbedded hash media definition message said qs). qs ≡ []) (λ k. by qs k))
      where
        by : (qs : List Question) → AsksEmbedded hash media definition message said qs → WithoutFault e (qs ≡ [])
        by qs (inl k) =
            let kind = found k.file k.is_file in
            outside_map e
            (λ is. asks_none (IsDefinitionStage k.bytes) _ e qs (one_definition k.bytes) is (asks_behind (IsMediaStage k.file) _ kind.0 qs (one_media k.file) kind.1.stage k.asks))
            (stage k.bytes (told_definition k.file k.bytes k.is_file k.is_bytes))
        by qs (inr h) = outside_all e h.0

    module _ (d : Definition) (is : (bytes : List ℕ) → definition ≡ Some bytes → IsDefinitionStage bytes (Ok d)) where
      -- the bytes of the message are known, where neither the media nor the definition is refused
      told_message : (file bytes signed : List ℕ) → media ≡ Some file → IsDefinitionTold file definition bytes
          → IsMessageTold file bytes message signed → message ≡ Some signed
      told_message file bytes signed known told told' =
          let k = found file known in
          told_where_both told' (λ refused. not_both_media file k.0 k.1.stage refused)
          (λ refused. not_both_definitions bytes d (is bytes (told_definition file bytes known told)) refused)

      -- nothing where the message is refused
      pub unsigned_embed : (e : BuildError)
          → ((signed : List ℕ) → message ≡ Some signed → WithoutFault e (IsMessageStage d.protected signed (Err e)))
          → WithoutFault e ((qs : List Question) → AsksEmbedded hash media definition message said qs → qs ≡ [])
      unsigned_embed e stage = said_each e {A = List Question} (λ (qs : List Question). AsksEmbedded hash media definition message said qs → qs ≡ [])
          (λ qs. said_each e {A = AsksEmbedded hash media definition message said qs} (λ (k : AsksEmbedded hash media definition message said qs). qs ≡ []) (λ k. by qs k))
        where
          by : (qs : List Question) → AsksEmbedded hash media definition message said qs → WithoutFault e (qs ≡ [])
          by qs (inl k) =
              let kind = found k.file k.is_file in
              outside_map e (λ read. asks_none (IsMessageStage d.protected k.signed) _ e qs (one_message d.protected k.signed) read
              (asks_behind (IsDefinitionStage k.bytes) _ d qs (one_definition k.bytes) (is k.bytes (told_definition k.file k.bytes k.is_file k.is_bytes))
              (asks_behind (IsMediaStage k.file) _ kind.0 qs (one_media k.file) kind.1.stage k.asks)))
              (stage k.signed (told_message k.file k.bytes k.signed k.is_file k.is_bytes k.is_signed))
          by qs (inr h) = outside_all e h.0

      -- where neither the definition nor the message is refused, a new file asks what the media does
      pub embedded_asks : (p : SignParts)
          → ((signed : List ℕ) → message ≡ Some signed → IsMessageStage d.protected signed (Ok p))
          → (qs : List Question) → AsksEmbedded hash media definition message said qs → KindHears hash media m said qs
      embedded_asks p stage qs (inl k) =
          let kind = found k.file k.is_file in
          record {
            bytes = k.file;
            is_known = k.is_file;
            kind = kind.0;
            is = kind.1;
            asks = asks_behind (IsMessageStage d.protected k.signed) _ p qs (one_message d.protected k.signed) (stage k.signed (told_message k.file k.bytes k.signed k.is_file k.is_bytes k.is_signed))
                (asks_behind (IsDefinitionStage k.bytes) _ d qs (one_definition k.bytes) (is k.bytes (told_definition k.file k.bytes k.is_file k.is_bytes))
                (asks_behind (IsMediaStage k.file) _ kind.0 qs (one_media k.file) kind.1.stage k.asks));
          }
      embedded_asks p stage qs (inr h) = by h.1
        where
          by :
              IsToldOf media HasNothingToAsk
              ⊎ (IsToldOf definition IsDefinitionRefused ⊎ IsToldRefused definition message)
              → KindHears hash media m said qs
          by (inl told) =
              let kind = found told.0 told.1 in
              record
              { bytes = told.0; is_known = told.1; kind = kind.0; is = kind.1; asks = subst (KindAsks hash said told.0 kind.0) (sym h.0) (kind_asks hash said told.0 kind.0 kind.1.stage told.2) }
          by (inr (inl told)) = not_both_definitions told.0 d (is told.0 told.1) told.2
          by (inr (inr told)) =
              not_both_messages told.0 told.2.0 d p (is told.0 told.1) (stage told.2.0 told.2.1) told.2.2

-- ---- what `embed` asks with a definition that was read

module _ (hash : Alg → List ℕ → List ℕ) (said : Question → Verdict) (media message : Option (List ℕ)) (m : MediaRead)
    (found : (file : List ℕ) → media ≡ Some file → (kind : MediaKind) × IsKind file m kind) (d : Definition) where
  -- nothing where the message is refused
  pub unsigned_with : (e : BuildError)
      → ((signed : List ℕ) → message ≡ Some signed → WithoutFault e (IsMessageStage d.protected signed (Err e)))
      → WithoutFault e ((qs : List Question) → AsksWith hash media d message said qs → qs ≡ [])
  unsigned_with e stage =
      said_each e {A = List Question} (λ (qs : List Question). AsksWith hash media d message said qs → qs ≡ [])
      (λ qs. said_each e {A = AsksWith hash media d message said qs} (λ (k : AsksWith hash media d message said qs). qs ≡ []) (λ k.
      outside_map e (λ none. none qs k.asks) (unsigned_embed hash said media k.definition message m found d k.is e stage)))

  -- what the media does, where the message isn't
  pub asks_with : (p : SignParts)
      → ((signed : List ℕ) → message ≡ Some signed → IsMessageStage d.protected signed (Ok p))
      → (qs : List Question) → AsksWith hash media d message said qs → KindHears hash media m said qs
  asks_with p stage qs k =
      embedded_asks hash said media k.definition message m found d k.is p stage qs k.asks
