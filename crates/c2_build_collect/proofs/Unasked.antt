-- What is asked: nothing where an input before the other file is refused, and else what is asked of both files.
use Rattle.std.proofs.Common.{◌≡◌, ◌⊎◌, ℕ, List, [], Option, Some, inl, inr}
use Rattle.std.specs.Prelude.{Ok, Err}
use Rattle.c2_lemmas.specs.Stages.{AsksThen}
use Rattle.c2_lemmas.proofs.Asks.{asks_behind}
use Rattle.c2_base.specs.declared.values.Question.{Question}
use Rattle.c2_spec.specs.C2pa.Sign1.{SignParts}
use Rattle.c2_spec.specs.declared.digest.Alg.{Alg}
use Rattle.c2_spec.specs.declared.panel.Verdict.{Verdict}
use Rattle.c2_definition.specs.declared.types.Definition.{Definition}
use Rattle.c2_collect_spec.specs.Outcomes as collect
use Rattle.c2_build_refusals.specs.Kinds.{WithoutFault}
use Rattle.c2_build_refusals.specs.Stages.{IsDefinitionRefused, IsDefinitionStage, IsMediaStage, IsMessageStage, IsToldRefused, MediaKind}
use Rattle.c2_build_refusals.specs.declared.error.BuildError.{BuildError}
use Rattle.c2_build_refusals.proofs.Inputs.{not_both_definitions, not_both_media}
use Rattle.c2_build_refusals.proofs.Outside.{outside_all, outside_map, said_each}
use Rattle.c2_build_base.specs.Grounds.{IsKind}
use Rattle.c2_build_base.specs.declared.media.MediaRead.{MediaRead}
use Rattle.c2_build_collect_base.specs.Grounds.{PairHears, opening_of}
use Rattle.c2_build_collect.specs.Answers.{AsksEmbed, AsksEmbedded, AsksPlanned, IsEitherRefused}
use Rattle.c2_build_collect.proofs.Due.{definition_told, message_told, other_told, undefined, unsigned, untold}
use Rattle.c2_build_collect.proofs.Stages.{asks_none, defined_as, definition_error, media_error, message_as, message_error, one_definition, one_media, one_signed, opened_as}

-- what is said of each list that is asked
said_of : (e : BuildError) (Asks : List Question → Type 0) → ((qs : List Question) → Asks qs → WithoutFault e (qs ≡ []))
    → WithoutFault e ((qs : List Question) → Asks qs → qs ≡ [])
said_of e Asks h =
    said_each e {A = List Question} (λ (qs : List Question). Asks qs → qs ≡ [])
    (λ qs. said_each e {A = Asks qs} (λ (k : Asks qs). qs ≡ []) (λ k. h qs k))

-- either of two inputs that was read isn't refused
pub neither : (d : Definition) (media definition : Option (List ℕ))
    → ((file : List ℕ) → media ≡ Some file → (kind : MediaKind) × IsMediaStage file (Ok kind))
    → ((bytes : List ℕ) → definition ≡ Some bytes → IsDefinitionStage bytes (Ok d))
    → IsEitherRefused media definition → ⊥
neither d media definition found stage (inl told) = let kind = found told.0 told.1 in not_both_media told.0 kind.0 kind.1 told.2
neither d media definition found stage (inr told) = not_both_definitions told.0 d (stage told.0 told.1) told.2

-- ---- what `plan_collect` asks

module _ (hash : Alg → List ℕ → List ℕ) (said : Question → Verdict) (media definition other : Option (List ℕ)) where
  -- nothing where the media is refused
  pub refused_plan : (e : BuildError)
      → ((file : List ℕ) → media ≡ Some file → WithoutFault e (IsMediaStage file (Err e)))
      → WithoutFault e ((qs : List Question) → AsksPlanned hash media definition other said qs → qs ≡ [])
  refused_plan e stage = said_of e (AsksPlanned hash media definition other said) by
    where
      by : (qs : List Question) → AsksPlanned hash media definition other said qs → WithoutFault e (qs ≡ [])
      by qs (inl k) =
          outside_map e
          (λ is. asks_none (collect.IsMediaStage k.file) _ e qs (one_media k.file) (media_error k.file e is) k.asks)
          (stage k.file k.is_file)
      by qs (inr h) = outside_all e h.0

  module _ (m : MediaRead) (found : (file : List ℕ) → media ≡ Some file → (kind : MediaKind) × IsKind file m kind) where
    -- nothing where the definition is refused
    pub undefined_plan : (e : BuildError)
        → ((bytes : List ℕ) → definition ≡ Some bytes → WithoutFault e (IsDefinitionStage bytes (Err e)))
        → WithoutFault e ((qs : List Question) → AsksPlanned hash media definition other said qs → qs ≡ [])
    undefined_plan e stage = said_of e (AsksPlanned hash media definition other said) by
      where
        by : (qs : List Question) → AsksPlanned hash media definition other said qs → WithoutFault e (qs ≡ [])
        by qs (inl k) =
            let kind = found k.file k.is_file in
            let told = definition_told hash said k.file kind.0 kind.1.stage definition k.bytes k.is_bytes in
            outside_map e (λ is. asks_none (collect.IsDefinitionStage k.bytes) _ e qs (one_definition k.bytes) (definition_error k.bytes e is)
            (asks_behind (collect.IsMediaStage k.file) _ (opening_of kind.0) qs (one_media k.file) (opened_as k.file kind.0 kind.1.stage) k.asks)) (stage k.bytes told)
        by qs (inr h) = outside_all e h.0

    -- where the definition isn't refused, a plan asks what is asked of both files
    pub planned_asks : (d : Definition) → ((bytes : List ℕ) → definition ≡ Some bytes → IsDefinitionStage bytes (Ok d))
        → (qs : List Question) → AsksPlanned hash media definition other said qs → PairHears hash media other m said qs
    planned_asks d stage qs (inl k) =
        let kind = found k.file k.is_file in
        let told = definition_told hash said k.file kind.0 kind.1.stage definition k.bytes k.is_bytes in
        let read = stage k.bytes told in
        record {
          bytes = k.file;
          is_known = k.is_file;
          kind = kind.0;
          is = kind.1;
          others = k.others;
          is_told =
              other_told hash said k.file kind.0 kind.1.stage {NotDue = IsDefinitionRefused k.bytes} other k.others
              (undefined d k.bytes read) k.is_others;
          asks = asks_behind (collect.IsDefinitionStage k.bytes) _ d qs (one_definition k.bytes) (defined_as k.bytes d read)
              (asks_behind (collect.IsMediaStage k.file) _ (opening_of kind.0) qs (one_media k.file) (opened_as k.file kind.0 kind.1.stage) k.asks);
        }
    planned_asks d stage qs (inr h) = absurd (neither d media definition (λ file known. let kind = found file known in (kind.0, kind.1.stage)) stage h.1)

-- ---- what `embed_collect` asks

module _ (hash : Alg → List ℕ → List ℕ) (said : Question → Verdict) (media definition message other : Option (List ℕ)) where
  -- nothing where the media is refused
  pub refused_embed : (e : BuildError)
      → ((file : List ℕ) → media ≡ Some file → WithoutFault e (IsMediaStage file (Err e)))
      → WithoutFault e ((qs : List Question) → AsksEmbedded hash media definition message other said qs → qs ≡ [])
  refused_embed e stage = said_of e (AsksEmbedded hash media definition message other said) by
    where
      by : (qs : List Question) → AsksEmbedded hash media definition message other said qs → WithoutFault e (qs ≡ [])
      by qs (inl k) =
          outside_map e
          (λ is. asks_none (collect.IsMediaStage k.file) _ e qs (one_media k.file) (media_error k.file e is) k.asks)
          (stage k.file k.is_file)
      by qs (inr h) = outside_all e h.0

  module _ (m : MediaRead) (found : (file : List ℕ) → media ≡ Some file → (kind : MediaKind) × IsKind file m kind) where
    -- nothing where the definition is refused
    pub undefined_embed : (e : BuildError)
        → ((bytes : List ℕ) → definition ≡ Some bytes → WithoutFault e (IsDefinitionStage bytes (Err e)))
        → WithoutFault e ((qs : List Question) → AsksEmbedded hash media definition message other said qs → qs ≡ [])
    undefined_embed e stage = said_of e (AsksEmbedded hash media definition message other said) by
      where
        by : (qs : List Question) → AsksEmbedded hash media definition message other said qs → WithoutFault e (qs ≡ [])
        by qs (inl k) =
            let kind = found k.file k.is_file in
            let told = definition_told hash said k.file kind.0 kind.1.stage definition k.bytes k.is_bytes in
            outside_map e (λ is. asks_none (collect.IsDefinitionStage k.bytes) _ e qs (one_definition k.bytes) (definition_error k.bytes e is)
            (asks_behind (collect.IsMediaStage k.file) _ (opening_of kind.0) qs (one_media k.file) (opened_as k.file kind.0 kind.1.stage) k.asks)) (stage k.bytes told)
        by qs (inr h) = outside_all e h.0

    module _ (d : Definition) (is : (bytes : List ℕ) → definition ≡ Some bytes → IsDefinitionStage bytes (Ok d)) where
      -- what is asked behind the definition
      behind_definition : (qs : List Question) (k : AsksEmbed hash media definition message other said qs)
          → AsksThen (collect.IsMessageStage d.protected k.signed) (λ parts. collect.PairAsks hash said k.file k.others (opening_of (found k.file k.is_file).0)) qs
      behind_definition qs k =
          let kind = found k.file k.is_file in
          let told = definition_told hash said k.file kind.0 kind.1.stage definition k.bytes k.is_bytes in
          asks_behind (collect.IsDefinitionStage k.bytes) _ d qs (one_definition k.bytes)
          (defined_as k.bytes d (is k.bytes told))
          (asks_behind (collect.IsMediaStage k.file) _ (opening_of kind.0) qs (one_media k.file) (opened_as k.file kind.0 kind.1.stage) k.asks)

      -- the bytes of the message, which are told
      signed_told : (qs : List Question) (k : AsksEmbed hash media definition message other said qs)
          → message ≡ Some k.signed
      signed_told qs k =
          let kind = found k.file k.is_file in
          let told = definition_told hash said k.file kind.0 kind.1.stage definition k.bytes k.is_bytes in
          message_told hash said k.file kind.0 kind.1.stage d k.bytes (is k.bytes told) message k.signed k.is_signed

      -- nothing where the message is refused
      pub unsigned_embed : (e : BuildError)
          → ((signed : List ℕ) → message ≡ Some signed → WithoutFault e (IsMessageStage d.protected signed (Err e)))
          → WithoutFault e ((qs : List Question) → AsksEmbedded hash media definition message other said qs → qs ≡ [])
      unsigned_embed e stage = said_of e (AsksEmbedded hash media definition message other said) by
        where
          by : (qs : List Question) → AsksEmbedded hash media definition message other said qs
              → WithoutFault e (qs ≡ [])
          by qs (inl k) =
              outside_map e
              (λ read. asks_none (collect.IsMessageStage d.protected k.signed) _ e qs (one_signed d.protected k.signed) (message_error d.protected k.signed e read) (behind_definition qs k))
              (stage k.signed (signed_told qs k))
          by qs (inr h) = outside_all e h.0

      -- where neither nor the message is refused, a new file asks what is asked of both files
      pub embedded_asks : (p : SignParts)
          → ((signed : List ℕ) → message ≡ Some signed → IsMessageStage d.protected signed (Ok p))
          → (qs : List Question) → AsksEmbedded hash media definition message other said qs
          → PairHears hash media other m said qs
      embedded_asks p stage qs (inl k) =
          let kind = found k.file k.is_file in
          let told = definition_told hash said k.file kind.0 kind.1.stage definition k.bytes k.is_bytes in
          let read = stage k.signed (signed_told qs k) in
          record {
            bytes = k.file;
            is_known = k.is_file;
            kind = kind.0;
            is = kind.1;
            others = k.others;
            is_told =
                other_told hash said k.file kind.0 kind.1.stage other k.others
                (unsigned d p k.bytes k.signed (is k.bytes told) read) k.is_others;
            asks =
                asks_behind (collect.IsMessageStage d.protected k.signed) _ p qs
                (one_signed d.protected k.signed) (message_as d.protected k.signed p read)
                (behind_definition qs k);
          }
      embedded_asks p stage qs (inr h) = absurd (by h.1)
        where
          by : IsEitherRefused media definition ⊎ IsToldRefused definition message → ⊥
          by (inl refused) = neither d media definition (λ file known. let kind = found file known in (kind.0, kind.1.stage)) is refused
          by (inr told) = untold d p definition message is stage told
