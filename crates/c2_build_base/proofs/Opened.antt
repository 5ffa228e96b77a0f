-- What a media file is to a build, by what calls of other crates answered.
use Rattle.c2_validate.proofs.TheLaws.{a_store_answers_for_its_file_asks}
use Rattle.std.proofs.Common.{◌≡◌, ℕ, List, [], Option, Some, None, refl, sym, ◌∙◌, subst}
use Rattle.std.specs.Prelude.{Ok, Err, IfSome}
use Rattle.c2_base.specs.declared.media.Found.{Found}
use Rattle.c2_base.specs.declared.media.MediaError.{MediaError}
use Rattle.c2_base.specs.declared.media.MediaError.TheVariants as media
use Rattle.c2_base.specs.declared.values.Question.{Question}
use Rattle.c2_base.specs.declared.values.Range.{Range}
use Rattle.c2_spec.specs.C2pa.Manifest.{IsStoreOf, manifests_of}
use Rattle.c2_spec.specs.declared.digest.Alg.{Alg}
use Rattle.c2_spec.specs.declared.panel.Verdict.{Verdict}
use Rattle.c2_rules.specs.Readings.{AreReadings}
use Rattle.c2_validate.specs.Checked.{IsOpenedFrom, StoreAsks, readings_of}
use Rattle.c2_validate.specs.declared.checking.OpenedStore.{OpenedStore}
use Rattle.c2_spec.specs.Container.{IsLocated}
use Rattle.c2_spec.specs.Jumbf.Tree.{Tree}
use Rattle.c2_rules.specs.Opened.{IsManifestStore, IsOpened}
use Rattle.c2_spec.specs.Located.{absent, here, refused, as_located}
use Rattle.c2_spec.specs.declared.reason.Reason.{Reason}
use Rattle.c2_spec.specs.declared.store.ManifestBoxes.{ManifestBoxes}
use Rattle.c2_container.specs.Contained.{IsContainerOf, IsLocateCause, IsSaid}
use Rattle.c2_container.specs.declared.types.Contained.{Contained}
use Rattle.c2_opening.specs.Opened.{IsOpeningCause, IsStoreRead}
use Rattle.c2_opening.specs.declared.error.ValidateError.{ValidateError}
use Rattle.c2_opening.specs.declared.error.ValidateError.TheVariants as fault
use Rattle.c2_opening.specs.declared.types.Opened.TheVariants as opened
use Rattle.c2_opening.specs.declared.types.StoreRead.{StoreRead}
use Rattle.c2_opening.specs.declared.types.StoreRead.TheVariants as read
use Rattle.c2_build_refusals.specs.Stages.{IsMediaStage, KindAsks, MediaKind, fresh, stored}
use Rattle.c2_build_base.specs.Grounds.{IsFoundIn, IsKind, IsOlder, KindHears}
use Rattle.c2_build_refusals.specs.Kinds.{IsReadCause, WithoutFault, fault_of, media_error_of}
use Rattle.c2_build_refusals.specs.declared.error.BuildError.TheVariants.{MediaRefused}
use Rattle.c2_build_base.specs.declared.media.MediaRead.{MediaRead}
use Rattle.c2_build_base.specs.declared.media.OlderStore.{OlderStore}
use Rattle.c2_build_refusals.proofs.Passing.{opened_here}

-- ---- the media

-- a refused file
media_refused : (file : List ℕ) (reason : Reason) (number : ℕ) → IsLocated file (refused reason number)
    → IsMediaStage file (Err (MediaRefused reason number))
media_refused file reason number located = (refused reason number, (refused reason number, located, refl), refl)

-- what an error says of a file that was located
pub located_refused : (file : List ℕ) (e : MediaError) → IsSaid file (Err e)
    → WithoutFault (media_error_of e) (IsMediaStage file (Err (media_error_of e)))
located_refused file media.NotMedia h = media_refused file _ _ h.located
located_refused file (media.FileTooLarge n) h = media_refused file _ _ h.located
located_refused file (media.Truncated n) h = media_refused file _ _ h.located
located_refused file (media.BadMarker n) h = media_refused file _ _ h.located
located_refused file (media.BadSegment n) h = media_refused file _ _ h.located
located_refused file (media.BadPacket n) h = media_refused file _ _ h.located
located_refused file (media.TwoStores n) h = media_refused file _ _ h.located
located_refused file (media.BadBox n) h = media_refused file _ _ h.located
located_refused file (media.BadProvenanceBox n) h = media_refused file _ _ h.located
located_refused file (media.StoreTooLarge n) h = media_refused file _ _ h.located
located_refused file media.TooManyBoxes h = media_refused file _ _ h.located
located_refused file media.ReadFault h = tt
located_refused file media.NoMemory h = tt

-- the cause of one
pub located_cause : (len before now : ℕ) (e : MediaError) → IsLocateCause len before now e
    → IsReadCause before now (media_error_of e)
located_cause len before now media.NotMedia h = h.1
located_cause len before now (media.FileTooLarge n) h = h.1
located_cause len before now (media.Truncated n) h = h.1
located_cause len before now (media.BadMarker n) h = h.1
located_cause len before now (media.BadSegment n) h = h.1
located_cause len before now (media.BadPacket n) h = h.1
located_cause len before now (media.TwoStores n) h = h.1
located_cause len before now (media.BadBox n) h = h.1
located_cause len before now (media.BadProvenanceBox n) h = h.1
located_cause len before now (media.StoreTooLarge n) h = h.1
located_cause len before now media.TooManyBoxes h = h.1
located_cause len before now media.ReadFault h = h
located_cause len before now media.NoMemory h = tt

-- a file whose store is refused
pub refused_store : (file : List ℕ) (f : Found) (r : StoreRead) (reason : Reason) (number : ℕ)
    → r ≡ read.Refused reason number → IsStoreRead f r → IsLocated file (here f.start f.length f.store)
    → IsMediaStage file (Err (MediaRefused reason number))
refused_store file f r reason number is h located =
    (refused reason number, (here f.start f.length f.store, located, (subst (IsStoreRead f) is h).store), refl)

-- a file with a store of manifests
pub stored_stage : (file : List ℕ) (f : Found) (t : Tree)
    → IsManifestStore f.start f.length f.store (here f.start f.length t)
    → IsLocated file (here f.start f.length f.store) → IsMediaStage file (Ok (stored f.start f.length t))
stored_stage file f t h located = (here f.start f.length t, (here f.start f.length f.store, located, h), refl)

-- the boxes of a store that was read and isn't refused
pub boxes_of : (f : Found) (r : StoreRead) (t : Tree) (s : List ManifestBoxes) → r ≡ read.Here t s → IsStoreRead f r
    → IsStoreOf t s
boxes_of f r t s is h = (subst (IsStoreRead f) is h).boxes

-- where this store was found
pub found_at : (file : List ℕ) (m : Contained) (f : Found) → m.found ≡ Some f → IsFoundIn file m
    → IsLocated file (here f.start f.length f.store)
found_at file m f is h = subst (λ (o : Option Found). IfSome (as_located (Ok o)) (IsLocated file)) is h.located

-- where none was
pub found_none : (file : List ℕ) (m : Contained) → m.found ≡ None → IsFoundIn file m → IsLocated file absent
found_none file m is h = subst (λ (o : Option Found). IfSome (as_located (Ok o)) (IsLocated file)) is h.located

-- the cause of a fault while a container is found
pub opening_cause : (m n : ℕ) (e : ValidateError) → IsOpeningCause m n e → IsReadCause m n (fault_of e)
opening_cause m n fault.ReadFault h = h
opening_cause m n fault.JudgeFault h = h
opening_cause m n fault.NoMemory h = tt

-- a file without a store
pub absent_stage : (file : List ℕ) → IsLocated file absent → IsMediaStage file (Ok fresh)
absent_stage file located = (absent, (absent, located, refl), refl)

-- ---- what kind a file is

-- one without a store
pub fresh_kind : (file : List ℕ) (m : MediaRead) (kind : MediaKind) → m.older ≡ None → IsKind file m kind → kind ≡ fresh
fresh_kind file m kind is h = subst (λ (o : Option OlderStore). IsOlder o kind) is h.older

-- one with this store
pub stored_kind : (file : List ℕ) (m : MediaRead) (o : OlderStore) (kind : MediaKind) → m.older ≡ Some o
    → IsKind file m kind → kind ≡ stored o.range.start o.range.length o.tree
stored_kind file m o kind is h = subst (λ (x : Option OlderStore). IsOlder x kind) is h.older

-- a media file with a store was opened with that store
pub opened_older : (file : List ℕ) (m : MediaRead) (o : OlderStore) (kind : MediaKind) → m.older ≡ Some o
    → IsKind file m kind → IsOpened file (here o.range.start o.range.length o.tree)
opened_older file m o kind is h =
    opened_here file o.range.start o.range.length o.tree
    (subst (λ (k : MediaKind). IsMediaStage file (Ok k)) (stored_kind file m o kind is h) h.stage)

-- as it is checked against the file
pub opened_from : (file : List ℕ) (m : MediaRead) (o : OlderStore) (kind : MediaKind) (s : OpenedStore)
    → m.older ≡ Some o → IsKind file m kind → s.container.now ≡ m.contained.now.container → s.range ≡ o.range
    → AreReadings (manifests_of o.tree) (readings_of s) → IsOpenedFrom file s
opened_from file m o kind s is h container range reads = record {
  container = subst (IsContainerOf file) (sym container) h.found.container;
  tree = o.tree;
  opened =
      subst (λ (r : Range). IsOpened file (here r.start r.length o.tree)) (sym range) (opened_older file m o kind is h);
  reads = reads;
}

-- what its check asks is what is asked over the file
pub older_asks :
    (hash : Alg → List ℕ → List ℕ) (as_located : Question → Verdict) (known : Option (List ℕ)) (m : MediaRead)
    (o : OlderStore) (s : OpenedStore)
    → m.older ≡ Some o → s.container.now ≡ m.contained.now.container → s.range ≡ o.range
    → AreReadings (manifests_of o.tree) (readings_of s) → (qs : List Question) → KindHears hash known m as_located qs
    → StoreAsks hash s as_located qs
older_asks hash as_located known m o s is container range reads qs k =
    a_store_answers_for_its_file_asks hash as_located k.bytes s qs
    (opened_from k.bytes m o k.kind s is k.is container range reads)
    (subst (λ (x : MediaKind). KindAsks hash as_located k.bytes x qs) (stored_kind k.bytes m o k.kind is k.is) k.asks)

-- nothing is asked over a file without a store
pub fresh_asks :
    (hash : Alg → List ℕ → List ℕ) (as_located : Question → Verdict) (known : Option (List ℕ)) (m : MediaRead)
    → m.older ≡ None → (qs : List Question) → KindHears hash known m as_located qs → qs ≡ []
fresh_asks hash as_located known m is qs k =
    subst (λ (x : MediaKind). KindAsks hash as_located k.bytes x qs) (fresh_kind k.bytes m k.kind is k.is) k.asks

-- a source that stayed tells the same
pub hears_same_known :
    (hash : Alg → List ℕ → List ℕ) (as_located : Question → Verdict) (known now : Option (List ℕ)) (m : MediaRead)
    (qs : List Question)
    → now ≡ known → KindHears hash known m as_located qs → KindHears hash now m as_located qs
hears_same_known hash as_located known now m qs same k =
    record { bytes = k.bytes; is_known = same ∙ k.is_known; kind = k.kind; is = k.is; asks = k.asks }

-- ---- the definition

-- ---- the message
