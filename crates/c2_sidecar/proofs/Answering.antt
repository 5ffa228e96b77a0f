-- The answer of the check with an external store, and what is asked, by what the media file is as a container.
use Rattle.c2_container.proofs.TheLaws.{each_media_file_is_located_once}
use Rattle.c2_validate.proofs.TheLaws.{each_file_has_an_external_check_answer}
use Rattle.std.proofs.Common.{◌≡◌, inl, inr, ℕ, ◌<◌, ◌^◌, List, [], All, Option, Some, Ok, Err, IfOk, refl, map, subst}
use Rattle.std.specs.declared.alloc.Global.{Global}
use Rattle.std.specs.declared.result.Result.{Result}
use Rattle.std.specs.declared.vec.Vec.{Vec}
use Rattle.c2_base.specs.Source.{IsKnownWhereDue}
use Rattle.c2_base.specs.declared.media.MediaError.{MediaError}
use Rattle.c2_base.specs.declared.values.Question.{Question}
use Rattle.c2_spec.specs.Container.{IsLocated}
use Rattle.c2_spec.specs.Judges.Panel.{panel_says}
use Rattle.c2_spec.specs.Located.{Located, refused, absent, here}
use Rattle.c2_spec.specs.declared.digest.Alg.{Alg}
use Rattle.c2_spec.specs.declared.panel.Verdict.{Verdict}
use Rattle.c2_spec.specs.declared.reason.Reason.{Reason}
use Rattle.c2_rules.specs.Asking.{HearsPanel}
use Rattle.c2_rules.specs.declared.answer.Answer.TheVariants as answer
use Rattle.c2_calls_spec.specs.Asks.{AsksKnown}
use Rattle.c2_calls_spec.proofs.PanelLemmas.{hears_early, hears_nobody, hears_same}
use Rattle.c2_container.specs.Contained.{IsSaid}
use Rattle.c2_container.specs.declared.types.Contained.{Contained}
use Rattle.c2_opening.specs.declared.error.ValidateError.{ValidateError}
use Rattle.c2_opening.specs.declared.error.ValidateError.TheVariants.{ReadFault, JudgeFault, NoMemory}
use Rattle.c2_validate.specs.Checked.{validate_heard}
use Rattle.c2_validate.specs.External.{ExternalAsks, IsAnsweredExternal, IsExternalAnswer, IsListAnswer, IsListAnswered, IsLocatedAnswer, ListAsks, LocatedAsks}
use Rattle.c2_validate.specs.declared.external.External.{External}
use Rattle.c2_validate.specs.declared.external.External.TheVariants.{Of, StoreRefused}
use Rattle.c2_sidecar.specs.Checking.{AsksWhereDue, IsRefusedFile}
use Rattle.c2_sidecar.specs.Stages.{IsFileRefusedBy}
use Rattle.c2_sidecar.proofs.Locating.{said_refused, unrefused}

-- ---- a file whose container isn't refused

-- the bytes of a store that is due are known
known_due : (known : Option (List ℕ)) (NotDue : Type 0) (bytes : List ℕ) → (NotDue → ⊥)
    → IsKnownWhereDue known NotDue bytes → known ≡ Some bytes
known_due known NotDue bytes due (inl is) = is
known_due known NotDue bytes due (inr other) = absurd (due other)

-- a file in which a store was searched without an error isn't refused
not_refused : (file : List ℕ) (c : Contained) → IsSaid file (Ok c) → IsRefusedFile file → ⊥
not_refused file c h k = unrefused file c k.0 k.1 h k.2

-- an external store is due with a file whose container isn't refused
pub due : (known : Option (List ℕ)) (file bytes : List ℕ) (c : Contained) → IsSaid file (Ok c)
    → IsKnownWhereDue known (IsRefusedFile file) bytes → known ≡ Some bytes
due known file bytes c h k = known_due known (IsRefusedFile file) bytes (not_refused file c h) k

-- what is answered of the file is answered over the list
over_list :
    (hash : Alg → List ℕ → List ℕ) (said : Question → Verdict) (file store : List ℕ) (c : Contained) (e : External)
    (l : Located)
    → IsSaid file (Ok c) → IsLocated file l → IsLocatedAnswer hash said file store l e
    → IsListAnswer hash said file store e
over_list hash said file store c e (refused reason number) h located k =
    absurd (unrefused file c reason number h located)
over_list hash said file store c e absent h located k = k
over_list hash said file store c e (here start len own) h located k = k

-- what alone is answered over the list is the answer
pub list_is :
    (hash : Alg → List ℕ → List ℕ) (said : Question → Verdict) (file store : List ℕ) (c : Contained)
    (r : Result External ValidateError)
    → All (λ b. b < 2 ^ 8) file → All (λ b. b < 2 ^ 8) store → IsSaid file (Ok c)
    → IfOk r (IsListAnswered hash said c.container store file)
    → IfOk r (IsAnsweredExternal hash said file store)
list_is hash said file store c (Ok e) bytes held h k =
    let only : (expected : External) → IsExternalAnswer hash said file store expected → expected ≡ e =
    λ expected x. k h.container expected (over_list hash said file store c expected x.0 h x.1 x.2) in
    let a = each_file_has_an_external_check_answer hash said file store bytes held in
    record { is = subst (IsExternalAnswer hash said file store) (only a.0 a.1) a.1; only = only }
list_is hash said file store c (Err x) bytes held h k = tt

-- what is asked of the file is asked over the list
list_asks :
    (hash : Alg → List ℕ → List ℕ) (said : Question → Verdict) (file store : List ℕ) (c : Contained) (l : Located)
    (qs : List Question)
    → IsSaid file (Ok c) → IsLocated file l → LocatedAsks hash store said l qs → ListAsks hash store said qs
list_asks hash said file store c (refused reason number) qs h located k =
    absurd (unrefused file c reason number h located)
list_asks hash said file store c absent qs h located k = k
list_asks hash said file store c (here start len own) qs h located k = k

-- the panel is asked as over the list
pub list_panel :
    {J : Type 0} (says : J → Question → Verdict) (times faults : J → ℕ) (hash : Alg → List ℕ → List ℕ)
    (media external : Option (List ℕ)) (c : Contained) (old new : Vec J Global) (r : Result External ValidateError)
    → ((file : List ℕ) → media ≡ Some file → IsSaid file (Ok c))
    → HearsPanel says times faults validate_heard (AsksKnown external (ListAsks hash)) old new r
    → HearsPanel says times faults validate_heard (AsksWhereDue hash media external) old new r
list_panel says times faults hash media external c old new r is h =
    hears_same says times faults validate_heard (AsksWhereDue hash media external) (AsksKnown external (ListAsks hash))
    old new r
    (λ qs a. let s = is a.file a.is_file in
    (a.store, due external a.file a.store c s a.is_store, list_asks hash (panel_says (map says old.items)) a.file a.store c a.asks.0 qs s a.asks.1 a.asks.2)) h

-- ---- a file whose container is refused

-- the refusal of a file's container is the answer, whatever the store
refused_is :
    (hash : Alg → List ℕ → List ℕ) (said : Question → Verdict) (file store : List ℕ) (reason : Reason) (number : ℕ)
    → IsLocated file (refused reason number)
    → IsAnsweredExternal hash said file store (Of (answer.Refused reason number))
refused_is hash said file store reason number h = record {
  is = (refused reason number, h, refl);
  only =
      λ expected k. subst (λ (l : Located). IsLocatedAnswer hash said file store l expected) (each_media_file_is_located_once file k.0 (refused reason number) k.1 h) k.2;
}

-- the answer for an error of the container
pub refused_answer :
    (hash : Alg → List ℕ → List ℕ) (said : Question → Verdict) (file store : List ℕ) (e : MediaError)
    (r : Result External ValidateError)
    → IsSaid file (Err e) → IsFileRefusedBy e r → IfOk r (IsAnsweredExternal hash said file store)
refused_answer hash said file store e (Ok (Of (answer.Refused reason number))) h k =
    refused_is hash said file store reason number (said_refused file e reason number h k)
refused_answer hash said file store e (Ok (Of (answer.Valid s))) h k = absurd k
refused_answer hash said file store e (Ok (Of (answer.Failing f))) h k = absurd k
refused_answer hash said file store e (Ok (Of answer.NoStore)) h k = absurd k
refused_answer hash said file store e (Ok (StoreRefused reason number)) h k = absurd k
refused_answer hash said file store e (Err x) h k = tt

-- nothing is asked of such a file
refused_asks :
    (hash : Alg → List ℕ → List ℕ) (said : Question → Verdict) (file store : List ℕ) (reason : Reason) (number : ℕ)
    (qs : List Question)
    → IsLocated file (refused reason number) → ExternalAsks hash store file said qs → qs ≡ []
refused_asks hash said file store reason number qs h k =
    subst (λ (l : Located). LocatedAsks hash store said l qs)
    (each_media_file_is_located_once file k.0 (refused reason number) k.1 h) k.2

-- nobody was asked of a file whose container is refused
pub refused_panel : {J : Type 0}
    → (says : J → Question → Verdict) (times faults : J → ℕ) (hash : Alg → List ℕ → List ℕ) (media external : Option (List ℕ)) (js : Vec J Global) (e : MediaError)
    (r : Result External ValidateError) → ((file : List ℕ) → media ≡ Some file → IsSaid file (Err e))
    → IsFileRefusedBy e r → HearsPanel says times faults validate_heard (AsksWhereDue hash media external) js js r
refused_panel says times faults hash media external js e (Ok (Of (answer.Refused reason number))) is k =
    hears_nobody says times faults validate_heard (AsksWhereDue hash media external) js
    (Of (answer.Refused reason number))
    (λ qs a. refused_asks hash (panel_says (map says js.items)) a.file a.store reason number qs (said_refused a.file e reason number (is a.file a.is_file) k) a.asks)
refused_panel says times faults hash media external js e (Ok (Of (answer.Valid s))) is k = absurd k
refused_panel says times faults hash media external js e (Ok (Of (answer.Failing f))) is k = absurd k
refused_panel says times faults hash media external js e (Ok (Of answer.NoStore)) is k = absurd k
refused_panel says times faults hash media external js e (Ok (StoreRefused reason number)) is k = absurd k
refused_panel says times faults hash media external js e (Err ReadFault) is k =
    hears_early says times faults validate_heard (AsksWhereDue hash media external) js ReadFault refl
refused_panel says times faults hash media external js e (Err JudgeFault) is k = absurd k
refused_panel says times faults hash media external js e (Err NoMemory) is k =
    hears_early says times faults validate_heard (AsksWhereDue hash media external) js NoMemory refl
