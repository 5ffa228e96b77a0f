-- What a file is found to be, by what is as_located of it as a container.
use Rattle.std.proofs.Common.{◌≡◌, sym, subst, ℕ, List, Option, Some, Ok, Err, IfOk, IfSome}
use Rattle.std.specs.declared.result.Result.{Result}
use Rattle.c2_base.specs.declared.media.MediaError.{MediaError}
use Rattle.c2_spec.specs.Container.{IsLocated}
use Rattle.c2_spec.specs.Located.{Located, refusal, as_located}
use Rattle.c2_base.specs.declared.media.MediaError.TheVariants as media
use Rattle.c2_container.specs.Contained.{IsContainerOf, IsLocateCause, IsRefusalOf, IsSaid}
use Rattle.c2_container.specs.declared.types.Contained.{Contained}
use Rattle.c2_opening.specs.Opened.{HasContainer, IsFound, located_of}
use Rattle.c2_opening.specs.declared.error.ValidateError.{ValidateError}
use Rattle.c2_opening.specs.declared.types.Opened.{Opened}

-- an error that refuses a file says this of it
pub refuses : (len before now : ℕ) (e : MediaError) (l : Located) → refusal e ≡ Some l → IsLocateCause len before now e
    → IsRefusalOf len e
refuses len before now media.NotMedia l r h = h.0
refuses len before now (media.FileTooLarge n) l r h = h.0
refuses len before now (media.Truncated n) l r h = h.0
refuses len before now (media.BadMarker n) l r h = h.0
refuses len before now (media.BadSegment n) l r h = h.0
refuses len before now (media.BadPacket n) l r h = h.0
refuses len before now (media.TwoStores n) l r h = h.0
refuses len before now (media.BadBox n) l r h = h.0
refuses len before now (media.BadProvenanceBox n) l r h = h.0
refuses len before now (media.StoreTooLarge n) l r h = h.0
refuses len before now media.TooManyBoxes l r h = h.0
refuses len before now media.ReadFault l r h = absurd (cc (r))
refuses len before now media.NoMemory l r h = absurd (cc (r))

-- what is as_located of a file, and nothing else, is what it is found to be
found_said : (file : List ℕ) (o : Opened) (l : Option Located) → l ≡ Some (located_of o) → IfSome l (IsLocated file)
    → ((what : Located) → IsLocated file what → IfSome l (λ s. s ≡ what)) → HasContainer file o → IsFound file o
found_said file o l is located only contained = record {
  located = subst (λ (x : Option Located). IfSome x (IsLocated file)) is located;
  only = λ what k. sym (subst (λ (x : Option Located). IfSome x (λ s. s ≡ what)) is (only what k));
  container = contained;
}

-- a file that isn't refused
pub unrefused_found : (file : List ℕ) (c : Contained) (o : Opened) → IsSaid file (Ok c)
    → as_located (Ok c.found) ≡ Some (located_of o) → ((f : List ℕ) → IsContainerOf f c.container → HasContainer f o)
    → IsFound file o
unrefused_found file c o h is has =
    found_said file o (as_located (Ok c.found)) is h.located h.only (has file h.container)

-- a file that is
pub refused_found : (file : List ℕ) (e : MediaError) (r : Result Opened ValidateError) → IsSaid file (Err e)
    → IfOk r (λ o. refusal e ≡ Some (located_of o)) → IfOk r (λ o. (f : List ℕ) → HasContainer f o)
    → IfOk r (IsFound file)
refused_found file e (Err x) h is has = tt
refused_found file e (Ok o) h is has = found_said file o (refusal e) is h.located h.only (has file)
