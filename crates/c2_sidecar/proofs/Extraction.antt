-- What a file comes to when its store is extracted, and what the sink took.
use Rattle.c2_container.proofs.TheLaws.{each_media_file_is_located_located, each_media_file_is_located_once}
use Rattle.std.proofs.Common.{◌≡◌, ℕ, ◌<◌, ◌^◌, Bool, List, length, All, Option, Ok, Err, IfOk, refl, sym, ◌∙◌, ap, subst}
use Rattle.std.specs.declared.result.Result.{Result}
use Rattle.c2_base.specs.declared.media.Found.{Found}
use Rattle.c2_base.specs.declared.media.MediaError.{MediaError}
use Rattle.c2_spec.specs.Container.{IsLocated}
use Rattle.c2_spec.specs.Located.{Located, refused, here}
use Rattle.c2_container.specs.Contained.{IsSaid}
use Rattle.c2_copying.specs.Writing.{Begins, Breaks, Delivers, IsOverSpare, WritesFile, complete, write_fault}
use Rattle.c2_sidecar.specs.Extracting.{ExtractsTo, extracted_of, store_of}
use Rattle.c2_sidecar.specs.Extracts.{IsExtracted, Writes, ending_of}
use Rattle.c2_sidecar.specs.Stages.{IsRefusedBy}
use Rattle.c2_sidecar.specs.declared.error.Extracted.{Extracted}
use Rattle.c2_sidecar.specs.declared.error.Extracted.TheVariants.{Done, NoStore, Refused}
use Rattle.c2_sidecar.specs.declared.error.ExtractError.{ExtractError}
use Rattle.c2_sidecar.specs.declared.error.ExtractError.TheVariants.{ReadFault, WriteFault, NoMemory}
use Rattle.c2_sidecar.proofs.Locating.{said_refused}

-- ---- one thing

-- what comes of what the file is, is the answer
pub located_is : (file : List ℕ) (what : Located) → IsLocated file what → IsExtracted file (extracted_of what)
located_is file what h =
    record
    { is = (what, h, refl); only = λ other k. k.2 ∙ ap extracted_of (each_media_file_is_located_once file k.0 what k.1 h) }

-- each file comes to something
pub each_extracted : (file : List ℕ) → All (λ b. b < 2 ^ 8) file → (a : Extracted) × ExtractsTo file a
each_extracted file bytes =
    let l = each_media_file_is_located_located file bytes in (extracted_of l.0, (l.0, l.1, refl))

-- ---- a refused container

-- the refusal of a container is the answer
pub refused_is : (file : List ℕ) (e : MediaError) (r : Result Extracted ExtractError) → IsSaid file (Err e)
    → IsRefusedBy e r → IfOk r (IsExtracted file)
refused_is file e (Ok (Done n)) h k = absurd k
refused_is file e (Ok NoStore) h k = absurd k
refused_is file e (Ok (Refused reason number)) h k =
    located_is file (refused reason number) (said_refused file e reason number h k)
refused_is file e (Err x) h k = tt

-- it needed no spare
pub refused_room : (e : MediaError) (r : Result Extracted ExtractError) (spare : Option ℕ) (count : ℕ) → IsRefusedBy e r
    → IsOverSpare (ending_of r) spare count
refused_room e (Ok (Done n)) spare count k = absurd k
refused_room e (Ok NoStore) spare count k = absurd k
refused_room e (Ok (Refused reason number)) spare count k = tt
refused_room e (Err ReadFault) spare count k = tt
refused_room e (Err WriteFault) spare count k = absurd k
refused_room e (Err NoMemory) spare count k = tt

-- ---- a store

-- the bytes that are written of a file are those of the store that was found in it
store_is : (file : List ℕ) (f : Found) (bytes : List ℕ) → IsLocated file (here f.start f.length f.store)
    → Writes file bytes → bytes ≡ f.store
store_is file f bytes h w =
    w.2 ∙ ap store_of (each_media_file_is_located_once file w.0 (here f.start f.length f.store) w.1 h)

-- all of them were written
pub all_written :
    {K : Type 0} (written : K → Option (List ℕ)) (spare : K → Option ℕ) (finished : K → Bool) (file : List ℕ)
    (f : Found) (store : List ℕ) (old new : K)
    → store ≡ f.store → IsLocated file (here f.start f.length f.store)
    → Delivers written finished store old new → WritesFile written spare finished (Writes file) old new complete
all_written written spare finished file f store old new is h k =
    record { wrote = (store, (here f.start f.length f.store, h, is), k); fits = tt }

-- a prefix of them was, and the sink didn't state that it takes all
pub part_written : {K : Type 0}
    → (written : K → Option (List ℕ)) (spare : K → Option ℕ) (finished : K → Bool) (file : List ℕ) (f : Found) (store : List ℕ) (old new : K)
    → store ≡ f.store → IsLocated file (here f.start f.length f.store)
    → Breaks written spare finished store old new write_fault
    → WritesFile written spare finished (Writes file) old new write_fault
part_written written spare finished file f store old new is h k = record {
  wrote =
      λ bytes w. subst (λ (xs : List ℕ). Begins written finished xs old new) (its bytes w) (record { prefix = k.prefix; unfinished = k.same });
  fits = λ s there bytes w. subst (λ (xs : List ℕ). s < length xs) (its bytes w) (k.over s there);
}
  where
    its : (bytes : List ℕ) → Writes file bytes → store ≡ bytes
    its bytes w = is ∙ sym (store_is file f bytes h w)
