-- The laws of this crate, for the proofs of the crates above it.
use Rattle.c2_base.specs.declared.limits.TheConstants.{MAX_STORE_LEN}
use Rattle.c2_base.specs.declared.media.Found.{Found}
use Rattle.c2_bmff_boxes.proofs.TheLaws.{bmff_store_bytes_are_of_the_file, each_bmff_file_comes_to_something}
use Rattle.c2_container.proofs.Containers.{each_located, one_located, small_store, stored_bytes}
use Rattle.c2_container.specs.Contained.{IsSaid}
use Rattle.c2_container.specs.declared.types.Contained.{Contained}
use Rattle.c2_jpegseg_segments.proofs.TheLaws.{each_file_is_located_located, each_file_is_located_once, store_bytes_are_of_the_file_are_bytes}
use Rattle.c2_spec.specs.Container.{IsLocated}
use Rattle.c2_spec.specs.Located.{Located, absent, as_located, here}
use Rattle.std.proofs.Common.{subst}
use Rattle.std.specs.Prelude.{All, IfSome, List, None, Ok, Option, Some, length, ℕ, ◌<◌, ◌^◌, ◌≡◌, ◌≤◌}

-- whatever bytes a file has, it comes to one thing, by its container
pub each_media_file_is_located_located : (file : List ℕ) → All (λ b. b < 2 ^ 8) file
    → (what : Located) × IsLocated file what
each_media_file_is_located_located = each_located each_file_is_located_located each_bmff_file_comes_to_something

-- whatever bytes a file has, it comes to one thing, by its container
pub each_media_file_is_located_once : (file : List ℕ) (v w : Located) → IsLocated file v → IsLocated file w → v ≡ w
each_media_file_is_located_once = one_located each_file_is_located_once

-- whatever bytes a file has, it comes to one thing, by its container
pub each_media_file_is_located_are_bytes : (file : List ℕ) (start len : ℕ) (store : List ℕ)
    → IsLocated file (here start len store) → All (λ b. b < 2 ^ 8) file → All (λ b. b < 2 ^ 8) store
each_media_file_is_located_are_bytes =
    stored_bytes store_bytes_are_of_the_file_are_bytes bmff_store_bytes_are_of_the_file

-- whatever bytes a file has, it comes to one thing, by its container
pub each_media_file_is_located_small : (file : List ℕ) (start len : ℕ) (store : List ℕ)
    → IsLocated file (here start len store) → length store ≤ MAX_STORE_LEN
each_media_file_is_located_small = small_store

-- a store that was found in a file
pub said_here : (file : List ℕ) (c : Contained) (f : Found) → IsSaid file (Ok c) → c.found ≡ Some f
    → IsLocated file (here f.start f.length f.store)
said_here file c f h is = subst (λ (o : Option Found). IfSome (as_located (Ok o)) (IsLocated file)) is h.located

-- a file in which no store was found has none
pub said_absent : (file : List ℕ) (c : Contained) → IsSaid file (Ok c) → c.found ≡ None → IsLocated file absent
said_absent file c h is = subst (λ (o : Option Found). IfSome (as_located (Ok o)) (IsLocated file)) is h.located
