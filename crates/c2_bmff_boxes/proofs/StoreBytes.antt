-- What holds of each byte of a BMFF file holds of each byte of its store.
use Rattle.std.proofs.Common.{◌≡◌, ℕ, ◌^◌, ◌<◌, List, ◌∷◌, ◌++◌, sym, ap, subst, ◌∙◌}
use Rattle.std.proofs.lemmas.Grind.{flat_map-append}
use Rattle.std.proofs.lemmas.List.Elements.{recursion_from_All, All-from_recursion}
use Rattle.std.specs.List.{All, AllByRecursion, flat_map}
use Rattle.c2_spec.specs.Bmff.Boxes.{box_bytes, box_len, header_bytes}
use Rattle.c2_spec.specs.Bmff.Store.{HasBmffStore, content_of, store_len, store_part}
use Rattle.c2_lemmas.proofs.Each.{each_back, each_front}
use Rattle.c2_lemmas.proofs.Parts.{each_drop, each_take}

-- what holds of each byte of the file holds of each of its store's
store_each : (P : ℕ → Type 0) (file : List ℕ) (start len : ℕ) (store : List ℕ) → HasBmffStore file start len store
    → AllByRecursion P file → AllByRecursion P store
store_each P file start len store has h =
    let s = has.holds in
    let split : file ≡ flat_map box_bytes s.before ++ (box_bytes s.holder ++ flat_map box_bytes s.after) =
    has.has_roots.bytes ∙ ap (flat_map box_bytes) s.split
    ∙ flat_map-append box_bytes s.before (s.holder ∷ s.after) in
    let later =
    each_back P (flat_map box_bytes s.before) (box_bytes s.holder ++ flat_map box_bytes s.after)
    (subst (AllByRecursion P) split h) in
    let holder = each_front P (box_bytes s.holder) (flat_map box_bytes s.after) later in
    let payload = each_back P (header_bytes s.holder.form (box_len s.holder) s.holder.kind) s.holder.payload holder in
    subst (AllByRecursion P) (sym s.bytes)
    (each_take P (store_len (content_of s.holder)) (store_part (content_of s.holder)) (each_drop P 21 (content_of s.holder) (each_drop P 16 s.holder.payload payload)))

-- the bytes of a file's store are below 2^8 where the file's are
pub store-bytes : (file : List ℕ) (start len : ℕ) (store : List ℕ) → HasBmffStore file start len store
    → All (λ b. b < 2 ^ 8) file → All (λ b. b < 2 ^ 8) store
store-bytes file start len store has h =
    All-from_recursion (λ b. b < 2 ^ 8) store
    (store_each (λ b. b < 2 ^ 8) file start len store has (recursion_from_All (λ b. b < 2 ^ 8) file h))
