-- A file that is built in its place, and whose new store collects from two stores, meets the rules; and what is reached in it.
use Rattle.c2_new_file_spec.proofs.FileLaws.{a_new_store_has_one_length_in_its_place, bindings_are_known}
use Rattle.c2_new_content_spec.proofs.SplitLaws.{a_place_is_a_split_file}
use Rattle.c2_collect_spec.proofs.Collecting.{collected_meets, collected_reaches}
use Rattle.std.proofs.Common.{ℕ, ◌≡◌, ◌≤◌, List, length, arith}
use Rattle.c2_base.specs.declared.limits.TheConstants.{MAX_STORE_LEN}
use Rattle.c2_spec.specs.C2pa.Sign1.{SignParts, SpellsMessage}
use Rattle.c2_spec.specs.Jumbf.Tree.{tree_bytes}
use Rattle.c2_spec.specs.declared.digest.Alg.{Alg}
use Rattle.c2_definition.specs.declared.types.NewAssertion.{NewAssertion}
use Rattle.c2_new_file_spec.specs.Fresh.{GivesDigests}
use Rattle.c2_new_file_spec.specs.Store.{Content, new_alg, new_store}
use Rattle.c2_new_content_spec.specs.Taken.{questions_from}
use Rattle.c2_new_file_spec.specs.Places.{CanPut, Place, bound_text, place_binding, range_len, store_len}
use Rattle.c2_collect_spec.specs.Collected.{IsStored, collected_readings, collected_roots}
use Rattle.c2_collect_spec.specs.Contents.{CollectedContentMeets}
use Rattle.c2_collect_spec.specs.Files.{CollectedFileMeets, CollectedFileReaches}

-- ---- it meets the rules

-- the new store meets the rules whichever its binding is
pub collected_content_meets : CollectedContentMeets
collected_content_meets hash d old other old_rs other_rs c message parts is spells = λ binding known small.
    collected_meets hash d old other old_rs other_rs c binding message parts is
    (record { known = known; fits = small; spells = spells })

-- the file that the new store is put into in its place meets the rules
pub collected_place : CollectedFileMeets
collected_place hash d old other old_rs other_rs c message base bytes p parts digests is can spells put =
    a_place_is_a_split_file hash c message base bytes p parts
    (questions_from (collected_readings old_rs other_rs) (collected_roots old_rs other_rs)) digests
    (collected_content_meets hash d old other old_rs other_rs c message parts is spells) can put

-- ---- what is reached

-- the store of a file in its place, as a new store
stored_in : (hash : Alg → List ℕ → List ℕ) (c : Content) (message base : List ℕ) (p : Place) (parts : SignParts)
    → GivesDigests hash → CanPut c (length message) base p → SpellsMessage message parts
    → IsStored hash c (place_binding (hash (new_alg c.definition)) c (length message) base p) message parts
stored_in hash c message base p parts digests can spells =
    let alg : Alg = new_alg c.definition in
    let h : List ℕ → List ℕ = hash alg in
    let len : ℕ = range_len p c (length message) in
    let digest : List ℕ = h (bound_text base p) in
    let binding : NewAssertion = place_binding h c (length message) base p in
    let size : length (tree_bytes (new_store h c binding message)) ≡ store_len p c (length message) =
    a_new_store_has_one_length_in_its_place h c p len digest message (λ text. (digests alg text).sized) (digests alg (bound_text base p)).sized in
    let small : length (tree_bytes (new_store h c binding message)) ≤ MAX_STORE_LEN = omega (arith, size, can.small) in
    record { known = bindings_are_known alg p len digest; fits = small; spells = spells }

-- this is reached in it
pub file_reaches : CollectedFileReaches
file_reaches hash d old other old_rs other_rs c message base file p parts s digests is can spells reads =
    let binding : NewAssertion = place_binding (hash (new_alg c.definition)) c (length message) base p in
    collected_reaches hash d old other old_rs other_rs c binding message parts s.readings is
    (stored_in hash c message base p parts digests can spells)
    reads.reads.each
