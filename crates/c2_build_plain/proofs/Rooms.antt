-- What is known of a place where no test on it fails.
use Rattle.std.proofs.Common.{◌≡◌, ℕ, ◌+◌, ◌<◌, ◌≤◌, true, length, Option, Some, None, refl}
use Rattle.std.specs.Prelude.{nat_lt, nat_le, option_map}
use Rattle.std.specs.Option.{option_to_list}
use Rattle.std.proofs.lemmas.Bool.{ltb-false, leb-false}
use Rattle.c2_base.specs.declared.limits.TheConstants.{FILE_LEN_LIMIT, MAX_MANIFESTS, MAX_ROOT_BOXES, MAX_STORE_LEN}
use Rattle.c2_spec.specs.Bmff.Paths.{placed_from}
use Rattle.c2_spec.specs.Bmff.Writing.{open_end}
use Rattle.c2_new_file_spec.specs.Places.{HasRoom, Place, in_boxes, in_segments}
use Rattle.c2_build_refusals.specs.Refusals.{Ground, box_tests, first_refusal, ground_tests, new_range_len, new_store_len, place_tests, refuse_if}
use Rattle.c2_build_refusals.specs.declared.error.BuildError.TheVariants.{OpenBox}
use Rattle.c2_build_refusals.proofs.Stages.{none_fails, none_of_both}

-- no open box ends these root boxes
no_open : (o : Option ℕ)
    → first_refusal (option_to_list (option_map (λ (at : ℕ). refuse_if true (OpenBox at)) o)) ≡ None → o ≡ None
no_open None e = refl
no_open (Some at) e = absurd (cc (e))

-- a place has room where neither test on it alone fails
has_room : (p : Place) → first_refusal (place_tests p) ≡ None → first_refusal (box_tests p) ≡ None → HasRoom p
has_room (in_segments segments None) h k = absurd (cc (h))
has_room (in_segments segments (Some en)) h k = (en, refl)
has_room (in_boxes roots) h k =
    (no_open (open_end (placed_from 0 roots)) h, leb-false MAX_ROOT_BOXES (length roots) (none_fails (nat_le MAX_ROOT_BOXES (length roots)) _ _ k).0)

-- What is known of numbers where no test on them fails.
pub record PassNumbers (g : Ground) (p : Place) : Type 0 where
  pub room : HasRoom p
  pub few : g.manifests ≤ MAX_MANIFESTS
  pub small : new_store_len p g.content ≤ MAX_STORE_LEN
  pub fits : length g.base + new_range_len p g.content < FILE_LEN_LIMIT

-- no test on numbers fails
pub pass_numbers : (g : Ground) (p : Place) → first_refusal (ground_tests g p) ≡ None → PassNumbers g p
pass_numbers g p h =
    let a = none_of_both (place_tests p) _ h in
    let b = none_fails (nat_lt MAX_MANIFESTS g.manifests) _ _ a.1 in
    let c = none_fails (nat_lt MAX_STORE_LEN (new_store_len p g.content)) _ _ b.1 in
    let d = none_fails (nat_le FILE_LEN_LIMIT (length g.base + new_range_len p g.content)) _ _ c.1 in
    record {
      room = has_room p a.0 d.1;
      few = ltb-false MAX_MANIFESTS g.manifests b.0;
      small = ltb-false MAX_STORE_LEN (new_store_len p g.content) c.0;
      fits = leb-false FILE_LEN_LIMIT (length g.base + new_range_len p g.content) d.0;
    }
