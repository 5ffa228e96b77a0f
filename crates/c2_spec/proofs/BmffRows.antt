-- Worked BMFF files, paths and BMFF hashes, computed. Each is small enough to be held against the standards by hand.
use Rattle.std.proofs.Common.{◌≡◌, ℕ, true, false, List, [], ◌∷◌, ◌++◌, take, Option, Some, None, Ok, Err, codes, refl, lit<, lit≤}
use Rattle.std.proofs.lemmas.Bool.{false≢true}
use Rattle.c2_base.specs.declared.media.MediaError.TheVariants.{Truncated, BadBox, BadProvenanceBox, TwoStores}
use Rattle.c2_spec.specs.Bmff.Store.{HasBmffStore, HasNoBmffStore, FirstBmffFault, root, is_c2pa_box, is_store_box, is_other_box, c2pa_fault, c2pa_user_type}
use Rattle.c2_spec.specs.Bmff.Boxes.{Box, short, long, to_end, IsBox, HasRoots, box_fault, box_bytes}
use Rattle.c2_spec.specs.Bmff.Hash.{bmff_hash_of, MeetsTest, Exclusion}
use Rattle.c2_spec.specs.Bmff.Paths.{PathStep, matched, path_of, enters_other, placed_from, OnPath, last, below, filled}
use Rattle.c2_spec.specs.Cbor.Item.{Item, uint, bytes, text, list, dict, Items, no_items, item, Pairs, no_pairs, pair}
use Rattle.c2_spec.specs.declared.assertion.FieldError.TheVariants.{Merkle, Form, Test, Path}

-- ---- a file of two boxes

-- A box of type `ftyp` with 8 bytes of payload.
abbrev ftyp_box : Box
ftyp_box = record { form = short; kind = codes "ftyp"; payload = 0x69 ∷ 0x73 ∷ 0x6F ∷ 0x6D ∷ 0 ∷ 0 ∷ 0 ∷ 0 ∷ [] }

-- A box of type `mdat` with one byte of payload.
abbrev mdat_box : Box
mdat_box = record { form = short; kind = codes "mdat"; payload = 0x41 ∷ [] }

-- The bytes of the first.
abbrev ftyp_bytes : List ℕ
ftyp_bytes = 0 ∷ 0 ∷ 0 ∷ 0x10 ∷ 0x66 ∷ 0x74 ∷ 0x79 ∷ 0x70 ∷ 0x69 ∷ 0x73 ∷ 0x6F ∷ 0x6D ∷ 0 ∷ 0 ∷ 0 ∷ 0 ∷ []

-- The bytes of the second.
abbrev mdat_bytes : List ℕ
mdat_bytes = 0 ∷ 0 ∷ 0 ∷ 9 ∷ 0x6D ∷ 0x64 ∷ 0x61 ∷ 0x74 ∷ 0x41 ∷ []

-- A file of the two.
abbrev two_boxes : List ℕ
two_boxes = ftyp_bytes ++ mdat_bytes

-- The first is a box.
is_ftyp : IsBox ftyp_box
is_ftyp = record { kind = refl; fits = refl; user_type = λ h. absurd (false≢true h) }

-- The file has these two root boxes.
pub two_roots : HasRoots two_boxes (ftyp_box ∷ mdat_box ∷ [])
two_roots =
    record
    { fits = lit< tt; begins = refl; bytes = refl; forms = (record { is_box = is_ftyp; sized = refl }, record { kind = refl; fits = refl; user_type = λ h. absurd (false≢true h) }); few = lit≤ tt }

-- The file has no store.
pub no_store : HasNoBmffStore two_boxes
unfolding is_c2pa_box is_other_box
no_store = record { roots = ftyp_box ∷ mdat_box ∷ []; has_roots = two_roots; none = (refl, (refl, tt)) }

-- the size after the type, and no size
abbrev wide_mdat : Box
wide_mdat = record { form = long; kind = codes "mdat"; payload = 0x41 ∷ [] }

-- The box `mdat` with size 0: it runs to the end of the file.
abbrev last_mdat : Box
last_mdat = record { form = to_end; kind = codes "mdat"; payload = 0x41 ∷ [] }

-- Size 1 and a 64-bit size of 17 after the type are read.
pub wide_roots : HasRoots (ftyp_bytes ++ (0 ∷ 0 ∷ 0 ∷ 1 ∷ 0x6D ∷ 0x64 ∷ 0x61 ∷ 0x74 ∷ 0 ∷ 0 ∷ 0 ∷ 0 ∷ 0 ∷ 0 ∷ 0 ∷ 0x11 ∷ 0x41 ∷ [])) (ftyp_box ∷ wide_mdat ∷ [])
wide_roots =
    record
    { fits = lit< tt; begins = refl; bytes = refl; forms = (record { is_box = is_ftyp; sized = refl }, record { kind = refl; fits = refl; user_type = λ h. absurd (false≢true h) }); few = lit≤ tt }

-- Size 0 of the last box is read as up to the end.
pub open_roots : HasRoots (ftyp_bytes ++ (0 ∷ 0 ∷ 0 ∷ 0 ∷ 0x6D ∷ 0x64 ∷ 0x61 ∷ 0x74 ∷ 0x41 ∷ [])) (ftyp_box ∷ last_mdat ∷ [])
open_roots =
    record
    { fits = lit< tt; begins = refl; bytes = refl; forms = (record { is_box = is_ftyp; sized = refl }, record { kind = refl; fits = refl; user_type = λ h. absurd (false≢true h) }); few = lit≤ tt }

-- 24 bytes of it, and a size of 7
pub cut_short : FirstBmffFault (take 24 two_boxes) (Truncated 24)
unfolding box_fault
cut_short =
    root (Truncated 24) (lit< tt) refl
    (record { before = ftyp_box ∷ []; rest = take 8 mdat_bytes; bytes = refl; sized = (record { is_box = is_ftyp; sized = refl }, tt); few = lit≤ tt; more = lit< tt; fails = refl })

-- A size of 7 is BadBox at the box's place.
pub bad_size : FirstBmffFault (ftyp_bytes ++ (0 ∷ 0 ∷ 0 ∷ 7 ∷ 0x6D ∷ 0x64 ∷ 0x61 ∷ 0x74 ∷ 0x41 ∷ [])) (BadBox 16)
unfolding box_fault
bad_size =
    root (BadBox 16) (lit< tt) refl
    (record { before = ftyp_box ∷ []; rest = 0 ∷ 0 ∷ 0 ∷ 7 ∷ 0x6D ∷ 0x64 ∷ 0x61 ∷ 0x74 ∷ 0x41 ∷ []; bytes = refl; sized = (record { is_box = is_ftyp; sized = refl }, tt); few = lit≤ tt; more = lit< tt; fails = refl })

-- ---- a C2PA box

-- a store of one box with nothing in it, after user type, version, purpose and offset, and three bytes of padding
abbrev tiny_store : List ℕ
tiny_store = 0 ∷ 0 ∷ 0 ∷ 8 ∷ 0x6A ∷ 0x75 ∷ 0x6D ∷ 0x62 ∷ []

-- What comes before the store in the payload of a C2PA box.
abbrev front : List ℕ
front = c2pa_user_type ++ (0 ∷ 0 ∷ 0 ∷ 0 ∷ []) ++ codes "manifest" ++ (0 ∷ 0 ∷ 0 ∷ 0 ∷ 0 ∷ 0 ∷ 0 ∷ 0 ∷ 0 ∷ [])

-- The box with that store in it.
abbrev c2pa_box : Box
c2pa_box = record { form = short; kind = codes "uuid"; payload = front ++ tiny_store ++ (9 ∷ 9 ∷ 9 ∷ []) }

-- the box begins at 16 and has 8 + 16 + 4 + 9 + 8 + 8 + 3 bytes
pub one_store : HasBmffStore (ftyp_bytes ++ box_bytes c2pa_box) 16 56 tiny_store
unfolding is_c2pa_box is_store_box is_other_box
one_store = record {
  roots = ftyp_box ∷ c2pa_box ∷ [];
  has_roots =
      record
      { fits = lit< tt; begins = refl; bytes = refl; forms = (record { is_box = is_ftyp; sized = refl }, record { kind = refl; fits = refl; user_type = λ _. lit≤ tt }); few = lit≤ tt };
  holds = record {
    before = ftyp_box ∷ [];
    holder = c2pa_box;
    after = [];
    split = refl;
    is_holder = refl;
    whole = refl;
    bytes = refl;
    small = lit≤ tt;
    others_before = (refl, tt);
    others_after = tt;
    from = refl;
    for = refl;
  };
}

-- the tests of such a box, in their order
abbrev content : List ℕ → List ℕ
content store = (0 ∷ 0 ∷ 0 ∷ 0 ∷ []) ++ codes "manifest" ++ (0 ∷ 0 ∷ 0 ∷ 0 ∷ 0 ∷ 0 ∷ 0 ∷ 0 ∷ 0 ∷ []) ++ store

-- A version other than 0 is refused.
other_version : c2pa_fault true 16 (0 ∷ 0 ∷ 0 ∷ 1 ∷ []) ≡ Some (BadProvenanceBox 16)
unfolding c2pa_fault
other_version = refl

-- a purpose that is cut short passes unread
cut_purpose : c2pa_fault true 16 (0 ∷ 0 ∷ 0 ∷ 0 ∷ codes "manifest") ≡ None
unfolding c2pa_fault
cut_purpose = refl

-- a second store is told before its own tests
second_store : c2pa_fault true 16 (content []) ≡ Some (TwoStores 16)
unfolding c2pa_fault
second_store = refl

-- A store whose length is 0 is refused.
no_head : c2pa_fault false 16 (content (0 ∷ 0 ∷ 0 ∷ 0 ∷ 0x6A ∷ 0x75 ∷ 0x6D ∷ 0x62 ∷ [])) ≡ Some (BadProvenanceBox 16)
unfolding c2pa_fault
no_head = refl

-- A store whose length is one more than what is there is refused.
too_long : c2pa_fault false 16 (content (0 ∷ 0 ∷ 0 ∷ 9 ∷ 0x6A ∷ 0x75 ∷ 0x6D ∷ 0x62 ∷ [])) ≡ Some (BadProvenanceBox 16)
unfolding c2pa_fault
too_long = refl

-- A store that is there in full passes.
fitting : c2pa_fault false 16 (content tiny_store) ≡ None
unfolding c2pa_fault
fitting = refl

-- ---- paths

-- A step of a path, written short.
abbrev step : List ℕ → Option ℕ → PathStep
step kind nth = record { kind = kind; nth = nth }

-- `/uuid` is one step without a number.
one_step : path_of (codes "/uuid") ≡ Some (step (codes "uuid") None ∷ [])
one_step = refl

-- A step may have a number, and its neighbours none.
three_steps : path_of (codes "/moov/trak[12]/mdia[1]") ≡ Some (step (codes "moov") None ∷ step (codes "trak") (Some 12) ∷ step (codes "mdia") (Some 1) ∷ [])
three_steps = refl

-- a closing bracket may stand among the four
bracket : path_of (codes "/a]b ") ≡ Some (step (codes "a]b ") None ∷ [])
bracket = refl

-- A number with a leading zero is no path.
leading_zero : path_of (codes "/trak[01]") ≡ None
leading_zero = refl

-- The number 0 is no path.
zeroth : path_of (codes "/trak[0]") ≡ None
zeroth = refl

-- The greatest number is 1,048,576.
greatest : path_of (codes "/trak[1048576]") ≡ Some (step (codes "trak") (Some 1048576) ∷ [])
greatest = refl

-- One more is no path.
too_great : path_of (codes "/trak[1048577]") ≡ None
too_great = refl

-- The empty text is no path.
no_path : path_of [] ≡ None
no_path = refl

-- A slash at the end makes no path.
trailing_slash : path_of (codes "/uuid/") ≡ None
trailing_slash = refl

-- A text without a slash at its start is no path.
no_slash : path_of (codes "uuid") ≡ None
no_slash = refl

-- A bracket that isn't closed makes no path.
open_bracket : path_of (codes "/trak[1") ≡ None
open_bracket = refl

-- A type has ASCII alone: a letter of two bytes among its four makes no path.
two_bytes : path_of (0x2F ∷ 0xC3 ∷ 0xA9 ∷ 0x61 ∷ 0x62 ∷ []) ≡ None
two_bytes = refl

-- A path through `udta` enters a box that isn't looked into.
other_enters : enters_other (step (codes "moov") None ∷ step (codes "udta") None ∷ step (codes "meta") None ∷ []) ≡ true
other_enters = refl

-- ---- a BMFF hash

-- A pair whose key is a text, written short.
abbrev field : List ℕ → Item → Pairs → Pairs
field key v ps = pair (text key) v ps

-- A BMFF hash with these exclusions.
abbrev hash_item : Items → Item
hash_item exclusions =
    dict (field (codes "hash") (bytes (1 ∷ 2 ∷ [])) (field (codes "exclusions") (list exclusions) no_pairs))

-- The exclusion of a root box of this type in full.
abbrev whole_entry : List ℕ → Exclusion
whole_entry kind = record { path = step kind None ∷ []; length = None; tests = []; subset = None }

-- the entry that the builder writes for its own box
abbrev uuid_item : Item
uuid_item =
    dict
    (field (codes "data") (list (item (dict (field (codes "value") (bytes c2pa_user_type) (field (codes "offset") (uint 8) no_pairs))) no_items)) (field (codes "xpath") (text (codes "/uuid")) no_pairs))

-- The entry of the builder's own box and one for `ftyp` are read as two exclusions.
built_fields : bmff_hash_of (hash_item (item uuid_item (item (dict (field (codes "xpath") (text (codes "/ftyp")) no_pairs)) no_items)))
    ≡ Ok
    (record { exclusions = record { path = step (codes "uuid") None ∷ []; length = None; tests = record { offset = 8; value = c2pa_user_type } ∷ []; subset = None } ∷ whole_entry (codes "ftyp") ∷ []; alg = None; hash = 1 ∷ 2 ∷ [] })
built_fields = refl

-- a Merkle tree comes before the form, an unknown test before a path, whatever their places
merkle_first : bmff_hash_of (dict (field (codes "merkle") (list no_items) no_pairs)) ≡ Err Merkle
merkle_first = refl

-- A hash without exclusions is refused.
no_list : bmff_hash_of (dict (field (codes "hash") (bytes []) no_pairs)) ≡ Err Form
no_list = refl

-- A subset without ranges is refused.
empty_subset : bmff_hash_of (hash_item (item (dict (field (codes "subset") (list no_items) (field (codes "xpath") (text (codes "/mdat")) no_pairs))) no_items)) ≡ Err Form
empty_subset = refl

-- An unknown test in the second entry is told before a bad path in the first.
test_first : bmff_hash_of (hash_item (item (dict (field (codes "xpath") (text (codes "/abcd/efgh")) no_pairs)) (item (dict (field (codes "exact") (uint 0) (field (codes "xpath") (text (codes "/mdat")) no_pairs))) no_items))) ≡ Err Test
test_first = refl

-- A path through a box that isn't looked into is refused as a path.
path_last : bmff_hash_of (hash_item (item (dict (field (codes "xpath") (text (codes "/abcd/efgh")) no_pairs)) no_items)) ≡ Err Path
path_last = refl

-- ---- a box on a path, two deep

-- A box of type `trak`.
abbrev trak_box : List ℕ → Box
trak_box payload = record { form = short; kind = codes "trak"; payload = payload }

-- A box of type `moov` with two `trak` boxes in it, the first with one byte.
abbrev moov_box : Box
moov_box =
    record { form = short; kind = codes "moov"; payload = box_bytes (trak_box (7 ∷ [])) ++ box_bytes (trak_box []) }

-- The second `trak` in `moov` is at 33.
second_trak : OnPath (placed_from 0 (ftyp_box ∷ moov_box ∷ [])) (step (codes "moov") None ∷ step (codes "trak") (Some 2) ∷ []) (record { at = 33; box = trak_box [] })
second_trak = below _ _ _ [] _ (record { at = 16; box = moov_box }) (placed_from 24 (trak_box (7 ∷ []) ∷ trak_box [] ∷ [])) refl (0, lit< tt, refl)
    (filled (trak_box (7 ∷ []) ∷ trak_box [] ∷ [])
    (record {
      bytes = refl;
      forms = (
        record { is_box = record { kind = refl; fits = refl; user_type = λ h. absurd (false≢true h) }; sized = refl },
        (
          record { is_box = record { kind = refl; fits = refl; user_type = λ h. absurd (false≢true h) }; sized = refl },
          tt,
        ),
      );
    }))
    (last _ _ _ (0, lit< tt, refl))

-- ---- at the edges

-- a size of 1 and 15 bytes: the header doesn't fit
short_header : box_fault 0 (0 ∷ 0 ∷ 0 ∷ 1 ∷ 0x66 ∷ 0x74 ∷ 0x79 ∷ 0x70 ∷ 0 ∷ 0 ∷ 0 ∷ 0 ∷ 0 ∷ 0 ∷ 0 ∷ []) ≡ Some (Truncated 15)
unfolding box_fault
short_header = refl

-- a 64-bit size of 15
small_size : box_fault 3 (0 ∷ 0 ∷ 0 ∷ 1 ∷ 0x66 ∷ 0x74 ∷ 0x79 ∷ 0x70 ∷ 0 ∷ 0 ∷ 0 ∷ 0 ∷ 0 ∷ 0 ∷ 0 ∷ 15 ∷ []) ≡ Some (BadBox 3)
unfolding box_fault
small_size = refl

-- a user type that isn't there, and a box that is too long before that
no_user_type : box_fault 3 (0 ∷ 0 ∷ 0 ∷ 9 ∷ 0x75 ∷ 0x75 ∷ 0x69 ∷ 0x64 ∷ 0 ∷ []) ≡ Some (BadBox 3)
unfolding box_fault
no_user_type = refl

-- A size of 10 in a region of 9 bytes is Truncated, though there is no user type either.
too_long_uuid : box_fault 3 (0 ∷ 0 ∷ 0 ∷ 10 ∷ 0x75 ∷ 0x75 ∷ 0x69 ∷ 0x64 ∷ 0 ∷ []) ≡ Some (Truncated 12)
unfolding box_fault
too_long_uuid = refl

-- the first box may run to the end
pub whole_file : HasRoots (0 ∷ 0 ∷ 0 ∷ 0 ∷ 0x66 ∷ 0x74 ∷ 0x79 ∷ 0x70 ∷ 7 ∷ []) (record { form = to_end; kind = codes "ftyp"; payload = 7 ∷ [] } ∷ [])
whole_file =
    record
    { fits = lit< tt; begins = refl; bytes = refl; forms = record { kind = refl; fits = refl; user_type = λ h. absurd (false≢true h) }; few = lit≤ tt }

-- A step with the number 1 matches the first `mdat` alone.
first_mdat : matched (step (codes "mdat") (Some 1)) (placed_from 0 (ftyp_box ∷ mdat_box ∷ [])) ≡ record { at = 16; box = mdat_box } ∷ []
first_mdat = refl

-- A step with the number 2 matches none where there is one `mdat`.
second_mdat : matched (step (codes "mdat") (Some 2)) (placed_from 0 (ftyp_box ∷ mdat_box ∷ [])) ≡ []
second_mdat = refl

-- an empty value is met up to the box's end
empty_test : MeetsTest mdat_box (record { offset = 9; value = [] })
empty_test = record { inside = lit≤ tt; same = refl }
