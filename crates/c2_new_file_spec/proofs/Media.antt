-- The base of a film with a store is a BMFF file.
use Rattle.std.proofs.Common.{◌≡◌, ℕ, Bool, true, false, cond, List, [], ◌∷◌, ◌++◌, take, refl, sym, ap, ◌∙◌, subst}
use Rattle.std.specs.List.{flat_map}
use Rattle.c2_spec.specs.Bmff.Boxes.{Box, HasRoots, SizeForm, short, long, to_end, begins_bmff, box_bytes, uuid_kind}
use Rattle.c2_spec.specs.Bmff.Store.{is_store_box}
use Rattle.c2_spec.specs.Container.{is_bmff}
use Rattle.c2_spec.specs.Bmff.Writing.{AreBaseRoots, IsBmffBase, base_roots, freed, is_file_end, same, without}
use Rattle.c2_bmff_insert_spec.proofs.Bases.{store_kind}
use Rattle.c2_spec.proofs.Containers.{same_media}

-- ---- the first two bytes

-- a box has two bytes
pub box_two : (b : Box) (rest more : List ℕ) → take 2 (box_bytes b ++ rest) ≡ take 2 (box_bytes b ++ more)
box_two b rest more = go b.form b.kind b.payload
  where
    go : (form : SizeForm) (kind payload : List ℕ)
        → take 2 (box_bytes (record { form = form; kind = kind; payload = payload }) ++ rest) ≡ take 2 (box_bytes (record { form = form; kind = kind; payload = payload }) ++ more)
    go short kind payload = refl
    go long kind payload = refl
    go to_end kind payload = refl

-- ---- the base

-- a file doesn't begin with such a box
uuid_first : (form : SizeForm) (payload rest : List ℕ)
    → begins_bmff (box_bytes (record { form = form; kind = uuid_kind; payload = payload }) ++ rest) ≡ false
uuid_first short payload rest = refl
uuid_first long payload rest = refl
uuid_first to_end payload rest = refl

-- a file doesn't begin with a box that holds a store
no_store_first : (b : Box) (rest : List ℕ) → b.kind ≡ uuid_kind → begins_bmff (box_bytes b ++ rest) ≡ false
no_store_first b rest e =
    subst
    (λ (k : List ℕ). begins_bmff (box_bytes (record { form = b.form; kind = k; payload = b.payload }) ++ rest) ≡ false)
    (sym e) (uuid_first b.form b.payload rest)

-- the base begins as the file does
base_starts : (before after : List Box) (old : Box) → is_store_box old ≡ true
    → begins_bmff (flat_map box_bytes (before ++ old ∷ after)) ≡ true
    → take 2 (flat_map box_bytes (base_roots before old after)) ≡ take 2 (flat_map box_bytes (before ++ old ∷ after))
base_starts [] after old h begins =
    absurd (let bad = sym begins ∙ no_store_first old (flat_map box_bytes after) (store_kind old h) in cc (bad))
base_starts (b ∷ bs) after old h begins = go (is_file_end after)
  where
    go : (t : Bool)
        → take 2 (flat_map box_bytes (cond t ((b ∷ bs) ++ after) ((b ∷ bs) ++ freed old ∷ after))) ≡ take 2 (flat_map box_bytes ((b ∷ bs) ++ old ∷ after))
    go true = box_two b (flat_map box_bytes (bs ++ after)) (flat_map box_bytes (bs ++ old ∷ after))
    go false = box_two b (flat_map box_bytes (bs ++ freed old ∷ after)) (flat_map box_bytes (bs ++ old ∷ after))

-- the base of a BMFF file is a BMFF file
pub base_media : (media base : List ℕ) (roots : List Box) → IsBmffBase media base roots → HasRoots base roots
    → is_bmff media ≡ true → is_bmff base ≡ true
base_media media base roots k has h = go k.are
  where
    go : AreBaseRoots k.boxes roots → is_bmff base ≡ true
    go (same others e) =
        subst (λ (f : List ℕ). is_bmff f ≡ true) (k.has_roots.bytes ∙ ap (flat_map box_bytes) (sym e) ∙ sym k.bytes) h
    go (without start len store holds e) =
        let whole : media ≡ flat_map box_bytes (holds.before ++ holds.holder ∷ holds.after) =
        k.has_roots.bytes ∙ ap (flat_map box_bytes) holds.split in
        let begins : begins_bmff (flat_map box_bytes (holds.before ++ holds.holder ∷ holds.after)) ≡ true =
        sym (ap begins_bmff whole) ∙ k.has_roots.begins in
        same_media base media
        (ap (take 2) (k.bytes ∙ ap (flat_map box_bytes) e) ∙ base_starts holds.before holds.after holds.holder holds.is_holder begins ∙ ap (take 2) (sym whole))
        h has.begins
