-- The fields of a binding, and their cover.
use Rattle.std.proofs.Common.{◌≡◌, ◌⊎◌, inl, inr, ℕ, true, false, List, length, Option, Some, Result, Ok, Err, IfOk, IfErr, refl, sym, ap, ◌∙◌, subst}
use Rattle.std.specs.Prelude.{MatchResult}
use Rattle.std.specs.Option.{ForSome}
use Rattle.c2_base.specs.Source.{ReadsSource, StaysSource}
use Rattle.c2_bmff_rows.specs.Rows.{rows_of}
use Rattle.c2_bmff_rows.specs.declared.row.RootBox.{RootBox}
use Rattle.c2_spec.specs.Bmff.Boxes.{Box, HasRoots}
use Rattle.c2_spec.specs.Bmff.Cover.{IsBmffCover}
use Rattle.c2_spec.specs.Bmff.Hash.{BmffHash, Exclusion, bmff_hash_of}
use Rattle.c2_spec.specs.C2pa.Assertion.{data_hash_of}
use Rattle.c2_spec.specs.Cbor.Item.{Item}
use Rattle.c2_spec.specs.Container.{jpeg}
use Rattle.c2_spec.specs.declared.assertion.DataHash.{DataHash}
use Rattle.c2_spec.specs.declared.assertion.FieldError.{FieldError}
use Rattle.c2_spec.specs.declared.assertion.FieldError.TheVariants as field
use Rattle.c2_spec.specs.declared.assertion.Kind.{Kind}
use Rattle.c2_rules.specs.Binding.{Binding, Media, IsBinding, IsBmffBinding, IsBoxBinding, IsBindingFrom, data_binding, jpeg_refusal}
use Rattle.c2_rules.proofs.BindingLaws.{one_cover}
use Rattle.c2_cover.specs.BmffCovers.{IsBmffCoverOf}
use Rattle.c2_cover.specs.Covers.{Covered, excluded_of, text_of}
use Rattle.c2_cover.specs.Refused.{IsBmffCause}
use Rattle.c2_cover.specs.declared.cover.CoverError.{CoverError}
use Rattle.c2_cover.specs.declared.cover.CoverError.TheVariants.{BadRange, ReadFault, NoMemory}
use Rattle.c2_container.specs.declared.types.Container.{Container}
use Rattle.c2_container.specs.declared.types.Container.TheVariants.{Jpeg, Bmff as BoxesOf}
use Rattle.c2_opening.specs.Media.{IsMediaOf, media}
use Rattle.c2_opening.specs.Opened.{IsOpeningCause}
use Rattle.c2_opening.specs.declared.error.ValidateError.{ValidateError}
use Rattle.c2_opening.specs.declared.error.ValidateError.TheVariants as error
use Rattle.c2_hard_binding.specs.Bindings.{data_binding_of, is_bmff_kind}
use Rattle.c2_hard_binding.specs.Fields.{IsBindingFields, CoversAs, HasNoCover, IsCoverCause, ReadsAs}
use Rattle.c2_hard_binding.specs.declared.fields.HardBinding.{HardBinding}
use Rattle.c2_hard_binding.specs.declared.fields.HardBinding.TheVariants.{Data, Bmff}
use Rattle.c2_hard_binding.proofs.Items.{bmff_item, data_item, media_bytes}

-- what a data hash comes to
data_comes :
    (c : Container) (kind : Kind) (v : Item) (r : Result DataHash FieldError) (file : List ℕ) (m : Media)
    (b : Result Binding FieldError)
    → is_bmff_kind kind ≡ false → data_hash_of v ≡ r → IsMediaOf file c m → IsBinding m kind v b
    → b ≡ data_binding file r
data_comes c kind v r file m b other is media_is binds = data_item m kind v b other binds ∙ ap (λ (bytes : List ℕ). data_binding bytes (data_hash_of v)) (media_bytes file c m media_is) ∙ ap (data_binding file) is

-- the fields of a data hash were read
pub data_fields : (c : Container) (kind : Kind) (v : Item) (d : DataHash) → is_bmff_kind kind ≡ false
    → data_hash_of v ≡ Ok d → ReadsAs c kind v (Ok (Data d))
data_fields c kind v d other is = λ file m media_is b binds. (data_binding_of file d, data_comes c kind v (Ok d) file m b other is media_is binds, refl)

-- a field of a data hash is refused
pub data_refused : (c : Container) (kind : Kind) (v : Item) (e : FieldError) → is_bmff_kind kind ≡ false
    → (e ≡ field.NoMemory) ⊎ (data_hash_of v ≡ Err e) → ReadsAs c kind v (Err e)
data_refused c kind v e other (inl out) = λ file m media_is b binds. inl out
data_refused c kind v e other (inr is) = λ file m media_is b binds. inr (data_comes c kind v (Err e) file m b other is media_is binds)

-- a BMFF hash has no place in a JPEG
pub jpeg_refused : (c : Container) (kind : Kind) (v : Item) (e : FieldError) → is_bmff_kind kind ≡ true → c ≡ Jpeg
    → e ≡ jpeg_refusal v → ReadsAs c kind v (Err e)
jpeg_refused c kind v e is contained refused = λ file m media_is b binds.
    let here : m ≡ media file jpeg = subst (λ (x : Container). IsMediaOf file x m) contained media_is in
    inr
    (subst (λ (x : Media). IsBmffBinding x.container (length x.bytes) v b) here (bmff_item m kind v b is binds) ∙ ap Err (sym refused))

-- what a BMFF hash comes to in a file of these root boxes
boxes_come :
    (c : Container) (kind : Kind) (v : Item) (rows : List RootBox) (r : Result BmffHash FieldError) (file : List ℕ)
    (m : Media) (b : Result Binding FieldError)
    → is_bmff_kind kind ≡ true → c ≡ BoxesOf rows → bmff_hash_of v ≡ r → IsMediaOf file c m → IsBinding m kind v b
    → (boxes : List Box) × HasRoots file boxes × (rows ≡ rows_of boxes) × IsBindingFrom boxes (length file) r b
boxes_come c kind v rows r file m b is contained read media_is binds =
    let here = subst (λ (x : Container). IsMediaOf file x m) contained media_is in
    (here.0, here.1, here.2, subst (λ (x : Result BmffHash FieldError). IsBindingFrom here.0 (length file) x b) read (subst (λ (x : Media). IsBmffBinding x.container (length x.bytes) v b) here.3 (bmff_item m kind v b is binds)))

-- the fields of a BMFF hash were read
pub boxes_fields : (c : Container) (kind : Kind) (v : Item) (h : BmffHash) (rows : List RootBox)
    → is_bmff_kind kind ≡ true → c ≡ BoxesOf rows → bmff_hash_of v ≡ Ok h → (file : List ℕ) (m : Media)
    → IsMediaOf file c m → (b : Result Binding FieldError) → IsBinding m kind v b
    → (x : Binding) × (b ≡ Ok x) × ((boxes : List Box) × HasRoots file boxes × (rows ≡ rows_of boxes) × IsBoxBinding boxes (length file) h x)
boxes_fields c kind v h rows is contained read file m media_is b binds = let come = boxes_come c kind v rows (Ok h) file m b is contained read media_is binds in by come.0 come.1 come.2 b come.3
  where
    by : (boxes : List Box) → HasRoots file boxes → rows ≡ rows_of boxes → (b : Result Binding FieldError)
        → IsBindingFrom boxes (length file) (Ok h) b
        → (x : Binding) × (b ≡ Ok x) × ((boxes : List Box) × HasRoots file boxes × (rows ≡ rows_of boxes) × IsBoxBinding boxes (length file) h x)
    by boxes has same (Ok x) binds = (x, refl, (boxes, has, same, binds))
    by boxes has same (Err e) binds = absurd binds

-- a field of a BMFF hash is refused
pub boxes_refused : (c : Container) (kind : Kind) (v : Item) (rows : List RootBox) (e : FieldError)
    → is_bmff_kind kind ≡ true → c ≡ BoxesOf rows → (e ≡ field.NoMemory) ⊎ (bmff_hash_of v ≡ Err e)
    → ReadsAs c kind v (Err e)
boxes_refused c kind v rows e is contained (inl out) = λ file m media_is b binds. inl out
boxes_refused c kind v rows e is contained (inr read) = λ file m media_is b binds. let come = boxes_come c kind v rows (Err e) file m b is contained read media_is binds in inr come.3

-- the cover of a BMFF hash is that of the binding that its fields come to
pub bmff_covers :
    (file : List ℕ) (known : Option (List ℕ)) (h : HardBinding) (fields : BmffHash) (roots : _) (es : List Exclusion)
    (before now : ℕ) (b : Binding) (r : Result Covered CoverError)
    → known ≡ Some file → h ≡ Bmff fields roots → es ≡ fields.exclusions
    → IfOk r (λ c. ForSome known (λ bytes. IsBmffCoverOf bytes roots.now es c)) → IfErr r (IsBmffCause before now)
    → IsBindingFields file h b → MatchResult r (CoversAs file b) (HasNoCover b)
bmff_covers file known h fields roots es before now b (Ok c) told is same cover cause comes =
    let at : IsBindingFields file (Bmff fields roots) b =
    subst (λ (x : HardBinding). IsBindingFields file x b) is comes in
    let covers : IsBmffCover at.0 (length file) es (excluded_of c) (text_of c file) = cover file told at.0 at.1 at.2 in
    let here =
    subst (λ (xs : List Exclusion). IsBmffCover at.0 (length file) xs (excluded_of c) (text_of c file)) same covers in
    let one =
    one_cover at.0 (length file) fields.exclusions (excluded_of c) (text_of c file) b.excluded b.text here
    at.3.cover in
    record { in_order = at.3.in_order; excluded = one.0; text = one.1 }
bmff_covers file known h fields roots es before now b (Err (BadRange i)) told is same cover cause comes = absurd cause
bmff_covers file known h fields roots es before now b (Err ReadFault) told is same cover cause comes = tt
bmff_covers file known h fields roots es before now b (Err NoMemory) told is same cover cause comes = tt

-- a call after one that left the count reads nothing
pub reads_after :
    {S T : Type 0} (len : S → ℕ) (known : S → Option (List ℕ)) (faults : S → ℕ) (old new : S)
    (r : Result T ValidateError)
    → StaysSource len known faults old new → faults new ≡ faults old → IfErr r (λ e. e ≡ error.NoMemory)
    → ReadsSource len known faults IsOpeningCause old new r
reads_after len known faults old new (Ok x) stays same h = record { stays = stays; quiet = same; cause = tt }
reads_after {S} {T} len known faults old new (Err e) stays same h =
    record { stays = stays; quiet = tt; cause = subst (IsOpeningCause (faults old) (faults new)) (sym h) tt }

-- a range that isn't in order is found without a fault
pub bad_range_count : (before now : ℕ) (e : CoverError) (i : ℕ) → e ≡ BadRange i → IsCoverCause before now e
    → now ≡ before
bad_range_count before now e i is h = subst (IsCoverCause before now) is h
