-- What an item comes to as a binding is one, and over any two media files it names one algorithm and one digest.
use Rattle.std.proofs.Common.{◌≡◌, ℕ, Bool, not, List, [], ◌∷◌, ◌++◌, length, map, Option, None, Ok, Err, Result, refl, sym, ap, ap₂, ◌∙◌}
use Rattle.std.proofs.lemmas.List.Elements.{filter_agree}
use Rattle.std.specs.List.{enumerate_from, range_with_len, flat_map}
use Rattle.c2_spec.specs.C2pa.Assertion.{data_hash_of}
use Rattle.c2_spec.specs.Bmff.Boxes.{Box, box_bytes}
use Rattle.c2_spec.specs.Bmff.Hash.{BmffHash, Exclusion, bmff_hash_of}
use Rattle.c2_spec.specs.Bmff.Paths.{PlacedBox, placed_from}
use Rattle.c2_spec.specs.Cbor.Item.{Item}
use Rattle.c2_spec.specs.declared.assertion.DataHash.{DataHash}
use Rattle.c2_spec.specs.declared.assertion.FieldError.{FieldError}
use Rattle.c2_spec.specs.declared.assertion.Kind.{Kind}
use Rattle.c2_spec.specs.declared.assertion.Kind.TheVariants as kinds
use Rattle.c2_spec.specs.Container.{Container, jpeg, bmff}
use Rattle.c2_rules.specs.Binding.{Binding, Media, data_binding, IsBoxBinding, IsBindingFrom, IsBmffBinding, IsBinding}
use Rattle.c2_spec.specs.Bmff.Cover.{IsBmffCover, after_offset, root_text}
use Rattle.c2_spec.specs.Cover.{kept_from}
use Rattle.c2_lemmas.proofs.Bools.{same_test}

-- ---- covers

-- exclusions that agree at each position keep the same bytes
pub kept_agree : (p q : ℕ → Bool) → ((i : ℕ) → p i ≡ q i) → (at : ℕ) (bytes : List ℕ)
    → kept_from p at bytes ≡ kept_from q at bytes
kept_agree p q h at bytes =
    ap (map (λ (x : ℕ × ℕ). x.1))
    (filter_agree (λ (x : ℕ × ℕ). not (p x.0)) (λ (x : ℕ × ℕ). not (q x.0)) (λ x. ap not (h x.0)) (enumerate_from at bytes))

-- exclusions that agree at each position cover the same text of root boxes
texts_agree : (p q : ℕ → Bool) → ((i : ℕ) → p i ≡ q i) → (bs : List PlacedBox)
    → flat_map (root_text p) bs ≡ flat_map (root_text q) bs
texts_agree p q h [] = refl
texts_agree p q h (b ∷ bs) =
    ap₂ (λ (x y : List ℕ). x ++ y) (ap (after_offset b.at) (kept_agree p q h b.at (box_bytes b.box)))
    (texts_agree p q h bs)

-- a BMFF file and exclusions have one list of excluded positions and one covered text
pub one_cover : (roots : List Box) (size : ℕ) (es : List Exclusion) (x t y u : List ℕ) → IsBmffCover roots size es x t
    → IsBmffCover roots size es y u → (x ≡ y) × (t ≡ u)
one_cover roots size es x t y u a b =
    let agree : (i : ℕ) → a.excludes i ≡ b.excludes i =
    λ i. same_test (a.excludes i) (b.excludes i) (λ e. (b.exactly i).1 ((a.exactly i).0 e)) (λ e. (a.exactly i).1 ((b.exactly i).0 e)) in
    (a.positions ∙ filter_agree a.excludes b.excludes agree (range_with_len 0 size) ∙ sym b.positions, a.bytes ∙ texts_agree a.excludes b.excludes agree (placed_from 0 roots) ∙ sym b.bytes)

-- ---- one binding

-- a binding of these parts, written short
abbrev binding : Option (List ℕ) → List ℕ → Bool → List ℕ → List ℕ → Binding
binding alg hash in_order excluded text =
    record { alg = alg; hash = hash; in_order = in_order; excluded = excluded; text = text }

-- a BMFF hash and root boxes have one binding
one_box_binding : (roots : List Box) (size : ℕ) (h : BmffHash) (b c : Binding) → IsBoxBinding roots size h b
    → IsBoxBinding roots size h c → b ≡ c
one_box_binding roots size h b c p q =
    let cover = one_cover roots size h.exclusions b.excluded b.text c.excluded c.text p.cover q.cover in
    ap (λ x. binding x b.hash b.in_order b.excluded b.text) (p.alg ∙ sym q.alg)
    ∙ ap (λ x. binding c.alg x b.in_order b.excluded b.text) (p.hash ∙ sym q.hash)
    ∙ ap (λ x. binding c.alg c.hash x b.excluded b.text) (p.in_order ∙ sym q.in_order)
    ∙ ap (λ x. binding c.alg c.hash c.in_order x b.text) cover.0
    ∙ ap (λ x. binding c.alg c.hash c.in_order c.excluded x) cover.1

-- what a BMFF hash is read as, or its refusal, has one binding or refusal
one_read : (roots : List Box) (size : ℕ) (o : Result BmffHash FieldError) (a b : Result Binding FieldError)
    → IsBindingFrom roots size o a → IsBindingFrom roots size o b → a ≡ b
one_read roots size (Err e) a b p q = p ∙ sym q
one_read roots size (Ok h) (Err e) b p q = absurd p
one_read roots size (Ok h) (Ok x) (Err e) p q = absurd q
one_read roots size (Ok h) (Ok x) (Ok y) p q = ap (λ (z : Binding). Ok z) (one_box_binding roots size h x y p q)

-- an item in a container, which may be another than BMFF, has one binding as a BMFF hash, or one refusal
one_bmff : (k : Container) (size : ℕ) (v : Item) (a b : Result Binding FieldError) → IsBmffBinding k size v a
    → IsBmffBinding k size v b → a ≡ b
one_bmff jpeg size v a b p q = p ∙ sym q
one_bmff (bmff roots) size v a b p q = one_read roots size (bmff_hash_of v) a b p q

-- an item of a kind in a file has one binding or one refusal
pub one_binding : (m : Media) (kind : Kind) (v : Item) (a b : Result Binding FieldError) → IsBinding m kind v a
    → IsBinding m kind v b → a ≡ b
one_binding m kinds.BmffHash v a b p q = one_bmff m.container (length m.bytes) v a b p q
one_binding m kinds.DataHash v a b p q = p ∙ sym q
one_binding m kinds.OtherHash v a b p q = p ∙ sym q
one_binding m kinds.Ingredient v a b p q = p ∙ sym q
one_binding m kinds.IngredientOther v a b p q = p ∙ sym q
one_binding m kinds.Actions v a b p q = p ∙ sym q
one_binding m kinds.Cloud v a b p q = p ∙ sym q
one_binding m kinds.Ordinary v a b p q = p ∙ sym q

-- ---- one algorithm and one digest

-- two bindings have the same algorithm and the same digest
abbrev SameHash : Binding → Binding → Type 0
SameHash b c = (b.alg ≡ c.alg) × (b.hash ≡ c.hash)

-- the algorithm of a binding; none where it is refused
abbrev alg_of : Result Binding FieldError → Option (List ℕ)
alg_of (Ok b) = b.alg
alg_of (Err e) = None

-- the digest of a binding; empty where it is refused
abbrev hash_of : Result Binding FieldError → List ℕ
hash_of (Ok b) = b.hash
hash_of (Err e) = []

-- a data hash has the same algorithm and digest over whatever bytes
data_same : (m n : List ℕ) (d : Result DataHash FieldError) (b c : Binding) → Ok b ≡ data_binding m d
    → Ok c ≡ data_binding n d → SameHash b c
data_same m n (Err e) b c p q = absurd (cc (p))
data_same m n (Ok d) b c p q = (ap alg_of p ∙ sym (ap alg_of q), ap hash_of p ∙ sym (ap hash_of q))

-- a BMFF hash has the same algorithm and digest over whatever boxes
read_same : (rs ss : List Box) (m n : ℕ) (o : Result BmffHash FieldError) (b c : Binding) → IsBindingFrom rs m o (Ok b)
    → IsBindingFrom ss n o (Ok c) → SameHash b c
read_same rs ss m n (Err e) b c p q = absurd (cc (p))
read_same rs ss m n (Ok h) b c p q = (p.alg ∙ sym q.alg, p.hash ∙ sym q.hash)

-- an item has the same algorithm and digest as a BMFF hash in two containers that both accept it
bmff_same : (k l : Container) (m n : ℕ) (v : Item) (b c : Binding) → IsBmffBinding k m v (Ok b)
    → IsBmffBinding l n v (Ok c) → SameHash b c
bmff_same jpeg l m n v b c p q = absurd (cc (p))
bmff_same (bmff rs) jpeg m n v b c p q = absurd (cc (q))
bmff_same (bmff rs) (bmff ss) m n v b c p q = read_same rs ss m n (bmff_hash_of v) b c p q

-- an item that binds two files binds both with the same algorithm and digest
pub same_hashes : (m n : Media) (kind : Kind) (v : Item) (b c : Binding) → IsBinding m kind v (Ok b)
    → IsBinding n kind v (Ok c) → SameHash b c
same_hashes m n kinds.BmffHash v b c p q = bmff_same m.container n.container (length m.bytes) (length n.bytes) v b c p q
same_hashes m n kinds.DataHash v b c p q = data_same m.bytes n.bytes (data_hash_of v) b c p q
same_hashes m n kinds.OtherHash v b c p q = data_same m.bytes n.bytes (data_hash_of v) b c p q
same_hashes m n kinds.Ingredient v b c p q = data_same m.bytes n.bytes (data_hash_of v) b c p q
same_hashes m n kinds.IngredientOther v b c p q = data_same m.bytes n.bytes (data_hash_of v) b c p q
same_hashes m n kinds.Actions v b c p q = data_same m.bytes n.bytes (data_hash_of v) b c p q
same_hashes m n kinds.Cloud v b c p q = data_same m.bytes n.bytes (data_hash_of v) b c p q
same_hashes m n kinds.Ordinary v b c p q = data_same m.bytes n.bytes (data_hash_of v) b c p q
