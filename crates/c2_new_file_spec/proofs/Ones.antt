-- The parent of a new manifest is one, and so is what goes into a new store over an older one; and what is left of a JPEG file
-- without its store has none.
use Rattle.std.proofs.Common.{◌≡◌, ℕ, ◌+◌, false, List, [], ◌∷◌, ◌++◌, length, take, drop, find, sym, ap, ◌∙◌, subst, arith, append_assoc, length-append}
use Rattle.std.proofs.lemmas.List.{take_at, drop_at}
use Rattle.std.proofs.lemmas.List.Concat.{flat_map-append}
use Rattle.std.proofs.lemmas.Option.{same_Some}
use Rattle.std.specs.List.{flat_map, AllByRecursion}
use Rattle.c2_spec.specs.Jpeg.Packets.{is_store_start}
use Rattle.c2_spec.specs.Jpeg.Segments.{Segment, IsSegment, segment_bytes, place_after, start_of_image}
use Rattle.c2_spec.specs.Jumbf.Boxes.{node, any_label}
use Rattle.c2_spec.specs.Jumbf.Tree.{Tree, Trees}
use Rattle.c2_definition.specs.declared.types.Definition.{Definition}
use Rattle.c2_new_file_spec.specs.FreshBoxes.{contents_of}
use Rattle.c2_new_file_spec.specs.Manifests.{is_signature_box, supers_in, supers_of}
use Rattle.c2_new_file_spec.specs.Store.{NamedManifest, NewIngredient, parent_ingredient}
use Rattle.c2_new_file_spec.specs.Carrying.{BaseHasNoStore, ContentIsOne, ParentIsOne}
use Rattle.c2_new_file_spec.specs.Parents.{IsParentOf}
use Rattle.c2_lemmas.proofs.Each.{each_append, each_back, each_front}

-- the parent is one
pub parent_one : ParentIsOne
parent_one ms p q a b =
    let active : a.active ≡ b.active = same_Some a.active b.active (sym a.is_active ∙ b.is_active) in
    let label : p.label ≡ q.label =
    same_Some p.label q.label (sym a.label ∙ ap (λ (x : Tree). any_label (node x)) active ∙ b.label) in
    let contents : p.contents ≡ q.contents = sym a.contents ∙ ap contents_of active ∙ b.contents in
    let box : a.signature ≡ b.signature =
    same_Some a.signature b.signature
    (sym a.is_signature ∙ ap (λ (x : Tree). find is_signature_box (supers_of x)) active ∙ b.is_signature) in
    let signed : p.signed ≡ q.signed = sym a.signed ∙ ap contents_of box ∙ b.signed in
    ap (λ (l : List ℕ). record { label = l; contents = p.contents; signed = p.signed }) label
    ∙ ap (λ (c : List ℕ). record { label = q.label; contents = c; signed = p.signed }) contents
    ∙ ap (λ (s : List ℕ). record { label = q.label; contents = q.contents; signed = s }) signed

-- what goes into a new store is one
pub content_one : ContentIsOne
content_one d old b c h k =
    let carried : b.carried ≡ c.carried = h.carried ∙ sym k.carried in
    let parent : h.parent ≡ k.parent =
    parent_one (supers_in c.carried) h.parent k.parent
    (subst (λ (x : Trees). IsParentOf h.parent (supers_in x)) carried h.is_parent) k.is_parent in
    ap (λ (x : Definition). record { definition = x; carried = b.carried; ingredients = b.ingredients })
    (h.definition ∙ sym k.definition)
    ∙ ap (λ (x : Trees). record { definition = c.definition; carried = x; ingredients = b.ingredients }) carried
    ∙ ap (λ (x : List NewIngredient). record { definition = c.definition; carried = c.carried; ingredients = x })
    (h.ingredients ∙ ap (λ (p : NamedManifest). parent_ingredient p ∷ []) parent ∙ sym k.ingredients)

-- what is left of a file without its store
pub base_is : BaseHasNoStore
base_is media start len store h =
    let o = h.holds in
    let run : List Segment = o.first ∷ o.others in
    let f : List ℕ = start_of_image ++ flat_map segment_bytes o.before in
    let m : List ℕ = flat_map segment_bytes run in
    let b : List ℕ = flat_map segment_bytes o.after ++ h.rest in
    let all : flat_map segment_bytes h.segments ≡ flat_map segment_bytes o.before ++ (m ++ flat_map segment_bytes o.after) =
    ap (flat_map segment_bytes) o.split ∙ flat_map-append segment_bytes o.before (run ++ o.after) ∙ ap (λ (x : List ℕ). flat_map segment_bytes o.before ++ x) (flat_map-append segment_bytes run o.after) in
    let whole : media ≡ f ++ (m ++ b) =
    h.begins.bytes ∙ ap (λ (x : List ℕ). start_of_image ++ x ++ h.rest) all
    ∙ ap (λ (x : List ℕ). x ++ h.rest)
    (sym (append_assoc start_of_image (flat_map segment_bytes o.before) (m ++ flat_map segment_bytes o.after)))
    ∙ append_assoc f (m ++ flat_map segment_bytes o.after) h.rest ∙ ap (λ (x : List ℕ). f ++ x) (append_assoc m (flat_map segment_bytes o.after) h.rest) in
    let n : length f ≡ start = place_is o.before ∙ sym o.from in
    let nm : length (f ++ m) ≡ start + len =
    length-append f m ∙ ap (λ k. k + length m) n ∙ ap (λ k. start + k) (sym o.for) in
    let front : take start media ≡ f = ap (take start) whole ∙ take_at f (m ++ b) start n in
    let back : drop (start + len) media ≡ b =
    ap (drop (start + len)) (whole ∙ sym (append_assoc f m b)) ∙ drop_at (f ++ m) b (start + len) nm in
    let left : take start media ++ drop (start + len) media ≡ f ++ b =
    ap (λ (x : List ℕ). x ++ drop (start + len) media) front ∙ ap (λ (x : List ℕ). f ++ x) back in
    let legal : AllByRecursion IsSegment (o.before ++ (run ++ o.after)) =
    subst (AllByRecursion IsSegment) o.split h.begins.each in
    record {
      segments = o.before ++ o.after;
      is_of = record {
        fits =
            omega
            (arith, h.fits, ap length whole, ap length left, length-append f (m ++ b), length-append m b, length-append f b);
        rest = h.rest;
        begins = record {
          bytes = left ∙ sym (append_assoc f (flat_map segment_bytes o.after) h.rest)
              ∙ ap (λ (x : List ℕ). x ++ h.rest) (append_assoc start_of_image (flat_map segment_bytes o.before) (flat_map segment_bytes o.after) ∙ ap (λ (x : List ℕ). start_of_image ++ x) (sym (flat_map-append segment_bytes o.before o.after)));
          each =
              each_append IsSegment o.before o.after (each_front IsSegment o.before (run ++ o.after) legal)
              (each_back IsSegment run o.after (each_back IsSegment o.before (run ++ o.after) legal));
        };
        ends = h.ends;
      };
      none = each_append (λ s. is_store_start s ≡ false) o.before o.after o.none_before o.none_after;
    }
  where
    place_is : (ss : List Segment) → length (start_of_image ++ flat_map segment_bytes ss) ≡ place_after ss
    place_is ss = omega arith
