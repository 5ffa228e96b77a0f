-- Where a file has root boxes, no test of theirs fails.
use Rattle.std.proofs.Common.{◌≡◌, ℕ, suc, ◌+◌, ◌<◌, ◌≤◌, true, cond, List, [], ◌∷◌, ◌++◌, length, Some, None, ltb, sym, ap, ◌∙◌, arith}
use Rattle.std.proofs.lemmas.Bool.Decides.{Decides-ltb}
use Rattle.std.proofs.lemmas.List.{append_assoc}
use Rattle.std.specs.List.{flat_map, AllByRecursion}
use Rattle.c2_base.specs.declared.media.MediaError.{MediaError}
use Rattle.c2_base.specs.declared.media.MediaError.TheVariants.{TooManyBoxes}
use Rattle.c2_spec.specs.Bmff.Boxes.{Box, IsSizedBox, AreBoxForms, HasRoots, RootFault, box_bytes, box_fault, root_fault, boxes_len, most_roots}
use Rattle.c2_spec.proofs.BmffOneList.{box_once, no_bytes, first_box, other_boxes, none_after}
use Rattle.c2_spec.proofs.BmffPassing.{box_passes}

-- bytes that are root boxes, no more than the limit, have no fault where any of them begins
fault_or_boxes : (before cs : List Box) (rest : List ℕ) (count p : ℕ) (e : MediaError)
    → AllByRecursion IsSizedBox before → AreBoxForms cs → flat_map box_bytes before ++ rest ≡ flat_map box_bytes cs
    → 0 < length rest → count + length cs ≤ most_roots → root_fault (count + length before) p rest ≡ Some e → ⊥
fault_or_boxes [] [] rest count p e s f same more few bad = let none : length rest ≡ 0 = ap length same in absurd (omega (arith, none, more))
fault_or_boxes [] (c ∷ cs) rest count p e s f same more few bad =
    let below : ltb (count + 0) most_roots ≡ true = (Decides-ltb (count + 0) most_roots).1 (omega (arith, few)) in
    let passes : box_fault p rest ≡ None =
    ap (box_fault p) same
    ∙ box_passes c.form c.kind c.payload (flat_map box_bytes cs) (first_box c cs f) (none_after c cs f) p in
    let wrong = sym (ap (λ b. cond b (box_fault p rest) (Some TooManyBoxes)) below ∙ passes) ∙ bad in
    absurd (cc (wrong))
fault_or_boxes (b ∷ bs) [] rest count p e s f same more few bad =
    absurd
    (no_bytes b.form b.kind b.payload (flat_map box_bytes bs ++ rest) (sym same ∙ append_assoc (box_bytes b) (flat_map box_bytes bs) rest))
fault_or_boxes (b ∷ bs) (c ∷ cs) rest count p e s f same more few bad =
    let one =
    box_once b c (flat_map box_bytes bs ++ rest) (flat_map box_bytes cs) s.0.is_box (first_box c cs f) (λ t. absurd (let wrong = sym t ∙ s.0.sized in cc (wrong))) (none_after c cs f) (sym (append_assoc (box_bytes b) (flat_map box_bytes bs) rest) ∙ same) in
    let counted : count + 1 + length bs ≡ count + suc (length bs) = omega arith in
    fault_or_boxes bs cs rest (count + 1) p e s.1 (other_boxes c cs f) one.1 more (omega (arith, few))
    (ap (λ n. root_fault n p rest) counted ∙ bad)

-- a file that has root boxes has no fault of root boxes
pub roots_or_fault : (file : List ℕ) (roots : List Box) (e : MediaError) → HasRoots file roots → RootFault file e → ⊥
roots_or_fault file roots e h k =
    let counted : length k.before ≡ 0 + length k.before = omega arith in
    let few : length roots ≤ most_roots = h.few in
    fault_or_boxes k.before roots k.rest 0 (boxes_len k.before) e k.sized h.forms (sym k.bytes ∙ h.bytes) k.more
    (omega (arith, few)) (ap (λ n. root_fault n (boxes_len k.before) k.rest) (sym counted) ∙ k.fails)
