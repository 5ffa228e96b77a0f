-- What a window shows of its source.
use Rattle.std.proofs.Common.{◌≡◌, ℕ, ◌+◌, ◌-◌, ◌<◌, ◌≤◌, List, get_or, take, drop, sym, ap, ◌∙◌, subst, arith}
use Rattle.std.proofs.lemmas.List.{drop-take, drop-drop, take-take, get_or-take, get_or-drop}
use Rattle.std.specs.declared.option.Option.{Option}

-- a part of a prefix is a part of the whole
part_of_front : (items : List ℕ) (used d count : ℕ) → d + count ≤ used
    → take count (drop d (take used items)) ≡ take count (drop d items)
part_of_front items used d count le =
    let split : used ≡ d + (used - d) = omega arith in
    ap (λ n. take count (drop d (take n items))) split
    ∙ ap (λ (x : List ℕ). take count x) (drop-take d (used - d) items)
    ∙ take-take count (used - d) (drop d items) (omega arith)

-- a part of the window is that part of the file
pub shown : (file items : List ℕ) (from used pos count : ℕ) → take used items ≡ take used (drop from file) → from ≤ pos
    → pos + count ≤ from + used → take count (drop (pos - from) items) ≡ take count (drop pos file)
shown file items from used pos count same low high =
    let there : from + (pos - from) ≡ pos = omega arith in
    let inside : pos - from + count ≤ used = omega arith in
    sym (part_of_front items used (pos - from) count inside)
    ∙ ap (λ (x : List ℕ). take count (drop (pos - from) x)) same
    ∙ part_of_front (drop from file) used (pos - from) count inside
    ∙ ap (λ (x : List ℕ). take count x) (drop-drop (pos - from) from file ∙ ap (λ n. drop n file) there)

-- and a byte of it that byte
pub shown_byte : (file items : List ℕ) (from used pos : ℕ) → take used items ≡ take used (drop from file) → from ≤ pos
    → pos + 1 ≤ from + used → get_or items (pos - from) 0 ≡ get_or file pos 0
shown_byte file items from used pos same low high =
    let there : from + (pos - from) ≡ pos = omega arith in
    let inside : pos - from < used = omega arith in
    sym (get_or-take used items (pos - from) 0 inside) ∙ ap (λ (x : List ℕ). get_or x (pos - from) 0) same
    ∙ get_or-take used (drop from file) (pos - from) 0 inside
    ∙ get_or-drop from file (pos - from) 0 ∙ ap (λ n. get_or file n 0) there

-- a source that stayed is still shown
pub shows_same : {W : Type 0} (Shown : ℕ → Option (List ℕ) → W → Type 0) (len len' : ℕ) (known known' : Option (List ℕ)) (w : W)
    → len ≡ len' → known ≡ known' → Shown len known w → Shown len' known' w
shows_same Shown len len' known known' w same_len same_told shows =
    subst (λ n. Shown n known' w) same_len (subst (λ t. Shown len t w) same_told shows)
