-- Two texts whose prefixes are compared.
use Rattle.std.proofs.Common.{◌≡◌, ℕ, suc, ◌+◌, ◌-◌, ◌≤◌, min, ◌&&◌, true, List, [], ◌∷◌, ◌++◌, length, take, drop, refl, sym, ap, ◌∙◌, arith, append_assoc, eqb}
use Rattle.std.specs.Prelude.{bytes_eq}
use Rattle.std.proofs.Math.Seq.{take-add}
use Rattle.std.proofs.lemmas.Bool.{eqb-true, ne_eqb}
use Rattle.std.proofs.lemmas.List.{length-take-le, length-drop, drop-drop}
use Rattle.c2_cover.specs.Covers.{Reading, rest_of}
use Rattle.c2_cover.specs.Unread.{Lies, unread}
use Rattle.c2_cover.specs.declared.same.Pending.{Pending}
use Rattle.c2_lemmas.proofs.Parts.{eq_append}

-- the prefix of what is pending, and the rest
pub unread_split : (from to n : ℕ) (buf : List ℕ) (r : Reading) (file : List ℕ) → from ≤ to → to ≤ length buf
    → n ≤ to - from
    → unread (record { from = from; to = to }) buf r file ≡ take n (drop from buf) ++ unread (record { from = from + n; to = to }) buf r file
unread_split from to n buf r file o i l =
    let m : to - from ≡ n + (to - (from + n)) = omega arith in
    ap (λ k. take k (drop from buf) ++ rest_of r file) m
    ∙ ap (λ (xs : List ℕ). xs ++ rest_of r file)
    (take-add n (to - (from + n)) (drop from buf) ∙ ap (λ (ys : List ℕ). take n (drop from buf) ++ take (to - (from + n)) ys) (drop-drop n from buf))
    ∙ append_assoc (take n (drop from buf)) (take (to - (from + n)) (drop (from + n) buf)) (rest_of r file)

-- as many bytes as are asked for
pub prefix_len : (from to n : ℕ) (buf : List ℕ) → to ≤ length buf → from ≤ to → n ≤ to - from
    → length (take n (drop from buf)) ≡ n
prefix_len from to n buf i o l = length-take-le n (drop from buf) (omega (arith, length-drop from buf))

-- where one text is at its end, both are equal exactly where the other is
pub ended : (xs ys us vs : List ℕ) → min (length xs) (length ys) ≡ 0 → (length xs ≡ 0 → us ≡ [])
    → (length ys ≡ 0 → vs ≡ []) → eqb (length xs) (length ys) ≡ bytes_eq (xs ++ us) (ys ++ vs)
ended [] [] us vs m f g =
    sym (ap (λ (zs : List ℕ). bytes_eq zs vs) (f refl) ∙ ap (λ (zs : List ℕ). bytes_eq [] zs) (g refl))
ended [] (y ∷ ys) us vs m f g =
    ne_eqb 0 (suc (length ys)) (λ e. omega (arith, e)) ∙ sym (ap (λ (zs : List ℕ). bytes_eq zs (y ∷ ys ++ vs)) (f refl))
ended (x ∷ xs) [] us vs m f g =
    ne_eqb (suc (length xs)) 0 (λ e. omega (arith, e)) ∙ sym (ap (λ (zs : List ℕ). bytes_eq (x ∷ xs ++ us) zs) (g refl))
ended (x ∷ xs) (y ∷ ys) us vs m f g =
    absurd (let e : min (suc (length xs)) (suc (length ys)) ≡ 0 = m in omega (arith, e))

-- as many bytes of both are compared, and then the rest
pub compared : (from to from' to' n : ℕ) (buf buf' : List ℕ) (r r' : Reading) (file file' : List ℕ)
    → Lies (record { from = from; to = to }) (length buf) → Lies (record { from = from'; to = to' }) (length buf')
    → n ≤ to - from → n ≤ to' - from' →
    bytes_eq (unread (record { from = from; to = to }) buf r file)
    (unread (record { from = from'; to = to' }) buf' r' file')
    ≡ (bytes_eq (take n (drop from buf)) (take n (drop from' buf')) && bytes_eq (unread (record { from = from + n; to = to }) buf r file) (unread (record { from = from' + n; to = to' }) buf' r' file'))
compared from to from' to' n buf buf' r r' file file' p q l m =
    let a : unread (record { from = from; to = to }) buf r file ≡ take n (drop from buf) ++ unread (record { from = from + n; to = to }) buf r file =
    unread_split from to n buf r file p.ordered p.inside l in
    let b : unread (record { from = from'; to = to' }) buf' r' file' ≡ take n (drop from' buf') ++ unread (record { from = from' + n; to = to' }) buf' r' file' =
    unread_split from' to' n buf' r' file' q.ordered q.inside m in
    ap (λ (xs : List ℕ). bytes_eq xs (unread (record { from = from'; to = to' }) buf' r' file')) a
    ∙ ap
    (λ (ys : List ℕ). bytes_eq (take n (drop from buf) ++ unread (record { from = from + n; to = to }) buf r file) ys)
    b
    ∙ eq_append (take n (drop from buf)) (take n (drop from' buf')) _ _
    (prefix_len from to n buf p.inside p.ordered l ∙ sym (prefix_len from' to' n buf' q.inside q.ordered m))

-- the slices that are compared
pub slices : (from from' n : ℕ) (buf buf' : List ℕ)
    → bytes_eq (take (from + n - from) (drop from buf)) (take (from' + n - from') (drop from' buf')) ≡ bytes_eq (take n (drop from buf)) (take n (drop from' buf'))
slices from from' n buf buf' =
    let a : from + n - from ≡ n = omega arith in
    let b : from' + n - from' ≡ n = omega arith in
    ap (λ k. bytes_eq (take k (drop from buf)) (take (from' + n - from') (drop from' buf'))) a
    ∙ ap (λ k. bytes_eq (take n (drop from buf)) (take k (drop from' buf'))) b

-- what one turn finds: both texts as far as they are read, and their prefixes
abbrev pub pending : ℕ → ℕ → Pending
pending from to = record { from = from; to = to }

-- where the shorter pending piece is empty and such a text has ended, the lengths agree just when what is unread does
pub ended_at : (p q : Pending) (buf buf' : List ℕ) (r r' : Reading) (file file' : List ℕ) → Lies p (length buf)
    → Lies q (length buf') → min (p.to - p.from) (q.to - q.from) ≡ 0 → (p.from ≡ p.to → rest_of r file ≡ [])
    → (q.from ≡ q.to → rest_of r' file' ≡ [])
    → eqb (p.to - p.from) (q.to - q.from) ≡ bytes_eq (unread p buf r file) (unread q buf' r' file')
ended_at p q buf buf' r r' file file' l m e f g =
    let xs : List ℕ = take (p.to - p.from) (drop p.from buf) in
    let ys : List ℕ = take (q.to - q.from) (drop q.from buf') in
    let a : length xs ≡ p.to - p.from = prefix_len p.from p.to (p.to - p.from) buf l.inside l.ordered (omega arith) in
    let b : length ys ≡ q.to - q.from = prefix_len q.from q.to (q.to - q.from) buf' m.inside m.ordered (omega arith) in
    let o : p.from ≤ p.to = l.ordered in
    let k : q.from ≤ q.to = m.ordered in
    ap (λ n. eqb n (q.to - q.from)) (sym a) ∙ ap (eqb (length xs)) (sym b)
    ∙ ended xs ys (rest_of r file) (rest_of r' file') (ap (λ n. min n (length ys)) a ∙ ap (min (p.to - p.from)) b ∙ e)
    (λ z. f (omega (arith, a, z, o))) (λ z. g (omega (arith, b, z, k)))

-- where the less of two numbers is none and they are equal, each is none
pub both_none : (n m : ℕ) → min n m ≡ 0 → eqb n m ≡ true → (n ≡ 0) × (m ≡ 0)
both_none n m e f = let g : n ≡ m = eqb-true n m f in (omega (arith, e, g), omega (arith, e, g))
