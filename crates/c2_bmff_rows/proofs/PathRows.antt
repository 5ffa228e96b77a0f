-- Boxes on a path, and rows on it.
use Rattle.std.proofs.Common.{◌≡◌, ◌⊎◌, inl, inr, ℕ, zero, suc, ◌+◌, ◌-◌, ◌^◌, ◌<◌, Bool, true, false, cond, ◌||◌, List, [], ◌∷◌, ◌++◌, length, get_or, take, drop, map, Option, Some, None, refl, sym, ap, ◌∙◌, subst, arith}
use Rattle.std.specs.Prelude.{Contains, filter, bytes_eq}
use Rattle.std.specs.List.{flat_map, AllByRecursion, list_any}
use Rattle.std.proofs.lemmas.List.{drop_all, drop_more}
use Rattle.c2_spec.specs.Bmff.Paths.{PathStep, PlacedBox, OnPath, last, below, is_entered, matched, nth_of}
use Rattle.c2_bmff_rows.specs.Children.{kids}
use Rattle.c2_bmff_rows.specs.Rows.{row_of, Stands}
use Rattle.c2_bmff_rows.specs.declared.row.RootBox.{RootBox}
use Rattle.c2_lemmas.proofs.Bytes.{AreBytes}
use Rattle.c2_bmff_rows.proofs.StandLemmas.{KidsAre, kids_are, some_children}
use Rattle.c2_bmff_rows.specs.Paths.{HasBox, go_on, on_rows, row_matched}

-- ---- steps

-- what all rows have, those that pass have
pub all_filter : {A : Type 0} (P : A → Type 0) (p : A → Bool) (xs : List A) → AllByRecursion P xs
    → AllByRecursion P (filter p xs)
all_filter P p [] h = tt
all_filter P p (x ∷ xs) h = go (p x) (all_filter P p xs h.1)
  where
    go : (b : Bool) → AllByRecursion P (filter p xs) → AllByRecursion P (cond b (x ∷ filter p xs) (filter p xs))
    go true rest = (h.0, rest)
    go false rest = rest

-- what all rows have, the first after some has
pub all_one : {A : Type 0} (P : A → Type 0) (n : ℕ) (xs : List A) → AllByRecursion P xs
    → AllByRecursion P (take 1 (drop n xs))
all_one P zero [] h = tt
all_one P zero (x ∷ xs) h = (h.0, tt)
all_one {A} P (suc n) [] h =
    subst (λ (ys : List A). AllByRecursion P (take 1 ys)) (sym (drop_all (suc n) [] (omega arith))) tt
all_one P (suc n) (x ∷ xs) h = all_one P n xs h.1

-- the first step
pub path_start : (file : List ℕ) (siblings : List RootBox) (step : PathStep) (steps : List PathStep)
    → on_rows file siblings (step ∷ steps) ≡ go_on file step steps (row_matched step siblings)
path_start file siblings step [] = refl
path_start file siblings step (next ∷ steps) = refl

-- a step that enters nothing
pub path_stops : (file : List ℕ) (step : PathStep) (rest : List PathStep) (found : List RootBox) → 0 < length rest
    → is_entered step.kind ≡ false → go_on file step rest found ≡ []
path_stops file step [] found some other = absurd (omega arith)
path_stops file step (next ∷ steps) found some other =
    ap (λ t. cond t (flat_map (λ (p : RootBox). on_rows file (kids file p) (next ∷ steps)) found) []) other

-- the steps from one on
pub steps_from : (path : List PathStep) (i : ℕ) (step : PathStep) → i < length path → step ≡ get_or path i step
    → drop i path ≡ step ∷ drop (i + 1) path
steps_from path i step inside is = drop_more path i step inside ∙ ap (λ (s : PathStep). s ∷ drop (i + 1) path) (sym is)

-- ---- members

-- a member of a list
abbrev pub Member : {A : Type 0} → A → List A → Type 0
Member x [] = ⊥
Member x (y ∷ ys) = (x ≡ y) ⊎ Member x ys

-- what a list contains at some index is a member of it
pub to_member : {A : Type 0} (xs : List A) (x : A) → Contains xs x → Member x xs
to_member {A} xs x c = go xs c.0 c.1 c.2
  where
    go : (xs : List A) (k : ℕ) → k < length xs → get_or xs k x ≡ x → Member x xs
    go [] k inside e = absurd (omega arith)
    go (y ∷ ys) zero inside e = inl (sym e)
    go (y ∷ ys) (suc k) inside e = inr (go ys k (omega arith) e)

-- a member of a list stands at some index of it
pub from_member : {A : Type 0} (xs : List A) (x : A) → Member x xs → Contains xs x
from_member [] x m = absurd m
from_member (y ∷ ys) x (inl e) = (0, omega arith, sym e)
from_member (y ∷ ys) x (inr m) = let c : Contains ys x = from_member ys x m in (suc c.0, omega (arith, c.1), c.2)

-- the value of a member is a member of the values
member_map : {A B : Type 0} (f : A → B) (xs : List A) (x : A) → Member x xs → Member (f x) (map f xs)
member_map f [] x m = m
member_map f (y ∷ ys) x (inl e) = inl (ap f e)
member_map f (y ∷ ys) x (inr m) = inr (member_map f ys x m)

-- a member of the values is the value of some member
map_member : {A B : Type 0} (f : A → B) (xs : List A) (y : B) → Member y (map f xs) → (x : A) × Member x xs × (y ≡ f x)
map_member f [] y m = absurd m
map_member f (x ∷ xs) y (inl e) = (x, inl refl, e)
map_member f (x ∷ xs) y (inr m) = let r = map_member f xs y m in (r.0, inr r.1, r.2)

-- a member of the first of two lists is one of both together
in_front : {A : Type 0} (xs ys : List A) (x : A) → Member x xs → Member x (xs ++ ys)
in_front [] ys x m = absurd m
in_front (z ∷ zs) ys x (inl e) = inl e
in_front (z ∷ zs) ys x (inr m) = inr (in_front zs ys x m)

-- a member of the second of two lists is one of both together
in_back : {A : Type 0} (xs ys : List A) (x : A) → Member x ys → Member x (xs ++ ys)
in_back [] ys x m = m
in_back (z ∷ zs) ys x m = inr (in_back zs ys x m)

-- a member of two lists together is one of the first or of the second
in_either : {A : Type 0} (xs ys : List A) (x : A) → Member x (xs ++ ys) → Member x xs ⊎ Member x ys
in_either [] ys x m = inr m
in_either (z ∷ zs) ys x (inl e) = inl (inl e)
in_either {A} (z ∷ zs) ys x (inr m) = go (in_either zs ys x m)
  where
    go : Member x zs ⊎ Member x ys → Member x (z ∷ zs) ⊎ Member x ys
    go (inl a) = inl (inr a)
    go (inr b) = inr b

-- a member of what one member of a list gives is a member of what all of them give
member_flat : {A B : Type 0} (f : A → List B) (xs : List A) (x : A) (y : B) → Member x xs → Member y (f x)
    → Member y (flat_map f xs)
member_flat f [] x y m n = absurd m
member_flat {A} f (z ∷ zs) x y (inl e) n = in_front (f z) (flat_map f zs) y (subst (λ (a : A). Member y (f a)) e n)
member_flat f (z ∷ zs) x y (inr m) n = in_back (f z) (flat_map f zs) y (member_flat f zs x y m n)

-- a member of what all members of a list give comes from one of them
flat_member : {A B : Type 0} (f : A → List B) (xs : List A) (y : B) → Member y (flat_map f xs)
    → (x : A) × Member x xs × Member y (f x)
flat_member f [] y m = absurd m
flat_member {A} f (z ∷ zs) y m = go (in_either (f z) (flat_map f zs) y m) (λ n. flat_member f zs y n)
  where
    go : Member y (f z) ⊎ Member y (flat_map f zs) → (Member y (flat_map f zs) → (x : A) × Member x zs × Member y (f x))
        → (x : A) × Member x (z ∷ zs) × Member y (f x)
    go (inl a) rest = (z, inl refl, a)
    go (inr b) rest = let r = rest b in (r.0, inr r.1, r.2)

-- what holds of all members of a list holds of each
all_member : {A : Type 0} (P : A → Type 0) (xs : List A) (x : A) → AllByRecursion P xs → Member x xs → P x
all_member P [] x h m = absurd m
all_member P (y ∷ ys) x h (inl e) = subst P (sym e) h.0
all_member P (y ∷ ys) x h (inr m) = all_member P ys x h.1 m

-- where some member passes a test, there is a member that does
pub any_member : {A : Type 0} (p : A → Bool) (xs : List A) → list_any p xs ≡ true → (x : A) × Member x xs × (p x ≡ true)
any_member p [] e = absurd (cc (e))
any_member {A} p (x ∷ xs) e = go (p x) refl (λ h. any_member p xs h)
  where
    go : (b : Bool) → p x ≡ b → (list_any p xs ≡ true → (y : A) × Member y xs × (p y ≡ true))
        → (y : A) × Member y (x ∷ xs) × (p y ≡ true)
    go true h rest = (x, inl refl, h)
    go false h rest = let r = rest (sym (ap (λ (t : Bool). t || list_any p xs) h) ∙ e) in (r.0, inr r.1, r.2)

-- where a member passes a test, some member does
pub member_any : {A : Type 0} (p : A → Bool) (xs : List A) (x : A) → Member x xs → p x ≡ true → list_any p xs ≡ true
member_any p [] x m h = absurd m
member_any p (y ∷ ys) x (inl e) h = ap (λ (t : Bool). t || list_any p ys) (ap p (sym e) ∙ h)
member_any p (y ∷ ys) x (inr m) h = ap (λ (t : Bool). p y || t) (member_any p ys x m h) ∙ go (p y)
  where
    go : (t : Bool) → (t || true) ≡ true
    go true = refl
    go false = refl

-- ---- a step

-- the rows that pass a test are those of the boxes whose rows pass it
rows_filter : (p : RootBox → Bool) (ps : List PlacedBox)
    → filter p (map row_of ps) ≡ map row_of (filter (λ (b : PlacedBox). p (row_of b)) ps)
rows_filter p [] = refl
rows_filter p (x ∷ xs) = go (p (row_of x)) (rows_filter p xs)
  where
    go : (t : Bool) → filter p (map row_of xs) ≡ map row_of (filter (λ (b : PlacedBox). p (row_of b)) xs)
        → cond t (row_of x ∷ filter p (map row_of xs)) (filter p (map row_of xs)) ≡ map row_of (cond t (x ∷ filter (λ (b : PlacedBox). p (row_of b)) xs) (filter (λ (b : PlacedBox). p (row_of b)) xs))
    go true e = ap (λ (rs : List RootBox). row_of x ∷ rs) e
    go false e = e

-- the row at an index is that of the box at this index
rows_one : (n : ℕ) (ps : List PlacedBox) → take 1 (drop n (map row_of ps)) ≡ map row_of (take 1 (drop n ps))
rows_one zero [] = refl
rows_one zero (x ∷ xs) = refl
rows_one (suc n) [] =
    ap (take 1) (drop_all (suc n) [] (omega arith))
    ∙ sym (ap (λ (ps : List PlacedBox). map row_of (take 1 ps)) (drop_all (suc n) [] (omega arith)))
rows_one (suc n) (x ∷ xs) = rows_one n xs

-- the rows that a step's number leaves are those of the boxes that it leaves
rows_nth : (nth : Option ℕ) (ps : List PlacedBox) → nth_of nth (map row_of ps) ≡ map row_of (nth_of nth ps)
rows_nth None ps = refl
rows_nth (Some k) ps = rows_one (k - 1) ps

-- a step matches the rows of the boxes that it matches
step_rows : (step : PathStep) (ps : List PlacedBox) → row_matched step (map row_of ps) ≡ map row_of (matched step ps)
step_rows step ps =
    ap (nth_of step.nth) (rows_filter (λ (r : RootBox). bytes_eq r.kind step.kind) ps)
    ∙ rows_nth step.nth (filter (λ (b : PlacedBox). bytes_eq b.box.kind step.kind) ps)

-- the boxes that a step matches stand where all do
step_stands : (P : PlacedBox → Type 0) (step : PathStep) (ps : List PlacedBox) → AllByRecursion P ps
    → AllByRecursion P (matched step ps)
step_stands P step ps h = go step.nth
  where
    passing : AllByRecursion P (filter (λ (b : PlacedBox). bytes_eq b.box.kind step.kind) ps)
    passing = all_filter P (λ (b : PlacedBox). bytes_eq b.box.kind step.kind) ps h

    go : (nth : Option ℕ) → AllByRecursion P (nth_of nth (filter (λ (b : PlacedBox). bytes_eq b.box.kind step.kind) ps))
    go None = passing
    go (Some k) = all_one P (k - 1) (filter (λ (b : PlacedBox). bytes_eq b.box.kind step.kind) ps) passing

-- ---- a path

-- a box on a path, and its row
pub record OnRows (file : List ℕ) (rows : List RootBox) (b : PlacedBox) : Type 0 where
  pub row : Member (row_of b) rows
  pub stands : Stands file b

-- each box on a path below boxes that stand in the file has its row among the rows on the path
pub path_rows : (file : List ℕ) → AreBytes file → length file < 2 ^ 62
    → (ps : List PlacedBox) (steps : List PathStep) (b : PlacedBox) → OnPath ps steps b
    → AllByRecursion (Stands file) ps → OnRows file (on_rows file (map row_of ps) steps) b
path_rows file bytes fits ps steps b (last _ step _ c) h =
    let m : Member b (matched step ps) = to_member (matched step ps) b c in
    record
    { row = subst (Member (row_of b)) (sym (step_rows step ps)) (member_map row_of (matched step ps) b m); stands = all_member (Stands file) (matched step ps) b (step_stands (Stands file) step ps h) m }
path_rows file bytes fits ps steps b (below _ step next more _ parent children enters c has on) h =
    let m : Member parent (matched step ps) = to_member (matched step ps) parent c in
    let s : Stands file parent =
    all_member (Stands file) (matched step ps) parent (step_stands (Stands file) step ps h) m in
    let k : KidsAre file parent children = kids_are file parent children bytes fits s has in
    let rest : OnRows file (on_rows file (map row_of children) (next ∷ more)) b =
    path_rows file bytes fits children (next ∷ more) b on k.stand in
    let each : RootBox → List RootBox = λ (p : RootBox). on_rows file (kids file p) (next ∷ more) in
    let rows : List RootBox = row_matched step (map row_of ps) in
    record {
      row =
          subst (Member (row_of b)) (sym (ap (λ t. cond t (flat_map each rows) []) enters))
          (member_flat each rows (row_of parent) (row_of b)
          (subst (Member (row_of parent)) (sym (step_rows step ps)) (member_map row_of (matched step ps) parent m))
          (subst (λ (rs : List RootBox). Member (row_of b) (on_rows file rs (next ∷ more))) (sym k.rows) rest.row));
      stands = rest.stands;
    }

-- each row on a path below boxes that stand in the file is that of a box on the path
pub rows_path : (file : List ℕ) → AreBytes file → length file < 2 ^ 62
    → (steps : List PathStep) (ps : List PlacedBox) (r : RootBox) → AllByRecursion (Stands file) ps
    → Member r (on_rows file (map row_of ps) steps) → HasBox file ps steps r
rows_path file bytes fits [] ps r h m = absurd m
rows_path file bytes fits (step ∷ []) ps r h m =
    let f = map_member row_of (matched step ps) r (subst (Member r) (step_rows step ps) m) in
    record
    { box = f.0; on = last ps step f.0 (from_member (matched step ps) f.0 f.1); is = f.2; stands = all_member (Stands file) (matched step ps) f.0 (step_stands (Stands file) step ps h) f.1 }
rows_path file bytes fits (step ∷ next ∷ more) ps r h m = by (is_entered step.kind) refl m (λ children all n. rows_path file bytes fits (next ∷ more) children r all n)
  where
    each : RootBox → List RootBox
    each p = on_rows file (kids file p) (next ∷ more)

    by : (t : Bool) → is_entered step.kind ≡ t
        → Member r (cond t (flat_map each (row_matched step (map row_of ps))) [])
        → ((children : List PlacedBox) → AllByRecursion (Stands file) children
        → Member r (on_rows file (map row_of children) (next ∷ more)) → HasBox file children (next ∷ more) r)
        → HasBox file ps (step ∷ next ∷ more) r
    by false e n rec = absurd n
    by true e n rec =
        let f =
        flat_member (λ (p : RootBox). on_rows file (kids file p) (next ∷ more))
        (row_matched step (map row_of ps)) r n in
        let p = map_member row_of (matched step ps) f.0 (subst (Member f.0) (step_rows step ps) f.1) in
        let s : Stands file p.0 =
        all_member (Stands file) (matched step ps) p.0 (step_stands (Stands file) step ps h) p.1 in
        let c = some_children file p.0 bytes fits s in
        let k : KidsAre file p.0 c.0 = kids_are file p.0 c.0 bytes fits s c.1 in
        let b : HasBox file c.0 (next ∷ more) r =
        rec c.0 k.stand
        (subst (λ (rs : List RootBox). Member r (on_rows file rs (next ∷ more))) (ap (kids file) p.2 ∙ k.rows) f.2) in
        record
        { box = b.box; on = below ps step next more b.box p.0 c.0 e (from_member (matched step ps) p.0 p.1) c.1 b.on; is = b.is; stands = b.stands }
