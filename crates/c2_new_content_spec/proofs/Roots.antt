-- A chain less what is redacted, with a new manifest behind it whose ingredients name roots of the chain and whose claim redacts that.
use Rattle.std.proofs.Common.{◌≡◌, ℕ, zero, suc, ◌+◌, ◌-◌, ◌<◌, Bool, true, false, ◌&&◌, ◌||◌, List, [], ◌∷◌, ◌++◌, length, Some, slice_get, refl, sym, ap, ◌∙◌, arith}
use Rattle.std.specs.Prelude.{nat_eq, filter_map}
use Rattle.std.specs.List.{AllByRecursion, list_any}
use Rattle.std.proofs.lemmas.Bool.{and_left, and_right, eq-eqb, ne_eqb, or_from, or_left}
use Rattle.std.proofs.lemmas.Option.{same_Some}
use Rattle.c2_rules.specs.Chains.{any_below, child_of, children, is_active, is_reached, is_redacted, label_in, reaches, reaches_within, redacts}
use Rattle.c2_rules.specs.Readings.{Reading, redactions_in}
use Rattle.c2_rules.proofs.ReachLemmas.{steps_same}
use Rattle.c2_chain_spec.specs.Older.{thinned}
use Rattle.c2_chain_spec.specs.Rooted.{is_reached_from, redacted_by}
use Rattle.c2_new_file_spec.specs.Less.{AreLess}
use Rattle.c2_new_file_spec.specs.Redacting.{takes_out}
use Rattle.c2_new_file_spec.proofs.Places.{less_at, less_len}
use Rattle.c2_new_content_spec.proofs.Less.{Quiet, both_reach}
use Rattle.c2_new_content_spec.proofs.More.{any_same, children_last, get_front, get_last, len_more, reach_earlier}

-- ---- the new manifest

-- the ingredients of the new manifest name these roots, one by one
abbrev pub HasRoots : List Reading → Reading → List ℕ → Type 0
HasRoots ss x roots = filter_map (child_of ss (length ss)) x.boxes ≡ roots

-- what the new store is made of
pub record IsOver (redacts : List (List ℕ)) (rs ss : List Reading) (x : Reading) (roots : List ℕ) : Type 0 where
  pub quiet : Quiet redacts rs ss
  pub names : HasRoots ss x roots
  pub within : AllByRecursion (λ c. c < length rs) roots

-- the roots are the children of the new manifest
new_children : (redacts : List (List ℕ)) (rs ss : List Reading) (x : Reading) (roots : List ℕ)
    → IsOver redacts rs ss x roots → children (ss ++ x ∷ []) (length rs) ≡ roots
new_children redacts rs ss x roots o =
    ap (children (ss ++ x ∷ [])) (sym (less_len redacts rs ss o.quiet.are_less)) ∙ children_last ss x ∙ o.names

-- the new manifest reaches what is reached from the roots
pub new_reaches : (redacts : List (List ℕ)) (rs ss : List Reading) (x : Reading) (roots : List ℕ) (m : ℕ)
    → IsOver redacts rs ss x roots → reaches (ss ++ x ∷ []) (length rs) m ≡ is_reached_from rs roots m
new_reaches redacts rs ss x roots m o =
    let fuel : length rs + 1 ≡ suc (length rs) = omega arith in
    ap (λ k. reaches_within (ss ++ x ∷ []) k (length rs) m) fuel
    ∙ ap (list_any (λ c. nat_eq c m || reaches_within (ss ++ x ∷ []) (length rs) c m))
    (new_children redacts rs ss x roots o)
    ∙ any_same (λ c. nat_eq c m || reaches_within (ss ++ x ∷ []) (length rs) c m) (λ c. nat_eq c m || reaches rs c m)
    (λ c. c < length rs) roots
    (λ c lt. ap (λ b. nat_eq c m || b) (both_reach redacts rs ss x (length rs) c m o.quiet lt ∙ steps_same rs (length rs) (c + 1) c m lt (omega arith)))
    o.within

-- an older manifest is reached exactly where it was from the roots
pub old_reached : (redacts : List (List ℕ)) (rs ss : List Reading) (x : Reading) (roots : List ℕ) (m : ℕ)
    → IsOver redacts rs ss x roots → m < length rs → is_reached (ss ++ x ∷ []) m ≡ is_reached_from rs roots m
old_reached redacts rs ss x roots m o lt =
    let len : length (ss ++ x ∷ []) ≡ suc (length rs) =
    len_more ss x ∙ ap suc (less_len redacts rs ss o.quiet.are_less) in
    let not_last : is_active (ss ++ x ∷ []) m ≡ false =
    ne_eqb (m + 1) (length (ss ++ x ∷ [])) (λ e. omega (arith, e, len, lt)) in
    let last : length (ss ++ x ∷ []) - 1 ≡ length rs = omega (arith, len) in
    ap (λ b. b || reaches (ss ++ x ∷ []) (length (ss ++ x ∷ []) - 1) m) not_last
    ∙ ap (λ n. reaches (ss ++ x ∷ []) n m) last ∙ new_reaches redacts rs ss x roots m o

-- the new manifest is reached
pub new_reached : (redacts : List (List ℕ)) (rs ss : List Reading) (x : Reading) → AreLess redacts rs ss
    → is_reached (ss ++ x ∷ []) (length rs) ≡ true
new_reached redacts rs ss x less =
    or_left (is_active (ss ++ x ∷ []) (length rs)) _
    (eq-eqb (length rs + 1) (length (ss ++ x ∷ [])) (omega (arith, len_more ss x, less_len redacts rs ss less)))

-- ---- what is redacted

-- one test passes where the other does
any_below_same : (f g : ℕ → Bool) (n : ℕ) → ((k : ℕ) → k < n → f k ≡ g k) → any_below f n ≡ any_below g n
any_below_same f g zero h = refl
any_below_same f g (suc n) h =
    ap (λ b. b || any_below f n) (h n (omega arith))
    ∙ ap (λ b. g n || b) (any_below_same f g n (λ k lt. h k (omega arith)))

-- what passes nowhere
any_below_false : (f : ℕ → Bool) (n : ℕ) → ((k : ℕ) → k < n → f k ≡ false) → any_below f n ≡ false
any_below_false f zero h = refl
any_below_false f (suc n) h =
    or_from (f n) (any_below f n) (h n (omega arith)) (any_below_false f n (λ k lt. h k (omega arith)))

-- by an old manifest the same is redacted
redacts_same : (redacted : List (List ℕ)) (rs ss : List Reading) (x : Reading) (k i : ℕ) (label : List ℕ)
    → AreLess redacted rs ss → k < length rs → i < length rs
    → redacts (slice_get (ss ++ x ∷ []) k) (slice_get (ss ++ x ∷ []) i) label ≡ redacts (slice_get rs k) (slice_get rs i) label
redacts_same redacted rs ss x k i label h lk li =
    let tk = less_at redacted rs ss k h lk in
    let ti = less_at redacted rs ss i h li in
    let n : length ss ≡ length rs = less_len redacted rs ss h in
    ap (λ o. redacts o (slice_get (ss ++ x ∷ []) i) label)
    (get_front ss x k (omega (arith, n, lk)) ∙ tk.is_new ∙ ap Some tk.less.is)
    ∙ ap
    (λ o. redacts (Some (thinned (takes_out redacted (label_in tk.old)) tk.less.contents tk.less.assertions tk.old)) o label)
    (get_front ss x i (omega (arith, n, li)) ∙ ti.is_new ∙ ap Some ti.less.is)
    ∙ sym (ap (λ o. redacts o (slice_get rs i) label) tk.is_old ∙ ap (λ o. redacts (Some tk.old) o label) ti.is_old)

-- what was redacted, and by the new manifest what it takes out
pub redacted_more : (rs ss : List Reading) (x : Reading) (roots : List ℕ) (i : ℕ) (r : Reading) (label : List ℕ)
    → IsOver (redactions_in x) rs ss x roots → i < length rs → slice_get rs i ≡ Some r
    → is_redacted (ss ++ x ∷ []) i label ≡ ((is_reached_from rs roots i && takes_out (redactions_in x) (label_in r) label) || redacted_by (is_reached_from rs roots) rs i label)
redacted_more rs ss x roots i r label o lt is_r =
    let all : List Reading = ss ++ x ∷ [] in
    let n : ℕ = length rs in
    let reached : ℕ → Bool = is_reached_from rs roots in
    let f : ℕ → Bool = λ k. is_reached all k && reaches all k i && redacts (slice_get all k) (slice_get all i) label in
    let g : ℕ → Bool = λ k. reached k && reaches rs k i && redacts (slice_get rs k) (slice_get rs i) label in
    let thin_n : length ss ≡ n = less_len (redactions_in x) rs ss o.quiet.are_less in
    let t = less_at (redactions_in x) rs ss i o.quiet.are_less lt in
    let same_old : t.old ≡ r = same_Some t.old r (sym t.is_old ∙ is_r) in
    let len : length all ≡ suc n = len_more ss x ∙ ap suc thin_n in
    let last : slice_get all n ≡ Some x = ap (slice_get all) (sym thin_n) ∙ get_last ss x in
    let here : slice_get all i ≡ Some (thinned (takes_out (redactions_in x) (label_in t.old)) t.less.contents t.less.assertions t.old) =
    get_front ss x i (omega (arith, thin_n, lt)) ∙ t.is_new ∙ ap Some t.less.is in
    let own : redacts (slice_get all n) (slice_get all i) label ≡ takes_out (redactions_in x) (label_in r) label =
    ap (λ o. redacts o (slice_get all i) label) last ∙ ap (λ o. redacts (Some x) o label) here
    ∙ ap (λ (y : Reading). takes_out (redactions_in x) (label_in y) label) same_old in
    ap (any_below f) len
    ∙ ap (λ b. b || any_below f n)
    (ap (λ b. b && reaches all n i && redacts (slice_get all n) (slice_get all i) label) (new_reached (redactions_in x) rs ss x o.quiet.are_less)
    ∙ ap (λ b. b && redacts (slice_get all n) (slice_get all i) label) (new_reaches (redactions_in x) rs ss x roots i o)
    ∙ ap (λ b. reached i && b) own)
    ∙ ap (λ b. (reached i && takes_out (redactions_in x) (label_in r) label) || b) (any_below_same f g n (λ k lk.
    ap (λ b. b && reaches all k i && redacts (slice_get all k) (slice_get all i) label)
    (old_reached (redactions_in x) rs ss x roots k o lk)
    ∙ ap (λ b. reached k && b && redacts (slice_get all k) (slice_get all i) label)
    (both_reach (redactions_in x) rs ss x (k + 1) k i o.quiet lk)
    ∙ ap (λ b. reached k && reaches rs k i && b)
    (redacts_same (redactions_in x) rs ss x k i label o.quiet.are_less lk lt)))

-- nothing is redacted in the new manifest
pub new_redacted : (redacted : List (List ℕ)) (rs ss : List Reading) (x : Reading) (label : List ℕ)
    → AreLess redacted rs ss → is_redacted (ss ++ x ∷ []) (length rs) label ≡ false
new_redacted redacted rs ss x label less =
    let all : List Reading = ss ++ x ∷ [] in
    let len : length all ≡ suc (length rs) = len_more ss x ∙ ap suc (less_len redacted rs ss less) in
    ap
    (any_below (λ k. is_reached all k && reaches all k (length rs) && redacts (slice_get all k) (slice_get all (length rs)) label))
    len
    ∙ any_below_false
    (λ k. is_reached all k && reaches all k (length rs) && redacts (slice_get all k) (slice_get all (length rs)) label)
    (suc (length rs)) (λ k lt.
    and_left (is_reached all k && reaches all k (length rs))
    (redacts (slice_get all k) (slice_get all (length rs)) label)
    (and_right (is_reached all k) (reaches all k (length rs)) (reach_earlier all (k + 1) k (length rs) (omega (arith, lt)))))
