-- The test of equal chain contents decides.
use Rattle.std.proofs.Common.{◌≡◌, inl, inr, ℕ, ◌+◌, ◌<◌, Bool, true, false, not, ◌&&◌, ◌||◌, cond, bytes_eq, List, [], ◌∷◌, Option, Some, None, Contains, Decides, slice_get, length, refl, sym, ap, ◌∙◌, subst, arith}
use Rattle.std.specs.List.{list_all}
use Rattle.std.specs.Option.{option_map_or}
use Rattle.std.proofs.lemmas.Bool.Decides.{Decides-eqb}
use Rattle.std.proofs.lemmas.Option.{slice_get_within}
use Rattle.std.proofs.lemmas.Slice.Eq.{bytes_eq-Decides}
use Rattle.c2_base.specs.declared.values.Question.{Question}
use Rattle.c2_spec.specs.C2pa.Manifest.{is_given}
use Rattle.c2_spec.specs.declared.cbor.Ref.{Ref}
use Rattle.c2_spec.specs.declared.digest.Alg.{Alg}
use Rattle.c2_spec.specs.declared.panel.Verdict.{Verdict}
use Rattle.c2_spec.proofs.GivenLabels.{given_is, is_given_back}
use Rattle.c2_rules.proofs.ListLemmas.{contains_none, contains_head, contains_tail, contains_cons, from_any, in_any, from_passes, from_below, in_below}
use Rattle.c2_rules.specs.Chains.{label_in, entry_label, any_below, passes_some, is_active, is_reached, is_redacted}
use Rattle.c2_rules.specs.Readings.{ReadBox, Reading, entries_in}
use Rattle.c2_rules.specs.Rules.{box_with, lists_label}
use Rattle.c2_compare_spec.specs.ChainContent.{claim_bytes_of, key_at, HasKey, GivesClaim, GivesBox, SameContent}
use Rattle.c2_compare_spec.specs.Deciding.{are_equal, gives_box, gives_label, gives_all, gives_at, is_missing, is_within, has_same_content}
use Rattle.c2_compare_spec.proofs.Facts.{TreeFacts, IsApproved, StoreFacts}
use Rattle.c2_compare_spec.proofs.Links.{entry_box}
use Rattle.c2_compare_spec.proofs.Lists.{bool_cases}
use Rattle.c2_lemmas.proofs.Bools.{and_true, both_true, not_true_is_false, true_and_false}
use Rattle.c2_lemmas.proofs.Options.{one_value}

-- ---- conditions

-- where the first of two doesn't hold, the second does
second_holds : (a b : Bool) → a ≡ false → (a || b) ≡ true → b ≡ true
second_holds false b e f = f
second_holds true b e f = absurd (cc (e))

-- a test that all members pass
all_pass : {X : Type 0} (d : X → Bool) (xs : List X) → ((x : X) → Contains xs x → d x ≡ true)
    → list_all d xs ≡ true
all_pass d [] h = refl
all_pass d (x ∷ xs) h =
    and_true (d x) (list_all d xs) (h x (contains_head x xs))
    (all_pass d xs (λ y c. h y (contains_tail x y xs c)))

-- a member passes it
one_passes : {X : Type 0} (d : X → Bool) (xs : List X) → list_all d xs ≡ true → (x : X) → Contains xs x
    → d x ≡ true
one_passes d [] h x c = absurd (contains_none x c)
one_passes d (y ∷ ys) h x c =
    let both = both_true (d y) (list_all d ys) h in
    elim (contains_cons y x ys c) [
      | inl same ↦ ap d (sym same) ∙ both.0
      | inr rest ↦ one_passes d ys both.1 x rest
    ]

-- a value that may be missing and passes is there
passes_or : {X : Type 0} (d : X → Bool) (o : Option X) → option_map_or d o false ≡ true
    → (x : X) × (o ≡ Some x) × (d x ≡ true)
passes_or d None e = absurd (cc (e))
passes_or d (Some x) e = (x, refl, e)

-- equal lists that are there
equal_says : (a b : Option (List ℕ)) (bytes : List ℕ) → are_equal a b ≡ true → a ≡ Some bytes → b ≡ Some bytes
equal_says a b bytes t e =
    let x = from_passes (λ (x : List ℕ). passes_some (bytes_eq x) b) a t in
    let y = from_passes (bytes_eq x.0) b x.2 in
    y.1 ∙ ap Some (sym ((bytes_eq-Decides x.0 y.0).0 y.2) ∙ one_value a x.0 bytes x.1 e)

-- lists that are there and equal pass the test
says_equal : (a b : Option (List ℕ)) (bytes : List ℕ) → a ≡ Some bytes → b ≡ Some bytes → are_equal a b ≡ true
says_equal a b bytes p q =
    ap (λ x. are_equal x b) p ∙ ap (are_equal (Some bytes)) q ∙ (bytes_eq-Decides bytes bytes).1 refl

-- ---- keys

-- one reached manifest has a key
pub one_key : (rs : List Reading) → TreeFacts rs → (key : List ℕ) (n m : ℕ) (r s : Reading)
    → HasKey rs key n r → HasKey rs key m s → n ≡ m
one_key rs f key n m r s a b = by (is_active rs n) (is_active rs m) refl refl
  where
    active_key : (i : ℕ) (x : Reading) → is_active rs i ≡ true → key_at rs i x ≡ []
    active_key i x e = ap (λ c. cond c [] (label_in x)) e

    other_key : (i : ℕ) (x : Reading) → is_active rs i ≡ false → key_at rs i x ≡ label_in x
    other_key i x e = ap (λ c. cond c [] (label_in x)) e

    by : (b c : Bool) → is_active rs n ≡ b → is_active rs m ≡ c → n ≡ m
    by true true p q =
        let x : n + 1 ≡ length rs = (Decides-eqb (n + 1) (length rs)).0 p in
        let y : m + 1 ≡ length rs = (Decides-eqb (m + 1) (length rs)).0 q in
        omega arith
    by true false p q =
        absurd (f.named m s b.at_place (sym (other_key m s q) ∙ b.is ∙ sym a.is ∙ active_key n r p))
    by false true p q =
        absurd (f.named n r a.at_place (sym (other_key n r p) ∙ a.is ∙ sym b.is ∙ active_key m s q))
    by false false p q =
        f.differ n m r s a.at_place b.at_place (sym (other_key n r p) ∙ a.is ∙ sym b.is ∙ other_key m s q)

-- ---- from the test

-- What the test says of a reached manifest of the first store.
record Given (rs ss : List Reading) (n : ℕ) (r : Reading) : Type 0 where
  place : ℕ
  other : Reading
  at_place : slice_get ss place ≡ Some other
  reached : is_reached ss place ≡ true
  key : key_at ss place other ≡ key_at rs n r
  claims : are_equal (claim_bytes_of r) (claim_bytes_of other) ≡ true
  entries : list_all (λ (e : Ref). option_map_or (gives_label rs n r ss place other)
      (entry_label r.manifest e) true) (entries_in r) ≡ true

-- by the place of the second store
given_at : (rs ss : List Reading) (n : ℕ) (r : Reading) (m : ℕ) (s : Reading) → slice_get ss m ≡ Some s
    → gives_all rs n r ss m s ≡ true → Given rs ss n r
given_at rs ss n r m s at t =
    let entries : Bool =
    list_all (λ (e : Ref). option_map_or (gives_label rs n r ss m s) (entry_label r.manifest e) true)
    (entries_in r) in
    let a = both_true (is_reached ss m)
    (bytes_eq (key_at ss m s)
    (key_at rs n r) && (are_equal (claim_bytes_of r) (claim_bytes_of s) && entries)) t in
    let b = both_true (bytes_eq (key_at ss m s) (key_at rs n r))
    (are_equal (claim_bytes_of r) (claim_bytes_of s) && entries) a.1 in
    let c = both_true (are_equal (claim_bytes_of r) (claim_bytes_of s)) entries b.1 in
    record {
      place = m;
      other = s;
      at_place = at;
      reached = a.0;
      key = (bytes_eq-Decides (key_at ss m s) (key_at rs n r)).0 b.0;
      claims = c.0;
      entries = c.1;
    }

-- where the second chain content has all that the first has
given : (rs ss : List Reading) → is_within rs ss ≡ true → (n : ℕ) (r : Reading) → slice_get rs n ≡ Some r
    → is_reached rs n ≡ true → Given rs ss n r
given rs ss t n r at reached =
    let some : any_below (gives_at rs n r ss) (length ss) ≡ true =
    by (any_below (gives_at rs n r ss) (length ss)) refl in
    let m = from_below (gives_at rs n r ss) (length ss) some in
    let s = passes_or (gives_all rs n r ss m.0) (slice_get ss m.0) m.2 in
    given_at rs ss n r m.0 s.0 s.1 s.2
  where
    none_missing : is_missing rs ss n ≡ false
    none_missing =
        elim (bool_cases (is_missing rs ss n)) [
          | inl missing ↦
              true_and_false (any_below (is_missing rs ss) (length rs))
              (in_below (is_missing rs ss) (length rs) n (slice_get_within rs n r at) missing)
              (not_true_is_false (any_below (is_missing rs ss) (length rs)) t)
          | inr none ↦ none
        ]

    by : (b : Bool) → any_below (gives_at rs n r ss) (length ss) ≡ b → b ≡ true
    by true e = refl
    by false e =
        let missing : is_missing rs ss n ≡ true =
        and_true (is_reached rs n)
        (not (option_map_or (λ (x : Reading). any_below (gives_at rs n x ss) (length ss)) (slice_get rs n)
        true)) reached
        (ap (λ o. not (option_map_or (λ (x : Reading). any_below (gives_at rs n x ss) (length ss)) o true)) at
        ∙ ap not e) in
        true_and_false (is_missing rs ss n) missing none_missing

-- the claims of a chain content that is within another are claims of that
claim_within : (rs ss : List Reading) → is_within rs ss ≡ true → (key bytes : List ℕ)
    → GivesClaim rs key bytes → GivesClaim ss key bytes
claim_within rs ss t key bytes h =
    let x = given rs ss t h.place h.manifest h.has_key.at_place h.has_key.reached in
    record {
      place = x.place;
      manifest = x.other;
      has_key = record { at_place = x.at_place; reached = x.reached; is = x.key ∙ h.has_key.is };
      is = equal_says (claim_bytes_of h.manifest) (claim_bytes_of x.other) bytes x.claims h.is;
    }

-- the boxes of a chain content that is within another are boxes of that
box_within : (rs ss : List Reading) → is_within rs ss ≡ true → (key label contents : List ℕ)
    → GivesBox rs key label contents → GivesBox ss key label contents
box_within rs ss t key label contents h =
    let x = given rs ss t h.place h.manifest h.has_key.at_place h.has_key.reached in
    let one =
    one_passes (λ (e : Ref). option_map_or (gives_label rs h.place h.manifest ss x.place x.other)
    (entry_label h.manifest.manifest e) true) (entries_in h.manifest) x.entries h.entry h.lists in
    let own : gives_label rs h.place h.manifest ss x.place x.other label ≡ true =
    sym (ap (λ o. option_map_or (gives_label rs h.place h.manifest ss x.place x.other) o true) h.is_label)
    ∙ one in
    let boxed : Bool =
    option_map_or (λ (b : ReadBox). gives_box ss x.place x.other label b.boxed.contents)
    (box_with h.manifest label) true in
    let has : gives_box ss x.place x.other label h.box.boxed.contents ≡ true =
    sym (ap (λ o. option_map_or (λ (b : ReadBox). gives_box ss x.place x.other label b.boxed.contents) o true)
    h.has_box)
    ∙ second_holds (is_redacted rs h.place label) boxed h.unredacted own in
    let same : Bool =
    passes_some (λ (b : ReadBox). bytes_eq b.boxed.contents h.box.boxed.contents)
    (box_with x.other label) in
    let a = both_true (not (is_redacted ss x.place label))
    (lists_label x.other.manifest (entries_in x.other) label && same) has in
    let b = both_true (lists_label x.other.manifest (entries_in x.other) label) same a.1 in
    let e = from_any (λ (z : Ref). is_given (entry_label x.other.manifest z) label) (entries_in x.other)
    b.0 in
    let c = from_passes (λ (z : ReadBox). bytes_eq z.boxed.contents h.box.boxed.contents)
    (box_with x.other label) b.1 in
    record {
      place = x.place;
      manifest = x.other;
      has_key = record { at_place = x.at_place; reached = x.reached; is = x.key ∙ h.has_key.is };
      entry = e.0;
      lists = e.1;
      is_label = given_is (entry_label x.other.manifest e.0) label e.2;
      unredacted = not_true_is_false (is_redacted ss x.place label) a.0;
      box = c.0;
      has_box = c.1;
      is = (bytes_eq-Decides c.0.boxed.contents h.box.boxed.contents).0 c.2 ∙ h.is;
    }

-- ---- to the test

module _ (hash : Alg → List ℕ → List ℕ) (said : Question → Verdict) (rs ss : List Reading)
    (f : StoreFacts hash said rs) (g : StoreFacts hash said ss)
    (claims : (key bytes : List ℕ) → GivesClaim rs key bytes → GivesClaim ss key bytes)
    (boxes : (key label contents : List ℕ) → GivesBox rs key label contents
    → GivesBox ss key label contents) where
  -- an entry passes
  entry_passes : (n : ℕ) (r : Reading) (m : ℕ) (s : Reading) → slice_get rs n ≡ Some r
      → is_reached rs n ≡ true → HasKey ss (key_at rs n r) m s
      → (e : Ref) → Contains (entries_in r) e → (o : Option (List ℕ)) → entry_label r.manifest e ≡ o
      → option_map_or (gives_label rs n r ss m s) o true ≡ true
  entry_passes n r m s at reached key e listed None is = refl
  entry_passes n r m s at reached key e listed (Some label) is = by (is_redacted rs n label) refl
    where
      by : (b : Bool) → is_redacted rs n label ≡ b
          → (b || option_map_or (λ (x : ReadBox). gives_box ss m s label x.boxed.contents) (box_with r label)
          true) ≡ true
      by true kept = refl
      by false kept =
          let x = entry_box hash said rs f n r e label at reached listed is kept in
          let own : GivesBox rs (key_at rs n r) label x.2.box.boxed.contents = record {
            place = n;
            manifest = r;
            has_key = record { at_place = at; reached = reached; is = refl };
            entry = e;
            lists = listed;
            is_label = is;
            unredacted = kept;
            box = x.2.box;
            has_box = x.2.has_box;
            is = refl;
          } in
          let h = boxes (key_at rs n r) label x.2.box.boxed.contents own in
          let place : h.place ≡ m = one_key ss g.tree (key_at rs n r) h.place m h.manifest s h.has_key key in
          let same : h.manifest ≡ s =
          one_value (slice_get ss m) h.manifest s (ap (slice_get ss) (sym place) ∙ h.has_key.at_place)
          key.at_place in
          let kept' : not (is_redacted ss m label) ≡ true =
          ap (λ k. not (is_redacted ss k label)) (sym place) ∙ ap not h.unredacted in
          let listed' : lists_label s.manifest (entries_in s) label ≡ true =
          in_any (λ (z : Ref). is_given (entry_label s.manifest z) label) (entries_in s) h.entry
          (subst (λ (k : Reading). Contains (entries_in k) h.entry) same h.lists)
          (is_given_back (entry_label s.manifest h.entry) label
          (ap (λ (k : Reading). entry_label k.manifest h.entry) (sym same) ∙ h.is_label)) in
          let box : passes_some (λ (z : ReadBox). bytes_eq z.boxed.contents x.2.box.boxed.contents)
          (box_with s label) ≡ true =
          ap (passes_some (λ (z : ReadBox). bytes_eq z.boxed.contents x.2.box.boxed.contents))
          (ap (λ (k : Reading). box_with k label) (sym same) ∙ h.has_box)
          ∙ (bytes_eq-Decides h.box.boxed.contents x.2.box.boxed.contents).1 h.is in
          ap (λ o. option_map_or (λ (z : ReadBox). gives_box ss m s label z.boxed.contents) o true)
          x.2.has_box
          ∙ and_true (not (is_redacted ss m label)) _ kept'
          (and_true (lists_label s.manifest (entries_in s) label) _ listed' box)

  -- a reached manifest isn't missing
  not_missing : (n : ℕ) (r : Reading) → slice_get rs n ≡ Some r → is_reached rs n ≡ true
      → any_below (gives_at rs n r ss) (length ss) ≡ true
  not_missing n r at reached =
      let a : IsApproved said r = (f.manifests n r at reached).approved in
      let own : GivesClaim rs (key_at rs n r) a.bytes =
      record {
        place = n;
        manifest = r;
        has_key =
            record { at_place = at; reached = reached; is = refl };
        is = a.has_bytes;
      } in
      let h = claims (key_at rs n r) a.bytes own in
      let entries =
      all_pass (λ (e : Ref). option_map_or (gives_label rs n r ss h.place h.manifest)
      (entry_label r.manifest e) true) (entries_in r)
      (λ e c. entry_passes n r h.place h.manifest at reached h.has_key e c (entry_label r.manifest e) refl) in
      let all : gives_all rs n r ss h.place h.manifest ≡ true =
      and_true (is_reached ss h.place) _ h.has_key.reached
      (and_true (bytes_eq (key_at ss h.place h.manifest) (key_at rs n r)) _
      ((bytes_eq-Decides (key_at ss h.place h.manifest) (key_at rs n r)).1 h.has_key.is)
      (and_true (are_equal (claim_bytes_of r) (claim_bytes_of h.manifest)) _
      (says_equal (claim_bytes_of r) (claim_bytes_of h.manifest) a.bytes a.has_bytes h.is) entries)) in
      in_below (gives_at rs n r ss) (length ss) h.place
      (slice_get_within ss h.place h.manifest h.has_key.at_place)
      (ap (λ o. option_map_or (gives_all rs n r ss h.place) o false) h.has_key.at_place ∙ all)

  -- no reached manifest is missing
  within : is_within rs ss ≡ true
  within =
      elim (bool_cases (any_below (is_missing rs ss) (length rs))) [
        | inl some ↦ absurd (found (from_below (is_missing rs ss) (length rs) some))
        | inr none ↦ ap not none
      ]
    where
      found : (n : ℕ) × (n < length rs) × (is_missing rs ss n ≡ true) → ⊥
      found x =
          let n = x.0 in
          let both =
          both_true (is_reached rs x.0)
          (not (option_map_or (λ (r : Reading). any_below (gives_at rs x.0 r ss) (length ss))
          (slice_get rs x.0) true)) x.2 in
          by x.0 both.0 (slice_get rs x.0) refl both.1
        where
          by : (n : ℕ) → is_reached rs n ≡ true → (o : Option Reading) → slice_get rs n ≡ o
              → not (option_map_or (λ (r : Reading). any_below (gives_at rs n r ss) (length ss)) o
              true) ≡ true → ⊥
          by n reached None at e = cc (e)
          by n reached (Some r) at e =
              true_and_false (any_below (gives_at rs n r ss) (length ss)) (not_missing n r at reached)
              (not_true_is_false (any_below (gives_at rs n r ss) (length ss)) e)

-- for stores of accepted files the test decides
pub test_decides : (hash : Alg → List ℕ → List ℕ) (said : Question → Verdict) (rs ss : List Reading)
    → StoreFacts hash said rs → StoreFacts hash said ss
    → Decides (has_same_content rs ss) (SameContent rs ss)
test_decides hash said rs ss f g = (sound, complete)
  where
    sound : has_same_content rs ss ≡ true → SameContent rs ss
    sound t =
        let both = both_true (is_within rs ss) (is_within ss rs) t in
        record {
          claims = λ key bytes. (claim_within rs ss both.0 key bytes, claim_within ss rs both.1 key bytes);
          boxes = λ key label contents.
              (box_within rs ss both.0 key label contents, box_within ss rs both.1 key label contents);
        }

    complete : SameContent rs ss → has_same_content rs ss ≡ true
    complete h =
        and_true (is_within rs ss) (is_within ss rs)
        (within hash said rs ss f g (λ key bytes. (h.claims key bytes).0)
        (λ key label contents. (h.boxes key label contents).0))
        (within hash said ss rs g f (λ key bytes. (h.claims key bytes).1)
        (λ key label contents. (h.boxes key label contents).1))
