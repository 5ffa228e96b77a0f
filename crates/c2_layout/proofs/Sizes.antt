-- How many bytes a new store has, by its parts.
use Rattle.std.proofs.Common.{◌≡◌, ℕ, ◌+◌, ◌≤◌, min, take, List, [], ◌∷◌, ◌++◌, length, replicate, refl, sym, ap, ◌∙◌, arith, length-append}
use Rattle.std.specs.Prelude.{sum_by}
use Rattle.std.proofs.lemmas.List.{length-replicate, take_all}
use Rattle.std.proofs.lemmas.List.Sums.{sum_by-cons}
use Rattle.c2_spec.specs.Jumbf.Tree.{tree_bytes, trees_bytes}
use Rattle.c2_definition.specs.declared.types.NewAssertion.{NewAssertion}
use Rattle.c2_new_file_spec.specs.Built.{HasDigestLen, bound_len, no_digest}
use Rattle.c2_new_file_spec.specs.Store.{Content, assertion_box, assertion_boxes, new_alg, new_assertions, new_claim, new_manifest, new_store}
use Rattle.c2_new_file_spec.proofs.StoreLaws.{new_stores_have_one_length}
use Rattle.c2_new_file_spec.proofs.StoreSize.{assertion_len, manifest_len, store_len}
use Rattle.c2_new_file_spec.proofs.BuiltLemmas.{no_digest_len}

-- ---- assertions

-- how many bytes the box of an assertion has
abbrev pub assertion_size : NewAssertion → ℕ
assertion_size a = 42 + length a.label + length a.bytes

-- the boxes of assertions have as many bytes as the boxes of each together
pub boxes_size : (all : List NewAssertion) → length (trees_bytes (assertion_boxes all)) ≡ sum_by assertion_size all
boxes_size [] = refl
boxes_size (a ∷ others) =
    length-append (tree_bytes (assertion_box a)) (trees_bytes (assertion_boxes others))
    ∙ ap (λ n. n + length (trees_bytes (assertion_boxes others))) (assertion_len a)
    ∙ ap (λ n. assertion_size a + n) (boxes_size others) ∙ sym (sum_by-cons assertion_size a others)

-- what was counted at the end is all
pub counted : (all : List NewAssertion) (i n most : ℕ) → length all ≤ i
    → n ≡ min (sum_by assertion_size (take i all)) most → n ≡ min (length (trees_bytes (assertion_boxes all))) most
counted all i n most end h =
    h ∙ ap (λ (xs : List NewAssertion). min (sum_by assertion_size xs) most) (take_all i all end)
    ∙ ap (λ k. min k most) (sym (boxes_size all))

-- the boxes of two lists are as long as both
pub both_boxes : (xs ys : List NewAssertion)
    → length (trees_bytes (assertion_boxes (xs ++ ys))) ≡ length (trees_bytes (assertion_boxes xs)) + length (trees_bytes (assertion_boxes ys))
both_boxes [] ys = omega arith
both_boxes (x ∷ xs) ys =
    omega
    (arith, both_boxes xs ys, length-append (tree_bytes (assertion_box x)) (trees_bytes (assertion_boxes (xs ++ ys))), length-append (tree_bytes (assertion_box x)) (trees_bytes (assertion_boxes xs)))

-- ---- a store

-- how long it is
pub content_size : (hash : List ℕ → List ℕ) (c : Content) (b : NewAssertion) (message : List ℕ)
    → length (tree_bytes (new_store hash c b message)) ≡ length (trees_bytes c.carried) + (232 + length c.definition.label + length (trees_bytes (assertion_boxes (new_assertions hash c b))) + length (new_claim hash c b) + length message)
content_size hash c b message =
    omega
    (arith, store_len c.carried (new_manifest hash c b message), manifest_len c.definition.label (new_assertions hash c b) (new_claim hash c b) message)

-- two numbers added up to a greatest one
pub added : (most a b a1 b1 out : ℕ) → a1 ≡ min a most → b1 ≡ min b most → out ≡ min (a1 + b1) most
    → out ≡ min (a + b) most
added most a b a1 b1 out h1 h2 h3 = omega arith

-- numbers added up to a greatest one, with 232 more
pub saturated : (most a b c d e f a1 b1 a2 c1 a3 a4 a5 out : ℕ) → a1 ≡ min (a + 232) most → b1 ≡ min b most
    → a2 ≡ min (a1 + b1) most → c1 ≡ min c most → a3 ≡ min (a2 + c1) most → a4 ≡ min (a3 + d) most
    → a5 ≡ min (a4 + e) most → out ≡ min (a5 + f) most
    → out ≡ min (f + (232 + a + (b + c) + d + e)) most
saturated most a b c d e f a1 b1 a2 c1 a3 a4 a5 out h1 h2 h3 h4 h5 h6 h7 h8 = omega arith

-- with digests its parts are as long together
pub sized_with : (hash : List ℕ → List ℕ) (c : Content) (b : NewAssertion) (reserve : ℕ)
    → HasDigestLen (new_alg c.definition) hash
    → bound_len c b reserve ≡ length (trees_bytes c.carried) + (232 + length c.definition.label + length (trees_bytes (assertion_boxes (new_assertions hash c b))) + length (new_claim hash c b) + reserve)
sized_with hash c b reserve digests =
    new_stores_have_one_length (no_digest (new_alg c.definition)) hash c b b (replicate reserve 0) (replicate reserve 0)
    (no_digest_len (new_alg c.definition)) digests refl refl refl
    ∙ content_size hash c b (replicate reserve 0)
    ∙ ap
    (λ (n : ℕ). length (trees_bytes c.carried) + (232 + length c.definition.label + length (trees_bytes (assertion_boxes (new_assertions hash c b))) + length (new_claim hash c b) + n))
    (length-replicate {A = ℕ} reserve 0)
