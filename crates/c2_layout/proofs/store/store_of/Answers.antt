use Rattle.std.proofs.Common.{ℕ, List, ◌++◌, refl, ap, ◌∙◌}
use Rattle.c2_layout.specs.declared.store.TheConstants.{STORE_FRONT}
use Rattle.c2_layout.proofs.WrittenBytes.{store_bytes}
use Rattle.c2_layout.proofs.store.store_of.Goals as goal

-- the length, what stands behind it, the boxes and the manifest
pub returns : goal.returns
returns c = λ old last k m.
    let word = c.to_be_bytes.result in
    let front = c.in_ok-extend_from_slice.ensures.items ∙ ap (λ (x : List ℕ). x ++ word) c.in_ok-bytes.ensures.items in
    store_bytes c.args.carried.now c.args.manifest.now word STORE_FRONT c.from_vec.result _ old last
    c.to_be_bytes.ensures refl refl
    (c.from_vec.ensures ∙ c.in_ok-extend_from_slice-4.ensures.items
    ∙ ap (λ (x : List ℕ). x ++ c.args.manifest.now) (c.in_ok-extend_from_slice-3.ensures.items ∙ ap (λ (x : List ℕ). x ++ c.args.carried.now) (c.in_ok-extend_from_slice-2.ensures.items ∙ ap (λ (x : List ℕ). x ++ STORE_FRONT) front)))
    k m
