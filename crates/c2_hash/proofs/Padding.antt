-- A list that is copied into zeros is padded.
use Rattle.std.proofs.Common.{◌≡◌, ℕ, ◌+◌, ◌-◌, ◌≤◌, List, ◌++◌, length, take, drop, replicate, refl, sym, ap, ◌∙◌, arith, length-append}
use Rattle.std.proofs.lemmas.List.{length-replicate, take_at, drop-replicate}
use Rattle.c2_spec.specs.Digest.{most_digest_len}
use Rattle.c2_hash.specs.Padded.{IsPadded, padded}

-- a list that is copied into zeros is padded
pub copied : (list : List ℕ) → length list ≤ most_digest_len
    → IsPadded (list ++ drop (length list) (replicate most_digest_len 0)) (length list)
copied list fits =
    let rest : drop (length list) (replicate most_digest_len 0) ≡ replicate (most_digest_len - length list) 0 =
    drop-replicate (length list) most_digest_len 0 in
    let whole : list ++ drop (length list) (replicate most_digest_len 0) ≡ padded list =
    ap (λ (z : List ℕ). list ++ z) rest in
    let front : take (length list) (list ++ drop (length list) (replicate most_digest_len 0)) ≡ list =
    take_at list (drop (length list) (replicate most_digest_len 0)) (length list) refl in
    record {
      room =
          ap length whole ∙ length-append list (replicate (most_digest_len - length list) 0)
          ∙ ap (λ (n : ℕ). length list + n) (length-replicate {A = ℕ} (most_digest_len - length list) 0) ∙ omega (arith, fits);
      fits = fits;
      zeros = whole ∙ ap padded (sym front);
    }
