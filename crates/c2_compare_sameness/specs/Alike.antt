-- For private clauses: manifests that may have the same content.
use Rattle.std.specs.Prelude.{ℕ, Bool, ◌&&◌, List, bytes_eq}
use Rattle.c2_rules.specs.Chains.{is_reached}
use Rattle.c2_rules.specs.Readings.{Reading}
use Rattle.c2_compare_spec.specs.ChainContent.{claim_bytes_of, key_at}
use Rattle.c2_compare_spec.specs.Deciding.{are_equal}

-- `s` is reached with the key of `r` and its claim bytes
abbrev pub alike : List Reading → ℕ → Reading → List Reading → ℕ → Reading → Bool
alike rs n r ss m s =
    is_reached ss m
    && (bytes_eq (key_at ss m s) (key_at rs n r) && are_equal (claim_bytes_of r) (claim_bytes_of s))
