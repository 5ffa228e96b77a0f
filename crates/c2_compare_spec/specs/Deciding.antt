-- The test by which two chain contents are compared, place by place (this project's own choice). For
-- accepted files it decides whether they are equal.
use Rattle.std.specs.Prelude.{ℕ, Bool, true, false, not, ◌&&◌, ◌||◌, List, Option, bytes_eq, slice_get, length}
use Rattle.std.specs.List.{list_all}
use Rattle.std.specs.Option.{option_map_or}
use Rattle.c2_spec.specs.declared.cbor.Ref.{Ref}
use Rattle.c2_rules.specs.Chains.{entry_label, any_below, passes_some, is_reached, is_redacted}
use Rattle.c2_rules.specs.Readings.{ReadBox, Reading, entries_in}
use Rattle.c2_rules.specs.Rules.{box_with, lists_label}
use Rattle.c2_compare_spec.specs.ChainContent.{claim_bytes_of, key_at}

-- both lists are there and equal
abbrev pub are_equal : Option (List ℕ) → Option (List ℕ) → Bool
are_equal a b = passes_some (λ (x : List ℕ). passes_some (bytes_eq x) b) a

-- the manifest `s` at place `m` lists this label, which isn't redacted there, and its box has these
-- contents
abbrev pub gives_box : List Reading → ℕ → Reading → List ℕ → List ℕ → Bool
gives_box ss m s label contents =
    not (is_redacted ss m label)
    && (lists_label s.manifest (entries_in s) label
    && passes_some (λ (b : ReadBox). bytes_eq b.boxed.contents contents) (box_with s label))

-- what the manifest `r` at place `n` has under this label, `s` at place `m` has as well
abbrev pub gives_label : List Reading → ℕ → Reading → List Reading → ℕ → Reading → List ℕ → Bool
gives_label rs n r ss m s label =
    is_redacted rs n label
    || option_map_or (λ (b : ReadBox). gives_box ss m s label b.boxed.contents)
    (box_with r label) true

-- `s` is reached with the key of `r`, has its claim bytes, and all that `r` has
abbrev pub gives_all : List Reading → ℕ → Reading → List Reading → ℕ → Reading → Bool
gives_all rs n r ss m s =
    is_reached ss m
    && (bytes_eq (key_at ss m s) (key_at rs n r)
    && (are_equal (claim_bytes_of r) (claim_bytes_of s)
    && list_all
    (λ (e : Ref). option_map_or (gives_label rs n r ss m s) (entry_label r.manifest e) true)
    (entries_in r)))

-- the manifest at place `m` of the second store is reached with the key of `r` and has all that `r` has
abbrev pub gives_at : List Reading → ℕ → Reading → List Reading → ℕ → Bool
gives_at rs n r ss m = option_map_or (gives_all rs n r ss m) (slice_get ss m) false

-- the manifest at place `n` is reached, and no manifest of the second store has all that it has
abbrev pub is_missing : List Reading → List Reading → ℕ → Bool
is_missing rs ss n =
    is_reached rs n
    && not (option_map_or (λ (r : Reading). any_below (gives_at rs n r ss) (length ss))
    (slice_get rs n) true)

-- the second chain content has all that the first has
abbrev pub is_within : List Reading → List Reading → Bool
is_within rs ss = not (any_below (is_missing rs ss) (length rs))

-- each chain content has all that the other has
abbrev pub has_same_content : List Reading → List Reading → Bool
has_same_content rs ss = is_within rs ss && is_within ss rs
