-- A text that isn't parsed as a UUID is none.
use Rattle.std.proofs.Common.{◌≡◌, ℕ, false, List, Option, Some, None, refl, bytes_eq}
use Rattle.std.specs.Option.{option_map_or}
use Rattle.uuid.specs.Text.{parsed, hyphenated_text, lower}
use Rattle.c2_definition.specs.DefinitionFile.{is_uuid}

-- what no UUID was read of
pub not_parsed : (t : List ℕ) → ((u : List ℕ) → parsed t ≡ Some u → ⊥) → false ≡ is_uuid t
not_parsed t none = by_parse (parsed t) refl
  where
    by_parse : (o : Option (List ℕ)) → parsed t ≡ o
        → false ≡ option_map_or (λ u. bytes_eq t (hyphenated_text lower u)) o false
    by_parse None e = refl
    by_parse (Some u) e = absurd (none u e)
