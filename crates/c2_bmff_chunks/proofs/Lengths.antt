-- A shifted file's length, that it has bytes, and that its tables stand apart in one way: for the source that is such a file.
use Rattle.std.proofs.Common.{◌≡◌, ℕ, ◌+◌, ◌^◌, ◌<◌, List, [], ◌∷◌, length, Option, Some, None, option_map, refl, sym, ap, ◌∙◌, subst}
use Rattle.std.specs.Coded.{×_prop, le_prop}
use Rattle.std.specs.Prelude.{All}
use Rattle.std.specs.Option.{ForSome}
use Rattle.c2_lemmas.proofs.Bytes.{are_bytes}
use Rattle.c2_bmff_chunks.specs.Fields.{all_fields}
use Rattle.c2_bmff_chunks.specs.Shifted.{shifted}
use Rattle.c2_bmff_chunks.specs.Tables.{StandApart, table_len}
use Rattle.c2_bmff_chunks.specs.declared.table.ChunkTable.{ChunkTable}
use Rattle.c2_bmff_chunks.proofs.FieldLemmas.{with_bytes, with_len}
use Rattle.c2_bmff_chunks.proofs.ShiftLemmas.{all_bytes}

-- a shifted file is as long as the file
pub shifted_size : (from by : ℕ) (ts : List ChunkTable) (known : Option (List ℕ)) (len : ℕ)
    → ForSome known (λ bytes. length bytes ≡ len)
    → ForSome (option_map (shifted from by ts) known) (λ bytes. length bytes ≡ len)
shifted_size from by ts None len h bytes e = absurd (cc (e))
shifted_size from by ts (Some file) len h bytes e =
    let is : bytes ≡ shifted from by ts file = cc (e) in
    ap length is ∙ with_len from by file (all_fields ts) file ∙ h file refl

-- and has bytes
pub shifted_bytes : (from by : ℕ) (ts : List ChunkTable) (known : Option (List ℕ))
    → ForSome known (All (λ b. b < 2 ^ 8)) → ForSome (option_map (shifted from by ts) known) (All (λ b. b < 2 ^ 8))
shifted_bytes from by ts None h bytes e = absurd (cc (e))
shifted_bytes from by ts (Some file) h bytes e =
    let is : bytes ≡ shifted from by ts file = cc (e) in
    subst (All (λ b. b < 2 ^ 8)) (sym is)
    (all_bytes (shifted from by ts file) (with_bytes from by file (all_fields ts) file (are_bytes file (h file refl))))

-- that tables stand apart has one proof at most
pub stand_apart_once : (low high : ℕ) (ts : List ChunkTable) → IsProp (StandApart low high ts)
stand_apart_once low high [] = le_prop
stand_apart_once low high (t ∷ ts) = ×_prop le_prop (stand_apart_once (t.first + table_len t) high ts)
