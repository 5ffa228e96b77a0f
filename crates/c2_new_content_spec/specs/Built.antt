-- The file that the new store of a content is put into at a split, told by itself: the store's binding holds the digest
-- of what it covers of the file. There is one such file.
use Rattle.std.specs.Prelude.{◌≡◌, ℕ, List, length, Some}
use Rattle.c2_spec.specs.Jumbf.Tree.{Tree, tree_bytes}
use Rattle.c2_new_file_spec.specs.Built.{HasDigestLen}
use Rattle.c2_new_file_spec.specs.Store.{Content, new_alg, new_store}
use Rattle.c2_new_content_spec.specs.Contents.{CanPutAt, content_len, content_store}
use Rattle.c2_new_content_spec.specs.Holding.{CoversAt}
use Rattle.c2_new_content_spec.specs.Splits.{Split, split_binding, split_file, split_len, split_piece}

-- The file is this base with a new store put in at this split, in so many bytes. The binding holds the digest of what
-- it covers of the file itself, and where it speaks of the range, that range.
pub record IsBuiltAt (hash : List ℕ → List ℕ) (c : Content) (message base : List ℕ) (s : Split)
    (file : List ℕ) (len : ℕ) : Type 0 where
  pub text : List ℕ
  pub covers : CoversAt s len file text
  pub store : Tree
  pub store_is : store ≡ new_store hash c (split_binding (new_alg c.definition) s len (hash text)) message
  pub piece : List ℕ
  pub is_piece : split_piece s (tree_bytes store) ≡ Some piece
  pub size : len ≡ split_len s (length (tree_bytes store))
  pub put : file ≡ split_file base s piece

-- The file with the store whose binding is known before the store is one.
abbrev pub FileIsBuiltAt : Type 0
FileIsBuiltAt = (hash : List ℕ → List ℕ) (c : Content) (message base piece : List ℕ) (s : Split)
    → HasDigestLen (new_alg c.definition) hash → CanPutAt c (length message) base s
    → split_piece s (tree_bytes (content_store hash c message base s)) ≡ Some piece
    → IsBuiltAt hash c message base s (split_file base s piece) (content_len s c (length message))

-- No other file is built so, nor in another range.
abbrev pub FileAtSplitIsOne : Type 0
FileAtSplitIsOne = (hash : List ℕ → List ℕ) (c : Content) (message base piece : List ℕ) (s : Split) (file : List ℕ)
    (len : ℕ)
    → HasDigestLen (new_alg c.definition) hash → CanPutAt c (length message) base s
    → split_piece s (tree_bytes (content_store hash c message base s)) ≡ Some piece
    → IsBuiltAt hash c message base s file len
    → (file ≡ split_file base s piece) × (len ≡ content_len s c (length message))
