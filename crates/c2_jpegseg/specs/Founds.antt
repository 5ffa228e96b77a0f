-- What is so of an answer to where a store is, whatever is known of the file's bytes.
use Rattle.std.specs.Prelude.{ℕ, ◌<◌, IfSome, Option}
use Rattle.c2_base.specs.declared.limits.TheConstants.{FILE_LEN_LIMIT}
use Rattle.c2_base.specs.declared.media.Found.{Found}
use Rattle.c2_spec.specs.Jpeg.Store.{EndsWithin, HasSmallStore}

-- This was found in a file of `len` bytes.
pub record IsFoundIn (len : ℕ) (found : Option Found) : Type 0 where
  -- the file isn't too large
  pub small : len < FILE_LEN_LIMIT
  -- the range of a store ends in it
  pub range : IfSome found (EndsWithin len)
  -- a store isn't too large
  pub store : IfSome found HasSmallStore
