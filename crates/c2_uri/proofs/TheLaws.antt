-- The laws of this crate, for the proofs of the crates above it.
use Rattle.c2_spec.specs.C2pa.Uri.{PlainUri, uri_of, uri_text}
use Rattle.c2_uri.proofs.Spelled.{spelled}
use Rattle.c2_uri.proofs.Written.{written_read}
use Rattle.c2_uri.specs.Writing.{IsWritable}
use Rattle.std.specs.Prelude.{List, Some, ℕ, ◌≡◌}

-- a text that is read as a URI is the text of that URI
pub read_uris_are_spelled : (text : List ℕ) (u : PlainUri) → uri_of text ≡ Some u → text ≡ uri_text u
read_uris_are_spelled = spelled

-- the text of a URI that can be written is read as that URI
pub written_uris_are_read : (u : PlainUri) → IsWritable u → uri_of (uri_text u) ≡ Some u
written_uris_are_read = written_read
