-- What the test for a text says.
use Rattle.std.proofs.Common.{◌≡◌, ℕ, true, List, ap}
use Rattle.std.proofs.lemmas.Slice.Eq.{bytes_eq-Decides}
use Rattle.c2_spec.specs.Cbor.Item.{Item, uint, nint, bytes, text, list, dict, tag, simple, half, single, double}
use Rattle.c2_spec.specs.Cbor.Lookup.{is_text}

-- an item for which the test for a text holds is this text
pub text_is : (key : List ℕ) (v : Item) → is_text key v ≡ true → v ≡ text key
text_is key (text t) e = ap text ((bytes_eq-Decides t key).0 e)
text_is key (uint n) e = absurd cc
text_is key (nint n) e = absurd cc
text_is key (bytes b) e = absurd cc
text_is key (list vs) e = absurd cc
text_is key (dict ps) e = absurd cc
text_is key (tag n v) e = absurd cc
text_is key (simple a) e = absurd cc
text_is key (half n) e = absurd cc
text_is key (single n) e = absurd cc
text_is key (double n) e = absurd cc
