-- Texts of letters are UTF-8, as the names of algorithms are.
use Rattle.std.proofs.Common.{◌≡◌, ℕ, true, List, refl, codes}
use Rattle.std.specs.List.{list_all}
use Rattle.std.specs.Str.{IsUtf8}
use Rattle.c2_spec.specs.Digest.{alg_name}
use Rattle.c2_spec.specs.declared.digest.Alg.TheVariants.{Sha256, Sha384, Sha512}
use Rattle.c2_spec.specs.declared.digest.Alg.{Alg}
use Rattle.c2_new_file_spec.proofs.BoxLemmas.{is_plain_byte, plain_label}

-- a text of letters
pub plain_text : (t : List ℕ) → list_all is_plain_byte t ≡ true → IsUtf8 t
plain_text t h = (plain_label t h).0

-- the name of an algorithm is UTF-8
pub name_utf8 : (alg : Alg) → IsUtf8 (alg_name alg)
name_utf8 Sha256 = plain_text (codes "sha256") refl
name_utf8 Sha384 = plain_text (codes "sha384") refl
name_utf8 Sha512 = plain_text (codes "sha512") refl
