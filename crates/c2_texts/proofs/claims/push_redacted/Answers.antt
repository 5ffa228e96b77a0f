use Rattle.std.proofs.Common.{codes, map, rules, string_bytes}
use Rattle.serde_json.specs.Data.{string}
use Rattle.c2_texts.proofs.Pieces.{array_written}
use Rattle.c2_texts.proofs.claims.push_redacted.Goals as goal

-- what was written is the array of the URIs that the claim redacts
pub returns : goal.returns
returns c =
    array_written (codes ",\"redacted\":") (string_bytes c.args.out.now) (string_bytes c.push_str.new.self)
    (string_bytes c.push_texts.new.out) (string_bytes c.push.new.self) (map string c.args.texts.now)
    c.in_ok-push_str.ensures.bytes c.in_ok-push_texts.ensures (search rules)
