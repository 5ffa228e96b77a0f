use Rattle.std.proofs.Common.{◌∙◌, ap, ℕ, List, ◌++◌, codes, map, rules, string_bytes}
use Rattle.serde_json.specs.Data.{array, string}
use Rattle.serde_json.specs.View.{items_of}
use Rattle.serde_json.specs.Written.{compact_text}
use Rattle.c2_texts.proofs.Pieces.{claim_written}
use Rattle.c2_texts.proofs.claims.push_claim.Goals as goal

-- what was written is the text of the claim
pub returns : goal.returns
returns c =
    claim_written c.args.claim.now (string_bytes c.args.out.now) (string_bytes c.push_text_or_null.new.out)
    (string_bytes c.push_assertions.new.out) (string_bytes c.push_text_or_null-2.new.out)
    (string_bytes c.push_redacted.new.out) (string_bytes c.push.new.self)
    c.in_ok-push_text_or_null.ensures c.in_ok-push_assertions.ensures
    c.in_ok-push_text_or_null-2.ensures
    (c.in_ok-push_redacted.ensures ∙ ap (λ (x : List (List ℕ)). string_bytes c.push_text_or_null-2.new.out ++ (codes ",\"redacted\":" ++ compact_text (array (items_of (map string x))))) c.as_slice.ensures)
    (search rules)
