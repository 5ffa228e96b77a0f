use Rattle.std.proofs.Common.{refl, rules, append_assoc}
use Rattle.c2_texts.proofs.Plain.{plain_text}
use Rattle.c2_texts.proofs.json.push_text.Goals as goal

-- a text that is plain was written as it stands in JSON
pub returns : goal.returns
returns c =
    let plain = plain_text c.args.text.now (search rules) in
    rw plain (simp (c.in_ok-push_quoted.ensures, c.in_ok-push_str.ensures.bytes, append_assoc) refl)
