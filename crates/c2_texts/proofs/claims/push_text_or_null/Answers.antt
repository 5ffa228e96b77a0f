use Rattle.std.proofs.Common.{◌++◌, OnOk, subst}
use Rattle.serde_json.specs.Data.{Data}
use Rattle.serde_json.specs.Written.{compact_text}
use Rattle.c2_texts.specs.Items.{Appends}
use Rattle.c2_texts.proofs.claims.push_text_or_null.Goals as goal

-- what was written is the text of the value that was made of the text that may be missing
pub returns : goal.returns
returns c =
    subst
    (λ (v : Data). OnOk c.push_value.result (Appends c.args.out.now c.push_value.new.out (c.args.before.now ++ compact_text v)))
    c.in_ok-value.ensures c.push_value.ensures
