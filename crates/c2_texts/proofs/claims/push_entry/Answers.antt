use Rattle.std.proofs.Common.{◌++◌, ap, ◌∙◌, rules, string_bytes}
use Rattle.c2_texts.proofs.Pieces.{entry_written}
use Rattle.c2_texts.proofs.claims.push_entry.Goals as goal

-- what was written is the text of the entry, behind a comma or nothing
pub returns : goal.returns
returns c =
    entry_written c.args.entry.now c.args.later (string_bytes c.args.out.now) (string_bytes c.push_str.new.self)
    (string_bytes c.push_text_or_null.new.out) (string_bytes c.push_hash.new.out) (string_bytes c.push_text.new.out)
    (string_bytes c.push.new.self)
    (c.in_ok-push_str.ensures.bytes ∙ ap (λ x. string_bytes c.args.out.now ++ x) c.comma.ensures)
    (search rules) (search rules) (search rules) (search rules)
