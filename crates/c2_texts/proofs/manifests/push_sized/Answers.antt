use Rattle.std.proofs.Common.{◌++◌, ap, ◌∙◌, rules, string_bytes}
use Rattle.c2_texts.proofs.Pieces.{sized_written}
use Rattle.c2_texts.proofs.manifests.push_sized.Goals as goal

-- what was written is the text of a box with this label and this size, behind a comma or nothing
pub returns : goal.returns
returns c =
    sized_written c.args.size c.args.label.now c.args.before (string_bytes c.args.out.now)
    (string_bytes c.push_str.new.self) (string_bytes c.push_text.new.out) (string_bytes c.write.new.self)
    (c.in_ok-push_str.ensures.bytes ∙ ap (λ x. string_bytes c.args.out.now ++ x) c.comma.ensures)
    c.in_ok-push_text.ensures (search rules)
