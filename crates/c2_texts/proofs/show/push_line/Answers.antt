use Rattle.std.proofs.Common.{rules, string_bytes}
use Rattle.c2_texts.proofs.Pieces.{line_written}
use Rattle.c2_texts.proofs.show.push_line.Goals as goal

-- what was written is the line of these manifests
pub returns : goal.returns
returns c =
    line_written c.args.chain.now.manifests c.args.chain.now.claims (string_bytes c.args.out.now)
    (string_bytes c.push_active.new.out) (string_bytes c.push_str.new.self) (string_bytes c.push_manifests.new.out)
    (string_bytes c.push_str-2.new.self)
    (search rules) c.in_ok-push_str.ensures.bytes c.in_ok-push_manifests.ensures c.in_ok-push_str-2.ensures.bytes
