use Rattle.std.proofs.Common.{rules, string_bytes}
use Rattle.c2_texts.proofs.Pieces.{assertions_written}
use Rattle.c2_texts.proofs.claims.push_assertions.Goals as goal

-- what was written is the array of the created entries and then the gathered ones
pub returns : goal.returns
returns c =
    assertions_written c.args.claim.now.created c.args.claim.now.gathered (string_bytes c.args.out.now)
    (string_bytes c.push_str.new.self) (string_bytes c.push_entries.new.out) (string_bytes c.push_entries-2.new.out)
    (string_bytes c.push.new.self)
    c.in_ok-later.later c.in_ok-push_entries.field-0 c.in_ok-push_str.ensures.bytes (search rules) (search rules)
    (search rules)
