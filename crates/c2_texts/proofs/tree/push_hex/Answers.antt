use Rattle.std.proofs.Common.{rules, string_bytes, ◌++◌}
use Rattle.hex.specs.Hex.{encode_lower}
use Rattle.c2_texts.proofs.Hex.{hex_all, hex_more}
use Rattle.c2_texts.proofs.tree.push_hex.Goals as goal

-- with the digits of one byte more, those to come are fewer by it, and the whole is the same
pub loop-byte-preserved : goal.loop-byte-preserved
loop-byte-preserved c =
    hex_more c.args.bytes.now (string_bytes c.loop-byte.text) (string_bytes c.push.new.self) (string_bytes c.push-in-loop-byte.new.self) (string_bytes c.args.text.now ++ encode_lower c.args.bytes.now) c.loop-byte.byte-index
    (search rules) c.loop-byte.invariant (search rules) (search rules)

-- behind the last byte all digits are written
pub returns : goal.returns
returns c = hex_all c.args.bytes.now _ _ c.loop-byte.byte-index (search rules) c.loop-byte.invariant
