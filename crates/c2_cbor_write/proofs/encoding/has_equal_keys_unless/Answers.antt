use Rattle.c2_spec.specs.Cbor.View.{view}
use Rattle.c2_cbor_write.proofs.PlainKeys.{plain_distinct}
use Rattle.c2_cbor_write.proofs.encoding.has_equal_keys_unless.Goals as goal

pub returns-then-is_plain-clause-no : goal.returns-then-is_plain-clause-no
returns-then-is_plain-clause-no c = λ fine b. plain_distinct (view c.args.item.now) (c.requires c.if-is_plain.true)
