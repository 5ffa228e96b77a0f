use Rattle.std.proofs.Common.{subst, sym}
use Rattle.c2_spec.specs.Cbor.Legal.{IsLegal}
use Rattle.c2_bmff_binding.proofs.Legal.{bmff_legal}
use Rattle.c2_bmff_binding.proofs.binding.new_bmff_binding.Goals as goal

-- the item is legal
pub item_bytes-requires : goal.item_bytes-requires
item_bytes-requires c = subst IsLegal (sym c.in_ok-item.ensures) (bmff_legal c.args.alg c.args.digest.now)
