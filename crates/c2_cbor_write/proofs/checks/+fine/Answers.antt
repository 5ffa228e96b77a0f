use Rattle.std.proofs.Common.{arith}
use Rattle.c2_cbor_spec.proofs.Views.{fine-Text, fine-List, fine-Map}
use Rattle.c2_cbor_write.proofs.checks.+fine.Goals as goal

pub is_fine-returns-in-Text-clause-yes : goal.is_fine-returns-in-Text-clause-yes
is_fine-returns-in-Text-clause-yes t c =
    λ yes. fine-Text c.args.item.now c.in-Text.t _ c.in-Text.is c.as_str-len.ensures.value c.as_str-len.utf8 (omega arith)

pub is_fine-returns-in-List-clause-yes : goal.is_fine-returns-in-List-clause-yes
is_fine-returns-in-List-clause-yes t c =
    λ yes. fine-List c.args.item.now c.in-List.items _ c.in-List.is c.deref.ensures.value (omega arith) (c.items_fine.ensures.yes yes)

pub is_fine-returns-in-Map-clause-yes : goal.is_fine-returns-in-Map-clause-yes
is_fine-returns-in-Map-clause-yes t c =
    λ yes. fine-Map c.args.item.now c.in-Map.pairs _ c.in-Map.is c.deref-in-Map.ensures.value (omega arith) (c.pairs_fine.ensures.yes yes)
