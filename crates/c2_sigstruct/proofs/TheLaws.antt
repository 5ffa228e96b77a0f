-- The laws of this crate, for the proofs of the crates above it.
use Rattle.c2_cbor_spec.proofs.TheLaws.{sorting_keeps_the_length}
use Rattle.c2_sigstruct.proofs.Messages.{message_or}
use Rattle.c2_sigstruct.proofs.Padding.{padded_length}
use Rattle.c2_sigstruct.proofs.Respelled.{padded_is_read}
use Rattle.c2_sigstruct.proofs.Unpadded.{padding_alone}
use Rattle.c2_sigstruct.specs.Padded.{PaddedIsRead, PaddingAddsItsCost, PaddingIsAllThatIsAdded}
use Rattle.c2_spec.specs.C2pa.Sign1.{IsMessage, SignParts}
use Rattle.c2_spec.specs.Cbor.Item.{Item}
use Rattle.std.specs.Prelude.{◌⊎◌}

-- an item is a message, with its parts, or is none
pub each_item_is_a_message_or_not : (v : Item)
    → ((parts : SignParts) × IsMessage v parts) ⊎ ((parts : SignParts) → IsMessage v parts → ⊥)
each_item_is_a_message_or_not = message_or

-- a message that can be padded is longer by what its fill costs, and is read again
pub padded_messages_are_read_longer : PaddingAddsItsCost
padded_messages_are_read_longer = padded_length sorting_keeps_the_length

-- a message that can be padded is longer by what its fill costs, and is read again
pub padded_messages_are_read_read : PaddedIsRead
padded_messages_are_read_read = padded_is_read

-- a message that can be padded is longer by what its fill costs, and is read again
pub padded_messages_are_read_same : PaddingIsAllThatIsAdded
padded_messages_are_read_same = padding_alone
