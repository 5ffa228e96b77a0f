-- The laws of this crate, for the proofs of the crates above it.
use Rattle.c2_new_file_spec.proofs.Accepted.{accepted, first_refused}
use Rattle.c2_new_file_spec.proofs.FirstRefused.{first_redaction_is_least}
use Rattle.c2_new_file_spec.proofs.Ones.{base_is, content_one, parent_one}
use Rattle.c2_new_file_spec.proofs.Taken.{all_carried, read_less, whole_stays}
use Rattle.c2_new_file_spec.proofs.Valid.{carried_less, some_content}
use Rattle.c2_new_file_spec.specs.Carrying.{BaseHasNoStore, ContentIsOne, FirstIsRefused, ParentIsOne, RedactionsAreAccepted, SomeContentOver, ValidStoreIsCarried}
use Rattle.c2_new_file_spec.specs.Less.{AllAreCarried, RedactedStoreIsRead, WholeStays}
use Rattle.c2_new_file_spec.specs.Refusing.{FirstRedactionIsLeast}

-- the boxes of a store are legal and have the same labels without the assertions that redactions name, and are read as before, less those boxes
pub a_redacted_store_is_read_less : RedactedStoreIsRead
a_redacted_store_is_read_less = read_less

-- the boxes of a store are legal and have the same labels without the assertions that redactions name, and are read as before, less those boxes
pub a_redacted_store_is_read_stays : WholeStays
a_redacted_store_is_read_stays = whole_stays

-- the boxes of a store are legal and have the same labels without the assertions that redactions name, and are read as before, less those boxes
pub a_redacted_store_is_read_all : AllAreCarried
a_redacted_store_is_read_all = all_carried

-- redactions of which none is refused may be made, and the rules on redactions hold of them
pub redactions_that_pass_may_be_made_pass : RedactionsAreAccepted
redactions_that_pass_may_be_made_pass = accepted

-- redactions of which none is refused may be made, and the rules on redactions hold of them
pub redactions_that_pass_may_be_made_none : FirstIsRefused
redactions_that_pass_may_be_made_none = first_refused

-- the parent of a new manifest is one, and so is all that goes into a new store over an older one
pub what_is_taken_over_is_one_parent : ParentIsOne
what_is_taken_over_is_one_parent = parent_one

-- the parent of a new manifest is one, and so is all that goes into a new store over an older one
pub what_is_taken_over_is_one_content : ContentIsOne
what_is_taken_over_is_one_content = content_one

-- a JPEG file less the range of its store is a JPEG file in which no segment begins a store
pub a_base_has_no_store : BaseHasNoStore
a_base_has_no_store = base_is

-- a valid store is taken over by a new one whose label it doesn't have, where there is room for one more manifest and no redaction is refused
pub a_valid_store_is_carried_carried : ValidStoreIsCarried
a_valid_store_is_carried_carried = carried_less

-- a valid store is taken over by a new one whose label it doesn't have, where there is room for one more manifest and no redaction is refused
pub a_valid_store_is_carried_some : SomeContentOver
a_valid_store_is_carried_some = some_content

-- of redactions the first that is refused is answered, in their order, and by the first of its tests that fails
pub the_first_redaction_refused_is_the_least : FirstRedactionIsLeast
the_first_redaction_refused_is_the_least = first_redaction_is_least
