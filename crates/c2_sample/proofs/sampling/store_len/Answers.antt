use Rattle.std.proofs.Common.{refl, ap, length, subst}
use Rattle.c2_opening.specs.Opened.{IsFound, located_of}
use Rattle.c2_opening.specs.declared.types.Opened.TheVariants as opened
use Rattle.c2_base.specs.InMemory.{sure_bytes}
use Rattle.c2_sample.proofs.Faultless.{search_error}
use Rattle.c2_sample.proofs.sampling.store_len.Goals as goal

-- the store that was found has this length
pub returns-in-Ok-Here-clause-length : goal.returns-in-Ok-Here-clause-length
returns-in-Ok-Here-clause-length c =
    let found =
    subst (IsFound (sure_bytes c.args.source.now)) c.in-Ok-Here.field-0-is
    (c.in-Ok-Here.ensures.found (sure_bytes c.args.source.now) refl) in
    (located_of (opened.Here c.in-Ok-Here.media), found.located, ap length c.as_slice.ensures.value)

-- a file that is refused has none
pub returns-in-Ok-Refused-clause-length : goal.returns-in-Ok-Refused-clause-length
returns-in-Ok-Refused-clause-length c =
    let found =
    subst (IsFound (sure_bytes c.args.source.now)) c.in-Ok-Refused.field-0-is
    (c.in-Ok-Refused.ensures.found (sure_bytes c.args.source.now) refl) in
    (located_of (opened.Refused c.in-Ok-Refused.field-0-0 c.in-Ok-Refused.field-0-1), found.located, refl)

-- no error of the search is a fault
pub out_of_memory-requires : goal.out_of_memory-requires
out_of_memory-requires c = search_error c.in-Err.error c.in-Err.ensures.cause
