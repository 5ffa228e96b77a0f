use Rattle.std.proofs.Common.{rules}
use Rattle.c2_jumbf.proofs.WritingLemmas.{super_grown}
use Rattle.c2_jumbf.proofs.writing.super_of.Goals as goal

pub returns : goal.returns
returns c = super_grown c.args.total c.args.own c.args.uuid c.args.label.now c.args.contents.now _ _ _ _ _ _ _ _ _ _ _ _ _ _ (search rules) c.requires.own c.requires.total
    c.in_ok-superbox.ensures.items c.in_ok-extend_from_slice.ensures.items c.to_be_bytes.ensures
    c.in_ok-extend_from_slice-2.ensures.items c.to_be_bytes-2.ensures c.in_ok-extend_from_slice-3.ensures.items
    c.to_be_bytes-3.ensures
    c.in_ok-extend_from_slice-4.ensures.items c.to_be_bytes-4.ensures c.in_ok-extend_from_slice-5.ensures.items
    c.in_ok-push.ensures.items (rw c.as_bytes.ensures.value at c.in_ok-extend_from_slice-6.ensures.items)
    c.in_ok-push-2.ensures.items c.in_ok-extend_from_slice-7.ensures.items
