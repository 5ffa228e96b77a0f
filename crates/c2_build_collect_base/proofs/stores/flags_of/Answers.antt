use Rattle.std.proofs.Common.{◌≡◌, length, arith}
use Rattle.c2_build_collect_base.proofs.Flags.{all_flags, flags_more}
use Rattle.c2_build_collect_base.proofs.stores.flags_of.Goals as goal

pub loop-i-preserved : goal.loop-i-preserved
loop-i-preserved c =
    flags_more c.args.chain.now.readings c.loop-i.i c.loop-i.flags.items c.push_flag.new.flags.items c.reached.result
    c.loop-i.invariant c.reached.ensures.value c.in_ok-push_flag.ensures

pub returns : goal.returns
returns c =
    let end : c.loop-i.i ≡ length c.args.chain.now.readings =
    omega (arith, c.loop-i-test.false, c.loop-i.auto.i-end, c.manifest_count-i-end.ensures.read) in
    all_flags c.args.chain.now.readings c.loop-i.i c.loop-i.flags.items c.requires c.loop-i.invariant end
