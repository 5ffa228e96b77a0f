use Rattle.std.proofs.Common.{rules, string_bytes}
use Rattle.c2_texts.proofs.Pieces.{manifest_more}
use Rattle.c2_texts.proofs.show.push_manifests.Goals as goal

-- with one manifest written, the rest to come is shorter by it, and the whole is the same
pub loop-i-preserved : goal.loop-i-preserved
loop-i-preserved c = record {
  end = c.loop-i.invariant.end;
  shown = manifest_more c.args.tree.now c.args.store.now c.args.chain.now.manifests c.args.chain.now.claims c.loop-i.i _ (string_bytes c.loop-i.out) (string_bytes c.push_str.new.self) (string_bytes c.push_manifest.new.out) _ c.loop-i.later
      c.requires.same.same c.requires.manifests c.claim_of.ensures.value (search rules) c.in_ok-push_manifest.ensures c.loop-i.invariant.shown;
}
