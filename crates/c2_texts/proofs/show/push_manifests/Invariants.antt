use Rattle.std.proofs.Common.{◌≡◌, ◌++◌, false, length, drop, string_bytes}
use Rattle.c2_texts.specs.Items.{items_inside}
use Rattle.c2_texts.specs.Show.{manifests_data}
use Rattle.c2_texts.proofs.show.push_manifests.Given as goal

-- what is written so far and the manifests to come are all manifests behind the text of the start
abbrev pub invariant-loop-i : goal.invariant-loop-i
invariant-loop-i l = record {
  end : l.i-end ≡ length l.store;
  shown : string_bytes l.out ++ items_inside l.later (manifests_data (drop l.i l.chain.manifests) (drop l.i l.chain.claims)) ≡ string_bytes l.initial.out ++ items_inside false (manifests_data l.chain.manifests l.chain.claims);
}
