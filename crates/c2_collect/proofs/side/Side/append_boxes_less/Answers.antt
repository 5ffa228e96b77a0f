use Rattle.std.proofs.Common.{◌≡◌, ◌++◌, ap, subst, OnOk}
use Rattle.c2_spec.specs.Jumbf.Tree.{Trees, trees_bytes}
use Rattle.c2_new_file_spec.specs.Redacting.{redacted_boxes}
use Rattle.c2_collect.specs.Marked.{MarkedStore}
use Rattle.c2_collect.proofs.side.Side.append_boxes_less.Goals as goal

pub returns : goal.returns
returns c =
    subst
    (λ (boxes : Trees). OnOk c.append_carried.result (c.append_carried.new.out.items ≡ c.args.out.now.items ++ trees_bytes (redacted_boxes c.args.redactions.now boxes)))
    (ap (λ (v : MarkedStore). v.boxes) c.self.view_is) c.append_carried.ensures
