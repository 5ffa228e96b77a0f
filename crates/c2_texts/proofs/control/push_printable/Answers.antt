use Rattle.std.proofs.Common.{◌++◌, rules, string_bytes}
use Rattle.c2_compare_spec.specs.EvidenceText.{printed}
use Rattle.c2_texts.proofs.Characters.{printable_step}
use Rattle.c2_texts.proofs.control.push_printable.Goals as goal

-- the text with one printed character more, and the printable rest behind it, still are
pub loop-c-preserved : goal.loop-c-preserved
loop-c-preserved c =
    printable_step (string_bytes c.loop-c.out) (string_bytes c.push.new.self) c.loop-c.c-iterator.rest.now
    c.next.new.self.rest.now (string_bytes c.args.out.now ++ printed c.args.text.now) c.in-Some.c c.loop-c.invariant
    (search rules) (search rules)
