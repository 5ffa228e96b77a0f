use Rattle.c2_cover.proofs.TheLaws.{each_text_has_its_count}
use Rattle.c2_cover.proofs.laws.each_text_has_its_count.Goals as goal

pub returns : goal.returns
returns c = each_text_has_its_count
