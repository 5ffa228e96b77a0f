use Rattle.std.proofs.Common.{◌∙◌, ◌-◌, option_map, Some, length, sym, ap, refl}
use Rattle.c2_bmff_paths.proofs.PathLemmas.{nth_between, two_or_more}
use Rattle.c2_bmff_paths.proofs.paths.nth_in.Goals as goal

-- of a text in brackets, the number is the one that the digits between them write
pub returns : goal.returns
returns c =
    ap (option_map Some) c.in_ok-number.ensures
    ∙ sym
    (nth_between c.args.text.now (length c.args.text.now - 1) (two_or_more (length c.args.text.now) (sym c.is_empty.ensures ∙ c.if-is_empty.false) c.if-text-eq1.false) refl c.if-text-ne91.false c.if-text-last-ne93.false)
