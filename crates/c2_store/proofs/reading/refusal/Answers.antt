use Rattle.std.proofs.Common.{sym, ◌∙◌}
use Rattle.c2_store.proofs.Refusing.{store_bad, store_is}
use Rattle.c2_store.proofs.reading.refusal.Goals as goal

pub returns-then-is_store : goal.returns-then-is_store
returns-then-is_store c =
    store_is c.args.tree.now c.args.boxes.now c.bad_inside.result c.requires.are
    (sym c.is_store.ensures ∙ c.if-is_store.true) c.bad_inside.ensures

pub returns : goal.returns
returns c = store_bad c.args.tree.now (sym c.is_store.ensures ∙ c.if-is_store.false)
