use Rattle.std.proofs.Common.{Option, Ok, sym, ap, ◌∙◌, subst}
use Rattle.c2_base.specs.declared.media.Found.{Found}
use Rattle.c2_spec.specs.Bmff.Store.{HasBmffStore}
use Rattle.c2_bmff_boxes.specs.Search.{IsStoreOr}
use Rattle.c2_without_store.specs.Clears.{ClearsTo, clearing_in, root_clearing}
use Rattle.c2_without_store.specs.declared.clearing.Clearing.{Clearing}
use Rattle.c2_without_store.proofs.Clearings.{clears_store}
use Rattle.c2_without_store.proofs.clearing.clearing_of.Goals as goal

-- by the rows
pub returns-clause-is : goal.returns-clause-is
returns-clause-is c =
    c.clearing_in.ensures ∙ ap (clearing_in c.in-Some.store.start) c.as_slice.ensures.boxes
    ∙ ap (λ (o : Option Found). root_clearing o c.args.roots.now) (sym c.in-Some.is)

-- a file with a store is cleared of the box that was found
pub returns-clause-clears : goal.returns-clause-clears
returns-clause-clears c = λ file roots found.
    let store = c.in-Some.store in
    let has : HasBmffStore file store.start store.length store.store =
    subst (λ (o : Option Found). IsStoreOr file (Ok o)) c.in-Some.is found in
    let how = c.clearing_in.ensures ∙ ap (clearing_in store.start) c.as_slice.ensures.boxes in
    subst (λ (x : Clearing). ClearsTo file x) (sym how)
    (clears_store file c.args.roots.now store.start store.length store.store roots has)
