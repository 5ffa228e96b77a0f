use Rattle.std.proofs.Common.{◌∙◌, ◌+◌, ◌∷◌, [], List, Some, sym, ap, drop, map}
use Rattle.std.specs.Option.{option_map}
use Rattle.std.proofs.lemmas.List.{map-append}
use Rattle.c2_bmff_paths.specs.Exclusions.{byte_test}
use Rattle.c2_spec.specs.Bmff.Hash.{ByteTest, test_of}
use Rattle.c2_spec.specs.Cbor.View.{items_view}
use Rattle.c2_spec.specs.Cbor.Fields.{each_of}
use Rattle.c2_spec.proofs.CborEach.{after, each_next, each_none}
use Rattle.c2_assertion.proofs.ReadEach.{each_begins, each_ends}
use Rattle.c2_assertion.proofs.bmff_hash.byte_tests_in.Goals as goal

-- at first none is found
pub loop-item-init : goal.loop-item-init
loop-item-init c =
    each_begins (each_of test_of (items_view c.args.items.now)) (map byte_test c.new-found.result.items)
    (ap (map byte_test) c.new-found.ensures.items)

-- with the byte test of one item more
pub loop-item-preserved : goal.loop-item-preserved
loop-item-preserved c =
    let turn = c.loop-item in
    let items = c.args.items.now in
    let test = c.in-Some.test in
    each_next test_of items turn.item-index c.item-item.result (byte_test test) (map byte_test turn.found.items)
    c.loop-item-test.true c.item-item.is turn.invariant
    (sym (ap (option_map byte_test) c.in-Some.is) ∙ c.in_ok-test.ensures)
    ∙ ap (λ (ts : List ByteTest). after ts (each_of test_of (items_view (drop (turn.item-index + 1) items))))
    (sym (ap (map byte_test) c.in_ok-push.ensures.items ∙ map-append byte_test turn.found.items (test ∷ [])))

-- an item that is no byte test
pub returns-in_default : goal.returns-in_default
returns-in_default c =
    let turn = c.loop-item in
    each_none test_of c.args.items.now turn.item-index c.item-item.result (map byte_test turn.found.items)
    c.loop-item-test.true c.item-item.is turn.invariant
    (sym (ap (option_map byte_test) c.in_default.is) ∙ c.in_ok-test.ensures)

-- after the last item all are found
pub returns : goal.returns
returns c =
    ap Some c.from_list.ensures
    ∙ each_ends test_of c.args.items.now c.loop-item.item-index (map byte_test c.loop-item.found.items)
    c.loop-item-test.false c.loop-item.invariant
