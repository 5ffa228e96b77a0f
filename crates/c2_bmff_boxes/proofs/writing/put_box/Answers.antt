use Rattle.std.proofs.Common.{◌++◌, refl, sym}
use Rattle.std.proofs.lemmas.Result.{err_from_is_err_and}
use Rattle.c2_spec.specs.Bmff.Store.{c2pa_user_type}
use Rattle.c2_bmff_boxes.specs.Appends.{before_store}
use Rattle.c2_copying.proofs.Appending.{follows, same, stops}
use Rattle.c2_bmff_boxes.proofs.Appending.{box_split}
use Rattle.c2_bmff_boxes.proofs.writing.put_box.Goals as goal

-- the header fails
pub returns-in_err-put : goal.returns-in_err-put
returns-in_err-put g c =
    let total = box_split c.header_of.result c.args.store.now c.header_of.ensures in
    let p = err_from_is_err_and c.from_residual.result c.from_residual.ensures.1 in
    same g.K.Sink.written g.K.Sink.spare g.K.Sink.finished g.K.Sink.faults _ _ _ _ _ _ total (sym p.1)
    (stops g.K.Sink.written g.K.Sink.spare g.K.Sink.finished g.K.Sink.faults c.header_of.result (c2pa_user_type ++ (before_store ++ c.args.store.now)) _ _ _ _ c.in_err-put.ensures)

-- the user type fails
pub returns-in_err-put-2 : goal.returns-in_err-put-2
returns-in_err-put-2 g c =
    let total = box_split c.header_of.result c.args.store.now c.header_of.ensures in
    let p = err_from_is_err_and c.from_residual-in_err-put-2.result c.from_residual-in_err-put-2.ensures.1 in
    same g.K.Sink.written g.K.Sink.spare g.K.Sink.finished g.K.Sink.faults _ _ _ _ _ _ total (sym p.1) (follows g.K.Sink.written g.K.Sink.spare g.K.Sink.finished g.K.Sink.faults c.header_of.result (c2pa_user_type ++ (before_store ++ c.args.store.now)) _ _ _ _ _ c.in_ok-put.ensures
    (stops g.K.Sink.written g.K.Sink.spare g.K.Sink.finished g.K.Sink.faults c2pa_user_type (before_store ++ c.args.store.now) _ _ _ _ c.in_err-put-2.ensures))

-- what stands before the store fails
pub returns-in_err-put-3 : goal.returns-in_err-put-3
returns-in_err-put-3 g c =
    let total = box_split c.header_of.result c.args.store.now c.header_of.ensures in
    let p = err_from_is_err_and c.from_residual-in_err-put-3.result c.from_residual-in_err-put-3.ensures.1 in
    same g.K.Sink.written g.K.Sink.spare g.K.Sink.finished g.K.Sink.faults _ _ _ _ _ _ total (sym p.1) (follows g.K.Sink.written g.K.Sink.spare g.K.Sink.finished g.K.Sink.faults c.header_of.result (c2pa_user_type ++ (before_store ++ c.args.store.now)) _ _ _ _ _ c.in_ok-put.ensures
    (follows g.K.Sink.written g.K.Sink.spare g.K.Sink.finished g.K.Sink.faults c2pa_user_type (before_store ++ c.args.store.now) _ _ _ _ _ c.in_ok-put-2.ensures
    (stops g.K.Sink.written g.K.Sink.spare g.K.Sink.finished g.K.Sink.faults before_store c.args.store.now _ _ _ _ c.in_err-put-3.ensures)))

-- the store fails
pub returns-in_err-put-4 : goal.returns-in_err-put-4
returns-in_err-put-4 g c =
    let total = box_split c.header_of.result c.args.store.now c.header_of.ensures in
    let p = err_from_is_err_and c.from_residual-in_err-put-4.result c.from_residual-in_err-put-4.ensures.1 in
    same g.K.Sink.written g.K.Sink.spare g.K.Sink.finished g.K.Sink.faults _ _ _ _ _ _ total (sym p.1) (follows g.K.Sink.written g.K.Sink.spare g.K.Sink.finished g.K.Sink.faults c.header_of.result (c2pa_user_type ++ (before_store ++ c.args.store.now)) _ _ _ _ _ c.in_ok-put.ensures
    (follows g.K.Sink.written g.K.Sink.spare g.K.Sink.finished g.K.Sink.faults c2pa_user_type (before_store ++ c.args.store.now) _ _ _ _ _ c.in_ok-put-2.ensures
    (follows g.K.Sink.written g.K.Sink.spare g.K.Sink.finished g.K.Sink.faults before_store c.args.store.now _ _ _ _ _ c.in_ok-put-3.ensures c.in_err-put-4.ensures)))

-- all four were appended
pub returns : goal.returns
returns g c =
    let total = box_split c.header_of.result c.args.store.now c.header_of.ensures in
    same g.K.Sink.written g.K.Sink.spare g.K.Sink.finished g.K.Sink.faults _ _ _ _ _ _ total refl (follows g.K.Sink.written g.K.Sink.spare g.K.Sink.finished g.K.Sink.faults c.header_of.result (c2pa_user_type ++ (before_store ++ c.args.store.now)) _ _ _ _ _ c.in_ok-put.ensures
    (follows g.K.Sink.written g.K.Sink.spare g.K.Sink.finished g.K.Sink.faults c2pa_user_type (before_store ++ c.args.store.now) _ _ _ _ _ c.in_ok-put-2.ensures
    (follows g.K.Sink.written g.K.Sink.spare g.K.Sink.finished g.K.Sink.faults before_store c.args.store.now _ _ _ _ _ c.in_ok-put-3.ensures c.in_ok-put-4.ensures)))
