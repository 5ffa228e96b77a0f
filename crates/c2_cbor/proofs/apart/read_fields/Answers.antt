use Rattle.std.proofs.Common.{◌≡◌, ◌++◌, ◌∷◌, suc, length, [], refl, ap, ◌∙◌, sym, subst, arith, ◌<◌}
use Rattle.std.proofs.lemmas.List.{map_push, length_push}
use Rattle.std.specs.Option.{option_or}
use Rattle.c2_spec.specs.Cbor.Item.{Item}
use Rattle.c2_spec.specs.Cbor.Deterministic.{preferred}
use Rattle.c2_spec.specs.Cbor.View.{view}
use Rattle.c2_spec.specs.declared.cbor.Cbor.{Cbor, Simple}
use Rattle.c2_cbor.specs.Apart.{pairs_with, whole_value}
use Rattle.c2_cbor_spec.specs.Reading.{is_known, with_key, pairs, pairs_seen, item_at}
use Rattle.c2_cbor_spec.specs.Tracking.{keys_of, first_equal}
use Rattle.c2_cbor.proofs.HeldApart.{IsThere, apart_on, there_on}
use Rattle.c2_cbor.proofs.KeyFaults.{until_none, until_first, until_next, until_key}
use Rattle.c2_cbor.proofs.Loops.{pairs_on, pairs_wrong, pairs_wrong_value, pairs_out, pairs_same}
use Rattle.c2_cbor_spec.proofs.Shorter.{under_ok, item_at-under}
use Rattle.c2_cbor_spec.proofs.Tracks.{keys_push}
use Rattle.c2_cbor.proofs.apart.read_fields.Goals as goal

pub returns-in-Some : goal.returns-in-Some
returns-in-Some c =
    let total =
    pairs is_known (item_at is_known c.args.levels) (suc (length c.args.bytes.now)) c.args.count [] c.args.bytes.now in
    pairs_out is_known (item_at is_known c.args.levels) (item_at-under is_known c.args.levels) total
    (pairs_with c.args.name.now c.loop-after.texts (pairs_seen c.loop-after.found.items)) (keys_of c.loop-after.found.items) c.loop-after.rest.now c.loop-after.due c.in-Some.after.now (sym c.in-Some.ensures)
    (until_none c.loop-after.found.items _ c.loop-after.places.items total _ c.as_slice.ensures.value c.in_ok-check_keys-in-Some.ensures.distinct c.loop-after.invariant.0)

pub returns-in-Err : goal.returns-in-Err
returns-in-Err c =
    let total =
    pairs is_known (item_at is_known c.args.levels) (suc (length c.args.bytes.now)) c.args.count [] c.args.bytes.now in
    let found = c.loop-after.found.items in
    let whole = pairs_with c.args.name.now c.loop-after.texts (pairs_seen found) in
    until_first found _ c.loop-after.places.items total _ c.as_slice-in-Err.ensures.value _ c.in-Err.e _
    c.as_slice-in-Err-2.ensures.value c.first_fault.ensures
    (pairs_wrong is_known (item_at is_known c.args.levels) (item_at-under is_known c.args.levels) total whole (keys_of found) c.loop-after.rest.now c.loop-after.due c.in-Err.e (sym c.in-None.ensures) c.in-Err.ensures)
    c.loop-after.invariant.0

pub returns-in-Err-read_value : goal.returns-in-Err-read_value
returns-in-Err-read_value c =
    let total =
    pairs is_known (item_at is_known c.args.levels) (suc (length c.args.bytes.now)) c.args.count [] c.args.bytes.now in
    let item = item_at is_known c.args.levels in
    let under = item_at-under is_known c.args.levels in
    let found = c.loop-after.found.items in
    let whole = pairs_with c.args.name.now c.loop-after.texts (pairs_seen found) in
    let later = found ++ (c.in-Ok.read.0, Simple 22) ∷ [] in
    let key = until_key item under total whole found later (c.in-Ok.read.0, Simple 22) refl
    c.loop-after.places.items c.push.new.self.items c.loop-after.rest.now c.loop-after.due c.in-Ok.read.1.now
    c.in_ok-push.ensures.items c.loop-after.invariant.1 (sym c.in-None.ensures) c.in-Ok.ensures
    c.loop-after.invariant.0 in
    until_first later later c.push.new.self.items total _ refl _ c.in-Err-read_value.e _ c.as_slice-kept.ensures.value
    c.first_fault_after.ensures
    (λ go. pairs_wrong_value is_known item under total whole (keys_of found) c.loop-after.rest.now c.loop-after.due c.in-Err-read_value.e (view c.in-Ok.read.0) c.in-Ok.read.1.now (sym c.in-None.ensures) c.in-Ok.ensures go.1 c.in-Err-read_value.ensures.value go.0)
    key

pub loop-after-smaller : goal.loop-after-smaller
loop-after-smaller c =
    let first : length c.in-Ok.read.1.now < length c.loop-after.rest.now =
    under_ok _ (item_at is_known c.args.levels c.loop-after.rest.now) _ _ c.in-Ok.ensures
    (item_at-under is_known c.args.levels c.loop-after.rest.now) in
    let second : length c.in-Ok-read_value.read.1.now < length c.in-Ok.read.1.now =
    under_ok _ (item_at is_known c.args.levels c.in-Ok.read.1.now) _ _ c.in-Ok-read_value.ensures.value
    (item_at-under is_known c.args.levels c.in-Ok.read.1.now) in
    omega (arith, first, second)

pub loop-after-preserved : goal.loop-after-preserved
loop-after-preserved c =
    let total =
    pairs is_known (item_at is_known c.args.levels) (suc (length c.args.bytes.now)) c.args.count [] c.args.bytes.now in
    let item = item_at is_known c.args.levels in
    let under = item_at-under is_known c.args.levels in
    let name = c.args.name.now in
    let found = c.loop-after.found.items in
    let later = c.push_member.new.members.items in
    let value = c.in-Ok-read_value.read.0 in
    let k : Item = view c.in-Ok.read.0 in
    let texts = option_or c.loop-after.texts value.texts in
    let p : Cbor × Cbor = (c.in-Ok.read.0, value.item) in
    let pushed : later ≡ found ++ p ∷ [] = c.in_ok-push_member.ensures in
    let e : pairs_seen later ≡ pairs_seen found ++ (k, view value.item) ∷ [] =
    ap pairs_seen pushed ∙ map_push (λ q. (view q.0, view q.1)) found p in
    let keys : keys_of later ≡ with_key (keys_of found) (preferred k) = keys_push found later p pushed in
    let key = until_key item under total (pairs_with name c.loop-after.texts (pairs_seen found)) found later p pushed
    c.loop-after.places.items c.push.new.self.items c.loop-after.rest.now c.loop-after.due c.in-Ok.read.1.now c.in_ok-push.ensures.items c.loop-after.invariant.1 (sym c.in-None.ensures) c.in-Ok.ensures c.loop-after.invariant.0 in
    rw (c.or-texts.ensures) (
      until_next (first_equal later) c.push.new.self.items total _ _ (λ go.
          pairs_same is_known item under total _ _ _ _ c.in-Ok-read_value.read.1.now _ _
          (ap (pairs_with name texts) e ∙ apart_on name k (view value.item) found c.loop-after.texts value.texts c.is_wanted-wanted.result c.is_wanted-wanted.ensures c.in-Ok-read_value.ensures.wanted c.loop-after.invariant.2 go.1)
          keys c.one_fewer-due.ensures (pairs_on is_known item under total
          (pairs_with name c.loop-after.texts (pairs_seen found)) (keys_of found) c.loop-after.rest.now c.loop-after.due
          k (whole_value (view value.item) value.texts) c.in-Ok.read.1.now c.in-Ok-read_value.read.1.now
          (sym c.in-None.ensures) c.in-Ok.ensures go.1 c.in-Ok-read_value.ensures.value go.0)) key,
      omega (arith, ap length pushed, length_push found p, ap length c.in_ok-push.ensures.items, length_push c.loop-after.places.items (length c.loop-after.rest.now), c.loop-after.invariant.1),
      subst (λ ps. IsThere name texts ps) (sym e) (there_on name k (view value.item) found c.loop-after.texts value.texts c.is_wanted-wanted.result c.is_wanted-wanted.ensures c.in-Ok-read_value.ensures.wanted c.loop-after.invariant.2),
    )
