use Rattle.std.proofs.Common.{refl, ap, ◌∙◌}
use Rattle.c2_spec.specs.Cbor.View.{view}
use Rattle.c2_spec.specs.Cbor.Deterministic.{preferred}
use Rattle.c2_cbor_spec.proofs.Views.{preferred-List, preferred-Map, preferred-Tag, preferred-Half, preferred-Single, preferred-Double, preferred-Simple}
use Rattle.c2_cbor_heads.proofs.Appended.{preferred-Bytes, preferred-Text, grown, grown_further}
use Rattle.c2_cbor_heads.proofs.preferred.+preferred.Goals as goal

pub push_preferred-returns-in-Bytes : goal.push_preferred-returns-in-Bytes
push_preferred-returns-in-Bytes t c =
    grown_further _ _ _ _ _ _ _ refl c.push_string.ensures
    (ap (λ v. preferred (view v)) c.in-Bytes.is ∙ preferred-Bytes c.in-Bytes.b _ c.as_slice.ensures.value)

pub push_preferred-returns-in-Text : goal.push_preferred-returns-in-Text
push_preferred-returns-in-Text t c =
    grown_further _ _ _ _ _ _ _ refl c.push_string-in-Text.ensures
    (ap (λ v. preferred (view v)) c.in-Text.is
    ∙ preferred-Text c.in-Text.t _ (c.as_bytes.ensures.value ∙ c.as_str.ensures.value))

pub push_preferred-returns-in_ok-push_head-in-List : goal.push_preferred-returns-in_ok-push_head-in-List
push_preferred-returns-in_ok-push_head-in-List t c =
    grown_further _ _ _ _ _ _ _ c.in_ok-push_head-in-List.ensures c.push_items.ensures
    (ap (λ v. preferred (view v)) c.in-List.is ∙ preferred-List c.in-List.items _ _ c.len.ensures c.deref.ensures.value)

pub push_preferred-returns-in_ok-push_head-in-Map : goal.push_preferred-returns-in_ok-push_head-in-Map
push_preferred-returns-in_ok-push_head-in-Map t c =
    grown_further _ _ _ _ _ _ _ c.in_ok-push_head-in-Map.ensures c.push_pairs.ensures
    (ap (λ v. preferred (view v)) c.in-Map.is ∙ preferred-Map c.in-Map.pairs _ _ c.len-in-Map.ensures c.deref-in-Map.ensures.value)

pub push_preferred-returns-in_ok-push_head-in-Tag : goal.push_preferred-returns-in_ok-push_head-in-Tag
push_preferred-returns-in_ok-push_head-in-Tag t c =
    grown_further _ _ _ _ _ _ _ c.in_ok-push_head-in-Tag.ensures c.push_preferred.ensures
    (ap (λ v. preferred (view v)) c.in-Tag.is ∙ preferred-Tag c.in-Tag.n c.in-Tag.item _ c.deref-in-Tag.ensures)

pub push_preferred-returns-in-Simple : goal.push_preferred-returns-in-Simple
push_preferred-returns-in-Simple t c =
    grown _ _ _ _ _ (ap (λ v. preferred (view v)) c.in-Simple.is ∙ preferred-Simple c.in-Simple.a) c.push_simple.ensures

pub push_preferred-returns-in-Half : goal.push_preferred-returns-in-Half
push_preferred-returns-in-Half t c =
    grown _ _ _ _ _
    (ap (λ v. preferred (view v)) c.in-Half.is ∙ preferred-Half c.in-Half.n _ c.to_be_bytes.ensures) c.push_after.ensures

pub push_preferred-returns-in-Single : goal.push_preferred-returns-in-Single
push_preferred-returns-in-Single t c =
    grown _ _ _ _ _
    (ap (λ v. preferred (view v)) c.in-Single.is ∙ preferred-Single c.in-Single.n _ c.to_be_bytes-in-Single.ensures)
    c.push_after-in-Single.ensures

pub push_preferred-returns-in-Double : goal.push_preferred-returns-in-Double
push_preferred-returns-in-Double t c =
    grown _ _ _ _ _
    (ap (λ v. preferred (view v)) c.in-Double.is ∙ preferred-Double c.in-Double.n _ c.to_be_bytes-in-Double.ensures)
    c.push_after-in-Double.ensures
