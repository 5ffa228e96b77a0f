use Rattle.std.proofs.Common.{inl, inr, sym, ◌∙◌}
use Rattle.std.proofs.lemmas.Result.{IfErr-weaker, IfOk-weaker}
use Rattle.c2_build_refusals.proofs.Outside.{outside_map}
use Rattle.c2_build_front.proofs.Drafts.{drafted_over}
use Rattle.c2_build_front.proofs.Films.{boxes_of, bmff_free, bmff_refused, inside_of, jpeg_of}
use Rattle.c2_build_front.proofs.Stages.{jpeg_first, opened_as}
use Rattle.c2_build_front.proofs.drafting.drafted.Goals as goal

-- a JPEG file is refused
pub returns-in_default-clause-refused : goal.returns-in_default-clause-refused
returns-in_default-clause-refused g c =
    λ bytes known kind is size. inl (jpeg_first bytes is.stage.0 (jpeg_of bytes c.args.file.now.contained.now.container c.in_default.not-Bmff is.found.container))

-- so is a film with a store
pub returns-then-is_some-clause-refused : goal.returns-then-is_some-clause-refused
returns-then-is_some-clause-refused g c = λ bytes known kind is size.
    let film = boxes_of bytes c.args.file.now.contained.now.container c.in-Bmff.roots c.in-Bmff.is is.found.container in
    inl
    (bmff_refused bytes c.args.file.now.older kind is.stage.0 film.0 (sym c.is_some.ensures ∙ c.if-is_some.true) is.older is.stage.2)

-- its root boxes lie inside it
pub draft_over-requires : goal.draft_over-requires
draft_over-requires g c = record {
  inside =
      inside_of (g.A.Source.len c.args.media.now) c.args.file.now.contained.now.container c.in-Bmff.roots c.in-Bmff.is
      c.requires.read.within.roots;
}

-- of any other, what a plan over it comes to
pub returns-clause-drafted : goal.returns-clause-drafted
returns-clause-drafted g c =
    IfOk-weaker c.draft_over.result _ _ (λ f said bytes known kind is.
    let film = boxes_of bytes c.args.file.now.contained.now.container c.in-Bmff.roots c.in-Bmff.is is.found.container in
    let none =
    bmff_free bytes c.args.file.now.older kind is.stage.0 film.0 (sym c.is_some.ensures ∙ c.if-is_some.false)
    is.older is.stage.2 in
    drafted_over bytes is.stage.0 film.1.boxes c.args.definition.now f
    (g.met.A.Source.known_bytes c.args.media.now bytes known) (opened_as bytes kind is.stage) none film.1.has_roots
    (said bytes known film.1.boxes film.1.has_roots film.1.are)) c.draft_over.ensures.drafted

pub returns-clause-refused : goal.returns-clause-refused
returns-clause-refused g c =
    IfErr-weaker c.draft_over.result _ _ (λ e said bytes known kind is size.
    let film = boxes_of bytes c.args.file.now.contained.now.container c.in-Bmff.roots c.in-Bmff.is is.found.container in
    let none =
    bmff_free bytes c.args.file.now.older kind is.stage.0 film.0 (sym c.is_some.ensures ∙ c.if-is_some.false)
    is.older is.stage.2 in
    outside_map e (λ h. inr (film.1.boxes, film.1.has_roots, none, h)) (said bytes known film.1.boxes film.1.has_roots film.1.are size)) c.draft_over.ensures.refused
