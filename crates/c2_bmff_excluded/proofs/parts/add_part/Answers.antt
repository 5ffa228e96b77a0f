use Rattle.std.proofs.Common.{◌≡◌, ◌∙◌, ◌||◌, ◌∷◌, ◌++◌, [], Bool, List, Some, append-nil, ap, sym, subst, arith}
use Rattle.std.specs.Prelude.{All, option_to_list}
use Rattle.std.specs.List.{list_any}
use Rattle.std.specs.declared.option.Option.{Option}
use Rattle.std.proofs.lemmas.List.Elements.{All-pop, All-push, All-weaker}
use Rattle.c2_base.specs.declared.values.Range.{Range}
use Rattle.c2_spec.specs.Bmff.Hash.{in_part}
use Rattle.c2_bmff_rows.proofs.Lists.{any_append}
use Rattle.c2_bmff_excluded.specs.Parts.{AreRising, StartsBy}
use Rattle.c2_bmff_excluded.proofs.OrderLemmas.{again_rising, begin_by, rising_push}
use Rattle.c2_bmff_excluded.proofs.parts.add_part.Goals as goal
use Rattle.c2_lemmas.proofs.Bools.{or_join}

-- the last part begins no later than the one that is added
pub joined-requires : goal.joined-requires
joined-requires c =
    (All-pop (StartsBy c.args.part.start) c.args.parts.now.items c.pop.new.self.items (Some c.in-Some.last) c.in-Some.ensures.items c.requires).1

-- the first part of all
pub returns-in_default-clause-same : goal.returns-in_default-clause-same
returns-in_default-clause-same c i =
    let added : c.push.new.self.items ≡ c.args.parts.now.items ++ c.args.part ∷ [] =
    c.in_ok-push.ensures.items
    ∙ ap (λ (ps : List Range). ps ++ c.args.part ∷ []) (sym (c.pop.ensures.items ∙ ap (λ (o : Option Range). c.pop.new.self.items ++ option_to_list o) c.in_default.is ∙ append-nil c.pop.new.self.items)) in
    ap (list_any (in_part i)) added ∙ any_append (in_part i) c.args.parts.now.items c.args.part

pub returns-in_default-clause-rising : goal.returns-in_default-clause-rising
returns-in_default-clause-rising c old =
    let added : c.push.new.self.items ≡ c.args.parts.now.items ++ c.args.part ∷ [] =
    c.in_ok-push.ensures.items
    ∙ ap (λ (ps : List Range). ps ++ c.args.part ∷ []) (sym (c.pop.ensures.items ∙ ap (λ (o : Option Range). c.pop.new.self.items ++ option_to_list o) c.in_default.is ∙ append-nil c.pop.new.self.items)) in
    subst AreRising (sym added) (rising_push c.args.parts.now.items c.args.part old c.requires)

pub returns-in_default-clause-below : goal.returns-in_default-clause-below
returns-in_default-clause-below c n from =
    let added : c.push.new.self.items ≡ c.args.parts.now.items ++ c.args.part ∷ [] =
    c.in_ok-push.ensures.items
    ∙ ap (λ (ps : List Range). ps ++ c.args.part ∷ []) (sym (c.pop.ensures.items ∙ ap (λ (o : Option Range). c.pop.new.self.items ++ option_to_list o) c.in_default.is ∙ append-nil c.pop.new.self.items)) in
    subst (All (StartsBy n)) (sym added) (begin_by n c.args.parts.now.items c.args.part c.requires from)

-- a part that isn't joined
pub returns-in_default-joined-clause-same : goal.returns-in_default-joined-clause-same
returns-in_default-joined-clause-same c i =
    let added : c.push-in_default-joined-2.new.self.items ≡ c.args.parts.now.items ++ c.args.part ∷ [] =
    c.in_ok-push-3.ensures.items
    ∙ ap (λ (ps : List Range). ps ++ c.args.part ∷ []) (c.in_ok-push-2.ensures.items ∙ sym c.in-Some.ensures.items) in
    ap (list_any (in_part i)) added ∙ any_append (in_part i) c.args.parts.now.items c.args.part

pub returns-in_default-joined-clause-rising : goal.returns-in_default-joined-clause-rising
returns-in_default-joined-clause-rising c old =
    let added : c.push-in_default-joined-2.new.self.items ≡ c.args.parts.now.items ++ c.args.part ∷ [] =
    c.in_ok-push-3.ensures.items
    ∙ ap (λ (ps : List Range). ps ++ c.args.part ∷ []) (c.in_ok-push-2.ensures.items ∙ sym c.in-Some.ensures.items) in
    subst AreRising (sym added) (rising_push c.args.parts.now.items c.args.part old c.requires)

pub returns-in_default-joined-clause-below : goal.returns-in_default-joined-clause-below
returns-in_default-joined-clause-below c n from =
    let added : c.push-in_default-joined-2.new.self.items ≡ c.args.parts.now.items ++ c.args.part ∷ [] =
    c.in_ok-push-3.ensures.items
    ∙ ap (λ (ps : List Range). ps ++ c.args.part ∷ []) (c.in_ok-push-2.ensures.items ∙ sym c.in-Some.ensures.items) in
    subst (All (StartsBy n)) (sym added) (begin_by n c.args.parts.now.items c.args.part c.requires from)

-- a joined part holds what the two do
pub returns-clause-same : goal.returns-clause-same
returns-clause-same c i =
    let holds : Range → Bool = in_part i in
    let front : List Range = c.pop.new.self.items in
    let last : Range = c.in-Some.last in
    ap (list_any holds) c.in_ok-push-4.ensures.items ∙ any_append holds front c.in-Some-joined.both
    ∙ ap (λ (b : Bool). list_any holds front || b) (c.in-Some-joined.ensures.same i)
    ∙ sym (or_join (list_any holds front) (holds last) (holds c.args.part))
    ∙ ap (λ (b : Bool). b || holds c.args.part) (sym (any_append holds front last) ∙ ap (list_any holds) (sym c.in-Some.ensures.items))

-- it begins where the last did
pub returns-clause-rising : goal.returns-clause-rising
returns-clause-rising c old =
    subst AreRising (sym c.in_ok-push-4.ensures.items)
    (again_rising c.pop.new.self.items c.in-Some.last c.in-Some-joined.both c.in-Some-joined.ensures.start (subst AreRising c.in-Some.ensures.items old))

-- and so no later than the part that was added
pub returns-clause-below : goal.returns-clause-below
returns-clause-below c n from =
    let old =
    All-pop (StartsBy c.args.part.start) c.args.parts.now.items c.pop.new.self.items (Some c.in-Some.last)
    c.in-Some.ensures.items c.requires in
    subst (All (StartsBy n)) (sym c.in_ok-push-4.ensures.items)
    (All-push (StartsBy n) c.pop.new.self.items c.in-Some-joined.both (All-weaker (StartsBy c.args.part.start) (StartsBy n) (λ x le. omega (arith, le, from)) c.pop.new.self.items old.0) (omega (arith, old.1, c.in-Some-joined.ensures.start, from)))
