use Rattle.std.proofs.Common.{◌∙◌, ◌||◌, ◌∷◌, ℕ, ◌+◌, ◌<◌, ◌≤◌, Bool, List, get_or, length, take, refl, sym, ap, arith}
use Rattle.std.specs.List.{list_any}
use Rattle.std.proofs.lemmas.List.{drop-set-lt, length-set, take_all, take_more}
use Rattle.std.proofs.lemmas.Grind.{take-set_at}
use Rattle.c2_bmff.specs.Trails.{ahead, found}
use Rattle.c2_bmff.specs.declared.walking.Trail.{Trail}
use Rattle.c2_bmff_rows.proofs.Lists.{any_append}
use Rattle.c2_bmff.proofs.TrailLemmas.{pass_joins, rest_same}
use Rattle.c2_bmff.proofs.walking.pass_all.Goals as goal

-- with one trail more past the box, what is found and what the trails so far have is what they had with it
pub loop-k-preserved : goal.loop-k-preserved
loop-k-preserved c =
    let before = c.loop-k.invariant in
    let es = c.args.entries.now in
    let row = c.args.row in
    let k = c.loop-k.k in
    let ts = c.loop-k.trails in
    let init = c.args.trails.now in
    let t = c.index-trails-k.result in
    let t' = c.pass.new.trail in
    let inside : k < length ts = omega (arith, c.loop-k-test.true, before.size) in
    let inside' : k < length init = omega (arith, inside, before.size) in
    let same = rest_same k ts init t inside inside' before.others in
    let first = λ (file : List ℕ) (i : ℕ). found file es i row c.args.here.now.items c.args.below.now.items in
    let old = λ (file : List ℕ) (i : ℕ). found file es i row c.loop-k.here.items c.loop-k.below.items in
    let new = λ (file : List ℕ) (i : ℕ). found file es i row c.pass.new.here.items c.pass.new.below.items in
    record {
      same = λ file i rows.
          let at : Trail → Bool = ahead file es i rows in
          let from : Trail → Bool = ahead file es i (row ∷ rows) in
          ap (λ (xs : List Trail). new file i || list_any at xs) (take-set_at ts k (k + 1) t' refl inside)
          ∙ ap (λ (b : Bool). new file i || b) (any_append at (take k ts) t')
          ∙ pass_joins (old file i) (new file i) (list_any at (take k ts)) (from (get_or ts k t)) (at t') (first file i)
          (list_any from (take k init)) (c.in_ok-pass.ensures file i rows) (before.same file i rows)
          ∙ ap (λ (b : Bool). first file i || b)
          (ap (λ (x : Trail). list_any from (take k init) || from x) same.0
          ∙ sym (ap (list_any from) (take_more init k t inside') ∙ any_append from (take k init) _));
      others = drop-set-lt (k + 1) ts k t' (omega arith) ∙ same.1;
      size = length-set ts k t' ∙ before.size;
    }

-- after the last, all trails are past the box
pub returns : goal.returns
returns c file i rows =
    let before = c.loop-k.invariant in
    let es = c.args.entries.now in
    let end : length c.loop-k.trails ≤ c.loop-k.k = omega (arith, c.loop-k-test.false, before.size) in
    let end' : length c.args.trails.now ≤ c.loop-k.k = omega (arith, end, before.size) in
    ap
    (λ (xs : List Trail). found file es i c.args.row c.loop-k.here.items c.loop-k.below.items || list_any (ahead file es i rows) xs)
    (sym (take_all c.loop-k.k c.loop-k.trails end))
    ∙ before.same file i rows
    ∙ ap
    (λ (xs : List Trail). found file es i c.args.row c.args.here.now.items c.args.below.now.items || list_any (ahead file es i (c.args.row ∷ rows)) xs)
    (take_all c.loop-k.k c.args.trails.now end')
