use Rattle.std.proofs.Common.{IfOk, Some, subst, sym}
use Rattle.c2_spec.specs.C2pa.Assertion.{ingredient_of}
use Rattle.c2_spec.specs.declared.assertion.IngredientVersion.{IngredientVersion}
use Rattle.c2_rules.specs.Readings.{IsParsed}
use Rattle.c2_read_manifests.proofs.ParsingLemmas.{reads_here_ok, reads_nothing, reads_other}
use Rattle.c2_read_manifests.proofs.reading.read_ingredient_box.Goals as goal

-- a box that is none of an ingredient has no ingredient
pub returns-then-not-is_ingredient : goal.returns-then-not-is_ingredient
returns-then-not-is_ingredient c =
    reads_other c.args.b.now c.is_ingredient.result c.is_ingredient.ensures c.if-not-is_ingredient.true

-- one of an ingredient is read as its payload is
pub returns-in-Some : goal.returns-in-Some
returns-in-Some c = reads_here_ok c.args.b.now c.is_ingredient.result c.in-Some.bytes.now c.read_payload.result c.is_ingredient.ensures c.if-not-is_ingredient.false (sym c.in-Some.ensures)
    (subst (λ (v : IngredientVersion). IfOk c.read_payload.result (λ p. IsParsed (ingredient_of v) (Some c.in-Some.bytes.now) p)) c.version_in.ensures c.read_payload.ensures)

-- without a payload it has none
pub returns-in-None : goal.returns-in-None
returns-in-None c =
    reads_nothing c.args.b.now c.is_ingredient.result c.is_ingredient.ensures c.if-not-is_ingredient.false
    (sym c.in-None.ensures)
