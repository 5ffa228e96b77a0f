use Rattle.std.proofs.Common.{rules}
use Rattle.serde_json.specs.View.{view}
use Rattle.c2_definition.proofs.FileSteps.{object_is, no_value}
use Rattle.c2_definition.proofs.reading.object_of.Goals as goal

-- the value that was read is an object
pub returns-else-not-is_object : goal.returns-else-not-is_object
returns-else-not-is_object c = let told = c.is_object.ensures in let is = c.if-not-is_object.false in object_is c.args.bytes.now (view c.in-Ok.value) c.is_object.result c.in-Ok.ensures.ok told (search rules)

-- no value was read
pub returns-else-is_memory : goal.returns-else-is_memory
returns-else-is_memory c =
    let told = c.is_memory.ensures in let isnt = c.if-is_memory.false in
    no_value c.args.bytes.now (c.in-Err.ensures.err (λ h. let bad = told.1 h in cc (bad, isnt)))
