-- A build whose refusals have names of their own, each of which an error tells.
use Rattle.std.specs.declared.result.Result.{Result}
use Rattle.std.specs.declared.result.Result.TheVariants.{Ok, Err}
use Rattle.c2_build_refusals.specs.declared.error.BuildError.{BuildError}

-- what such a build comes to, where each refusal is told by its error
abbrev pub with_error : {A R : Type 0} → (R → BuildError) → Result A R → Result A BuildError
with_error error_of (Ok a) = Ok a
with_error error_of (Err refusal) = Err (error_of refusal)
