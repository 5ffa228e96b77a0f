use Rattle.std.proofs.Common.{rules, ◌∙◌, ap, ap₂, map}
use Rattle.std.specs.Prelude.{◌≢◌, string_bytes}
use Rattle.clap.specs.Takes.{takes}
use Rattle.clap.specs.Values.{kind_of}
use Rattle.clap.specs.declared.error.kind.ErrorKind.TheVariants.{OutOfMemory}
use Rattle.c2_usage.proofs.Fitting.{unfit}
use Rattle.c2_usage.proofs.parsing.parse.Goals as goal

-- words that `clap` refuses, and not since memory ran out, don't fit
pub returns : goal.returns
returns c = λ usage.
    let differs : kind_of c.in-Err.error ≢ OutOfMemory = search rules in
    unfit (map string_bytes c.args.words.now.items) c.requires (λ taken. differs (c.in-Err.ensures.passes (ap₂ takes c.in-Ok.ensures (ap (map string_bytes) c.as_slice.ensures.value) ∙ taken)))
