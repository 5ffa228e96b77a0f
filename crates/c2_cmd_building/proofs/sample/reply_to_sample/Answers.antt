use Rattle.std.proofs.Common.{map, refl}
use Rattle.c2_spec.specs.Judges.Panel.{panel_says}
use Rattle.c2_calls_spec.proofs.PanelLemmas.{hears_error, hears_later}
use Rattle.c2_sample.specs.Sample.{sample_heard}
use Rattle.c2_cmd_outcome.specs.Reply.{fault_heard}
use Rattle.c2_cmd_outcome.specs.declared.reply.Fault.TheVariants.{Judge, Memory}
use Rattle.c2_cmd_written_spec.proofs.Left.{memory_unbroken}
use Rattle.c2_cmd_building.proofs.Sampling.{memory_source, sampled_reply, sampled_words}
use Rattle.c2_cmd_building.proofs.sample.reply_to_sample.Goals as goal

-- the reply to what so many pieces come to is the outcome of `sample`
pub returns-in-Ok-clause-reply : goal.returns-in-Ok-clause-reply
returns-in-Ok-clause-reply g c =
    let said = panel_says (map (λ j. (goal.Judge-dyn g (j.vtable, j.value)).says j.value) c.args.judges.now.items) in
    sampled_reply g.H.Hashing.digest_of said c.args.count c.in-Ok.sampled c.reply_to_sampled.result
    c.in-Ok.ensures.sampled c.reply_to_sampled.ensures.reply

-- it answers no words that fit no command
pub returns-in-Ok-clause-words : goal.returns-in-Ok-clause-words
returns-in-Ok-clause-words g c =
    sampled_words c.args.count c.in-Ok.sampled c.reply_to_sampled.result c.reply_to_sampled.ensures.reply

-- memory alone may be missing under it
pub returns-in-Ok-clause-fault : goal.returns-in-Ok-clause-fault
returns-in-Ok-clause-fault g c = memory_source _ _ _ c.reply_to_sampled.result c.reply_to_sampled.ensures.memory

pub returns-in-Ok-clause-panel : goal.returns-in-Ok-clause-panel
returns-in-Ok-clause-panel g c =
    hears_later _ _ _ sample_heard fault_heard _ _ c.args.judges.now c.sample.new.judges c.in-Ok.sampled
    c.reply_to_sampled.result (memory_unbroken c.reply_to_sampled.result c.reply_to_sampled.ensures.memory)
    (λ qs asks. asks) c.in-Ok.ensures.panel

-- where a judge failed, the panel was asked up to the question at which it did
pub returns-in-Err-JudgeFault-clause-panel : goal.returns-in-Err-JudgeFault-clause-panel
returns-in-Err-JudgeFault-clause-panel g c =
    let kept = c.in-Err-JudgeFault.ensures.panel in
    hears_error _ _ _ sample_heard fault_heard _ _ c.args.judges.now c.sample.new.judges _ Judge refl
    (λ qs asks. asks) (rw c.in-Err-JudgeFault.field-0-is at kept)

-- and out of memory it was asked the questions of a prefix
pub returns-in-Err-NoMemory-clause-panel : goal.returns-in-Err-NoMemory-clause-panel
returns-in-Err-NoMemory-clause-panel g c =
    let kept = c.in-Err-NoMemory.ensures.panel in
    hears_error _ _ _ sample_heard fault_heard _ _ c.args.judges.now c.sample.new.judges _ Memory refl
    (λ qs asks. asks) (rw c.in-Err-NoMemory.field-0-is at kept)
