use Rattle.c2_sigstruct.proofs.TheLaws.{padded_messages_are_read_longer, padded_messages_are_read_read, padded_messages_are_read_same}
use Rattle.c2_sigstruct.proofs.laws.padded_messages_are_read.Goals as goal

pub returns-clause-longer : goal.returns-clause-longer
returns-clause-longer c = padded_messages_are_read_longer

pub returns-clause-read : goal.returns-clause-read
returns-clause-read c = padded_messages_are_read_read

pub returns-clause-same : goal.returns-clause-same
returns-clause-same c = padded_messages_are_read_same
