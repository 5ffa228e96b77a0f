use Rattle.c2_cbor.proofs.apart.decode_apart.Goals as goal

pub returns-in-Ok-clause-read : goal.returns-in-Ok-clause-read
returns-in-Ok-clause-read c = (c.end_before.ensures _ c.in-Ok.ensures).read

pub returns-in-Ok-clause-only : goal.returns-in-Ok-clause-only
returns-in-Ok-clause-only c = (c.end_before.ensures _ c.in-Ok.ensures).only

pub returns-in-Ok-clause-refused : goal.returns-in-Ok-clause-refused
returns-in-Ok-clause-refused c = (c.end_before.ensures _ c.in-Ok.ensures).refused

pub returns-in-Err-clause-only : goal.returns-in-Err-clause-only
returns-in-Err-clause-only c = (c.read_error.ensures c.in-Err.ensures).only

pub returns-in-Err-clause-fault : goal.returns-in-Err-clause-fault
returns-in-Err-clause-fault c = (c.read_error.ensures c.in-Err.ensures).fault

pub returns-in-Err-clause-refused : goal.returns-in-Err-clause-refused
returns-in-Err-clause-refused c = (c.read_error.ensures c.in-Err.ensures).refused

pub returns-in-Err-clause-prefix : goal.returns-in-Err-clause-prefix
returns-in-Err-clause-prefix c at e = (c.read_error.ensures c.in-Err.ensures).prefix at cc
